-- The listing is the one that is due.
use Rattle.std.proofs.Common.{◌≡◌, sym, subst, rules, Err}
use Rattle.world_api.specs.Outside.{tree_of}
use Rattle.file_hash.specs.Listing.{listing_of}
use Rattle.file_hash.specs.Naming.{files_at, files_limit, listed_of, listing_due, IsDue}
use Rattle.file_hash.proofs.FolderLemmas.{listing_answer, due_carried}
use Rattle.file_hash.proofs.name.listing_at.Goals as goal

pub returns-clause-answer : goal.returns-clause-answer
returns-clause-answer g c = λ told.
    listing_answer (tree_of (g.F.Ground.history c.args.files.now)) c.args.at.now c.in_ok-listed.listed (c.in_ok-listed.ensures.answer told)

pub returns-in_err-listed-clause-answer : goal.returns-in_err-listed-clause-answer
returns-in_err-listed-clause-answer g c = λ told.
    let files = files_at (tree_of (g.F.Ground.history c.args.files.now)) c.args.at.now in
    let why = c.in_err-listed.field-0.0 in
    let e : c.from_residual.result ≡ Err why = search rules in
    subst (λ r. IsDue r (listing_due files)) (sym e) (due_carried why (files_limit files) (listed_of files) (listing_of files) (c.in_err-listed.ensures.answer told))
