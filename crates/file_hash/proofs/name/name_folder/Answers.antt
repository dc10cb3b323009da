-- The listing's name is the one that is due.
use Rattle.std.proofs.Common.{◌≡◌, sym, subst, rules, Err}
use Rattle.world_api.specs.Tree.{value_at}
use Rattle.world_api.specs.Outside.{tree_of}
use Rattle.file_hash.specs.Naming.{naming_of, IsDue}
use Rattle.file_hash.proofs.FolderLemmas.{named_answer, naming_carried}
use Rattle.file_hash.proofs.name.name_folder.Goals as goal

pub returns-clause-answer : goal.returns-clause-answer
returns-clause-answer g c = λ told.
    let tree = tree_of (g.F.Ground.history c.args.files.now) in
    named_answer tree c.args.at.now c.in_ok-listed.listed c.name_listing.result (c.requires.folder told) (c.in_ok-listed.ensures.answer told) c.name_listing.ensures.exact

pub returns-in_err-listed-clause-answer : goal.returns-in_err-listed-clause-answer
returns-in_err-listed-clause-answer g c = λ told.
    let tree = tree_of (g.F.Ground.history c.args.files.now) in
    let why = c.in_err-listed.field-0.0 in
    let e : c.from_residual.result ≡ Err why = search rules in
    subst (λ r. IsDue r (naming_of (value_at tree c.args.at.now))) (sym e) (naming_carried tree c.args.at.now why (c.requires.folder told) (c.in_err-listed.ensures.answer told))
