use Rattle.std.proofs.Common.{◌≡◌, sym, subst, length, Some, rules}
use Rattle.world_api.specs.Tree.{value_at}
use Rattle.world_api.specs.Outside.{tree_of}
use Rattle.world_api.specs.History.{History}
use Rattle.file_hash.specs.Naming.{named_of, name_of_listing}
use Rattle.file_hash.specs.declared.named.Named.{Named}
use Rattle.object_cache.specs.Objects.{object_names}
use Rattle.object_cache.specs.Copying.{AreKnown}
use Rattle.object_cache.specs.Due.{fault_of, IsDue, put_fault}
use Rattle.object_cache.proofs.RefusedLemmas.{still_due}
use Rattle.object_cache.proofs.JoinLemmas.{ok_weaker}
use Rattle.object_cache.proofs.StoreLemmas.{passes_stored_none}
use Rattle.object_cache.proofs.KnownLemmas.{listed_at, listed_known, listed_named}
use Rattle.object_cache.proofs.value.put_folder.Goals as goal

pub store_listed-requires-clause-known : goal.store_listed-requires-clause-known
store_listed-requires-clause-known g c told =
    let t = tree_of (g.F.Ground.history c.args.files.now) in
    let at = c.args.at.now in
    let listed = c.in-Ok.listed in
    subst (λ (h : History). AreKnown (tree_of h) at listed.list) (sym (c.list_folder.ensures.unchanged told))
    (listed_known t at listed (g.met.F.ReadFiles.stands c.args.files.now told).0 (c.requires.folder told) (listed_at t at listed (c.in-Ok.ensures.answer told)))

pub returns-in-Ok-clause-named : goal.returns-in-Ok-clause-named
returns-in-Ok-clause-named g c told =
    let t = tree_of (g.F.Ground.history c.args.files.now) in
    let at = c.args.at.now in
    let listed = c.in-Ok.listed in
    ok_weaker c.store_listed.result (λ (named : Named). named ≡ record { name = name_of_listing listed.text; size = listed.size; nfiles = Some (length listed.list) }) (λ (named : Named). named_of (value_at t at) ≡ Some named)
    (λ named e. listed_named t at listed named (c.requires.folder told) (listed_at t at listed (c.in-Ok.ensures.answer told)) e) c.store_listed.ensures.named

pub returns-in-Err-clause-moments : goal.returns-in-Err-clause-moments
returns-in-Err-clause-moments g c told =
    let a = g.F.Ground.history c.args.files.now in
    passes_stored_none (object_names (value_at (tree_of a) c.args.at.now)) a (g.F.Ground.history c.list_folder.new.files) (c.list_folder.ensures.unchanged told)

pub returns-in-Ok-clause-refused : goal.returns-in-Ok-clause-refused
returns-in-Ok-clause-refused g c told =
    let a = g.F.Ground.history c.args.files.now in
    let b = g.F.Ground.history c.list_folder.new.files in
    let d = g.F.Ground.history c.store_listed.new.files in
    let at = c.args.at.now in
    let got = fault_of c.store_listed.result in
    let due : IsDue got (put_fault (tree_of a) at) = search rules in
    still_due c.store_listed.result at b.present d.present c.requires.outside (c.store_listed.ensures.moments told).now (c.store_listed.ensures.refused told)
    (subst (λ (h : History). IsDue got (put_fault (tree_of h) at)) (sym (c.list_folder.ensures.unchanged told)) due)
