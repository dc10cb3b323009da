use Rattle.std.proofs.Common.{◌≡◌, sym, subst, Err, rules}
use Rattle.dvc_base.proofs.PathLemmas.{under-refl}
use Rattle.world_api.specs.Tree.{value_at}
use Rattle.world_api.specs.Outside.{tree_of}
use Rattle.world_api.specs.History.{History}
use Rattle.object_cache.specs.Objects.{object_names}
use Rattle.object_cache.specs.Due.{fault_of, IsDue, put_fault}
use Rattle.object_cache.proofs.RefusedLemmas.{still_due}
use Rattle.object_cache.proofs.StoreLemmas.{passes_stored_none, outside_no_scratch}
use Rattle.object_cache.proofs.value.put_file.Goals as goal

pub returns-in_err-named-clause-moments : goal.returns-in_err-named-clause-moments
returns-in_err-named-clause-moments g c told =
    let a = g.F.Ground.history c.args.files.now in
    passes_stored_none (object_names (value_at (tree_of a) c.args.at.now)) a (g.F.Ground.history c.name_single.new.files) (c.name_single.ensures.unchanged told)

pub store_file-requires-clause-apart : goal.store_file-requires-clause-apart
store_file-requires-clause-apart g c = outside_no_scratch c.args.at.now c.args.at.now c.requires.outside (under-refl c.args.at.now)

pub returns-in_err-store_file-clause-refused : goal.returns-in_err-store_file-clause-refused
returns-in_err-store_file-clause-refused g c told =
    let a = g.F.Ground.history c.args.files.now in
    let b = g.F.Ground.history c.name_single.new.files in
    let d = g.F.Ground.history c.store_file.new.files in
    let at = c.args.at.now in
    let why = c.in_err-store_file.field-0.0 in
    let e : c.from_residual-in_err-store_file.result ≡ Err why = search rules in
    let due : IsDue (fault_of c.from_residual-in_err-store_file.result) (put_fault (tree_of a) at) = search rules in
    still_due c.from_residual-in_err-store_file.result at b.present d.present c.requires.outside (c.store_file.ensures.moments told).now (search rules)
    (subst (λ (h : History). IsDue (fault_of c.from_residual-in_err-store_file.result) (put_fault (tree_of h) at)) (sym (c.name_single.ensures.unchanged told)) due)
