use Rattle.std.proofs.Common.{[], ◌∷◌, ◌++◌, refl, sym, ap, subst, ◌∙◌}
use Rattle.dvc_base.specs.Path.{under}
use Rattle.dvc_base.proofs.PathLemmas.{under-append}
use Rattle.world_api.specs.Writes.{IsNoScratch}
use Rattle.object_cache.specs.Due.{IsToldAt}
use Rattle.object_cache.proofs.StoreLemmas.{outside_no_scratch, passes_stored_none}
use Rattle.object_cache.proofs.PutLemmas.{told_above, err_weaker}
use Rattle.object_cache.proofs.value.store_member.Goals as goal

pub returns-in_err-from-clause-moments : goal.returns-in_err-from-clause-moments
returns-in_err-from-clause-moments g c told =
    let a = g.F.Ground.history c.args.files.now in
    passes_stored_none (c.args.member.now.name ∷ []) a a refl

pub store_file-requires-clause-apart : goal.store_file-requires-clause-apart
store_file-requires-clause-apart g c =
    let at = c.args.at.now in
    let path = c.args.member.now.path in
    subst IsNoScratch (sym c.in_ok-from.ensures.exact) (outside_no_scratch at (at ++ path) c.requires.outside (under-append at path))

pub returns-clause-told : goal.returns-clause-told
returns-clause-told g c =
    let at = c.args.at.now in
    let path = c.args.member.now.path in
    let from = c.in_ok-from.from in
    err_weaker c.store_file.result (IsToldAt from) (IsToldAt at) (λ fault h. told_above at from fault (ap (under at) c.in_ok-from.ensures.exact ∙ under-append at path) h) c.store_file.ensures.told
