use Rattle.std.proofs.Common.{◌≡◌, map, subst, List, ◌∙◌}
use Rattle.dvc_base.specs.declared.data.ParamFile.{ParamFile}
use Rattle.run_cache.specs.Records.{canonical_file}
use Rattle.run_cache.proofs.CanonicalLemmas.{AreKeyed, made_form}
use Rattle.run_cache.proofs.canonical.canonical_entry.Goals as goal

pub returns-clause-form : goal.returns-clause-form
returns-clause-form c =
    let e = c.args.entry.now in
    let made = c.in_ok-params.params in
    let exact = subst (λ (fs : List ParamFile). AreKeyed fs → made ≡ map canonical_file fs) c.as_slice.ensures.same c.in_ok-params.ensures.exact in
    made_form e c.in_ok-copy.field-0 c.in_ok-copy-2.field-0 c.params.inside.items.items c.in_ok-copy-3.field-0 c.in_ok-copy.ensures.same c.in_ok-copy-2.ensures.same
    (c.params.view_is ∙ exact c.requires.keys) c.in_ok-copy-3.ensures.same c.requires
