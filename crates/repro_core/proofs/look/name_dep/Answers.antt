-- A limit that is passed refuses the dependency, and a name that counts is in form.
use Rattle.std.proofs.Common.{inl, inr, sym, ◌∙◌}
use Rattle.std.proofs.lemmas.Result.{err_from_is_err_and}
use Rattle.world_api.specs.Tree.{value_at}
use Rattle.world_api.specs.Outside.{tree_of}
use Rattle.repro_core.proofs.LookLemmas.{dep_large, inside_good, seen_one}
use Rattle.repro_core.proofs.look.name_dep.Goals as goal

pub returns-in_err-named-clause-answer : goal.returns-in_err-named-clause-answer
returns-in_err-named-clause-answer g c told =
    let fault = c.in_err-named.field-0.0 in
    let v = value_at (tree_of (g.F.Ground.history c.args.files.now)) c.args.dep.now.path in
    let exit = err_from_is_err_and c.from_residual.result c.from_residual.ensures.1 in
    rw (exit.1, exit.2)
    elim (c.in_err-named.ensures.answer told) [
      | inl free ↦ inl free
      | inr large ↦ inr (dep_large c.args.name.now c.args.dep.now v fault large)
    ]

pub returns-in_ok-copy-in-Some-clause-good : goal.returns-in_ok-copy-in-Some-clause-good
returns-in_ok-copy-in-Some-clause-good g c =
    let good = inside_good c.args.dep.now.inside c.in_ok-named.named c.in-Some.named (sym c.if_counted.ensures.exact ∙ c.in-Some.is) c.in_ok-named.ensures.good in
    seen_one c.args.dep.now.text c.in_ok-copy-in-Some.field-0 c.in-Some.named c.in_ok-copy-in-Some.ensures.same good
