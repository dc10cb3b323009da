-- One more dependency is seen, or what refuses it is the stage's own.
use Rattle.std.proofs.Common.{◌≡◌, ◌∙◌, ◌++◌, ◌∷◌, ◌+◌, ℕ, [], List, map, take, sym, ap, subst, rules, Some}
use Rattle.std.proofs.lemmas.Result.{err_from_is_err_and}
use Rattle.world_api.specs.History.{History}
use Rattle.world_api.specs.Outside.{tree_of}
use Rattle.change_check.specs.declared.seen.SeenPath.{SeenPath}
use Rattle.repro_laws.specs.Stage.{dep_path, dep_text, dep_value}
use Rattle.repro_laws.specs.Entries.{seen_dep}
use Rattle.repro_laws.specs.Refusals.{refused_dep}
use Rattle.repro_core.specs.Looks.{AreSeen}
use Rattle.repro_core.specs.Telling.{IsOneOf}
use Rattle.repro_core.proofs.OwnLemmas.{own_at, dep_own}
use Rattle.repro_core.proofs.SeeLemmas.{map_more, first_rest, seen_more}
use Rattle.repro_core.proofs.see.name_deps.Goals as goal

pub returns-in_err-name_dep-clause-told : goal.returns-in_err-name_dep-clause-told
returns-in_err-name_dep-clause-told g c =
    let s = c.args.stage.now in
    let dep = c.dep-item.result in
    let fault = c.in_err-name_dep.field-0.0 in
    let exit = err_from_is_err_and c.from_residual.result c.from_residual.ensures.1 in
    let own = own_at (λ d. IsOneOf (map dep_path s.deps) d.path) c.args.deps.now c.loop-dep.dep-index dep c.loop-dep-test.true c.dep-item.is c.requires.own in
    rw (exit.1, exit.2) (dep_own s dep (Some fault) own c.in_err-name_dep.ensures.kinds c.in_err-name_dep.ensures.told)

pub loop-dep-preserved : goal.loop-dep-preserved
loop-dep-preserved g c =
    let s = c.args.stage.now in
    let deps = c.args.deps.now in
    let i = c.loop-dep.dep-index in
    let dep = c.dep-item.result in
    let path = c.in_ok-name_dep.field-0 in
    let before = c.loop-dep-test.true in
    let here = c.dep-item.is in
    let tree = tree_of (g.F.Ground.history c.args.files.now) in
    let pushed : c.push.new.self ≡ c.loop-dep.seen ++ path ∷ [] = c.in_ok-push.ensures.ok in
    let so_far = c.loop-dep.invariant in
    record {
      same = λ told. c.name_dep.ensures.unchanged told ∙ so_far.same told;
      seen = λ told.
          let seen = c.in_ok-name_dep.ensures.seen told ∙ ap (λ (h : History). seen_dep (tree_of h) dep) (so_far.same told) in
          pushed ∙ ap (λ (ps : List SeenPath). ps ++ path ∷ []) (so_far.seen told)
          ∙ ap (λ (p : SeenPath). map (seen_dep tree) (take i deps) ++ p ∷ []) seen
          ∙ sym (map_more deps i dep before here (seen_dep tree));
      left = λ told.
          let fine = ap (λ (h : History). refused_dep s.name dep (dep_value (tree_of h) dep)) (sym (so_far.same told)) ∙ c.in_ok-name_dep.ensures.answer told in
          first_rest deps i dep before here (λ d. refused_dep s.name d (dep_value tree d)) (so_far.left told) fine;
      good =
          let more = seen_more (map dep_text (take i deps)) (dep.text ∷ []) c.loop-dep.seen (path ∷ []) so_far.good c.in_ok-name_dep.ensures.good in
          subst (AreSeen (map dep_text (take (i + 1) deps))) (sym pushed)
          (subst (λ (texts : List (List ℕ)). AreSeen texts (c.loop-dep.seen ++ path ∷ [])) (sym (map_more deps i dep before here dep_text)) more);
      counted = search rules;
    }
