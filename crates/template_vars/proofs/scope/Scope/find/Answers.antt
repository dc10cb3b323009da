-- The key leads into the layer that has its first name.
use Rattle.std.proofs.Common.{◌≡◌, ◌∙◌, ap, sym, cond, List}
use Rattle.std.specs.Prelude.{is_some}
use Rattle.std.proofs.lemmas.Bool.{cond-true, cond-false}
use Rattle.dvc_base.specs.declared.node.Node.TheVariants as nd
use Rattle.dvc_base.specs.declared.node.Pair.{Pair}
use Rattle.lock_files.specs.Mapping.{value_at, has}
use Rattle.params.specs.Lookup.{lookup}
use Rattle.template_vars.specs.Resolve.{node_at, first_name}
use Rattle.template_vars.proofs.ScopeLemmas.{copied_some, node_hidden}
use Rattle.template_vars.proofs.scope.Scope.find.Goals as goal
use Rattle.template_vars.proofs.scope.Scope.find.Goals.{then-hides, else-hides}

pub returns : goal.returns
returns c =
    let key = c.args.key.now in
    let hiding = c.self.inside.hiding.now in
    let variables = c.self.inside.variables.now in
    let hides : c.is_some-hides.result ≡ has (first_name key) hiding =
    c.is_some-hides.ensures ∙ copied_some c.value_at.result ∙ ap is_some c.value_at.ensures.exact
    ∙ ap (λ (ps : List Pair). is_some (value_at c.first_name.result.now ps)) c.pairs.ensures.same
    ∙ ap (λ name. is_some (value_at name hiding)) c.first_name.ensures.exact in
    let seen : c.if-hides.seen.now ≡ cond (has (first_name key) hiding) hiding variables =
    elim c.if-hides.branch [
      | then-hides w ↦ ap (λ s. s.now) w.seen-is ∙ sym (cond-true (has (first_name key) hiding) hiding variables (sym hides ∙ w.if-hides.true))
      | else-hides w ↦ ap (λ s. s.now) w.seen-is ∙ sym (cond-false (has (first_name key) hiding) hiding variables (sym hides ∙ w.if-hides.false))
    ] in
    record {
      exact =
          c.lookup.ensures.exact ∙ ap (lookup key) (c.node.ensures.same ∙ ap nd.Pairs seen)
          ∙ sym (node_hidden key hiding variables)
          ∙ ap (λ (vars : List Pair). node_at vars key) c.self.view_is;
    }
