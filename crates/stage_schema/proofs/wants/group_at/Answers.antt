use Rattle.std.proofs.Common.{◌∙◌, ◌++◌, ◌∷◌, [], ap}
use Rattle.stage_schema.specs.declared.stage.ParamWant.{ParamWant}
use Rattle.stage_schema.proofs.WantLemmas.{place_in_names, group_made, group_there}
use Rattle.stage_schema.proofs.wants.group_at.Goals as goal

pub returns-in_ok-push-clause-ok : goal.returns-in_ok-push-clause-ok
returns-in_ok-push-clause-ok c =
    c.in_ok-push.ensures.items
    ∙ (ap (λ (x : ParamWant). c.args.groups.now.items ++ x ∷ []) c.new.ensures.exact
    ∙ group_made c.args.files.now.keys c.args.file c.args.groups.now.items c.in_ok-place.is_new c.requires.tied c.in_ok-place.ensures.added c.if-is_new.true)

pub returns-in_ok-push-clause-place : goal.returns-in_ok-push-clause-place
returns-in_ok-push-clause-place c =
    c.in_ok-place.ensures.index ∙ place_in_names c.args.files.now.keys c.args.file c.args.groups.now.items c.requires.tied

pub returns-else-is_new-clause-ok : goal.returns-else-is_new-clause-ok
returns-else-is_new-clause-ok c =
    group_there c.args.files.now.keys c.args.file c.args.groups.now.items c.in_ok-place.is_new c.requires.tied c.in_ok-place.ensures.added c.if-is_new.false

pub returns-else-is_new-clause-place : goal.returns-else-is_new-clause-place
returns-else-is_new-clause-place c =
    c.in_ok-place.ensures.index ∙ place_in_names c.args.files.now.keys c.args.file c.args.groups.now.items c.requires.tied
