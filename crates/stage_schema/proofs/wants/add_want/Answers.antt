use Rattle.std.proofs.Common.{◌≡◌, ap}
use Rattle.stage_schema.specs.declared.stage.ParamWant.{ParamWant}
use Rattle.stage_schema.proofs.WantLemmas.{group_joined, files_joined, on_ok}
use Rattle.stage_schema.proofs.wants.add_want.Goals as goal

pub returns-clause-tied : goal.returns-clause-tied
returns-clause-tied c =
    let same : c.want.inside.file.now ≡ c.args.want.now.file = ap (λ (w : ParamWant). w.file) c.want.view_is in
    on_ok c.join.result
    (λ after. files_joined c.group_at.new.files.keys c.args.groups.now.items c.group_at.new.groups.items c.args.want.now c.want.inside.file.now _ same c.in_ok-place.ensures.ok c.in_ok-place.ensures.tied (group_joined c.args.groups.now.items c.group_at.new.groups.items c.args.want.now c.want.inside.file.now c.in_ok-place.place c.index_mut.result.now c.join.new.self same c.in_ok-place.ensures.ok c.in_ok-place.ensures.place c.index_mut.ensures.value after))
    c.join.ensures.ok

pub returns-clause-ok : goal.returns-clause-ok
returns-clause-ok c =
    let same : c.want.inside.file.now ≡ c.args.want.now.file = ap (λ (w : ParamWant). w.file) c.want.view_is in
    on_ok c.join.result
    (λ after. group_joined c.args.groups.now.items c.group_at.new.groups.items c.args.want.now c.want.inside.file.now c.in_ok-place.place c.index_mut.result.now c.join.new.self same c.in_ok-place.ensures.ok c.in_ok-place.ensures.place c.index_mut.ensures.value after)
    c.join.ensures.ok
