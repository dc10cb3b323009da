use Rattle.std.proofs.Common.{◌∙◌, ◌<◌, length, rules, sym}
use Rattle.template_expand.proofs.NameLemmas.{names_more, name_new, name_old}
use Rattle.template_expand.proofs.expansion.second_name.Goals as goal

pub returns-then-not-branch : goal.returns-then-not-branch
returns-then-not-branch c =
    let within : c.loop-stage.stage-index < length c.args.stages.now = search rules in
    let old = sym c.in_ok-insert.ensures.added ∙ c.if-not-branch.true in
    record {
      exact = sym (c.loop-stage.invariant.left
          ∙ name_old c.loop-stage.names.keys c.as_str-name.result c.args.stages.now c.loop-stage.stage-index c.stage-item.result within c.stage-item.is c.as_str-name.ensures.same c.loop-stage.invariant.names old);
    }

pub loop-stage-preserved : goal.loop-stage-preserved
loop-stage-preserved c =
    let within : c.loop-stage.stage-index < length c.args.stages.now = search rules in
    let new = sym c.in_ok-insert.ensures.added ∙ c.if-not-branch.false in
    record {
      names =
          names_more c.loop-stage.names.keys c.insert.new.self.keys c.as_str-name.result c.args.stages.now c.loop-stage.stage-index c.stage-item.result within c.stage-item.is c.as_str-name.ensures.same c.loop-stage.invariant.names new c.in_ok-insert.ensures.keys;
      left =
          c.loop-stage.invariant.left
          ∙ name_new c.loop-stage.names.keys c.as_str-name.result c.args.stages.now c.loop-stage.stage-index c.stage-item.result within c.stage-item.is c.as_str-name.ensures.same c.loop-stage.invariant.names new;
    }
