-- The makers of one more path.
use Rattle.std.proofs.Common.{Bool, ◌||◌, List, take, sym, ap, ◌∙◌}
use Rattle.std.specs.List.{list_any}
use Rattle.std.proofs.lemmas.List.{take_all}
use Rattle.std.proofs.lemmas.List.Folds.{list_any_more}
use Rattle.dvc_base.specs.Path.{Path}
use Rattle.stage_graph.specs.Makers.{is_maker}
use Rattle.stage_graph.proofs.edges.makers_of.Goals as goal

pub loop-need-preserved : goal.loop-need-preserved
loop-need-preserved c = λ n.
    let made = c.args.made.now in
    let needed = c.args.needed.now in
    let i = c.loop-need.need-index in
    let so_far = list_any (λ need. is_maker made need n) (take i needed) in
    c.in_ok-add_makers.ensures.added n
    ∙ ap (λ (b : Bool). b || is_maker made c.need-item.result n) (c.loop-need.invariant n)
    ∙ ap (λ (need : Path). so_far || is_maker made need n) c.need-item.is
    ∙ sym (list_any_more (λ need. is_maker made need n) needed i c.need-item.result c.loop-need-test.true)

pub returns : goal.returns
returns c = record {
  found = λ n. c.loop-need.invariant n
      ∙ ap (λ (ps : List Path). list_any (λ need. is_maker c.args.made.now need n) ps) (take_all c.loop-need.need-index c.args.needed.now c.loop-need-test.false);
}
