use Rattle.std.proofs.Common.{◌∙◌, ap, Some, None, lit<}
use Rattle.std.specs.List.{list_any}
use Rattle.std.proofs.lemmas.Str.Pattern.{split_once_first, split_parts}
use Rattle.template_vars.specs.Turn.{is_dollar}
use Rattle.template_vars.proofs.BoolLemmas.{none_before, none_from_place}
use Rattle.template_vars.proofs.PieceLemmas.{all_plain}
use Rattle.template_vars.proofs.TurnLemmas.{behind_shut}
use Rattle.template_vars.proofs.turn.next_turn.Goals as goal

pub turn_at-requires-clause-plain : goal.turn_at-requires-clause-plain
turn_at-requires-clause-plain c =
    let cut = split_once_first 36 c.args.text.now (Some (c.in-Some.plain, c.in-Some.behind)) c.in-Some.ensures.cases (lit< tt) in
    ap (list_any is_dollar) cut.1 ∙ none_before is_dollar c.args.text.now

pub turn_at-requires-clause-left : goal.turn_at-requires-clause-left
turn_at-requires-clause-left c =
    let parts = split_parts 36 c.args.text.now (Some (c.in-Some.plain, c.in-Some.behind)) c.in-Some.ensures.cases (lit< tt) in
    λ closed. behind_shut c.args.text.now c.in-Some.plain.now c.in-Some.behind.now parts.0 (c.requires closed)

pub returns-in-None : goal.returns-in-None
returns-in-None c = record {
  turn =
      all_plain c.args.text.now
      (none_from_place is_dollar c.args.text.now (split_once_first 36 c.args.text.now None c.in-None.ensures.cases (lit< tt)));
}
