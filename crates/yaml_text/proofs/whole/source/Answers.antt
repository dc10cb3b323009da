use Rattle.std.proofs.Common.{◌≡◌, IfOk, sym, ◌∙◌, ap, subst}
use Rattle.yaml_text.specs.Source.{past_mark, with_line_feeds, source}
use Rattle.yaml_text.proofs.SourceLemmas.{source_cut}
use Rattle.yaml_text.proofs.whole.source.Goals as goal

pub returns-in_ok-marked-in-Err : goal.returns-in_ok-marked-in-Err
returns-in_ok-marked-in-Err c =
    let cut = source_cut c.args.bytes.now c.valid_up_to.result c.in-Err.ensures.cases.0 (sym (c.valid_up_to.ensures ∙ c.in-Err.ensures.valid_len)) in
    let marked : c.as_slice.result.now ≡ c.in_ok-marked-in-Err.marked.items = c.as_slice.ensures.value in
    let read : with_line_feeds c.past_mark-in-Err.result.now ≡ source c.args.bytes.now =
    ap with_line_feeds (c.past_mark-in-Err.ensures ∙ ap past_mark (marked ∙ c.in_ok-marked-in-Err.ensures)) ∙ sym cut
    in
    subst (λ t. IfOk c.with_line_feeds-in-Err.result (λ text. text.items ≡ t)) read c.with_line_feeds-in-Err.ensures
