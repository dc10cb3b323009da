-- The part is cut at the first bracket that opens, if there is one.
use Rattle.std.proofs.Common.{◌≡◌, ◌∙◌, ap, sym, lit<, Some, None, option_and_then, option_copied, map, rules, ◌==◌}
use Rattle.std.specs.List.{slice_split}
use Rattle.std.proofs.lemmas.Str.Pattern.{split_once_first}
use Rattle.params.specs.Lookup.{Bracket, follow}
use Rattle.params.proofs.LookupLemmas.{with_brackets, without_brackets, one_name}
use Rattle.params.proofs.keys.follow_part.Goals as goal

pub returns-in_err-named-in-Some : goal.returns-in_err-named-in-Some
returns-in_err-named-in-Some c =
    let cut = split_once_first 91 c.args.part.now (Some (c.in-Some.name, c.in-Some.brackets)) c.in-Some.ensures.cases (lit< tt) in
    let steps = with_brackets c.args.part.now c.in-Some.name.now c.in-Some.brackets.now cut.0 cut.1 cut.2 in
    let gone : option_copied c.from_residual.result ≡ None = search rules in
    record { exact = gone ∙ sym (ap (λ ss. follow ss c.args.node.now) steps ∙ ap (option_and_then (follow (map Bracket (slice_split (λ b. b == 91) c.in-Some.brackets.now)))) (sym c.in_err-named-in-Some.ensures.exact)) }

pub returns-in_ok-named-in-Some : goal.returns-in_ok-named-in-Some
returns-in_ok-named-in-Some c =
    let cut = split_once_first 91 c.args.part.now (Some (c.in-Some.name, c.in-Some.brackets)) c.in-Some.ensures.cases (lit< tt) in
    let steps = with_brackets c.args.part.now c.in-Some.name.now c.in-Some.brackets.now cut.0 cut.1 cut.2 in
    record { exact = c.follow_brackets.ensures.exact ∙ sym (ap (λ ss. follow ss c.args.node.now) steps ∙ ap (option_and_then (follow (map Bracket (slice_split (λ b. b == 91) c.in-Some.brackets.now)))) (sym c.in_ok-named-in-Some.ensures.exact)) }

pub returns-in-None : goal.returns-in-None
returns-in-None c =
    let uncut = split_once_first 91 c.args.part.now None c.in-None.ensures.cases (lit< tt) in
    record { exact = c.named-in-None.ensures.exact ∙ sym (ap (λ ss. follow ss c.args.node.now) (without_brackets c.args.part.now uncut) ∙ one_name c.args.part.now c.args.node.now) }
