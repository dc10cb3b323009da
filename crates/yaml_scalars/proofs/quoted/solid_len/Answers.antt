use Rattle.std.proofs.Common.{◌≡◌, ◌-◌, ◌<◌, suc, length, take, sym, ap, ◌∙◌, arith, rules}
use Rattle.std.proofs.lemmas.Grind.{common_steps}
use Rattle.yaml_scalars.specs.Quoted.{solid_len}
use Rattle.yaml_scalars.proofs.QuotedLemmas.{white_end, solid_end}
use Rattle.yaml_scalars.proofs.quoted.solid_len.Goals as goal

pub loop-len-preserved : goal.loop-len-preserved
loop-len-preserved c =
    let t = c.args.text.now in
    let last : suc (c.loop-len.len - 1) ≡ c.loop-len.len = omega arith in
    let in_it : c.loop-len.len - 1 < length t = omega arith in
    let e = white_end t (c.loop-len.len - 1) in_it (search rules) in
    (e ∙ ap (λ n. solid_len (take n t)) last ∙ c.loop-len.invariant.0, omega arith)

pub returns-else-is_white-clause-value : goal.returns-else-is_white-clause-value
returns-else-is_white-clause-value c =
    let t = c.args.text.now in
    let last : suc (c.loop-len.len - 1) ≡ c.loop-len.len = omega arith in
    let in_it : c.loop-len.len - 1 < length t = omega arith in
    let e = solid_end t (c.loop-len.len - 1) in_it (search rules) in
    sym last ∙ sym e ∙ ap (λ n. solid_len (take n t)) last ∙ c.loop-len.invariant.0
