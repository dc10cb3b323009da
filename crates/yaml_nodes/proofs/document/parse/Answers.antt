use Rattle.std.proofs.Common.{arith, rules}
use Rattle.std.proofs.lemmas.Grind.{common_steps}
use Rattle.yaml_nodes.specs.Document.{IsAnswer, parse}
use Rattle.yaml_nodes.proofs.GrammarLaw.{parsed}
use Rattle.yaml_nodes.proofs.document.parse.Goals as goal

pub returns-clause-grammar : goal.returns-clause-grammar
unfolding parse
returns-clause-grammar c =
    let answer : IsAnswer c.read.result (parse c.args.text.now) = first_of (search rules, grind (arith, common_steps)) in
    parsed c.args.text.now c.read.result answer
