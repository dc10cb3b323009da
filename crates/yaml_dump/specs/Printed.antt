-- What a text is printed as: the text of the node that it stands for.
use Rattle.std.specs.Prelude.{◌≡◌, ◌⊎◌, Ok, Err}
use Rattle.dvc_base.specs.declared.node.Node.{Node}
use Rattle.dvc_base.specs.declared.node.YamlFault.{YamlFault}
use Rattle.dvc_base.specs.declared.node.YamlFault.TheVariants.{NoMemory}
use Rattle.yaml_text.specs.Outcome.{Text}
use Rattle.yaml_nodes.specs.Document.{parse}
use Rattle.yaml_print.specs.Print.{print_text}

pub record IsPrinted (text bytes : Text) : Type 0 where
  pub node : Node
  pub read : parse text ≡ Ok node
  pub printed : bytes ≡ print_text node

-- the fault that a text has, or want of memory
abbrev pub IsFaultOf : Text → YamlFault → Type 0
IsFaultOf text fault = (fault ≡ NoMemory) ⊎ (parse text ≡ Err fault)
