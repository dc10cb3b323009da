use Rattle.std.proofs.Common.{◌≡◌, ◌∙◌, ap, sym, subst}
use Rattle.dvc_base.specs.declared.node.Node.{out-Node}
use Rattle.dvc_base.specs.declared.node.Node.TheOpen.{Node-F}
use Rattle.yaml_print.proofs.NodeCases.{out_text}
use Rattle.stage_schema.specs.Node.{Layer}
use Rattle.template_expand.specs.Answer.{Leaves}
use Rattle.template_expand.specs.Wanted.{with_top_layer}
use Rattle.template_expand.proofs.wanted.push_top_item.Goals as goal

pub returns-in-Text : goal.returns-in-Text
returns-in-Text c =
    let IsDue : Layer → Type 0 = λ v. Leaves c.push_top_path.result c.push_top_path.new.paths (with_top_layer c.args.paths.now v) in
    let same : Node-F.Text c.as_str.result.now ≡ out-Node c.args.item.now =
    ap Node-F.Text c.as_str.ensures.same ∙ sym (ap out-Node c.in-Text.is ∙ out_text c.in-Text.text) in
    record { answer = subst IsDue same c.push_top_path.ensures.answer }
