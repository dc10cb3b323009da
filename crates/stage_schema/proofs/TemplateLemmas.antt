-- Templates, a collection down at a time.
--     template_none, template_deep    a template where no collection is entered, and where some may be
use Rattle.std.proofs.Common.{◌≡◌, ℕ, zero, suc, ◌-◌, ◌<◌, refl, ap, arith}
use Rattle.dvc_base.specs.declared.node.Node.{Node, out-Node}
use Rattle.stage_schema.specs.Node.{text_of}
use Rattle.stage_schema.specs.Schema.{is_template, is_template_of, has_template}

pub template_none : (d : ℕ) (v : Node) → d ≡ 0 → has_template d v ≡ is_template (text_of (out-Node v))
unfolding has_template
template_none zero v h = refl
template_none (suc d) v h = absurd (omega (arith, h))

pub template_deep : (d : ℕ) (v : Node) → 0 < d → has_template d v ≡ is_template_of (has_template (d - 1)) (out-Node v)
unfolding has_template
template_deep zero v h = absurd (omega (arith, h))
template_deep (suc d) v h = let e : d ≡ suc d - 1 = omega arith in ap (λ n. is_template_of (has_template n) (out-Node v)) e
