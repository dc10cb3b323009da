-- A flow form, by the number of collections that may stand in one another.
use Rattle.std.proofs.Common.{◌≡◌, ℕ, zero, suc, ◌-◌, ◌<◌, true, false, cond, ap, ◌∙◌, arith}
use Rattle.yaml_text.specs.Outcome.{Text}
use Rattle.yaml_nodes.specs.Part.{begins_form, too_deep}
use Rattle.yaml_nodes.specs.Flow.{flow_scalar, flow_form, flow_node}

pub flow_shallow : (depth : ℕ) (t : Text) → begins_form t ≡ false → flow_node depth t ≡ flow_scalar t
unfolding flow_node
flow_shallow zero t h = ap (λ b. cond b (too_deep t) (flow_scalar t)) h
flow_shallow (suc depth) t h = ap (λ b. cond b (flow_form (flow_node depth) t) (flow_scalar t)) h

pub flow_none : (depth : ℕ) (t : Text) → begins_form t ≡ true → depth ≡ 0 → flow_node depth t ≡ too_deep t
unfolding flow_node
flow_none zero t h e = ap (λ b. cond b (too_deep t) (flow_scalar t)) h
flow_none (suc depth) t h e = absurd (omega arith)

pub deep_by : (depth : ℕ) (t : Text) → begins_form t ≡ true → flow_node (suc depth) t ≡ flow_form (flow_node depth) t
unfolding flow_node
deep_by depth t h = ap (λ b. cond b (flow_form (flow_node depth) t) (flow_scalar t)) h

pub flow_deep : (depth : ℕ) (t : Text) → begins_form t ≡ true → 0 < depth → flow_node depth t ≡ flow_form (flow_node (depth - 1)) t
flow_deep depth t h some =
    let e : depth ≡ suc (depth - 1) = omega arith in ap (λ d. flow_node d t) e ∙ deep_by (depth - 1) t h
