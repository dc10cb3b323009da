-- A node of block style, by the number of collections that may stand in one another.
use Rattle.std.proofs.Common.{◌≡◌, ℕ, zero, suc, ◌-◌, ◌<◌, cond, refl, ap, arith}
use Rattle.yaml_text.specs.Outcome.{Text, ◌>>=◌}
use Rattle.yaml_nodes.specs.Block.{begins_item, begins_key, sequence, mapping, inline, block_at_limit, block}

pub block_none : (depth least column : ℕ) (t : Text) → depth ≡ 0 → block depth least column t ≡ block_at_limit depth least t
unfolding block
block_none zero least column t e = refl
block_none (suc depth) least column t e = absurd (omega arith)

pub deep_by : (n depth least column : ℕ) (t : Text) → depth ≡ suc n → block depth least column t
    ≡ cond (begins_item t) (sequence (block n) column t) (begins_key t >>= λ is_key. cond is_key (mapping n (block n) column t) (inline depth least t))
unfolding block
deep_by n zero least column t e = absurd (omega arith)
deep_by n (suc depth) least column t e =
    let same : depth ≡ n = omega arith in
    ap (λ d. cond (begins_item t) (sequence (block d) column t) (begins_key t >>= λ is_key. cond is_key (mapping d (block d) column t) (inline (suc depth) least t))) same

pub block_deep : (depth least column : ℕ) (t : Text) → 0 < depth → block depth least column t
    ≡ cond (begins_item t) (sequence (block (depth - 1)) column t) (begins_key t >>= λ is_key. cond is_key (mapping (depth - 1) (block (depth - 1)) column t) (inline depth least t))
block_deep depth least column t some = deep_by (depth - 1) depth least column t (omega arith)
