use Rattle.std.proofs.Common.{◌≡◌, ◌+◌, ◌-◌, ◌≤◌, length, drop}
use Rattle.workspace_files.proofs.LineLemmas.{feed_place}
use Rattle.workspace_files.proofs.ignores.line_len.Given as goal

-- no line feed stands so far
abbrev pub invariant-loop-count : goal.invariant-loop-count
invariant-loop-count l = (l.count + feed_place (drop l.count l.text) ≡ feed_place l.text) × (l.count ≤ length l.text)

abbrev pub decreases-loop-count : goal.decreases-loop-count
decreases-loop-count l = length l.text - l.count
