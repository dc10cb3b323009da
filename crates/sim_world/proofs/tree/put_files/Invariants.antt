use Rattle.std.proofs.Common.{◌≡◌, drop, take}
use Rattle.sim_world.specs.Edits.{put_files}
use Rattle.sim_world.specs.Good.{AreFit}
use Rattle.sim_world.specs.Sorted.{pairs_of}
use Rattle.sim_world.proofs.tree.put_files.Given as goal

abbrev pub invariant-loop-member : goal.invariant-loop-member
invariant-loop-member l = record {
  rest : put_files l.at (pairs_of l.member-items) l.initial.nodes ≡ put_files l.at (pairs_of (drop l.member-index l.member-items)) l.nodes;
  fits : AreFit l.at (pairs_of (take l.member-index l.member-items));
}
