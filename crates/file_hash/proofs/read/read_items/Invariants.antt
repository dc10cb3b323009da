use Rattle.std.proofs.Common.{◌≡◌, drop}
use Rattle.serde_json.specs.View.{items_view}
use Rattle.file_hash.specs.Reading.{members_in, AreMembers}
use Rattle.file_hash.proofs.ReadLemmas.{put_front}
use Rattle.file_hash.proofs.read.read_items.Given as goal

-- the members so far, before those of the items that are left
abbrev pub invariant-loop-item : goal.invariant-loop-item
invariant-loop-item l = record {
  held : put_front l.members (members_in (items_view (drop l.item-index l.items))) ≡ members_in (items_view l.items);
  good : AreMembers l.members;
}
