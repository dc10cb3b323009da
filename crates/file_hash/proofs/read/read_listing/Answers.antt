-- Members that lie apart, in order, are a listing.
use Rattle.std.proofs.Common.{◌≡◌, ◌∙◌, true, map, ap, rules}
use Rattle.world_api.specs.Calls.{are_apart}
use Rattle.file_hash.specs.Listing.{in_order, is_before, path_at}
use Rattle.file_hash.proofs.ReadLemmas.{listing_read}
use Rattle.file_hash.proofs.read.read_listing.Goals as goal

pub returns-clause-good : goal.returns-clause-good
returns-clause-good c =
    let members = c.in_ok-members.members in
    let apart : are_apart (map path_at members) ≡ true = search rules in
    listing_read members c.in_ok-sorted.field-0 c.in_ok-members.ensures.good apart (c.in_ok-sorted.ensures.exact ∙ ap (in_order is_before) c.as_slice-2.ensures.same)
