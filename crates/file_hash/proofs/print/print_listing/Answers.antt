-- What is written is read back.
use Rattle.std.proofs.Common.{◌≡◌, subst, rules}
use Rattle.std.specs.List.{AllByRecursion}
use Rattle.file_hash.specs.Listing.{listing_text}
use Rattle.file_hash.specs.Reading.{IsSound}
use Rattle.file_hash.proofs.ReadBackLemmas.{sound_back}
use Rattle.file_hash.proofs.print.print_listing.Goals as goal

pub returns-clause-read_back : goal.returns-clause-read_back
returns-clause-read_back c = λ listing.
    let list = c.args.list.now in
    let exact : c.finish.result ≡ listing_text list = search rules in
    let sound = subst (AllByRecursion IsSound) c.as_slice.ensures.same c.in_ok-put_members.ensures.sound in
    sound_back list c.finish.result exact sound listing
