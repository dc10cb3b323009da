-- The test of all neighbours in the order of components.
use Rattle.std.proofs.Common.{◌≡◌, ◌∙◌, Bool, not, map, ap, Bor, rules}
use Rattle.std.proofs.lemmas.List.Sorted.{answers_always}
use Rattle.dvc_base.specs.Path.{under}
use Rattle.file_hash.specs.declared.listing.Member.{Member}
use Rattle.file_hash.proofs.ApartLemmas.{refs_apart}
use Rattle.file_hash.proofs.read.lie_apart.Goals as goal

abbrev member : Bor Member → Member
member m = m.now

abbrev is_clear : Bor Member → Bor Member → Bool
is_clear a b = not (under a.now.path b.now.path)

pub returns : goal.returns
returns c =
    let refs = c.as_slice.result.now in
    let same : refs ≡ c.in_ok-sorted.sorted.items = search rules in
    let answers = c.is_sorted_by.ensures.cases is_clear (answers_always _ _ _ (λ f a r next called. search rules)) in
    record { exact = refs_apart c.args.members.now refs c.is_sorted_by.result c.requires.good (ap (map member) same ∙ c.in_ok-sorted.ensures.exact) answers }
