-- Members in the order of their texts are a listing, where their paths lie apart.
--     apart_order, files_order     what holds of the members holds of them in order
--     listing_in_order             such members in order are a listing
use Rattle.std.proofs.Common.{◌≡◌, Bool, true, false, cond, not, ◌&&◌, ◌||◌, ◌⊎◌, List, [], ◌∷◌, map, refl, sym, ap, ◌∙◌, subst, inl, inr}
use Rattle.std.specs.List.{AllByRecursion, list_all}
use Rattle.std.specs.Ordering.{nat_cmp, is_lt, ordering_reverse}
use Rattle.std.specs.declared.cmp.Ordering.{Ordering}
use Rattle.std.specs.declared.cmp.Ordering.TheVariants.{Less, Equal, Greater}
use Rattle.std.specs.Cmp.{IsStrictWeakOrder}
use Rattle.std.specs.Cmp.Lexicographic.{slice_cmp}
use Rattle.std.specs.FinMap.{slice_cmp-IsAntisymmetric, nat_cmp-IsAntisymmetric}
use Rattle.std.proofs.lemmas.Cmp.{nat_list_cmp_total}
use Rattle.std.proofs.lemmas.List.MinMax.{ranks_by}
use Rattle.std.proofs.lemmas.Bool.{false≢true, and_parts, and_from, or_left}
use Rattle.dvc_base.specs.Path.{Path, under, overlap}
use Rattle.dvc_base.specs.Normal.{IsNormal}
use Rattle.dvc_base.proofs.PathLemmas.{under-refl}
use Rattle.dvc_base.proofs.NormalLemmas.{path_text-injective}
use Rattle.world_api.specs.Calls.{are_rising, are_apart, is_apart}
use Rattle.file_hash.specs.Listing.{put_in, in_order, is_before, text_at, path_at, is_file_name, IsListing}
use Rattle.file_hash.specs.declared.listing.Member.{Member}
use Rattle.file_hash.proofs.OrderLemmas.{Rises, order_rises, order_each}

pub weak : IsStrictWeakOrder is_before
weak = ranks_by nat_list_cmp_total text_at

overlap_sym : (p q : Path) → overlap p q ≡ overlap q p
overlap_sym p q = or_comm (under p q) (under q p)
  where
    or_comm : (a b : Bool) → (a || b) ≡ (b || a)
    or_comm true true = refl
    or_comm true false = refl
    or_comm false true = refl
    or_comm false false = refl

exchange : (a b c : Bool) → (a && (b && c)) ≡ (b && (a && c))
exchange true true c = refl
exchange true false c = refl
exchange false true c = refl
exchange false false c = refl

cross : (o p q r : Bool) → ((o && p) && (q && r)) ≡ ((o && q) && (p && r))
cross true true true r = refl
cross true true false r = refl
cross true false true r = refl
cross true false false r = refl
cross false p q r = refl

module _ (less : Member → Member → Bool) where
  apart_put : (x : Path) (a : Member) (bs : List Member) → is_apart x (map path_at (put_in less a bs)) ≡ (not (overlap x a.path) && is_apart x (map path_at bs))
  apart_put x a [] = refl
  apart_put x a (b ∷ bs) =
      elim (less b a) as (λ c. is_apart x (map path_at (cond c (b ∷ put_in less a bs) (a ∷ b ∷ bs))) ≡ (not (overlap x a.path) && is_apart x (map path_at (b ∷ bs)))) [
        | true ↦ ap (λ r. not (overlap x b.path) && r) (apart_put x a bs) ∙ exchange (not (overlap x b.path)) (not (overlap x a.path)) (is_apart x (map path_at bs))
        | false ↦ refl
      ]

  put_apart : (a : Member) (bs : List Member) → are_apart (map path_at (put_in less a bs)) ≡ (is_apart a.path (map path_at bs) && are_apart (map path_at bs))
  put_apart a [] = refl
  put_apart a (b ∷ bs) =
      elim (less b a) as (λ c. are_apart (map path_at (cond c (b ∷ put_in less a bs) (a ∷ b ∷ bs))) ≡ (is_apart a.path (map path_at (b ∷ bs)) && are_apart (map path_at (b ∷ bs)))) [
        | true ↦
            ap (λ r. r && are_apart (map path_at (put_in less a bs))) (apart_put b.path a bs)
            ∙ ap (λ r. (not (overlap b.path a.path) && is_apart b.path (map path_at bs)) && r) (put_apart a bs)
            ∙ cross (not (overlap b.path a.path)) (is_apart b.path (map path_at bs)) (is_apart a.path (map path_at bs)) (are_apart (map path_at bs))
            ∙ ap (λ o. (not o && is_apart a.path (map path_at bs)) && (is_apart b.path (map path_at bs) && are_apart (map path_at bs))) (overlap_sym b.path a.path)
        | false ↦ refl
      ]

  pub apart_order : (ms : List Member) → are_apart (map path_at (in_order less ms)) ≡ are_apart (map path_at ms)
  apart_order [] = refl
  apart_order (m ∷ ms) =
      put_apart m (in_order less ms)
      ∙ ap (λ r. is_apart m.path (map path_at (in_order less ms)) && r) (apart_order ms)
      ∙ ap (λ r. r && are_apart (map path_at ms)) (one_order m.path ms)
    where
      one_order : (x : Path) (ms : List Member) → is_apart x (map path_at (in_order less ms)) ≡ is_apart x (map path_at ms)
      one_order x [] = refl
      one_order x (m ∷ ms) = apart_put x m (in_order less ms) ∙ ap (λ r. not (overlap x m.path) && r) (one_order x ms)

  put_all : (p : Member → Bool) (a : Member) (bs : List Member) → list_all p (put_in less a bs) ≡ (p a && list_all p bs)
  put_all p a [] = refl
  put_all p a (b ∷ bs) =
      elim (less b a) as (λ c. list_all p (cond c (b ∷ put_in less a bs) (a ∷ b ∷ bs)) ≡ (p a && list_all p (b ∷ bs))) [
        | true ↦ ap (λ r. p b && r) (put_all p a bs) ∙ exchange (p b) (p a) (list_all p bs)
        | false ↦ refl
      ]

  pub all_order : (p : Member → Bool) (ms : List Member) → list_all p (in_order less ms) ≡ list_all p ms
  all_order p [] = refl
  all_order p (m ∷ ms) = put_all p m (in_order less ms) ∙ ap (λ r. p m && r) (all_order p ms)

-- ---- they rise

pub less_or_same : (r s : Ordering) → r ≡ ordering_reverse s → is_lt s ≡ false → (is_lt r ≡ true) ⊎ (r ≡ Equal)
less_or_same r Less e h = absurd (false≢true (sym h))
less_or_same r Equal e h = inr e
less_or_same r Greater e h = inl (ap is_lt e)

before_next : (a b : Member) → IsNormal a.path → IsNormal b.path → is_before b a ≡ false → overlap a.path b.path ≡ false → is_before a b ≡ true
before_next a b n m h apart =
    elim (less_or_same (slice_cmp nat_cmp (text_at a) (text_at b)) (slice_cmp nat_cmp (text_at b) (text_at a)) (nat_list_cmp_total.antisymm (text_at a) (text_at b)) h) [
      | inl less ↦ less
      | inr same ↦
          let path : a.path ≡ b.path = path_text-injective a.path b.path n m (slice_cmp-IsAntisymmetric nat_cmp-IsAntisymmetric (text_at a) (text_at b) same) in
          absurd (false≢true (sym apart ∙ or_left (under a.path b.path) (under b.path a.path) (subst (λ (q : Path). under a.path q ≡ true) path (under-refl a.path))))
    ]

not_false : (b : Bool) → not b ≡ true → b ≡ false
not_false true h = absurd (false≢true h)
not_false false h = refl

rises_strictly : (ms : List Member) → Rises is_before weak ms → are_apart (map path_at ms) ≡ true → AllByRecursion (λ m. IsNormal m.path) ms → are_rising (map text_at ms) ≡ true
rises_strictly [] r a n = refl
rises_strictly (m ∷ []) r a n = refl
rises_strictly (m ∷ k ∷ ms) r a n =
    let parts = and_parts (is_apart m.path (map path_at (k ∷ ms))) (are_apart (map path_at (k ∷ ms))) a in
    let first = not_false (overlap m.path k.path) (and_parts (not (overlap m.path k.path)) (is_apart m.path (map path_at ms)) parts.0).0 in
    and_from (is_before m k) (are_rising (map text_at (k ∷ ms))) (before_next m k n.0 n.1.0 r.0.0 first) (rises_strictly (k ∷ ms) r.1 parts.1 n.1)

pub listing_in_order : (ms : List Member) → are_apart (map path_at ms) ≡ true → AllByRecursion (λ m. IsNormal m.path) ms → list_all (λ m. is_file_name m.name) ms ≡ true → IsListing (in_order is_before ms)
listing_in_order ms a n f =
    let apart = apart_order is_before ms ∙ a in
    record {
      rising = rises_strictly (in_order is_before ms) (order_rises is_before weak ms) apart (order_each is_before weak (λ m. IsNormal m.path) ms n);
      apart = apart;
      files = all_order is_before (λ m. is_file_name m.name) ms ∙ f;
    }
