-- Members whose objects are stored one after another.
--     member_at        what is so of each member is so of one
--     among_at         the object of a member is one of the members' objects
--     whole_next       the objects of the members so far stay whole, and one more is
--     places_next      what is due is due of the members behind one that has a place
use Rattle.std.proofs.Common.{◌≡◌, ℕ, zero, suc, ◌+◌, ◌<◌, true, List, [], ◌∷◌, ◌++◌, length, map, take, drop, get_or, sym, ap, subst, ◌∙◌, arith, Option, None}
use Rattle.std.specs.Prelude.{is_some}
use Rattle.std.specs.List.{AllByRecursion}
use Rattle.std.proofs.lemmas.List.{take_more, drop_more, map-append}
use Rattle.world_api.specs.Tree.{Tree}
use Rattle.world_api.specs.History.{Moment}
use Rattle.dvc_base.specs.Name.{ObjectName}
use Rattle.file_hash.specs.declared.listing.Member.{Member}
use Rattle.object_cache.specs.declared.fault.CacheFault.{CacheFault}
use Rattle.object_cache.specs.Objects.{object_at, member_name, are_whole}
use Rattle.object_cache.specs.Store.{InStore}
use Rattle.object_cache.specs.Due.{KeepsPlaces, or_then, place_fault, places_fault}
use Rattle.object_cache.proofs.StoreLemmas.{AreAmong, among_first, among_rest}
use Rattle.object_cache.proofs.PutLemmas.{all_kept, whole_push}

pub member_at : (P : Member → Type 0) (ms : List Member) (i : ℕ) (x : Member) → i < length ms → x ≡ get_or ms i x → AllByRecursion P ms → P x
member_at P [] i x l is h = absurd (omega arith)
member_at P (m ∷ ms) zero x l is h = subst P (sym is) h.0
member_at P (m ∷ ms) (suc i) x l is h = member_at P ms i x (omega arith) is h.1

pub among_at : (ms : List Member) (i : ℕ) (x : Member) → i < length ms → x ≡ get_or ms i x → AreAmong (x.name ∷ []) (map member_name ms)
among_at [] i x l is p e = absurd (omega arith)
among_at (m ∷ ms) zero x l is p e =
    subst (λ (n : ObjectName). AreAmong (n ∷ []) (map member_name (m ∷ ms))) (ap member_name (sym is)) (among_first m.name (map member_name ms)) p e
among_at (m ∷ ms) (suc i) x l is p e = among_rest m.name (map member_name ms) p (among_at ms i x (omega arith) is p e)

names_push : (ms : List Member) (i : ℕ) (x : Member) → i < length ms → x ≡ get_or ms i x → map member_name (take (i + 1) ms) ≡ map member_name (take i ms) ++ x.name ∷ []
names_push ms i x l is =
    ap (map member_name) (take_more ms i x l ∙ ap (λ (m : Member). take i ms ++ m ∷ []) (sym is)) ∙ map-append member_name (take i ms) (x ∷ [])

pub whole_next : {names : List ObjectName} (m n : Moment) (ms : List Member) (i : ℕ) (x : Member) → i < length ms → x ≡ get_or ms i x → InStore names m n → are_whole m.tree (map member_name (take i ms)) ≡ true → is_some (object_at n.tree x.name) ≡ true → are_whole n.tree (map member_name (take (i + 1) ms)) ≡ true
whole_next m n ms i x l is store all here =
    ap (are_whole n.tree) (names_push ms i x l is)
    ∙ whole_push n.tree (map member_name (take i ms)) x.name (all_kept m n (map member_name (take i ms)) store all) here

pub places_next : (t u : Tree) (ms : List Member) (i : ℕ) (x : Member) → i < length ms → x ≡ get_or ms i x → KeepsPlaces t u → place_fault u x.name ≡ None → places_fault t (map member_name (drop i ms)) ≡ places_fault t (map member_name (drop (i + 1) ms))
places_next t u ms i x l is keeps none =
    ap (λ (l : List Member). places_fault t (map member_name l)) (drop_more ms i x l ∙ ap (λ (m : Member). m ∷ drop (i + 1) ms) (sym is))
    ∙ ap (λ (o : Option CacheFault). or_then o (places_fault t (map member_name (drop (i + 1) ms)))) (sym (keeps x.name) ∙ none)
