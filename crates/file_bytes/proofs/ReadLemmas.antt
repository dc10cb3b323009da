-- Reading on, and what is known of a file once its front was read.
--     front_none, front_more      before the first piece, and after another one
--     front_end                   the file's end was met, or as many bytes as are wanted
--     file_of_front               a front as long as the file is the file
--     size_of_front               a front of more bytes than the file has is as long as the file
use Rattle.std.proofs.Common.{◌≡◌, ℕ, ◌+◌, ◌≤◌, ◌<◌, Bool, List, [], ◌∷◌, ◌++◌, length, take, Option, Some, None, IsTrue, refl, sym, ap, subst, ◌∙◌, arith, inl, inr, length-append}
use Rattle.std.proofs.Math.Seq.{take-add}
use Rattle.std.proofs.lemmas.List.{take_all, append-nil}
use Rattle.world_api.specs.Tree.{Item, folder, file}
use Rattle.file_bytes.specs.Reading.{IsTold, IsFront, HoldsFile, HoldsFront, IsNext, HasAdded}

front_at : (item : Option Item) → IsFront item 0 []
front_at None = tt
front_at (Some folder) = tt
front_at (Some (file all)) = refl

pub front_none : (tells : Bool) (item : Option Item) (H : List ℕ → Type 0) → H [] → HoldsFront tells item 0 H 0
front_none tells item H held = record { bytes = []; held = held; size = refl; front = λ told. front_at item }

more_at : (item : Option Item) (bytes more : List ℕ) (wanted : ℕ) → IsFront item (length bytes) bytes → IsNext item (length bytes) wanted more → IsFront item (length bytes + length more) (bytes ++ more)
more_at None bytes more wanted h n = tt
more_at (Some folder) bytes more wanted h n = tt
more_at (Some (file all)) bytes more wanted h n =
    ap (λ (x : List ℕ). x ++ more) h ∙ ap (λ (x : List ℕ). take (length bytes) all ++ x) n.0 ∙ sym (take-add (length bytes) (length more) all)

pub front_more : (tells : Bool) (item here : Option Item) (from wanted count next : ℕ) (A B : List ℕ → Type 0) → (IsTrue tells → here ≡ item) → next ≡ from + count → (h : HoldsFront tells item from A from) → HasAdded tells here from wanted B h.bytes count → HoldsFront tells item next B next
front_more tells item here from wanted count next A B same e h added =
    let grown : length h.bytes + length added.more ≡ next = omega (arith, h.size, added.size, e) in
    record {
      bytes = h.bytes ++ added.more;
      held = added.held;
      size = length-append h.bytes added.more ∙ grown;
      front = λ told. subst (λ (n : ℕ). IsFront item n (h.bytes ++ added.more)) grown (more_at item h.bytes added.more wanted (subst (λ (n : ℕ). IsFront item n h.bytes) (sym h.size) (h.front told)) (subst (λ (n : ℕ). IsNext item n wanted added.more) (sym h.size) (subst (λ (i : Option Item). IsNext i from wanted added.more) (same told) (added.next told))));
    }

end_at : (item : Option Item) (from most wanted : ℕ) (bytes more : List ℕ) → from ≤ most → 0 < wanted → length more ≡ 0 → IsFront item from bytes → IsNext item from wanted more → IsFront item most bytes
end_at None from most wanted bytes more l w none h n = tt
end_at (Some folder) from most wanted bytes more l w none h n = tt
end_at (Some (file all)) from most wanted bytes more l w none h n =
    elim (n.2 none) [
      | inl end ↦ h ∙ take_all from all end ∙ sym (take_all most all (omega (arith, end)))
      | inr zero ↦ absurd (omega (arith, zero))
    ]

none_more : (more : List ℕ) (bytes : List ℕ) → length more ≡ 0 → bytes ++ more ≡ bytes
none_more [] bytes e = append-nil bytes
none_more (x ∷ more) bytes e = absurd (omega (arith, e))

-- a piece of no bytes was read, though some were wanted
pub front_end : (tells : Bool) (item here : Option Item) (from most wanted count : ℕ) (A B : List ℕ → Type 0) → (IsTrue tells → here ≡ item) → from ≤ most → 0 < wanted → count ≡ 0 → (h : HoldsFront tells item from A from) → HasAdded tells here from wanted B h.bytes count → HoldsFront tells item most B from
front_end tells item here from most wanted count A B same l w none h added =
    record {
      bytes = h.bytes;
      held = subst B (none_more added.more h.bytes (added.size ∙ none)) added.held;
      size = h.size;
      front = λ told. end_at item from most wanted h.bytes added.more l w (added.size ∙ none) (h.front told) (subst (λ (i : Option Item). IsNext i from wanted added.more) (same told) (added.next told));
    }

pub file_of_front : (tells : Bool) (item : Option Item) (size most : ℕ) (H : List ℕ → Type 0) → size ≤ most → IsTrue tells → IsTold item size → HoldsFront tells item most H size → HoldsFile H item
file_of_front tells item size most H l told (all, (there, count)) h =
    let front : h.bytes ≡ take most all = subst (λ (i : Option Item). IsFront i most h.bytes) there (h.front told) in
    record {
      bytes = h.bytes;
      held = h.held;
      whole = there ∙ ap (λ (x : List ℕ). Some (file x)) (sym (front ∙ take_all most all (omega (arith, count))));
    }

pub size_of_front : (tells : Bool) (item : Option Item) (size most found : ℕ) (H : List ℕ → Type 0) → size ≤ most → IsTrue tells → IsTold item size → HoldsFront tells item most H found → found ≡ size
size_of_front tells item size most found H l told (all, (there, count)) h =
    let front : h.bytes ≡ take most all = subst (λ (i : Option Item). IsFront i most h.bytes) there (h.front told) in
    sym h.size ∙ ap length (front ∙ take_all most all (omega (arith, count))) ∙ count
