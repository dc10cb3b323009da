-- Laws of values, and of what `kind` answers.
--     value_of_file, value_same     the value where a file stands is its content, whatever else the tree has
--     file_of_kind, missing_of_kind, folder_of_kind     what an answer of `kind` says of the tree
--     is_in_any-..                  of paths at or below one of several
use Rattle.std.proofs.Common.{◌≡◌, ℕ, true, false, ◌⊎◌, inl, inr, ◌<◌, List, [], ◌∷◌, ◌++◌, length, get_or, zero, suc, refl, sym, ap, ◌∙◌, arith, Option, Some, None}
use Rattle.std.proofs.lemmas.Bool.{or_parts, or_left, or_right, or_cases, false≢true}
use Rattle.dvc_base.specs.Path.{Path, under}
use Rattle.world_api.specs.Tree.{Tree, Item, folder, file, content, item_at, value_of, value_at}
use Rattle.world_api.specs.Effect.{is_in_any}
use Rattle.world_api.specs.Calls.{kind_of}
use Rattle.world_api.specs.declared.files.Kind.TheVariants.{Missing, File, Folder}

pub value_of_file : (t : Tree) (p : Path) (bytes : List ℕ) → item_at t p ≡ Some (file bytes) → value_at t p ≡ content bytes
value_of_file t p bytes e = ap (value_of t p) e

-- a file's value depends on nothing else in the tree
pub value_same : (t u : Tree) (p : Path) (bytes : List ℕ) → item_at t p ≡ Some (file bytes) → item_at u p ≡ item_at t p → value_at u p ≡ value_at t p
value_same t u p bytes e same = value_of_file u p bytes (same ∙ e) ∙ sym (value_of_file t p bytes e)

pub file_of_kind : (o : Option Item) (size : ℕ) → File size ≡ kind_of o → (bytes : List ℕ) × (o ≡ Some (file bytes))
file_of_kind None size e = absurd (cc)
file_of_kind (Some folder) size e = absurd (cc)
file_of_kind (Some (file bytes)) size e = (bytes, refl)

pub missing_of_kind : (o : Option Item) → Missing ≡ kind_of o → o ≡ None
missing_of_kind None e = refl
missing_of_kind (Some folder) e = absurd (cc)
missing_of_kind (Some (file bytes)) e = absurd (cc)

pub folder_of_kind : (o : Option Item) → Folder ≡ kind_of o → o ≡ Some folder
folder_of_kind None e = absurd (cc)
folder_of_kind (Some folder) e = refl
folder_of_kind (Some (file bytes)) e = absurd (cc)

-- ---- `is_in_any`

pub is_in_any-head : (out : Path) (outs : List Path) (p : Path) → under out p ≡ true → is_in_any (out ∷ outs) p ≡ true
is_in_any-head out outs p h = or_left (under out p) (is_in_any outs p) h

pub is_in_any-tail : (out : Path) (outs : List Path) (p : Path) → is_in_any outs p ≡ true → is_in_any (out ∷ outs) p ≡ true
is_in_any-tail out outs p h = or_right (under out p) (is_in_any outs p) h

pub is_in_any-outside : (out : Path) (outs : List Path) (p : Path) → is_in_any (out ∷ outs) p ≡ false → (under out p ≡ false) × (is_in_any outs p ≡ false)
is_in_any-outside out outs p h = or_parts (under out p) (is_in_any outs p) h

-- what lies outside all outputs lies outside the one at an index
pub is_in_any-at : (outs : List Path) (i : ℕ) (out p : Path) → i < length outs → out ≡ get_or outs i out → is_in_any outs p ≡ false → under out p ≡ false
is_in_any-at [] i out p l e h = absurd (omega arith)
is_in_any-at (o ∷ outs) zero out p l e h =
    ap (λ (q : Path). under q p) e ∙ (is_in_any-outside o outs p h).0
is_in_any-at (o ∷ outs) (suc i) out p l e h =
    is_in_any-at outs i out p (omega arith) e (is_in_any-outside o outs p h).1

pub is_in_any-push : (outs : List Path) (out p : Path) → is_in_any (outs ++ out ∷ []) p ≡ true → (is_in_any outs p ≡ true) ⊎ (under out p ≡ true)
is_in_any-push [] out p h =
    elim (or_cases (under out p) false h) [ inl e ↦ inr e | inr e ↦ absurd (false≢true e) ]
is_in_any-push (o ∷ outs) out p h =
    elim (or_cases (under o p) (is_in_any (outs ++ out ∷ []) p) h) [
      | inl e ↦ inl (is_in_any-head o outs p e)
      | inr e ↦
          elim (is_in_any-push outs out p e) [ inl f ↦ inl (is_in_any-tail o outs p f) | inr f ↦ inr f ]
    ]
