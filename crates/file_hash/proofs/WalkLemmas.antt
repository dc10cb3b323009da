-- What a walk has gone over, entry by entry and name by name.
--     walks_none, walks_then      nothing yet, and more entries
--     walks_file, walks_folder    the branch of a file, and that of a folder
--     refusal_on                  a refusal in the middle refuses the whole
--     finds_..                    the files that were found lie apart
use Rattle.std.proofs.Common.{◌≡◌, ℕ, ◌+◌, List, [], ◌∷◌, ◌++◌, length, drop, refl, sym, ap, ◌∙◌, arith, append_assoc, Option, Some, None}
use Rattle.std.specs.Option.{option_or}
use Rattle.std.proofs.lemmas.List.{append-nil, length-append}
use Rattle.dvc_base.specs.Path.{Path}
use Rattle.dvc_base.specs.declared.limits.What.{What}
use Rattle.world_api.specs.Tree.{Item, folder, file}
use Rattle.file_hash.specs.Naming.{file_limit}
use Rattle.file_hash.specs.Walk.{walk_limit, found_one, found_in, sizes, Walks, IsAdded}
use Rattle.file_hash.specs.declared.walk.Found.{Found}
use Rattle.file_hash.specs.declared.walk.Met.{Met}

abbrev Entry : Type 0
Entry = Path × Item

-- ---- numbers

sum_regroup : (a b c : ℕ) → a + (b + c) ≡ (a + b) + c
sum_regroup a b c = omega arith

sum_append : (fs gs : List Found) → sizes (fs ++ gs) ≡ sizes fs + sizes gs
sum_append [] gs = omega arith
sum_append (f ∷ fs) gs = ap (λ k. f.size + k) (sum_append fs gs) ∙ sum_regroup f.size (sizes fs) (sizes gs)

found_append : (at : Path) (es fs : List Entry) → found_in at (es ++ fs) ≡ found_in at es ++ found_in at fs
found_append at [] fs = refl
found_append at (e ∷ es) fs = ap (λ x. found_one at e ++ x) (found_append at es fs) ∙ sym (append_assoc (found_one at e) (found_in at es) (found_in at fs))

or_none : (o q : Option What) → option_or o q ≡ None → (o ≡ None) × (q ≡ None)
or_none None q h = (refl, h)
or_none (Some x) q h = absurd (cc)

-- the limit of two lists, one after another
limit_append : (at : Path) (n size : ℕ) (es fs : List Entry) → walk_limit n size es ≡ None → walk_limit n size (es ++ fs) ≡ walk_limit (n + length (found_in at es)) (size + sizes (found_in at es)) fs
limit_append at n size [] fs h = ap (λ k. walk_limit k size fs) (zero_more n) ∙ ap (λ k. walk_limit (n + 0) k fs) (zero_more size)
  where
    zero_more : (k : ℕ) → k ≡ k + 0
    zero_more k = omega arith
limit_append at n size ((path, folder) ∷ es) fs h = limit_append at n size es fs h
limit_append at n size ((path, file bytes) ∷ es) fs h =
    let parts = or_none (file_limit n size (length bytes)) (walk_limit (n + 1) (size + length bytes) es) h in
    ap (λ o. option_or o (walk_limit (n + 1) (size + length bytes) (es ++ fs))) parts.0
    ∙ limit_append at (n + 1) (size + length bytes) es fs parts.1
    ∙ ap (λ k. walk_limit k ((size + length bytes) + sizes (found_in at es)) fs) (counted n (length bytes) (drop (length at) path) (found_in at es)) ∙ ap (λ k. walk_limit (n + length (found_in at ((path, file bytes) ∷ es))) k fs) (summed size (length bytes) (sizes (found_in at es)))
  where
    counted : (n m : ℕ) (p : Path) (fs : List Found) → (n + 1) + length fs ≡ n + length ((record { path = p; size = m } ∷ []) ++ fs)
    counted n m p fs = omega (arith, length-append (record { path = p; size = m } ∷ []) fs)

    summed : (a b c : ℕ) → (a + b) + c ≡ a + (b + c)
    summed a b c = omega arith

-- ---- walks

pub walks_none : (at : Path) (m : Met) → Walks at [] m m
walks_none at m = record { none = refl; found = sym (append-nil m.found); size = omega arith }

pub next_limit : (at : Path) (es fs : List Entry) (a b : Met) → Walks at es a b → walk_limit (length a.found) a.size (es ++ fs) ≡ walk_limit (length b.found) b.size fs
next_limit at es fs a b h =
    let count : length a.found + length (found_in at es) ≡ length b.found = sym (length-append a.found (found_in at es)) ∙ ap length (sym h.found) in
    limit_append at (length a.found) a.size es fs h.none
    ∙ ap (λ k. walk_limit k (a.size + sizes (found_in at es)) fs) count ∙ ap (λ k. walk_limit (length b.found) k fs) (sym h.size)

pub walks_then : (at : Path) (es fs : List Entry) (a b c : Met) → Walks at es a b → Walks at fs b c → Walks at (es ++ fs) a c
walks_then at es fs a b c h k =
    record {
      none = next_limit at es fs a b h ∙ k.none;
      found =
          k.found ∙ ap (λ x. x ++ found_in at fs) h.found ∙ append_assoc a.found (found_in at es) (found_in at fs)
          ∙ ap (λ x. a.found ++ x) (sym (found_append at es fs));
      size = omega (arith, k.size, h.size, ap sizes (found_append at es fs), sum_append (found_in at es) (found_in at fs));
    }

-- a file, and nothing below it
pub walks_file : (at path q : Path) (bytes : List ℕ) (size : ℕ) (a b : Met) → drop (length at) q ≡ path → length bytes ≡ size → IsAdded a path size b → Walks at ((q, file bytes) ∷ []) a b
walks_file at path q bytes size a b is sized h =
    record {
      none = ap (λ k. option_or (file_limit (length a.found) a.size k) None) sized ∙ ap (λ o. option_or o None) h.none;
      found = h.found ∙ ap (λ x. a.found ++ record { path = x; size = size } ∷ []) (sym is) ∙ ap (λ k. a.found ++ record { path = drop (length at) q; size = k } ∷ []) (sym sized);
      size = omega (arith, h.size, sized);
    }

-- a folder, with what lies below it
pub walks_folder : (at q : Path) (es : List Entry) (a b : Met) → Walks at es a b → Walks at ((q, folder) ∷ es) a b
walks_folder at q es a b h = record { none = h.none; found = h.found; size = h.size }

some_limit : (o q : Option What) (what : What) → o ≡ Some what → option_or o q ≡ Some what
some_limit None q what e = absurd (cc)
some_limit (Some x) q what e = e

-- a file that passes a limit
pub limit_file : (n size : ℕ) (q : Path) (bytes : List ℕ) (told : ℕ) (es : List Entry) (what : What) → length bytes ≡ told → file_limit n size told ≡ Some what → walk_limit n size ((q, file bytes) ∷ es) ≡ Some what
limit_file n size q bytes told es what sized h =
    some_limit (file_limit n size (length bytes)) (walk_limit (n + 1) (size + length bytes) es) what (ap (file_limit n size) sized ∙ h)

-- a limit that is passed early is passed by more
pub limit_more : (n size : ℕ) (es fs : List Entry) (what : What) → walk_limit n size es ≡ Some what → walk_limit n size (es ++ fs) ≡ Some what
limit_more n size [] fs what h = absurd (cc)
limit_more n size ((path, folder) ∷ es) fs what h = limit_more n size es fs what h
limit_more n size ((path, file bytes) ∷ es) fs what h =
    choose (file_limit n size (length bytes)) (walk_limit (n + 1) (size + length bytes) es) (walk_limit (n + 1) (size + length bytes) (es ++ fs)) what (limit_more (n + 1) (size + length bytes) es fs what) h
  where
    choose : (m o q : Option What) (what : What) → (o ≡ Some what → q ≡ Some what) → option_or m o ≡ Some what → option_or m q ≡ Some what
    choose None o q what f h = f h
    choose (Some x) o q what f h = h
