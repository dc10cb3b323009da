-- The paths in a set, when a path is added.
use Rattle.std.proofs.Common.{◌≡◌, ℕ, Bool, true, false, cond, ◌||◌, List, [], ◌∷◌, ◌++◌, refl, ap, ◌∙◌, sym}
use Rattle.std.specs.Str.{bytes_eq}
use Rattle.std.specs.Prelude.{String, string_bytes}
use Rattle.std.specs.String.{string_cmp}
use Rattle.std.specs.BTreeSet.{BTreeSet, Updates}
use Rattle.std.specs.declared.alloc.Global.{Global}
use Rattle.std.proofs.lemmas.List.Folds.{list_any-append}
use Rattle.std.proofs.lemmas.Map.Text.{btree_set_updates_text}
use Rattle.lock_files.specs.Refused.{is_among}
use Rattle.lock_files.specs.Met.{HasTexts}

either : (a b : Bool) → (a || (b || false)) ≡ cond b true a
either true true = refl
either true false = refl
either false true = refl
either false false = refl

among_push : (texts : List (List ℕ)) (path q : List ℕ) → is_among q (texts ++ path ∷ []) ≡ cond (bytes_eq path q) true (is_among q texts)
among_push texts path q =
    list_any-append (λ p. bytes_eq p q) texts (path ∷ []) ∙ either (is_among q texts) (bytes_eq path q)

pub texts_push : (set more : BTreeSet (String Global)) (texts : List (List ℕ)) (copy : String Global) (path : List ℕ)
    → string_bytes copy ≡ path → HasTexts set texts → Updates string_cmp set more copy true → HasTexts more (texts ++ path ∷ [])
texts_push set more texts copy path same held updates = λ q.
    btree_set_updates_text (string_bytes copy) set more true updates q
    ∙ ap (λ v. cond (bytes_eq (string_bytes copy) q) true v) (held q)
    ∙ ap (λ k. cond (bytes_eq k q) true (is_among q texts)) same
    ∙ sym (among_push texts path q)
