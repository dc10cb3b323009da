-- What a set leaves of a lock.
--     entry_of-set                    the entry under a name after a set
--     others_of-set, truthful_set     what a set leaves
use Rattle.std.proofs.Common.{◌≡◌, ℕ, Bool, true, false, cond, List, [], ◌∷◌, refl, sym, ap, subst, ◌∙◌, inl, inr, Option, Some}
use Rattle.std.specs.Prelude.{bytes_eq}
use Rattle.std.proofs.lemmas.Bool.{both_ways, cases_Bool, cond-true, cond-false}
use Rattle.std.proofs.lemmas.Option.{same_Some}
use Rattle.world_api.specs.Effect.{Effect}
use Rattle.world_api.specs.History.{Book}
use Rattle.lock_files.specs.declared.entry.Entry.{Entry}
use Rattle.lock_files.specs.Book.{Lock, entry_of, set}
use Rattle.repro_laws.specs.Entries.{IsTrueEntry}
use Rattle.repro_laws.specs.Lock.{is_among, others_of, IsTruthful}
use Rattle.repro_laws.proofs.SameLemmas.{bytes_same, bytes_itself}

-- ---- a set

twice : (b : Bool) (x y z : Option Entry) → cond b x z ≡ cond b x (cond b y z)
twice true x y z = refl
twice false x y z = refl

swap : (a b : Bool) (x y z : Option Entry) → (a ≡ true → b ≡ true → ⊥) → cond a x (cond b y z) ≡ cond b y (cond a x z)
swap true true x y z h = absurd (h refl refl)
swap true false x y z h = refl
swap false b x y z h = refl

set_here : (e : List ℕ × Entry) (es : Lock) (name : List ℕ) (x : Entry) → bytes_eq e.0 name ≡ true → set (e ∷ es) name x ≡ (name, x) ∷ es
set_here e es name x h = cond-true (bytes_eq e.0 name) ((name, x) ∷ es) (e ∷ set es name x) h

set_later : (e : List ℕ × Entry) (es : Lock) (name : List ℕ) (x : Entry) → bytes_eq e.0 name ≡ false → set (e ∷ es) name x ≡ e ∷ set es name x
set_later e es name x h = cond-false (bytes_eq e.0 name) ((name, x) ∷ es) (e ∷ set es name x) h

apart_names : (a b k : List ℕ) → bytes_eq a b ≡ false → bytes_eq a k ≡ true → bytes_eq b k ≡ true → ⊥
apart_names a b k h e f =
    let same : a ≡ b = bytes_same a k e ∙ sym (bytes_same b k f) in
    both_ways (bytes_eq a b) h (subst (λ (x : List ℕ). bytes_eq a x ≡ true) same (bytes_itself a))

pub entry_of-set : (lock : Lock) (name : List ℕ) (x : Entry) (k : List ℕ) → entry_of (set lock name x) k ≡ cond (bytes_eq name k) (Some x) (entry_of lock k)
entry_of-set [] name x k = refl
entry_of-set (e ∷ es) name x k =
    elim (cases_Bool (bytes_eq e.0 name)) [
      | inl h ↦
          ap (λ (l : Lock). entry_of l k) (set_here e es name x h) ∙ twice (bytes_eq name k) (Some x) (Some e.1) (entry_of es k) ∙ ap (λ (a : List ℕ). cond (bytes_eq name k) (Some x) (cond (bytes_eq a k) (Some e.1) (entry_of es k))) (sym (bytes_same e.0 name h))
      | inr h ↦
          ap (λ (l : Lock). entry_of l k) (set_later e es name x h) ∙ ap (λ (o : Option Entry). cond (bytes_eq e.0 k) (Some e.1) o) (entry_of-set es name x k) ∙ swap (bytes_eq e.0 k) (bytes_eq name k) (Some e.1) (Some x) (entry_of es k) (apart_names e.0 name k h)
    ]

pub entry_of-set_same : (lock : Lock) (name : List ℕ) (x : Entry) → entry_of (set lock name x) name ≡ Some x
entry_of-set_same lock name x =
    entry_of-set lock name x name ∙ cond-true (bytes_eq name name) (Some x) (entry_of lock name) (bytes_itself name)

pub entry_of-set_other : (lock : Lock) (name : List ℕ) (x : Entry) (k : List ℕ) → bytes_eq name k ≡ false → entry_of (set lock name x) k ≡ entry_of lock k
entry_of-set_other lock name x k h =
    entry_of-set lock name x k ∙ cond-false (bytes_eq name k) (Some x) (entry_of lock k) h

-- entries under other names stay, and in place
pub others_of-set : (names : List (List ℕ)) (lock : Lock) (name : List ℕ) (x : Entry) → is_among names name ≡ true → others_of names (set lock name x) ≡ others_of names lock
others_of-set names [] name x among = cond-true (is_among names name) [] ((name, x) ∷ []) among
others_of-set names (e ∷ es) name x among =
    elim (cases_Bool (bytes_eq e.0 name)) [
      | inl h ↦
          ap (others_of names) (set_here e es name x h) ∙ cond-true (is_among names name) (others_of names es) ((name, x) ∷ others_of names es) among ∙ sym (cond-true (is_among names e.0) (others_of names es) (e ∷ others_of names es) (ap (is_among names) (bytes_same e.0 name h) ∙ among))
      | inr h ↦
          ap (others_of names) (set_later e es name x h) ∙ ap (λ (l : Lock). cond (is_among names e.0) l (e ∷ l)) (others_of-set names es name x among)
    ]

pub truthful_set : (book : Book) (effect : Effect) (lock : Lock) (name : List ℕ) (x : Entry) → IsTruthful book effect lock → IsTrueEntry book effect x → IsTruthful book effect (set lock name x)
truthful_set book effect lock name x truthful holds k e there =
    elim (cases_Bool (bytes_eq name k)) [
      | inl h ↦
          let same : Some x ≡ Some e = sym (entry_of-set lock name x k ∙ cond-true (bytes_eq name k) (Some x) (entry_of lock k) h) ∙ there in
          subst (IsTrueEntry book effect) (same_Some x e same) holds
      | inr h ↦ truthful k e (sym (entry_of-set_other lock name x k h) ∙ there)
    ]
