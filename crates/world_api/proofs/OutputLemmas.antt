-- Laws of what an output takes, where bytes are put one after another.
--     takes_stop      a call has stopped in the first of them
--     takes_later     the first were taken, and a call puts the rest
use Rattle.std.proofs.Common.{◌≡◌, ℕ, List, ◌++◌, sym, ap, ◌∙◌, append_assoc, Result, Ok, Err, IsErr}
use Rattle.std.proofs.lemmas.Bool.{false≢true}
use Rattle.world_api.specs.Calls.{Takes}

-- a front of the bytes was taken
abbrev pub IsFront : List ℕ → List ℕ → List ℕ → Type 0
IsFront old bytes new = (front : List ℕ) × (back : List ℕ) × (bytes ≡ front ++ back) × (new ≡ old ++ front)

pub takes_stop : {T E : Type 0} (old bytes rest whole new : List ℕ) (r : Result T E) → whole ≡ bytes ++ rest → IsErr r → IsFront old bytes new → Takes old whole new r
takes_stop old bytes rest whole new (Ok done) e stop h = absurd (false≢true stop)
takes_stop old bytes rest whole new (Err why) e stop h = (
  h.0,
  h.1 ++ rest,
  e ∙ ap (λ (x : List ℕ). x ++ rest) h.2 ∙ append_assoc h.0 h.1 rest,
  h.3,
)

pub takes_later : {T E : Type 0} (old first mid bytes whole new : List ℕ) (r : Result T E) → mid ≡ old ++ first → whole ≡ first ++ bytes → Takes mid bytes new r → Takes old whole new r
takes_later old first mid bytes whole new (Ok done) m e h =
    h ∙ ap (λ (x : List ℕ). x ++ bytes) m ∙ append_assoc old first bytes ∙ ap (λ (x : List ℕ). old ++ x) (sym e)
takes_later old first mid bytes whole new (Err why) m e h = (
  first ++ h.0,
  h.1,
  e ∙ ap (λ (x : List ℕ). first ++ x) h.2 ∙ sym (append_assoc first h.0 h.1),
  h.3 ∙ ap (λ (x : List ℕ). x ++ h.0) m ∙ append_assoc old first h.0,
)

-- the bytes of a call that has stopped come after others, and before the rest
pub takes_middle : {T E : Type 0} (old first mid bytes rest whole new : List ℕ) (r : Result T E) → mid ≡ old ++ first → whole ≡ first ++ (bytes ++ rest) → IsErr r → IsFront mid bytes new → Takes old whole new r
takes_middle old first mid bytes rest whole new (Ok done) m e stop h = absurd (false≢true stop)
takes_middle old first mid bytes rest whole new (Err why) m e stop h = (
  first ++ h.0,
  h.1 ++ rest,
  e ∙ ap (λ (x : List ℕ). first ++ (x ++ rest)) h.2 ∙ ap (λ (x : List ℕ). first ++ x) (append_assoc h.0 h.1 rest) ∙ sym (append_assoc first h.0 (h.1 ++ rest)),
  h.3 ∙ ap (λ (x : List ℕ). x ++ h.0) m ∙ append_assoc old first h.0,
)
