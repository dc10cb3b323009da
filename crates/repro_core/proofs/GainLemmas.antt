-- What a list has grown by.
--     answer_on, answer_at_on             an answer that one turn gives is due of all turns
--     front_none, front_all, front_taken  a front of what is due: nothing of it, all of it, and what was put
--     gains_all, gains_free, gains_none   all of it, a front after a free answer, and nothing where nothing is due
--     gains_then, gains_at_then           what was taken before, and what the last turn has taken
--     jobs_gain_then                      the same of jobs, of which the last may be lacking
use Rattle.std.proofs.Common.{◌≡◌, ◌⊎◌, ℕ, Bool, true, false, List, [], ◌∷◌, ◌++◌, refl, sym, ap, ◌∙◌, inl, inr, append_assoc, Option, Some, Result, Ok, Err, IsTrue}
use Rattle.std.proofs.lemmas.Bool.{false≢true}
use Rattle.std.proofs.lemmas.List.{append-nil}
use Rattle.dvc_base.specs.declared.fault.Fault.{Fault}
use Rattle.dvc_base.specs.declared.fault.Fault.TheVariants.{NotFolder}
use Rattle.dvc_base.specs.Fault.{is_free}
use Rattle.dvc_base.specs.Answer.{IsAnswer, GainsFront, GainsAs, is_free_answer, Gains}
use Rattle.world_api.specs.Tree.{Tree}
use Rattle.world_api.specs.Calls.{Takes}
use Rattle.world_api.specs.declared.job.Job.{Job}
use Rattle.repro_laws.specs.Sound.{IsAnswerAt, GainsAt}
use Rattle.repro_core.specs.Turning.{IsNotFolder, LacksLast, JobsGain}

-- ---- answers

pub answer_on : (f : Fault) (a b : Option Fault) → (a ≡ Some f → b ≡ Some f) → IsAnswer (Some f) a → IsAnswer (Some f) b
answer_on f a b on (inl free) = inl free
answer_on f a b on (inr due) = inr (on due)

pub answer_at_on : (t : Tree) (f : Fault) (a b : Option Fault) → (a ≡ Some f → b ≡ Some f) → IsAnswerAt t (Some f) a → IsAnswerAt t (Some f) b
answer_at_on t f a b on (inl h) = inl (answer_on f a b on h)
answer_at_on t f a b on (inr barred) = inr barred

-- ---- fronts

pub front_none : {A : Type 0} (old whole : List A) → GainsFront old whole old
front_none old whole = record { front = []; back = whole; cut = refl; grown = sym (append-nil old) }

pub front_all : {A : Type 0} (old whole new : List A) → new ≡ old ++ whole → GainsFront old whole new
front_all old whole new e = record { front = whole; back = []; cut = sym (append-nil whole); grown = e }

-- what was put, whether or not it all was
pub front_taken : {T : Type 0} (old bytes new : List ℕ) (r : Result T Fault) → Takes old bytes new r → GainsFront old bytes new
front_taken old bytes new (Ok done) h = front_all old bytes new h
front_taken old bytes new (Err fault) h = record { front = h.0; back = h.1; cut = h.2; grown = h.3 }

-- ---- all, or a front after a free answer

gains_as : {A : Type 0} (free : Bool) (old whole new : List A) → new ≡ old ++ whole → GainsAs free old whole new
gains_as true old whole new e = front_all old whole new e
gains_as false old whole new e = e

pub gains_all : {A : Type 0} (got : Option Fault) (old whole new : List A) → new ≡ old ++ whole → Gains got old whole new
gains_all got old whole new e = gains_as (is_free_answer got) old whole new e

front_as : {A : Type 0} (free : Bool) (old whole new : List A) → GainsAs free old whole new → GainsFront old whole new
front_as true old whole new h = h
front_as false old whole new h = front_all old whole new h

-- in any case it is a front
pub gains_front : {A : Type 0} (got : Option Fault) (old whole new : List A) → Gains got old whole new → GainsFront old whole new
gains_front got old whole new h = front_as (is_free_answer got) old whole new h

free_as : {A : Type 0} (free : Bool) (old whole new : List A) → IsTrue free → GainsFront old whole new → GainsAs free old whole new
free_as true old whole new is h = h
free_as false old whole new is h = absurd (false≢true is)

pub gains_free : {A : Type 0} (f : Fault) (old whole new : List A) → IsTrue (is_free f) → GainsFront old whole new → Gains (Some f) old whole new
gains_free f old whole new is h = free_as (is_free f) old whole new is h

-- a refusal of which nothing is due
pub gains_none : {A : Type 0} (f : Fault) (due : Option Fault) (old whole : List A) → (due ≡ Some f → whole ≡ []) → IsAnswer (Some f) due → Gains (Some f) old whole old
gains_none f due old whole empty (inl free) = gains_free f old whole old free (front_none old whole)
gains_none f due old whole empty (inr e) =
    gains_all (Some f) old whole old (sym (append-nil old) ∙ ap (λ l. old ++ l) (sym (empty e)))

-- ---- one turn after others

pub front_then : {A : Type 0} (old done mid part more whole new : List A) → mid ≡ old ++ done → whole ≡ done ++ (part ++ more) → GainsFront mid part new → GainsFront old whole new
front_then old done mid part more whole new before cut h =
    record {
      front = done ++ h.front;
      back = h.back ++ more;
      cut = cut ∙ ap (λ l. done ++ (l ++ more)) h.cut ∙ ap (λ l. done ++ l) (append_assoc h.front h.back more) ∙ sym (append_assoc done h.front (h.back ++ more));
      grown = h.grown ∙ ap (λ l. l ++ h.front) before ∙ append_assoc old done h.front;
    }

all_then : {A : Type 0} (old done mid part whole new : List A) → mid ≡ old ++ done → whole ≡ done ++ part → new ≡ mid ++ part → new ≡ old ++ whole
all_then old done mid part whole new before cut h =
    h ∙ ap (λ l. l ++ part) before ∙ append_assoc old done part ∙ ap (λ l. old ++ l) (sym cut)

then_as : {A : Type 0} (free : Bool) (f : Fault) (due : Option Fault) (old done mid part more whole new : List A) → mid ≡ old ++ done → whole ≡ done ++ (part ++ more) → (due ≡ Some f → whole ≡ done ++ part) → IsTrue free ⊎ (due ≡ Some f) → GainsAs free mid part new → GainsAs free old whole new
then_as true f due old done mid part more whole new before cut last a h = front_then old done mid part more whole new before cut h
then_as false f due old done mid part more whole new before cut last (inl free) h = absurd (false≢true free)
then_as false f due old done mid part more whole new before cut last (inr e) h = all_then old done mid part whole new before (last e) h

-- after a free answer a front of all, and else all: the refusal is due, so nothing more is
pub gains_then : {A : Type 0} (f : Fault) (due : Option Fault) (old done mid part more whole new : List A) → mid ≡ old ++ done → whole ≡ done ++ (part ++ more) → (due ≡ Some f → whole ≡ done ++ part) → IsAnswer (Some f) due → Gains (Some f) mid part new → Gains (Some f) old whole new
gains_then f due old done mid part more whole new before cut last a h =
    then_as (is_free f) f due old done mid part more whole new before cut last a h

pub gains_at_then : {A : Type 0} (t : Tree) (f : Fault) (due : Option Fault) (old done mid part more whole new : List A) → mid ≡ old ++ done → whole ≡ done ++ (part ++ more) → (due ≡ Some f → whole ≡ done ++ part) → IsAnswerAt t (Some f) due → GainsAt t (Some f) mid part new → GainsAt t (Some f) old whole new
gains_at_then t f due old done mid part more whole new before cut last (inl a) (inl h) =
    inl (gains_then f due old done mid part more whole new before cut last a h)
gains_at_then t f due old done mid part more whole new before cut last (inr barred) (inl h) =
    inr (barred, front_then old done mid part more whole new before cut (gains_front (Some f) mid part new h))
gains_at_then t f due old done mid part more whole new before cut last a (inr h) =
    inr (h.0, front_then old done mid part more whole new before cut h.1)

-- ---- jobs

pub jobs_gain : (t : Tree) (got : Option Fault) (old whole new : List Job) → Gains got old whole new → JobsGain t got old whole new
jobs_gain t got old whole new h = inl (inl h)

no_folder_paid : (f : Fault) → IsNotFolder (Some f) → IsTrue (is_free f) → ⊥
no_folder_paid (NotFolder path) is free = absurd (false≢true free)
no_folder_paid _ is free = absurd is

lacks_then : (old done mid part whole new : List Job) → mid ≡ old ++ done → whole ≡ done ++ part → LacksLast mid part new → LacksLast old whole new
lacks_then old done mid part whole new before cut h =
    record {
      front = done ++ h.front;
      last = h.last;
      cut = cut ∙ ap (λ l. done ++ l) h.cut ∙ sym (append_assoc done h.front (h.last ∷ []));
      grown = h.grown ∙ ap (λ l. l ++ h.front) before ∙ append_assoc old done h.front;
    }

front_lacking : (old whole new : List Job) → LacksLast old whole new → GainsFront old whole new
front_lacking old whole new h = record { front = h.front; back = h.last ∷ []; cut = h.cut; grown = h.grown }

pub jobs_gain_then : (t : Tree) (f : Fault) (due : Option Fault) (old done mid part more whole new : List Job) → mid ≡ old ++ done → whole ≡ done ++ (part ++ more) → (due ≡ Some f → whole ≡ done ++ part) → IsAnswerAt t (Some f) due → JobsGain t (Some f) mid part new → JobsGain t (Some f) old whole new
jobs_gain_then t f due old done mid part more whole new before cut last a (inl h) =
    inl (gains_at_then t f due old done mid part more whole new before cut last a h)
jobs_gain_then t f due old done mid part more whole new before cut last (inl (inl free)) (inr h) =
    absurd (no_folder_paid f h.0 free)
jobs_gain_then t f due old done mid part more whole new before cut last (inl (inr e)) (inr h) =
    inr (h.0, lacks_then old done mid part whole new before (last e) h.1)
jobs_gain_then t f due old done mid part more whole new before cut last (inr barred) (inr h) =
    inl (inr (barred, front_then old done mid part more whole new before cut (front_lacking mid part new h.1)))
