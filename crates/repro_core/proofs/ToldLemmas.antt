-- The lines of turns, over a world that tells nothing.
--     IsTold                    the lines of a choice for each of the first stages were taken
--     told_none, told_more      before the first turn, and after one turn more
--     told_all, told_halt       where all turns have ended, and where the last one was refused
use Rattle.std.proofs.Common.{◌≡◌, ℕ, List, [], ◌∷◌, ◌++◌, map, refl, sym, ap, ◌∙◌, append_assoc, append-nil, Some, None}
use Rattle.std.proofs.lemmas.List.{map-append}
use Rattle.dvc_base.specs.Answer.{GainsFront}
use Rattle.dvc_base.specs.declared.fault.Fault.{Fault}
use Rattle.repro_laws.specs.Due.{lines_of}
use Rattle.repro_laws.specs.Sound.{choice_lines, IsReport}
use Rattle.repro_laws.specs.declared.stage.Stage.{Stage}
use Rattle.repro_laws.specs.declared.stage.Choice.{Choice}
use Rattle.repro_laws.specs.declared.stage.Choice.TheVariants.{Run}

abbrev stages_in : List (Stage × Choice) → List Stage
stages_in cs = map (λ c. c.0) cs

choice_append : (xs ys : List (Stage × Choice)) → choice_lines (xs ++ ys) ≡ choice_lines xs ++ choice_lines ys
choice_append [] ys = refl
choice_append (x ∷ xs) ys =
    ap (λ (l : List ℕ). lines_of x.0 x.1 ++ l) (choice_append xs ys) ∙ sym (append_assoc (lines_of x.0 x.1) (choice_lines xs) (choice_lines ys))

stages_on : (cs ds : List (Stage × Choice)) (done : List Stage) → stages_in cs ≡ done → stages_in (cs ++ ds) ≡ done ++ stages_in ds
stages_on cs ds done each =
    map-append (λ (c : Stage × Choice). c.0) cs ds ∙ ap (λ (l : List Stage). l ++ stages_in ds) each

pub record IsTold (done : List Stage) (before taken : List ℕ) : Type 0 where
  pub choices : List (Stage × Choice)
  pub each : map (λ c. c.0) choices ≡ done
  pub lines : taken ≡ before ++ choice_lines choices

pub told_none : (before : List ℕ) → IsTold [] before before
told_none before = record { choices = []; each = refl; lines = sym (append-nil before) }

pub told_more : (done : List Stage) (s : Stage) (choice : Choice) (before mid taken : List ℕ) → IsTold done before mid → taken ≡ mid ++ lines_of s choice → IsTold (done ++ s ∷ []) before taken
told_more done s choice before mid taken h e =
    let one : List (Stage × Choice) = (s, choice) ∷ [] in
    let old = choice_lines h.choices in
    record {
      choices = h.choices ++ one;
      each = stages_on h.choices one done h.each;
      lines =
          e ∙ ap (λ (l : List ℕ). l ++ lines_of s choice) h.lines ∙ append_assoc before old (lines_of s choice)
          ∙ ap (λ (l : List ℕ). before ++ (old ++ l)) (sym (append-nil (lines_of s choice))) ∙ ap (λ (l : List ℕ). before ++ l) (sym (choice_append h.choices one));
    }

pub told_all : (stages : List Stage) (before taken : List ℕ) → IsTold stages before taken → IsReport stages None before taken
told_all stages before taken h =
    record {
      choices = h.choices;
      each = h.each;
      taken = record { front = choice_lines h.choices; back = []; cut = sym (append-nil (choice_lines h.choices)); grown = h.lines };
      whole = λ e. h.lines;
    }

to_run : List Stage → List (Stage × Choice)
to_run [] = []
to_run (s ∷ ss) = (s, Run) ∷ to_run ss

to_run_stages : (ss : List Stage) → stages_in (to_run ss) ≡ ss
unfolding to_run
to_run_stages [] = refl
to_run_stages (s ∷ ss) = ap (λ (l : List Stage). s ∷ l) (to_run_stages ss)

-- the stages after the one that was refused may be taken to run
pub told_halt : (done : List Stage) (s : Stage) (choice : Choice) (rest : List Stage) (fault : Fault) (before mid taken : List ℕ) → IsTold done before mid → GainsFront mid (lines_of s choice) taken → IsReport (done ++ s ∷ rest) (Some fault) before taken
told_halt done s choice rest fault before mid taken h g =
    let last : List (Stage × Choice) = (s, choice) ∷ to_run rest in
    let later = choice_lines (to_run rest) in
    let old = choice_lines h.choices in
    record {
      choices = h.choices ++ last;
      each = stages_on h.choices last done h.each ∙ ap (λ (l : List Stage). done ++ s ∷ l) (to_run_stages rest);
      taken = record {
        front = old ++ g.front;
        back = g.back ++ later;
        cut = choice_append h.choices last ∙ ap (λ (l : List ℕ). old ++ (l ++ later)) g.cut ∙ ap (λ (l : List ℕ). old ++ l) (append_assoc g.front g.back later) ∙ sym (append_assoc old g.front (g.back ++ later));
        grown = g.grown ∙ ap (λ (l : List ℕ). l ++ g.front) h.lines ∙ append_assoc before old g.front;
      };
      whole = λ e. absurd (cc);
    }
