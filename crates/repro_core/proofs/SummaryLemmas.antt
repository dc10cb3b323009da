-- The counts of turns, and one turn more.
--     Counted                       the turns of the first stages have ended and were counted
--     counted_none, counted_more    before the first turn, and after one turn more
--     spot_counted                  they are those of the place where the next turn begins
--     taken_of                      what they are of all stages
--     total_more                    one more in all
use Rattle.std.proofs.Common.{◌≡◌, ℕ, ◌+◌, ◌<◌, None, Bool, true, false, if◌then◌else◌, List, [], ◌∷◌, ◌++◌, length, take, get_or, refl, ap, subst, ◌∙◌, IsTrue, arith}
use Rattle.std.specs.List.{filter}
use Rattle.std.proofs.lemmas.List.{length-append}
use Rattle.std.proofs.lemmas.List.Elements.{filter-append}
use Rattle.world_api.specs.Tree.{IsTree}
use Rattle.world_api.specs.Effect.{Effect}
use Rattle.world_api.specs.History.{History}
use Rattle.lock_files.specs.Book.{Lock}
use Rattle.repro_laws.specs.Due.{Due, lines_of}
use Rattle.repro_laws.specs.Headline.{IsPlanned}
use Rattle.repro_laws.specs.Moments.{is_own}
use Rattle.repro_laws.specs.declared.stage.Stage.{Stage}
use Rattle.repro_laws.specs.declared.stage.Flags.{Flags}
use Rattle.repro_laws.specs.declared.stage.Choice.{Choice}
use Rattle.repro_laws.specs.declared.stage.Choice.TheVariants.{Skip, Restore, Run}
use Rattle.repro_core.specs.Summaries.{is_choice, has_choice, count_of, summary_of, with_choice, total}
use Rattle.repro_core.specs.Turning.{Turned, AreTaken}
use Rattle.repro_core.specs.declared.summary.Summary.{Summary}
use Rattle.repro_core.proofs.SoFarLemmas.{SoFar, so_far_none, Spot, IsSpot, so_far_more}
use Rattle.repro_core.proofs.ReproLemmas.{spot_at}

-- ---- counts

count_at : (choice : Choice) (ds : List Due) (d : Due) → count_of choice (ds ++ d ∷ []) ≡ count_of choice ds + count_of choice (d ∷ [])
count_at choice ds d =
    ap length (filter-append (has_choice choice) ds (d ∷ [])) ∙ length-append (filter (has_choice choice) ds) (filter (has_choice choice) (d ∷ []))

one_if : (d : Due) (b : Bool) → length (if b then d ∷ [] else []) ≡ (if b then 1 else 0)
one_if d true = refl
one_if d false = refl

grown : (choice chosen : Choice) (ds : List Due) (d : Due) → d.choice ≡ chosen → count_of choice (ds ++ d ∷ []) ≡ count_of choice ds + (if is_choice choice chosen then 1 else 0)
grown choice chosen ds d e =
    count_at choice ds d ∙ ap (λ (n : ℕ). count_of choice ds + n) (one_if d (is_choice choice d.choice) ∙ ap (λ (c : Choice). if is_choice choice c then 1 else 0) e)

and_none : (m n : ℕ) → m ≡ n + 0 → m ≡ n
and_none m n e = omega (e, arith)

abbrev counts : ℕ → ℕ → ℕ → Summary
counts run restored skipped = record { run = run; restored = restored; skipped = skipped }

summary_same : (a b c x y z : ℕ) → x ≡ a → y ≡ b → z ≡ c → counts a b c ≡ counts x y z
summary_same a b c x y z e f g = rw (e, f, g) refl

summary_more : (ds : List Due) (d : Due) (choice : Choice) → d.choice ≡ choice → with_choice choice (summary_of ds) ≡ summary_of (ds ++ d ∷ [])
summary_more ds d Run e =
    summary_same _ _ _ _ _ _ (grown Run Run ds d e) (and_none _ _ (grown Restore Run ds d e)) (and_none _ _ (grown Skip Run ds d e))
summary_more ds d Restore e =
    summary_same _ _ _ _ _ _ (and_none _ _ (grown Run Restore ds d e)) (grown Restore Restore ds d e) (and_none _ _ (grown Skip Restore ds d e))
summary_more ds d Skip e =
    summary_same _ _ _ _ _ _ (and_none _ _ (grown Run Skip ds d e)) (and_none _ _ (grown Restore Skip ds d e)) (grown Skip Skip ds d e)

pub total_more : (choice : Choice) (s : Summary) → total (with_choice choice s) ≡ total s + 1
total_more Run s = omega arith
total_more Restore s = omega arith
total_more Skip s = omega arith

-- ---- the turns so far

abbrev pub Counted : Flags → Effect → List Stage → Lock → Lock → History → History → Bool → List ℕ → List ℕ → Summary → Type 0
Counted flags effect done start lock a k tells before taken summary =
    (so : SoFar flags effect done start lock a k tells before taken) × (summary ≡ summary_of so.ended)

pub counted_none : (flags : Flags) (effect : Effect) (lock : Lock) (a : History) (tells : Bool) (before : List ℕ) → Counted flags effect [] lock lock a a tells before before (record { run = 0; restored = 0; skipped = 0 })
unfolding so_far_none
counted_none flags effect lock a tells before = (so_far_none flags effect lock a tells before, refl)

pub counted_more : (x : Spot) (at : IsSpot x) (n : History) (choice : Choice) (new : Lock) (taken : List ℕ) → Turned x.flags x.effect x.stage choice x.lock new None x.reached n
    → (IsTrue x.tells → taken ≡ x.mid ++ lines_of x.stage choice) → (summary more : Summary) → summary ≡ summary_of at.so_far.ended → more ≡ with_choice choice summary
    → Counted x.flags x.effect (x.done ++ x.stage ∷ []) x.start new x.begin n x.tells x.before taken more
unfolding so_far_more
counted_more x at n choice new taken turned lines summary more so e =
    (so_far_more x at n choice new taken turned lines, e ∙ ap (with_choice choice) so ∙ summary_more at.so_far.ended (turned.turn refl).due choice (turned.turn refl).chosen)

pub spot_counted : (flags : Flags) (all : List Stage) (i : ℕ) (s : Stage) (start lock : Lock) (a k : History) (tells : Bool) (before mid : List ℕ) (effect : Effect)
    (within : i < length all) (here : s ≡ get_or all i s) (plan : IsPlanned is_own all) (tree : IsTree a.present.tree) (none : flags.run_cache ≡ false)
    (so : SoFar flags effect (take i all) start lock a k tells before mid) (summary : Summary) → summary ≡ summary_of so.ended
    → summary ≡ summary_of (spot_at flags all i s start lock a k tells before mid effect within here plan tree none so).so_far.ended
unfolding spot_at
spot_counted flags all i s start lock a k tells before mid effect within here plan tree none so summary e = e

-- ---- of all stages

pub taken_of : (flags : Flags) (effect : Effect) (stages all : List Stage) (start lock : Lock) (a n : History) (tells : Bool) (before taken : List ℕ) (summary : Summary) → stages ≡ all
    → Counted flags effect stages start lock a n tells before taken summary
    → (turns : AreTaken flags effect all start lock a.present n.present) × (summary ≡ summary_of turns.ended)
taken_of flags effect stages all start lock a n tells before taken summary whole counted =
    subst (λ (l : List Stage). (turns : AreTaken flags effect l start lock a.present n.present) × (summary ≡ summary_of turns.ended)) whole
    (record { ended = counted.0.ended; its = counted.0.its; turns = counted.0.turns; ran = counted.0.ran }, counted.1)
