-- The stages at some places.
--     place_none, outs_none        a place at which no stage stands adds none, and no output
--     stages_more, outs_more       the stages at one more place, and their outputs
--     reads_none, reads_some, reads_more    the same of what they read
use Rattle.std.proofs.Common.{◌≡◌, ℕ, ◌+◌, ◌<◌, List, [], ◌∷◌, ◌++◌, length, map, take, get_or, Option, Some, None, sym, ap, ◌∙◌, slice_get, append-nil}
use Rattle.std.specs.List.{cons_option, flat_map}
use Rattle.std.proofs.lemmas.List.{take_more, map-append}
use Rattle.std.proofs.lemmas.List.Elements.{filter-append, filter_map-append}
use Rattle.std.proofs.lemmas.Grind.{flat_map-append}
use Rattle.dvc_base.specs.Path.{Path}
use Rattle.stage_schema.specs.declared.stage.Stage.{Stage as Written}
use Rattle.repro_laws.specs.declared.stage.Stage.{Stage}
use Rattle.stage_graph.specs.Paths.{stage_outs, needs}
use Rattle.stage_plan.specs.Plan.{stage_of, has_turn, with_turns, all_outs, stages_at, reads_at}

pub place_none : (outs : List Path) (written : List Written) (n : ℕ) (old : List Stage) → slice_get written n ≡ None →
    old ≡ old ++ map (stage_of outs) (with_turns (stages_at written (n ∷ [])))
place_none outs written n old missing =
    sym (append-nil old) ∙ ap (λ (o : Option Written). old ++ map (stage_of outs) (with_turns (cons_option o []))) (sym missing)

pub stages_more : (outs : List Path) (written : List Written) (ns : List ℕ) (i : ℕ) → i < length ns →
    map (stage_of outs) (with_turns (stages_at written (take (i + 1) ns)))
    ≡ map (stage_of outs) (with_turns (stages_at written (take i ns))) ++ map (stage_of outs) (with_turns (stages_at written (get_or ns i 0 ∷ [])))
stages_more outs written ns i inside =
    let before = stages_at written (take i ns) in
    let next = stages_at written (get_or ns i 0 ∷ []) in
    ap (λ (ms : List ℕ). map (stage_of outs) (with_turns (stages_at written ms))) (take_more ns i 0 inside)
    ∙ ap (λ (ss : List Written). map (stage_of outs) (with_turns ss)) (filter_map-append (slice_get written) (take i ns) (get_or ns i 0 ∷ []))
    ∙ ap (map (stage_of outs)) (filter-append has_turn before next)
    ∙ map-append (stage_of outs) (with_turns before) (with_turns next)

pub outs_none : (written : List Written) (n : ℕ) (old : List Path) → slice_get written n ≡ None →
    old ≡ old ++ all_outs (with_turns (stages_at written (n ∷ [])))
outs_none written n old missing =
    sym (append-nil old) ∙ ap (λ (o : Option Written). old ++ all_outs (with_turns (cons_option o []))) (sym missing)

pub outs_more : (written : List Written) (ns : List ℕ) (i : ℕ) → i < length ns →
    all_outs (with_turns (stages_at written (take (i + 1) ns)))
    ≡ all_outs (with_turns (stages_at written (take i ns))) ++ all_outs (with_turns (stages_at written (get_or ns i 0 ∷ [])))
outs_more written ns i inside =
    let before = stages_at written (take i ns) in
    let next = stages_at written (get_or ns i 0 ∷ []) in
    ap (λ (ms : List ℕ). all_outs (with_turns (stages_at written ms))) (take_more ns i 0 inside)
    ∙ ap (λ (ss : List Written). all_outs (with_turns ss)) (filter_map-append (slice_get written) (take i ns) (get_or ns i 0 ∷ []))
    ∙ ap all_outs (filter-append has_turn before next)
    ∙ flat_map-append stage_outs (with_turns before) (with_turns next)

pub reads_none : (written : List Written) (n : ℕ) (old : List Path) → slice_get written n ≡ None → old ≡ old ++ reads_at written (n ∷ [])
reads_none written n old missing =
    sym (append-nil old) ∙ ap (λ (o : Option Written). old ++ flat_map needs (cons_option o [])) (sym missing)

pub reads_some : (written : List Written) (n : ℕ) (s : Written) → slice_get written n ≡ Some s → reads_at written (n ∷ []) ≡ needs s
reads_some written n s there =
    ap (λ (o : Option Written). flat_map needs (cons_option o [])) there ∙ append-nil (needs s)

pub reads_more : (written : List Written) (ns : List ℕ) (i : ℕ) → i < length ns →
    reads_at written (take (i + 1) ns) ≡ reads_at written (take i ns) ++ reads_at written (get_or ns i 0 ∷ [])
reads_more written ns i inside =
    let before = stages_at written (take i ns) in
    let next = stages_at written (get_or ns i 0 ∷ []) in
    ap (reads_at written) (take_more ns i 0 inside)
    ∙ ap (flat_map needs) (filter_map-append (slice_get written) (take i ns) (get_or ns i 0 ∷ []))
    ∙ flat_map-append needs before next
