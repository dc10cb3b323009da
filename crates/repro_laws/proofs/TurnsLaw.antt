-- What turns leave, one after another.
--     IsLine              each stage of a list lies apart from the later ones
--     turns_stay          each path outside the outputs and the tool's own is left
--     entry_after         the entry of a stage before them stays present
--     covers_before       what the book covers of it at the end it covered before them
--     entries_of_turns    the lock has the present entry of each stage that had its turn
--     lefts_of_turns      what each turn has left, and the lock is truthful
use Rattle.std.proofs.Common.{◌≡◌, ℕ, Bool, true, false, List, [], ◌∷◌, ◌++◌, map, sym, ap, subst, ◌∙◌, inl}
use Rattle.std.specs.Prelude.{bytes_eq, ⊤}
use Rattle.std.specs.List.{AllByRecursion, flat_map}
use Rattle.std.proofs.lemmas.Bool.{or_parts}
use Rattle.dvc_base.specs.Path.{Path, under}
use Rattle.world_api.specs.Tree.{IsTree, item_at}
use Rattle.world_api.specs.Effect.{Effect}
use Rattle.world_api.specs.History.{Book}
use Rattle.world_api.specs.Calls.{are_apart}
use Rattle.lock_files.specs.Book.{entry_of}
use Rattle.repro_laws.specs.Stage.{stage_outs, IsStage}
use Rattle.repro_laws.specs.Lock.{is_among, IsTruthful, HasEntry}
use Rattle.repro_laws.specs.Due.{Due}
use Rattle.repro_laws.specs.Turns.{State, is_way, Turns, stages_of, Lefts}
use Rattle.repro_laws.specs.Headline.{IsOwn, IsKept, IsPlanned, is_ordered, have_names, is_any_way, Covers, IsMet, IsGiven}
use Rattle.repro_laws.specs.declared.stage.Stage.{Stage}
use Rattle.repro_laws.specs.declared.stage.Flags.{Flags}
use Rattle.repro_laws.proofs.CoverLemmas.{covers_back}
use Rattle.repro_laws.proofs.FrontLemmas.{order_front, order_later, apart_front, names_front, name_parts}
use Rattle.repro_laws.proofs.ListLemmas.{each_first, any_parts}
use Rattle.repro_laws.proofs.ReadLemmas.{Stay}
use Rattle.repro_laws.proofs.RoadLemmas.{apart_later}
use Rattle.repro_laws.proofs.StayLaw.{left_then, IsApartLater, entry_stays, later_outs, apart_from_later}
use Rattle.repro_laws.proofs.TurnLaw.{not_restored, turn_stays, turn_keeps_entry, turn_entry, left_of_turn, truthful_of_turn}

-- ---- stages in a line

-- a stage, and those that come after it
pub record IsBefore (own : Path → Bool) (s : Stage) (later : List Stage) : Type 0 where
  pub is : IsStage s
  pub kept : IsKept own s
  pub order : is_ordered (s ∷ []) ≡ true
  pub apart : IsApartLater own (later_outs later) s
  pub name : is_among (map (λ x. x.name) later) s.name ≡ false

abbrev pub IsLine : (Path → Bool) → List Stage → Type 0
IsLine own [] = ⊤
IsLine own (s ∷ ss) = IsBefore own s ss × IsLine own ss

line_from : (own : Path → Bool) (ss : List Stage) → AllByRecursion IsStage ss → AllByRecursion (IsKept own) ss → have_names ss ≡ true → is_ordered ss ≡ true → are_apart (flat_map stage_outs ss) ≡ true → IsLine own ss
line_from own [] each kept names order apart = tt
line_from own (s ∷ ss) each kept names order apart =
    let name = name_parts s ss names in (
      record {
        is = each.0;
        kept = kept.0;
        order = order_front (s ∷ []) ss order;
        apart = apart_from_later own s ss kept.0 order apart;
        name = name.0;
      },
      line_from own ss each.1 kept.1 name.1 (order_later s ss order) (apart_later (stage_outs s) (flat_map stage_outs ss) apart),
    )

-- a front of a plan
pub line_of : (own : Path → Bool) (ss others : List Stage) → IsPlanned own (ss ++ others) → IsLine own ss
line_of own ss others plan =
    line_from own ss (each_first IsStage ss others plan.each) (each_first (IsKept own) ss others plan.kept) (names_front ss others plan.names) (order_front ss others plan.order) (apart_front ss others plan.apart)

-- ---- what turns leave alone

pub turns_stay : (own : Path → Bool) (flags : Flags) (effect : Effect) (ds : List Due) (m n : State) → Turns own flags effect ds m n → Stay own (is_any_way (stages_of ds)) (flat_map stage_outs (stages_of ds)) m.tree n.tree
turns_stay own flags effect [] m n turns p out kept = inl (ap (λ (x : State). item_at x.tree p) turns)
turns_stay own flags effect (d ∷ ds) m n turns p out kept =
    let k = turns.0 in
    let parts = any_parts (λ o. under o p) (stage_outs d.stage) (flat_map stage_outs (stages_of ds)) out in
    left_then (is_way d.stage) (is_any_way (stages_of ds)) m.tree k.tree n.tree p (turn_stays own flags effect d m k turns.1 p parts.0 kept) (turns_stay own flags effect ds k n turns.2 p parts.1 kept)

pub turns_stand : (own : Path → Bool) (flags : Flags) (effect : Effect) (ds : List Due) (m n : State) → Turns own flags effect ds m n → IsTree m.tree → IsTree n.tree
turns_stand own flags effect [] m n turns tree = subst (λ (x : State). IsTree x.tree) (sym turns) tree
turns_stand own flags effect (d ∷ ds) m n turns tree =
    let turn = turns.1 in
    turns_stand own flags effect ds turns.0 n turns.2 turn.stands

pub turns_keep_entry : (own : Path → Bool) (flags : Flags) (effect : Effect) (ds : List Due) (m n : State) → Turns own flags effect ds m n → (name : List ℕ) → is_among (map (λ x. x.name) (stages_of ds)) name ≡ false → entry_of n.lock name ≡ entry_of m.lock name
turns_keep_entry own flags effect [] m n turns name other = ap (λ (x : State). entry_of x.lock name) turns
turns_keep_entry own flags effect (d ∷ ds) m n turns name other =
    let k = turns.0 in
    let parts = or_parts (bytes_eq d.stage.name name) (is_among (map (λ x. x.name) (stages_of ds)) name) other in
    turns_keep_entry own flags effect ds k n turns.2 name parts.1 ∙ turn_keeps_entry own flags effect d m k turns.1 name parts.0

-- ---- a stage before them

pub entry_after : (own : Path → Bool) (flags : Flags) (effect : Effect) (s : Stage) (ds : List Due) (m n : State) → IsBefore own s (stages_of ds) → IsTree m.tree → Turns own flags effect ds m n → HasEntry m.lock m.tree s → HasEntry n.lock n.tree s
entry_after own flags effect s ds m n before tree turns has =
    let moved = entry_stays own (is_any_way (stages_of ds)) (later_outs (stages_of ds)) s m.tree n.tree tree (turns_stand own flags effect ds m n turns tree) (turns_stay own flags effect ds m n turns) before.apart m.lock has in
    record {
      entry = moved.entry;
      there = turns_keep_entry own flags effect ds m n turns s.name before.name ∙ moved.there;
      present = moved.present;
    }

pub covers_before : (own : Path → Bool) (flags : Flags) (book : Book) (effect : Effect) (s : Stage) (ds : List Due) (m n : State) → IsBefore own s (stages_of ds) → IsTree m.tree → Turns own flags effect ds m n → Covers book n.tree s → Covers book m.tree s
covers_before own flags book effect s ds m n before tree turns covers =
    covers_back own (is_any_way (stages_of ds)) (later_outs (stages_of ds)) book m.tree n.tree tree (turns_stand own flags effect ds m n turns tree) (turns_stay own flags effect ds m n turns) s before.apart covers

-- ---- all turns

pub entries_of_turns : (own : Path → Bool) (flags : Flags) (effect : Effect) (ds : List Due) (m n : State) → IsLine own (stages_of ds) → IsTree m.tree → Turns own flags effect ds m n → AllByRecursion (HasEntry n.lock n.tree) (stages_of ds)
entries_of_turns own flags effect [] m n line tree turns = tt
entries_of_turns own flags effect (d ∷ ds) m n line tree turns =
    let k = turns.0 in
    let turn = turns.1 in
    let before = line.0 in
    let has = turn_entry own flags effect d m k before.is before.kept before.order tree turn in
    (entry_after own flags effect d.stage ds k n before turn.stands turns.2 has, entries_of_turns own flags effect ds k n line.1 turn.stands turns.2)

met_all : (book : Book) (n : State) (ss : List Stage) → AllByRecursion (HasEntry n.lock n.tree) ss → IsMet book ss n → AllByRecursion (Covers book n.tree) ss
met_all book n [] entries met = tt
met_all book n (s ∷ ss) entries met = (met.0 entries.0, met_all book n ss entries.1 met.1)

pub record HasLefts (own : Path → Bool) (book : Book) (effect : Effect) (ss : List Stage) (m n : State) : Type 0 where
  pub lefts : Lefts own effect ss m n
  pub truthful : IsTruthful book effect n.lock

lefts_covered : (own : Path → Bool) (flags : Flags) (book : Book) (effect : Effect) (ds : List Due) (m n : State) → IsOwn own → flags.run_cache ≡ false → IsLine own (stages_of ds) → IsTree m.tree → IsTruthful book effect m.lock → Turns own flags effect ds m n → AllByRecursion (Covers book n.tree) (stages_of ds) → HasLefts own book effect (stages_of ds) m n
lefts_covered own flags book effect [] m n area cache line tree truthful turns covers =
    record {
      lefts = turns;
      truthful = subst (λ (x : State). IsTruthful book effect x.lock) (sym turns) truthful;
    }
lefts_covered own flags book effect (d ∷ ds) m n area cache line tree truthful turns covers =
    let k = turns.0 in
    let turn = turns.1 in
    let before = line.0 in
    let apart = not_restored own flags effect d m k turn cache in
    let here = covers_before own flags book effect d.stage ds k n before turn.stands turns.2 covers.0 in
    let left = left_of_turn own flags book effect d m k area before.is before.kept before.order tree truthful turn apart here in
    let later = truthful_of_turn own flags book effect d m k area before.is before.kept before.order tree truthful turn apart here in
    let rest = lefts_covered own flags book effect ds k n area cache line.1 turn.stands later turns.2 covers.1 in
    record { lefts = (k, left, rest.lefts); truthful = rest.truthful }

pub lefts_of_turns : (own : Path → Bool) (flags : Flags) (book : Book) (effect : Effect) (ds : List Due) (others : List Stage) (old new : State) → IsGiven own flags book effect ds others old new → HasLefts own book effect (stages_of ds) old new
lefts_of_turns own flags book effect ds others old new given =
    let line = line_of own (stages_of ds) others given.planned in
    let entries = entries_of_turns own flags effect ds old new line given.stands given.turns in
    lefts_covered own flags book effect ds old new given.area given.no_restore line given.stands given.truthful given.turns (met_all book new (stages_of ds) entries given.met)
