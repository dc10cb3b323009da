-- Outputs that are put one after another.
--     each_at, each_front, each_more, each_whole     what each item of a list has: the one at a place, those before it, one more, and all
--     named_none, named_more      path entries of outputs, one more
--     named_last, all_more        what is seen has names, one more
--     seen_one, seen_later        what is seen of one output, and later
--     first_at, answer_at         the first that is refused
--     stored_more                 outputs that are stored, one more
--     is_one, written_ones, tells_out           what is told of one of a stage's outputs
use Rattle.std.proofs.Common.{◌≡◌, ◌<◌, ℕ, ◌+◌, Bool, true, ◌||◌, zero, suc, List, [], ◌∷◌, ◌++◌, length, take, get_or, map, inl, inr, refl, sym, ap, subst, ◌∙◌, arith, Option, Some, None, IsTrue}
use Rattle.std.specs.List.{AllByRecursion, list_all}
use Rattle.std.proofs.lemmas.Bool.{false≢true, and_parts, and_from}
use Rattle.std.proofs.lemmas.List.{take_more, get_or-map}
use Rattle.dvc_base.specs.Path.{Path, under}
use Rattle.dvc_base.specs.Fault.{MayBe}
use Rattle.dvc_base.specs.Answer.{IsAnswer}
use Rattle.dvc_base.specs.declared.fault.Fault.{Fault}
use Rattle.dvc_base.specs.declared.fault.Fault.TheVariants as f
use Rattle.world_api.specs.Tree.{Tree, Value, value_at}
use Rattle.world_api.specs.Effect.{is_in_any}
use Rattle.world_api.specs.History.{Moment}
use Rattle.file_hash.specs.Naming.{named_of}
use Rattle.object_cache.specs.Objects.{is_stored}
use Rattle.lock_files.specs.declared.entry.PathEntry.{PathEntry}
use Rattle.lock_files.specs.Value.{path_at}
use Rattle.lock_files.specs.Form.{is_path_entry}
use Rattle.change_check.specs.declared.seen.SeenPath.{SeenPath}
use Rattle.repro_laws.specs.Stage.{out_path, out_text, read_paths, stage_outs, IsStage}
use Rattle.repro_laws.specs.Entries.{seen_out, path_named, in_front, all_named}
use Rattle.repro_laws.specs.Refusals.{first_fault, first_of}
use Rattle.repro_laws.specs.Turns.{AreStored}
use Rattle.repro_laws.specs.Headline.{IsApart, IsKept}
use Rattle.repro_laws.specs.Moments.{is_own}
use Rattle.repro_laws.specs.Sound.{IsAnswerAt}
use Rattle.repro_laws.specs.declared.stage.Out.{Out}
use Rattle.repro_laws.specs.declared.stage.Stage.{Stage}
use Rattle.repro_laws.proofs.ListLemmas.{any_second}
use Rattle.repro_laws.proofs.AlikeLemmas.{each_on, each_mapped, each_two, each_written}
use Rattle.repro_core.specs.Steps.{InStored, AreNamed, store_kinds}
use Rattle.repro_core.specs.Telling.{IsOneOf, TellsOut, TellsOwn}
use Rattle.repro_core.proofs.StoredLemmas.{stay_stored, stored_is}

-- ---- items of a list

module _ {A : Type 0} where
  pub each_at : (P : A → Type 0) (xs : List A) (i : ℕ) (x : A) → i < length xs → x ≡ get_or xs i x → AllByRecursion P xs → P x
  each_at P [] i x l e h = absurd (omega arith)
  each_at P (y ∷ ys) zero x l e h = subst P (sym e) h.0
  each_at P (y ∷ ys) (suc i) x l e h = each_at P ys i x (omega arith) e h.1

  pub each_front : (P : A → Type 0) (xs : List A) (i : ℕ) → AllByRecursion P xs → AllByRecursion P (take i xs)
  each_front P xs zero h = tt
  each_front P [] (suc i) h = tt
  each_front P (y ∷ ys) (suc i) h = (h.0, each_front P ys i h.1)

  each_last : (P : A → Type 0) (xs : List A) (x : A) → AllByRecursion P xs → P x → AllByRecursion P (xs ++ x ∷ [])
  each_last P [] x h last = (last, tt)
  each_last P (y ∷ ys) x h last = (h.0, each_last P ys x h.1 last)

  -- the items before a place, and the one that stands there
  pub one_more : (xs : List A) (i : ℕ) (x : A) → i < length xs → x ≡ get_or xs i x → take (i + 1) xs ≡ take i xs ++ x ∷ []
  one_more xs i x l e = take_more xs i x l ∙ ap (λ (y : A). take i xs ++ y ∷ []) (sym e)

  pub each_more : (P : A → Type 0) (xs : List A) (i : ℕ) (x : A) → i < length xs → x ≡ get_or xs i x → AllByRecursion P (take i xs) → P x → AllByRecursion P (take (i + 1) xs)
  each_more P xs i x l e h here =
      subst (AllByRecursion P) (sym (one_more xs i x l e)) (each_last P (take i xs) x h here)

  pub take_whole : (xs : List A) (i : ℕ) → i ≡ length xs → take i xs ≡ xs
  take_whole [] zero e = refl
  take_whole [] (suc i) e = refl
  take_whole (x ∷ xs) zero e = absurd (omega (arith, e))
  take_whole (x ∷ xs) (suc i) e = ap (λ (l : List A). x ∷ l) (take_whole xs i (omega (arith, e)))

  pub each_whole : (P : A → Type 0) (xs : List A) (i : ℕ) → i ≡ length xs → AllByRecursion P (take i xs) → AllByRecursion P xs
  each_whole P xs i e h = subst (AllByRecursion P) (take_whole xs i e) h

  -- ---- the first that is refused

  pub first_none : (f : A → Option Fault) (xs : List A) → AllByRecursion (λ x. f x ≡ None) xs → first_of f xs ≡ None
  first_none f [] h = refl
  first_none f (x ∷ xs) h = ap (λ (a : Option Fault). first_fault a (first_of f xs)) h.0 ∙ first_none f xs h.1

  pub first_at : (f : A → Option Fault) (xs : List A) (i : ℕ) (x : A) (fault : Fault) → i < length xs → x ≡ get_or xs i x → AllByRecursion (λ y. f y ≡ None) (take i xs) → f x ≡ Some fault → first_of f xs ≡ Some fault
  first_at f [] i x fault l e none here = absurd (omega arith)
  first_at f (y ∷ ys) zero x fault l e none here =
      ap (λ (a : Option Fault). first_fault a (first_of f ys)) (ap f (sym e) ∙ here)
  first_at f (y ∷ ys) (suc i) x fault l e none here =
      ap (λ (a : Option Fault). first_fault a (first_of f ys)) none.0 ∙ first_at f ys i x fault (omega arith) e none.1 here

  pub answer_first : (f : A → Option Fault) (xs : List A) (i : ℕ) (x : A) (fault : Fault) → i < length xs → x ≡ get_or xs i x → AllByRecursion (λ y. f y ≡ None) (take i xs) → IsAnswer (Some fault) (f x) → IsAnswer (Some fault) (first_of f xs)
  answer_first f xs i x fault l e none (inl free) = inl free
  answer_first f xs i x fault l e none (inr due) = inr (first_at f xs i x fault l e none due)

  pub answer_at : (t : Tree) (f : A → Option Fault) (xs : List A) (i : ℕ) (x : A) (fault : Fault) → i < length xs → x ≡ get_or xs i x → AllByRecursion (λ y. f y ≡ None) (take i xs) → IsAnswerAt t (Some fault) (f x) → IsAnswerAt t (Some fault) (first_of f xs)
  answer_at t f xs i x fault l e none (inl answer) = inl (answer_first f xs i x fault l e none answer)
  answer_at t f xs i x fault l e none (inr barred) = inr barred

-- ---- path entries

map_last : {A B : Type 0} (f : A → B) (xs : List A) (x : A) → map f (xs ++ x ∷ []) ≡ map f xs ++ f x ∷ []
map_last f [] x = refl
map_last {B = B} f (y ∷ ys) x = ap (λ (l : List B). f y ∷ l) (map_last f ys x)

good_last : (es : List PathEntry) (e : PathEntry) → list_all is_path_entry es ≡ true → is_path_entry e ≡ true → list_all is_path_entry (es ++ e ∷ []) ≡ true
good_last [] e good here = and_from (is_path_entry e) true here refl
good_last (x ∷ es) e good here =
    let parts = and_parts (is_path_entry x) (list_all is_path_entry es) good in
    and_from (is_path_entry x) (list_all is_path_entry (es ++ e ∷ [])) parts.0 (good_last es e parts.1 here)

pub named_none : (outs : List Out) → AreNamed (map out_text (take 0 outs)) []
named_none outs = record { paths = refl; good = refl }

pub named_more : (outs : List Out) (i : ℕ) (o : Out) (es : List PathEntry) (e : PathEntry) → i < length outs → o ≡ get_or outs i o → e.path ≡ o.text → IsTrue (is_path_entry e) → AreNamed (map out_text (take i outs)) es → AreNamed (map out_text (take (i + 1) outs)) (es ++ e ∷ [])
named_more outs i o es e l is path good named =
    record {
      paths =
          map_last path_at es e ∙ ap (λ (ts : List (List ℕ)). ts ++ e.path ∷ []) named.paths
          ∙ ap (λ (t : List ℕ). map out_text (take i outs) ++ t ∷ []) path
          ∙ sym (ap (map out_text) (one_more outs i o l is) ∙ map_last out_text (take i outs) o);
      good = good_last es e named.good good;
    }

front_parts : (a : Option PathEntry) (b : Option (List PathEntry)) (es : List PathEntry) → in_front a b ≡ Some es → (x : PathEntry) × (xs : List PathEntry) × ((a ≡ Some x) × ((b ≡ Some xs) × (es ≡ x ∷ xs)))
front_parts None b es e = absurd (cc)
front_parts (Some x) None es e = absurd (cc)
front_parts (Some x) (Some xs) es e = (x, xs, (refl, (refl, cc)))

pub named_last : (ps : List SeenPath) (p : SeenPath) (es : List PathEntry) (e : PathEntry) → all_named ps ≡ Some es → path_named p.path p.named ≡ Some e → all_named (ps ++ p ∷ []) ≡ Some (es ++ e ∷ [])
named_last [] p es e all here =
    let none : es ≡ [] = cc in
    ap (λ o. in_front o (Some [])) here ∙ ap (λ (l : List PathEntry). Some (l ++ e ∷ [])) (sym none)
named_last (q ∷ ps) p es e all here =
    let parts = front_parts (path_named q.path q.named) (all_named ps) es all in
    ap (λ o. in_front o (all_named (ps ++ p ∷ []))) parts.2.0
    ∙ ap (in_front (Some parts.0)) (named_last ps p parts.1 e parts.2.1.0 here)
    ∙ ap (λ (l : List PathEntry). Some (l ++ e ∷ [])) (sym parts.2.1.1)

pub all_more : (t : Tree) (outs : List Out) (i : ℕ) (o : Out) (es : List PathEntry) (e : PathEntry) → i < length outs → o ≡ get_or outs i o → all_named (map (seen_out t) (take i outs)) ≡ Some es → path_named (seen_out t o).path (seen_out t o).named ≡ Some e → all_named (map (seen_out t) (take (i + 1) outs)) ≡ Some (es ++ e ∷ [])
all_more t outs i o es e l is all here =
    ap (λ (xs : List Out). all_named (map (seen_out t) xs)) (one_more outs i o l is)
    ∙ ap all_named (map_last (seen_out t) (take i outs) o)
    ∙ named_last (map (seen_out t) (take i outs)) (seen_out t o) es e all here

-- ---- what is seen

-- what is seen at a place is that of the output there
pub seen_one : (t : Tree) (outs : List Out) (seen : List SeenPath) (i : ℕ) (o : Out) (p : SeenPath) → seen ≡ map (seen_out t) outs → i < length outs → o ≡ get_or outs i o → p ≡ get_or seen i p → p ≡ seen_out t o
seen_one t outs seen i o p same l is here =
    here ∙ ap (λ (ps : List SeenPath). get_or ps i p) same ∙ get_or-map (seen_out t) outs i o p l ∙ ap (seen_out t) (sym is)

seen_as : List ℕ → Value → SeenPath
seen_as text v = record { path = text; named = named_of v }

pub seen_later : (t u : Tree) (o : Out) → value_at u o.path ≡ value_at t o.path → seen_out t o ≡ seen_out u o
unfolding seen_as
seen_later t u o same = ap (seen_as o.text) (sym same)

-- ---- stored

abbrev pub AreApart : List Out → Type 0
AreApart outs = AllByRecursion (λ (o : Out). IsApart is_own o.path) outs

pub kept_apart : (s : Stage) → IsKept is_own s → AreApart s.made
kept_apart s kept = each_mapped out_path (IsApart is_own) s.made kept.outs

-- what was stored stays so
pub stored_later : (m n : Moment) (outs : List Out) → AreApart outs → InStored m n → AreStored m.tree outs → AreStored n.tree outs
stored_later m n outs apart since stored =
    each_two (λ o. IsApart is_own o.path) (λ o. o.cached ≡ true → is_stored m.tree (value_at m.tree o.path) ≡ true) (λ o. o.cached ≡ true → is_stored n.tree (value_at n.tree o.path) ≡ true) outs
    (λ o a h c. ap (is_stored n.tree) (stay_stored m n o.path a since) ∙ stored_is m n (value_at m.tree o.path) since (h c)) apart stored

pub stored_more : (m n : Moment) (outs : List Out) (i : ℕ) (o : Out) → i < length outs → o ≡ get_or outs i o → AreApart outs → InStored m n → AreStored m.tree (take i outs) → (o.cached ≡ true → is_stored n.tree (value_at m.tree o.path) ≡ true) → AreStored n.tree (take (i + 1) outs)
stored_more m n outs i o l is apart since stored here =
    let own = each_at (λ (x : Out). IsApart is_own x.path) outs i o l is apart in
    each_more (λ x. x.cached ≡ true → is_stored n.tree (value_at n.tree x.path) ≡ true) outs i o l is
    (stored_later m n (take i outs) (each_front (λ (x : Out). IsApart is_own x.path) outs i apart) since stored)
    (λ c. ap (is_stored n.tree) (stay_stored m n o.path own since) ∙ here c)

-- ---- what is told

pub is_one : (outs : List Out) (i : ℕ) (o : Out) → i < length outs → o ≡ get_or outs i o → IsOneOf (map out_path outs) o.path
is_one [] i o l e = absurd (omega arith)
is_one (x ∷ outs) zero o l e = inl (ap out_path e)
is_one (x ∷ outs) (suc i) o l e = inr (is_one outs i o (omega arith) e)

one_mapped : (outs : List Out) → AllByRecursion (λ (x : Out). IsOneOf (map out_path outs) x.path) outs
one_mapped [] = tt
one_mapped (x ∷ outs) =
    (inl refl, each_on (λ (y : Out). IsOneOf (map out_path outs) y.path) (λ (y : Out). IsOneOf (map out_path (x ∷ outs)) y.path) outs (λ y h. inr h) (one_mapped outs))

-- an output as it is written is one of those in order
pub written_ones : (s : Stage) (i : ℕ) (o : Out) → IsStage s → i < length s.outs → o ≡ get_or s.outs i o → IsOneOf (stage_outs s) o.path
written_ones s i o stage l e =
    let own : Out → Type 0 = λ (x : Out). IsOneOf (stage_outs s) x.path in
    each_at own s.outs i o l e (each_written out_text own s.outs (subst (AllByRecursion own) stage.made (one_mapped s.made)))

in_one : (ps : List Path) (p q : Path) → IsOneOf ps p → under p q ≡ true → is_in_any ps q ≡ true
in_one [] p q h u = absurd h
in_one (x ∷ ps) p q (inl e) u =
    ap (λ (b : Bool). b || is_in_any ps q) (subst (λ (y : Path). under y q ≡ true) e u)
in_one (x ∷ ps) p q (inr h) u = any_second (λ y. under y q) (x ∷ []) ps (in_one ps p q h u)

pub tells_out : (s : Stage) (o : Out) (got : Option Fault) → IsOneOf (stage_outs s) o.path → MayBe store_kinds got → TellsOut s.name o got → TellsOwn s got
tells_out s o None one kind h = tt
tells_out s o (Some (f.MissingDependency stage path)) one kind h = absurd (false≢true kind)
tells_out s o (Some (f.NoFile file)) one kind h = absurd (false≢true kind)
tells_out s o (Some (f.NoKey file key)) one kind h = absurd (false≢true kind)
tells_out s o (Some (f.Yaml file why)) one kind h = absurd (false≢true kind)
tells_out s o (Some (f.Schema file key)) one kind h = absurd (false≢true kind)
tells_out s o (Some (f.CommandFailed stage code)) one kind h = absurd (false≢true kind)
tells_out s o (Some (f.MissingOutput stage path)) one kind h = (h.0, subst (IsOneOf (stage_outs s)) (sym h.1) one)
tells_out s o (Some (f.NotInCache path name)) one kind h = subst (IsOneOf (stage_outs s)) (sym h) one
tells_out s o (Some (f.NotFolder path)) one kind h = inr h
tells_out s o (Some (f.Changed path told found)) one kind (inl u) =
    inl (any_second (λ y. under y path) (read_paths s) (stage_outs s) (in_one (stage_outs s) o.path path one u))
tells_out s o (Some (f.Changed path told found)) one kind (inr u) = inr u
tells_out s o (Some (f.TooLarge what limit)) one kind h = h
tells_out s o (Some _) one kind h = tt
