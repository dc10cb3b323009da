-- A walk in steps, and where it is stuck.
--     walk f xs v      where a list of steps leads
--     walk-push        one step more
--     walk-stuck       a walk that comes to a step that leads nowhere leads nowhere
--     follow_parts, follow_brackets    the steps of a key, and those of brackets, as such walks
use Rattle.std.proofs.Common.{◌≡◌, ℕ, ◌+◌, ◌-◌, ◌^◌, ◌<◌, ◌≤◌, min, eqb, Bool, not, cond, List, [], ◌∷◌, ◌++◌, length, get_or, take, drop, map, Option, Some, None, option_and_then, inl, inr, refl, sym, ap, ◌∙◌, arith}
use Rattle.std.specs.Prelude.{option_map}
use Rattle.std.specs.List.{flat_map, slice_get, slice_split, onto_first, position_or_len, before_first, after_first}
use Rattle.std.proofs.lemmas.Bool.{cases_Bool, cases_lt}
use Rattle.std.proofs.lemmas.List.{take-append-drop, drop_more}
use Rattle.std.proofs.lemmas.List.Splits.{slice_split-cons_no, slice_split_first}
use Rattle.std.proofs.lemmas.Option.{slice_get_past}
use Rattle.dvc_base.specs.declared.node.Node.{Node, out-Node}
use Rattle.dvc_base.specs.declared.node.Node.TheVariants as nd
use Rattle.yaml_print.proofs.NodeCases.{out_items}
use Rattle.lock_files.specs.Mapping.{items_of}
use Rattle.params.specs.Lookup.{Step, Name, Bracket, steps_of_pieces, steps_of_part, named, place_in, item_at, step, follow}

abbrev pub walk : {A : Type 0} → (A → Node → Option Node) → List A → Node → Option Node
walk f [] v = Some v
walk f (x ∷ xs) v = option_and_then (walk f xs) (f x v)

pub walk-append : {A : Type 0} (f : A → Node → Option Node) (xs ys : List A) (v : Node) → walk f (xs ++ ys) v ≡ option_and_then (walk f ys) (walk f xs v)
walk-append f [] ys v = refl
walk-append f (x ∷ xs) ys v = by (λ w. walk-append f xs ys w) (f x v)
  where
    by : ((w : Node) → walk f (xs ++ ys) w ≡ option_and_then (walk f ys) (walk f xs w)) → (o : Option Node) → option_and_then (walk f (xs ++ ys)) o ≡ option_and_then (walk f ys) (option_and_then (walk f xs) o)
    by rest None = refl
    by rest (Some w) = rest w

one : {A : Type 0} (f : A → Node → Option Node) (x : A) (o : Option Node) → option_and_then (walk f (x ∷ [])) o ≡ option_and_then (f x) o
one f x None = refl
one f x (Some v) = by (f x v)
  where
    by : (o : Option Node) → option_and_then (λ w. Some w) o ≡ o
    by None = refl
    by (Some w) = refl

pub walk-push : {A : Type 0} (f : A → Node → Option Node) (xs : List A) (x : A) (v : Node) → walk f (xs ++ x ∷ []) v ≡ option_and_then (f x) (walk f xs v)
walk-push f xs x v = walk-append f xs (x ∷ []) v ∙ one f x (walk f xs v)

pub walk-stuck : (f : List ℕ → Node → Option Node) (v w : Node) (all : List (List ℕ)) (n : ℕ) (x : List ℕ) → n < length all → x ≡ get_or all n x → walk f (take n all) v ≡ Some w → f x w ≡ None → walk f all v ≡ None
walk-stuck f v w all n x l e h s =
    let cut : all ≡ take n all ++ (x ∷ drop (n + 1) all) =
    sym (take-append-drop n all) ∙ ap (λ (y : List (List ℕ)). take n all ++ y) (drop_more all n x l ∙ ap (λ (y : List ℕ). y ∷ drop (n + 1) all) (sym e)) in
    ap (λ (y : List (List ℕ)). walk f y v) cut ∙ walk-append f (take n all) (x ∷ drop (n + 1) all) v ∙ ap (option_and_then (walk f (x ∷ drop (n + 1) all))) h ∙ ap (option_and_then (walk f (drop (n + 1) all))) s

-- ---- the steps of keys

pub follow-append : (ss ts : List Step) (v : Node) → follow (ss ++ ts) v ≡ option_and_then (follow ts) (follow ss v)
follow-append [] ts v = refl
follow-append (s ∷ ss) ts v = by (λ w. follow-append ss ts w) (step s v)
  where
    by : ((w : Node) → follow (ss ++ ts) w ≡ option_and_then (follow ts) (follow ss w)) → (o : Option Node) → option_and_then (follow (ss ++ ts)) o ≡ option_and_then (follow ts) (option_and_then (follow ss) o)
    by rest None = refl
    by rest (Some w) = rest w

abbrev pub part_at : List ℕ → Node → Option Node
part_at part v = follow (steps_of_part part) v

pub follow_parts : (parts : List (List ℕ)) (v : Node) → follow (flat_map steps_of_part parts) v ≡ walk part_at parts v
follow_parts [] v = refl
follow_parts (part ∷ parts) v = follow-append (steps_of_part part) (flat_map steps_of_part parts) v ∙ by (λ w. follow_parts parts w) (part_at part v)
  where
    by : ((w : Node) → follow (flat_map steps_of_part parts) w ≡ walk part_at parts w) → (o : Option Node) → option_and_then (follow (flat_map steps_of_part parts)) o ≡ option_and_then (walk part_at parts) o
    by rest None = refl
    by rest (Some w) = rest w

pub follow_brackets : (brackets : List (List ℕ)) (v : Node) → follow (map Bracket brackets) v ≡ walk item_at brackets v
follow_brackets [] v = refl
follow_brackets (bracket ∷ brackets) v = by (λ w. follow_brackets brackets w) (item_at bracket v)
  where
    by : ((w : Node) → follow (map Bracket brackets) w ≡ walk item_at brackets w) → (o : Option Node) → option_and_then (follow (map Bracket brackets)) o ≡ option_and_then (walk item_at brackets) o
    by rest None = refl
    by rest (Some w) = rest w

-- ---- a name with its brackets, cut at the first that opens

abbrev opens : ℕ → Bool
opens b = eqb b 91

pub with_brackets : (part name brackets : List ℕ) → position_or_len opens part < length part → name ≡ before_first opens part → brackets ≡ after_first opens part → steps_of_part part ≡ Name name ∷ map Bracket (slice_split opens brackets)
with_brackets part name brackets l n b =
    ap steps_of_pieces (slice_split_first opens part 0 l ∙ ap (λ (x : List ℕ). x ∷ slice_split opens (after_first opens part)) (sym n) ∙ ap (λ (x : List ℕ). name ∷ slice_split opens x) (sym b))

none_split : (t : List ℕ) → position_or_len opens t ≡ length t → slice_split opens t ≡ t ∷ []
none_split [] h = refl
none_split (b ∷ t) h =
    elim (cases_Bool (opens b)) [
      | inl here ↦
          let none : position_or_len opens (b ∷ t) ≡ 0 = ap (λ v. cond (not v) (1 + position_or_len opens t) 0) here in
          absurd (omega (arith, none, h))
      | inr later ↦
          let more : position_or_len opens (b ∷ t) ≡ 1 + position_or_len opens t = ap (λ v. cond (not v) (1 + position_or_len opens t) 0) later in
          let rest : position_or_len opens t ≡ length t = omega (arith, more, h) in
          slice_split-cons_no opens b t later ∙ ap (onto_first b) (none_split t rest)
    ]

pub without_brackets : (part : List ℕ) → position_or_len opens part ≡ length part → steps_of_part part ≡ Name part ∷ []
without_brackets part h = ap steps_of_pieces (none_split part h)

pub one_name : (name : List ℕ) (v : Node) → follow (Name name ∷ []) v ≡ named name v
one_name name v = by (named name v)
  where
    by : (o : Option Node) → option_and_then (follow []) o ≡ o
    by None = refl
    by (Some w) = refl

-- ---- the item with a number, which may be cut at a limit that no list comes to

pub item_is : (o : Option ℕ) (place : ℕ) (items : List Node) → length items < 2 ^ 64 → Some place ≡ option_map (λ n. min n (2 ^ 128 - 1)) o → slice_get items place ≡ option_and_then (λ n. slice_get items n) o
item_is None place items short h = absurd (cc)
item_is (Some n) place items short h =
    let cut : place ≡ min n (2 ^ 128 - 1) = cc in
    elim (cases_lt n (2 ^ 128 - 1)) [
      | inl low ↦ let same : place ≡ n = omega arith in ap (slice_get items) same
      | inr high ↦
          let here : length items ≤ place = omega arith in
          let there : length items ≤ n = omega arith in
          slice_get_past items place here ∙ sym (slice_get_past items n there)
    ]

pub item_found : (bracket : List ℕ) (v : Node) (items : List Node) → v ≡ nd.Items items → option_and_then (λ n. slice_get items n) (place_in bracket) ≡ item_at bracket v
item_found bracket v items is =
    sym (ap (λ l. option_and_then (λ n. option_and_then (λ xs. slice_get xs n) (items_of l)) (place_in bracket)) (ap out-Node is ∙ out_items items))
