-- Variables behind others that hide some of them.
--     first_step     the first step of a key is its first name
--     node_hidden    a key leads into the pairs that hide where one of them has its first name, and else into those behind
--     copied_some    something is found behind a reference or not
use Rattle.std.proofs.Common.{◌≡◌, ℕ, suc, ◌+◌, Bool, true, false, not, cond, List, [], ◌∷◌, ◌++◌, map, take, length, eqb, Option, Some, None, option_and_then, refl, sym, ap, ◌∙◌, inl, inr, arith, Bor}
use Rattle.std.specs.Prelude.{bytes_eq, is_some, option_copied}
use Rattle.std.specs.List.{flat_map, slice_split, onto_first, position_or_len, before_first}
use Rattle.std.proofs.lemmas.Bool.{cond-true, cond-false, cases_Bool}
use Rattle.std.proofs.lemmas.List.Splits.{slice_split-cons_yes, slice_split-cons_no}
use Rattle.dvc_base.specs.declared.node.Node.{Node}
use Rattle.dvc_base.specs.declared.node.Node.TheVariants as nd
use Rattle.dvc_base.specs.declared.node.Pair.{Pair}
use Rattle.yaml_nodes.specs.Part.{key_of}
use Rattle.yaml_print.specs.Print.{value_of}
use Rattle.yaml_print.proofs.NodeCases.{out_pairs}
use Rattle.lock_files.specs.Mapping.{pairs_of, value_at, has}
use Rattle.params.specs.Lookup.{Step, Name, Bracket, steps_of_pieces, steps_of_part, steps, named, follow}
use Rattle.template_vars.specs.Resolve.{node_at, first_name}

-- ---- the first step

split_first : (p : ℕ → Bool) (t : List ℕ) → (more : List (List ℕ)) × (slice_split p t ≡ before_first p t ∷ more)
split_first p [] = ([], refl)
split_first p (x ∷ xs) =
    elim (cases_Bool (p x)) [
      | inl passes ↦ (slice_split p xs, slice_split-cons_yes p x xs passes ∙ ap (λ (front : List ℕ). front ∷ slice_split p xs) (sym (front passes)))
      | inr fails ↦
          let rest = split_first p xs in
          (rest.0, slice_split-cons_no p x xs fails ∙ ap (onto_first x) rest.1 ∙ ap (λ (front : List ℕ). front ∷ rest.0) (sym (further fails)))
    ]
  where
    front : p x ≡ true → before_first p (x ∷ xs) ≡ []
    front passes = ap (λ v. take (cond (not v) (1 + position_or_len p xs) 0) (x ∷ xs)) passes

    further : p x ≡ false → before_first p (x ∷ xs) ≡ x ∷ before_first p xs
    further fails = let more : 1 + position_or_len p xs ≡ suc (position_or_len p xs) = omega arith in ap (λ v. take (cond (not v) (1 + position_or_len p xs) 0) (x ∷ xs)) fails ∙ ap (λ n. take n (x ∷ xs)) more

abbrev is_dot : ℕ → Bool
is_dot b = eqb b 46

abbrev is_bracket : ℕ → Bool
is_bracket b = eqb b 91

pub first_step : (key : List ℕ) → (more : List Step) × (steps key ≡ Name (first_name key) ∷ more)
first_step key =
    let parts = split_first is_dot key in
    let names = split_first is_bracket (before_first is_dot key) in (
      map Bracket names.0 ++ flat_map steps_of_part parts.0,
      ap (λ (ps : List (List ℕ)). flat_map steps_of_part ps) parts.1
          ∙ ap (λ (ps : List (List ℕ)). steps_of_pieces ps ++ flat_map steps_of_part parts.0) names.1,
    )

-- ---- one mapping before another

named_in : (name : List ℕ) (ps : List Pair) → named name (nd.Pairs ps) ≡ cond (eqb (length name) 0) None (value_at name ps)
named_in name ps = ap (λ l. cond (eqb (length name) 0) None (option_and_then (value_at name) (pairs_of l))) (out_pairs ps)

value_in : (key : List ℕ) (xs ys : List Pair) → value_at key (xs ++ ys) ≡ value_at key (cond (has key xs) xs ys)
value_in key [] ys = refl
value_in key (p ∷ xs) ys =
    elim (cases_Bool (bytes_eq (key_of p) key)) [
      | inl passes ↦
          cond-true (bytes_eq (key_of p) key) (Some (value_of p)) (value_at key (xs ++ ys)) passes
          ∙ sym (ap (λ o. value_at key (cond (some o) (p ∷ xs) ys)) (here passes) ∙ here passes)
      | inr fails ↦
          cond-false (bytes_eq (key_of p) key) (Some (value_of p)) (value_at key (xs ++ ys)) fails
          ∙ value_in key xs ys
          ∙ by (has key xs) (there fails)
          ∙ sym (ap (λ o. value_at key (cond (some o) (p ∷ xs) ys)) (there fails))
    ]
  where
    some : Option Node → Bool
    some None = false
    some (Some v) = true

    here : bytes_eq (key_of p) key ≡ true → value_at key (p ∷ xs) ≡ Some (value_of p)
    here passes = cond-true (bytes_eq (key_of p) key) (Some (value_of p)) (value_at key xs) passes

    there : bytes_eq (key_of p) key ≡ false → value_at key (p ∷ xs) ≡ value_at key xs
    there fails = cond-false (bytes_eq (key_of p) key) (Some (value_of p)) (value_at key xs) fails

    by : (h : Bool) → value_at key (p ∷ xs) ≡ value_at key xs → value_at key (cond h xs ys) ≡ value_at key (cond h (p ∷ xs) ys)
    by true e = sym e
    by false e = refl

followed : (name : List ℕ) (more : List Step) (xs ys : List Pair) → follow (Name name ∷ more) (nd.Pairs (xs ++ ys)) ≡ follow (Name name ∷ more) (nd.Pairs (cond (has name xs) xs ys))
followed name more xs ys =
    ap (option_and_then (follow more))
    (named_in name (xs ++ ys) ∙ ap (λ o. cond (eqb (length name) 0) None o) (value_in name xs ys) ∙ sym (named_in name (cond (has name xs) xs ys)))

pub node_hidden : (key : List ℕ) (xs ys : List Pair) → node_at (xs ++ ys) key ≡ node_at (cond (has (first_name key) xs) xs ys) key
node_hidden key xs ys =
    let first = first_step key in
    ap (λ (ss : List Step). follow ss (nd.Pairs (xs ++ ys))) first.1
    ∙ followed (first_name key) first.0 xs ys
    ∙ ap (λ (ss : List Step). follow ss (nd.Pairs (cond (has (first_name key) xs) xs ys))) (sym first.1)

-- ---- what is found behind a reference

pub copied_some : (o : Option (Bor Node)) → is_some o ≡ is_some (option_copied o)
copied_some None = refl
copied_some (Some v) = refl
