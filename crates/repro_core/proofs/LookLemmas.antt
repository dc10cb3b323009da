-- What stands at a single path.
--     dep_large        a dependency that passes a limit is refused by it, wherever it lies
--     inside_good      what counts of a name in form is in form
--     seen_one         a single path that is seen with a name in form
use Rattle.std.proofs.Common.{◌≡◌, ℕ, Bool, true, false, cond, ◌&&◌, List, [], ◌∷◌, length, map, refl, ap, ◌∙◌, inl, inr, subst, Option, Some, None, IfSome, ◌==◌}
use Rattle.std.specs.Option.{option_or}
use Rattle.std.specs.FinMap.{FinMap, entries}
use Rattle.std.proofs.lemmas.Bool.{cases_Bool, cond-false, eqb-true, and_from}
use Rattle.std.proofs.lemmas.List.{nil_from_length}
use Rattle.dvc_base.specs.Path.{Path}
use Rattle.dvc_base.specs.declared.fault.Fault.{Fault}
use Rattle.dvc_base.specs.declared.limits.What.{What}
use Rattle.dvc_base.specs.declared.limits.What.TheVariants.{Listing}
use Rattle.world_api.specs.Tree.{Value, nothing, content, members, path_cmp}
use Rattle.file_hash.specs.Listing.{in_order, is_before, member_with, listing_text}
use Rattle.file_hash.specs.Naming.{first_limit, if_over, files_limit}
use Rattle.file_hash.specs.declared.named.Named.{Named}
use Rattle.lock_files.specs.Form.{is_path_entry}
use Rattle.repro_laws.specs.Limits.{limit_fault}
use Rattle.repro_laws.specs.Stage.{value_inside}
use Rattle.repro_laws.specs.Refusals.{refused_dep}
use Rattle.repro_laws.specs.declared.stage.Dep.{Dep}
use Rattle.repro_laws.proofs.NamedLemmas.{entry_with}
use Rattle.repro_core.specs.Looks.{AreSeen, IsGoodNamed, is_no_file, named_inside}

-- ---- a folder without files passes no limit

limit_by : List (Path × List ℕ) → Option What
limit_by es =
    option_or (first_limit 0 0 es) (if_over Listing (length (listing_text (in_order is_before (map member_with es)))))

none_over : (m : FinMap path_cmp (List ℕ)) → entries m ≡ [] → files_limit m ≡ None
unfolding limit_by listing_text
none_over m e = ap limit_by e

within : (m : FinMap path_cmp (List ℕ)) (fault : Fault) → (length (entries m) == 0) ≡ true → limit_fault (members m) ≡ Some fault → ⊥
within m fault none e =
    let free = none_over m (nil_from_length (entries m) (eqb-true (length (entries m)) 0 none)) in
    absurd (cc)

counts : (inside : Bool) (m : FinMap path_cmp (List ℕ)) (fault : Fault) → limit_fault (members m) ≡ Some fault → value_inside inside (members m) ≡ members m
counts false m fault e = refl
counts true m fault e =
    elim (cases_Bool (length (entries m) == 0)) [
      | inl none ↦ absurd (within m fault none e)
      | inr some ↦ cond-false (length (entries m) == 0) nothing (members m) some
    ]

file_counts : (inside : Bool) (bytes : List ℕ) → value_inside inside (content bytes) ≡ content bytes
file_counts true bytes = refl
file_counts false bytes = refl

pub dep_large : (name : List ℕ) (d : Dep) (v : Value) (fault : Fault) → limit_fault v ≡ Some fault → refused_dep name d (value_inside d.inside v) ≡ Some fault
dep_large name d nothing fault e = absurd (cc)
dep_large name d (content bytes) fault e = ap (refused_dep name d) (file_counts d.inside bytes) ∙ e
dep_large name d (members m) fault e = ap (refused_dep name d) (counts d.inside m fault e) ∙ e

-- ---- names

kept : (b : Bool) (n got : Named) → cond b None (Some n) ≡ Some got → IsGoodNamed n → IsGoodNamed got
kept true n got e good = absurd (cc)
kept false n got e good = let same : n ≡ got = cc in subst IsGoodNamed same good

pub inside_good : (inside : Bool) (o : Option Named) (got : Named) → named_inside inside o ≡ Some got → IfSome o IsGoodNamed → IsGoodNamed got
inside_good inside None got e good = absurd (cc)
inside_good inside (Some n) got e good = kept (inside && is_no_file n.nfiles) n got e good

pub seen_one : (text got : List ℕ) (n : Named) → got ≡ text → IsGoodNamed n → AreSeen (text ∷ []) (record { path = got; named = Some n } ∷ [])
seen_one text got n e good =
    (entry_with got n ∷ [], (refl, record { paths = ap (λ x. x ∷ []) e; good = and_from (is_path_entry (entry_with got n)) true good refl }))
