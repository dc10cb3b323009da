-- The listing of a folder, out of what a walk has met and the members that were named.
--     listed_is, size_is, told_is     it is the listing of the value's map, with its size
--     limit_..                        the first limit that is passed is the one that is due
--     listing_made                    over any world it is a listing
--     listed_answer                   what is answered is what is due
--     named_answer, listing_answer    and so are its name, and the members alone
use Rattle.std.proofs.Common.{◌≡◌, ℕ, ◌+◌, Bool, true, List, [], length, map, sym, ap, ◌∙◌, subst, arith, Option, Some, None, IsTrue, Ok, Err, Result, refl, IfOk}
use Rattle.std.specs.Prelude.{IfErr}
use Rattle.std.specs.Option.{option_or}
use Rattle.std.specs.FinMap.{entries}
use Rattle.dvc_base.specs.Path.{Path}
use Rattle.dvc_base.specs.declared.limits.What.{What}
use Rattle.dvc_base.specs.declared.limits.What.TheVariants as w
use Rattle.world_api.specs.Tree.{Tree, folder, item_at, IsTree, members, value_at, value_of}
use Rattle.world_api.specs.Calls.{are_apart}
use Rattle.world_api.specs.Outside.{IsHonest}
use Rattle.file_hash.specs.Files.{size_of, count_of, bytes_in}
use Rattle.file_hash.specs.Listing.{in_order, is_before, path_at, member_with, listing_of, listing_text, IsListing}
use Rattle.file_hash.specs.Naming.{files_at, if_over, first_limit, files_limit, unless_over, named_files, name_of_listing, naming_of, listing_due, listed_of, listed_due, IsDue, IsChangeAt}
use Rattle.file_hash.specs.Walk.{below, walk_limit, Walks, Finds, nothing_met, found_in, sizes, AreTold, AreNamed, IsMade, path_in, IsRefusal, IsWalkFault, IsMemberFault, IsTextFault, IsListed, IsListFault}
use Rattle.file_hash.specs.declared.walk.Found.{Found}
use Rattle.file_hash.specs.declared.walk.Met.{Met}
use Rattle.file_hash.specs.declared.listing.Member.{Member}
use Rattle.file_hash.specs.declared.name.Listed.{Listed}
use Rattle.file_hash.specs.declared.named.Named.{Named}
use Rattle.file_hash.specs.declared.fault.HashFault.{HashFault}
use Rattle.file_hash.specs.declared.fault.HashFault.TheVariants.{Missing, Changed, TooLarge, Failed, NoMemory}
use Rattle.file_hash.proofs.ListedLemmas.{known, files_are, told_all, named_all, size_all, limit_all}
use Rattle.file_hash.proofs.ListingLemmas.{weak, listing_in_order}
use Rattle.file_hash.proofs.OrderLemmas.{order_length}
use Rattle.std.proofs.lemmas.List.{length-map}

pub honest_at : (tells : Bool) (a b x y : ℕ) → a ≡ x → b ≡ y → IsHonest tells x y → IsHonest tells a b
honest_at tells a b x y e f h = (λ s. h.0 (sym e ∙ s ∙ f), h.1)

-- the limits of a walk are those of the value's files
walk_is : (t : Tree) → IsTree t → (at : Path) → item_at t at ≡ Some folder → walk_limit 0 0 (below at (entries t)) ≡ first_limit 0 0 (entries (files_at t at))
walk_is t tree at here = limit_all t at 0 0 (below at (entries t)) (known t at) ∙ ap (first_limit 0 0) (sym (files_are t tree at here))

module _ (t : Tree) (at : Path) (met : Met) (tree : IsTree t) (here : item_at t at ≡ Some folder) (h : Walks at (below at (entries t)) nothing_met met) where
  pub told_is : (found : List Found) → found ≡ met.found → AreTold t at found
  told_is found e = subst (AreTold t at) (sym (e ∙ h.found)) (told_all t at (below at (entries t)) (known t at))

  pub listed_is : (found : List Found) (ms list : List Member) → found ≡ met.found → AreNamed t at found ms → list ≡ in_order is_before ms → list ≡ listing_of (files_at t at)
  listed_is found ms list e named is =
      let members = named_all t at (below at (entries t)) ms (known t at) (subst (λ fs. AreNamed t at fs ms) (e ∙ h.found) named) in
      is ∙ ap (in_order is_before) (members ∙ ap (map member_with) (sym (files_are t tree at here)))

  pub size_is : met.size ≡ size_of (files_at t at)
  size_is =
      h.size ∙ none_more (sizes (found_in at (below at (entries t)))) ∙ size_all t at (below at (entries t)) (known t at) ∙ ap bytes_in (sym (files_are t tree at here))
    where
      none_more : (n : ℕ) → 0 + n ≡ n
      none_more n = omega arith

  limit_is : (list : List Member) → list ≡ listing_of (files_at t at) → files_limit (files_at t at) ≡ if_over w.Listing (length (listing_text list))
  limit_is list is =
      ap (λ o. option_or o (if_over w.Listing (length (listing_text (listing_of (files_at t at)))))) (sym (walk_is t tree at here) ∙ h.none)
      ∙ ap (λ l. if_over w.Listing (length (listing_text l))) (sym is)

  pub limit_none : (list : List Member) → list ≡ listing_of (files_at t at) → if_over w.Listing (length (listing_text list)) ≡ None → files_limit (files_at t at) ≡ None
  limit_none list is e = limit_is list is ∙ e

  pub limit_text : (list : List Member) (why : HashFault) → list ≡ listing_of (files_at t at) → IsTextFault list why → IsListFault t at why
  limit_text list (TooLarge what limit) is f = (limit_is list is ∙ f.0, f.1)
  limit_text list Missing is f = absurd f
  limit_text list (Changed path told found) is f = absurd f
  limit_text list Failed is f = tt
  limit_text list NoMemory is f = tt

some_first : (o q : Option What) (what : What) → o ≡ Some what → option_or o q ≡ Some what
some_first None q what e = absurd (cc)
some_first (Some x) q what e = e

pub limit_walk : (t : Tree) → IsTree t → (at : Path) → item_at t at ≡ Some folder → (why : HashFault) → IsRefusal nothing_met (below at (entries t)) why → IsWalkFault why → IsListFault t at why
limit_walk t tree at here (TooLarge what limit) r f = (some_first (first_limit 0 0 (entries (files_at t at))) (if_over w.Listing (length (listing_text (listing_of (files_at t at))))) what (sym (walk_is t tree at here) ∙ r), f)
limit_walk t tree at here Missing r f = absurd f
limit_walk t tree at here (Changed path told found) r f = absurd f
limit_walk t tree at here Failed r f = tt
limit_walk t tree at here NoMemory r f = tt

pub limit_member : (t : Tree) (tells : Bool) (at : Path) (why : HashFault) → IsTrue tells → IsMemberFault tells at why → IsListFault t at why
limit_member t tells at (TooLarge what limit) told f = absurd (f.1 told)
limit_member t tells at Missing told f = absurd f
limit_member t tells at (Changed path size found) told f = absurd (f.1.1 told)
limit_member t tells at Failed told f = tt
limit_member t tells at NoMemory told f = tt

-- ---- over any world

pub change_member : (tells : Bool) (at : Path) (why : HashFault) → IsMemberFault tells at why → IsChangeAt tells at why
change_member tells at (TooLarge what limit) f = f.0
change_member tells at Missing f = tt
change_member tells at (Changed path told found) f = f
change_member tells at Failed f = tt
change_member tells at NoMemory f = tt

pub change_text : (tells : Bool) (at : Path) (list : List Member) (why : HashFault) → IsTextFault list why → IsChangeAt tells at why
change_text tells at list (TooLarge what limit) f = f.1
change_text tells at list Missing f = tt
change_text tells at list (Changed path told found) f = absurd f
change_text tells at list Failed f = tt
change_text tells at list NoMemory f = tt

pub change_walk : (tells : Bool) (at : Path) (why : HashFault) → IsWalkFault why → IsChangeAt tells at why
change_walk tells at (TooLarge what limit) f = f
change_walk tells at Missing f = tt
change_walk tells at (Changed path told found) f = absurd f
change_walk tells at Failed f = tt
change_walk tells at NoMemory f = tt

pub listing_made : (met : Met) (found : List Found) (ms list : List Member) → found ≡ met.found → Finds [] nothing_met met → IsMade found ms → list ≡ in_order is_before ms → IsListing list
listing_made met found ms list e finds made is =
    let apart : are_apart (map path_at ms) ≡ true = ap are_apart (made.paths ∙ ap (map path_in) (e ∙ finds.grown)) ∙ finds.apart in
    subst IsListing (sym is) (listing_in_order ms apart made.normal made.files)

-- ---- what is due

pub due_refused : (t : Tree) (at : Path) (why : HashFault) {A : Type 0} (answer : A) → IsListFault t at why → IsDue {A = A} (Err why) (unless_over (files_limit (files_at t at)) answer)
due_refused t at (TooLarge what limit) answer f = ap (λ l. Err (TooLarge what l)) f.1 ∙ sym (ap (λ o. unless_over o answer) f.0)
due_refused t at Missing answer f = absurd f
due_refused t at (Changed path told found) answer f = absurd f
due_refused t at Failed answer f = tt
due_refused t at NoMemory answer f = tt

value_is : (t : Tree) (at : Path) → item_at t at ≡ Some folder → value_at t at ≡ members (files_at t at)
value_is t at here = ap (value_of t at) here

abbrev as_listed : List Member → List ℕ → ℕ → Listed
as_listed list text size = record { list = list; text = text; size = size }

pub listed_answer : (t : Tree) (at : Path) (r : Result Listed HashFault) → IfOk r (IsListed t at) → IfErr r (IsListFault t at) → IfOk r (λ l. l.text ≡ listing_text l.list) → IsDue r (listed_due (files_at t at))
listed_answer t at (Err why) h f text = due_refused t at why (listed_of (files_at t at)) f
listed_answer t at (Ok listed) h f text =
    let files = files_at t at in
    let due : listed ≡ listed_of files =
    ap (λ x. as_listed listed.list x listed.size) text
    ∙ ap (λ l. as_listed l (listing_text l) listed.size) h.list
    ∙ ap (as_listed (listing_of files) (listing_text (listing_of files))) h.size in
    ap Ok due ∙ sym (ap (λ o. unless_over o (listed_of files)) h.none)

pub unless_parts : {A : Type 0} (o : Option What) (x y : A) → ◌≡◌ {A = Result A HashFault} (Ok y) (unless_over o x) → (o ≡ None) × (y ≡ x)
unless_parts None x y e = (refl, cc)
unless_parts (Some what) x y e = absurd (cc)

-- a refusal that is due of one answer is due of another
pub due_carried : {A B : Type 0} (why : HashFault) (o : Option What) (x : A) (y : B) → IsDue {A = A} (Err why) (unless_over o x) → IsDue {A = B} (Err why) (unless_over o y)
due_carried (TooLarge what limit) None x y e = absurd (cc)
due_carried (TooLarge what limit) (Some other) x y e = cc
due_carried Missing None x y e = absurd (cc)
due_carried Missing (Some other) x y e = absurd (cc)
due_carried (Changed path told found) None x y e = absurd (cc)
due_carried (Changed path told found) (Some other) x y e = absurd (cc)
due_carried Failed o x y e = tt
due_carried NoMemory o x y e = tt

pub naming_carried : (t : Tree) (at : Path) (why : HashFault) → item_at t at ≡ Some folder → IsDue {A = Listed} (Err why) (listed_due (files_at t at)) → IsDue (Err why) (naming_of (value_at t at))
naming_carried t at why here f =
    let files = files_at t at in
    subst (λ v. IsDue (Err why) (naming_of v)) (sym (value_is t at here)) (due_carried why (files_limit files) (listed_of files) (named_files files) f)

pub listing_answer : (t : Tree) (at : Path) (listed : Listed) → ◌≡◌ {A = Result Listed HashFault} (Ok listed) (listed_due (files_at t at)) → ◌≡◌ {A = Result (List Member) HashFault} (Ok listed.list) (listing_due (files_at t at))
listing_answer t at listed e =
    let files = files_at t at in
    let h = unless_parts (files_limit files) (listed_of files) listed e in
    ap (λ (l : Listed). Ok l.list) h.1 ∙ sym (ap (λ o. unless_over o (listing_of files)) h.0)

abbrev as_named : List ℕ → ℕ → ℕ → Named
as_named text size count = record { name = name_of_listing text; size = size; nfiles = Some count }

listing_count : (t : Tree) (at : Path) → length (listing_of (files_at t at)) ≡ count_of (files_at t at)
listing_count t at = order_length is_before weak (map member_with (entries (files_at t at))) ∙ length-map (entries (files_at t at)) member_with

pub named_answer : (t : Tree) (at : Path) (listed : Listed) (named : Named) → item_at t at ≡ Some folder → ◌≡◌ {A = Result Listed HashFault} (Ok listed) (listed_due (files_at t at))
    → named ≡ as_named listed.text listed.size (length listed.list) → ◌≡◌ {A = Result Named HashFault} (Ok named) (naming_of (value_at t at))
named_answer t at listed named here e is =
    let files = files_at t at in
    let h = unless_parts (files_limit files) (listed_of files) listed e in
    let due : named ≡ named_files files =
    is ∙ ap (λ (l : Listed). as_named l.text l.size (length l.list)) h.1
    ∙ ap (as_named (listing_text (listing_of files)) (size_of files)) (listing_count t at) in
    ap Ok due ∙ sym (ap naming_of (value_is t at here) ∙ ap (λ o. unless_over o (named_files files)) h.0)
