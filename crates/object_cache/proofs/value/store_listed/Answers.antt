-- All members are stored, and then the listing's text.
use Rattle.std.proofs.Common.{◌≡◌, [], ◌∷◌, List, map, true, sym, ap, subst, ◌∙◌, rules, Option, Some, None, Err}
use Rattle.std.specs.Prelude.{is_some}
use Rattle.dvc_base.specs.Name.{ObjectName}
use Rattle.world_api.specs.Tree.{Tree}
use Rattle.world_api.specs.Outside.{tree_of}
use Rattle.world_api.specs.History.{History, Passes}
use Rattle.file_hash.specs.Listing.{listing_text}
use Rattle.file_hash.specs.Naming.{name_of_listing}
use Rattle.file_hash.specs.declared.listing.Member.{Member}
use Rattle.file_hash.specs.declared.named.Named.{Named}
use Rattle.object_cache.specs.Objects.{member_name, listing_names, are_whole, object_at}
use Rattle.object_cache.specs.Store.{InStore}
use Rattle.object_cache.specs.Due.{IsDue, fault_of, place_fault, places_fault}
use Rattle.object_cache.specs.declared.fault.CacheFault.{CacheFault}
use Rattle.object_cache.proofs.DueLemmas.{due_first, due_second}
use Rattle.object_cache.proofs.StoreLemmas.{passes_stored_then, passes_stored_more, among_front, among_back}
use Rattle.object_cache.proofs.PutLemmas.{all_kept, whole_push, places_push}
use Rattle.object_cache.proofs.value.store_listed.Goals as goal

-- the members' moments are some of the whole listing's
front_moments : (list slice : List Member) (a b : History) → slice ≡ list → Passes (InStore (map member_name slice) a.present) a b → Passes (InStore (listing_names list) a.present) a b
front_moments list slice a b same x =
    passes_stored_more (map member_name list) (listing_names list) a b (among_front (map member_name list) (name_of_listing (listing_text list) ∷ []))
    (subst (λ (ms : List Member). Passes (InStore (map member_name ms) a.present) a b) same x)

-- and so are those of the text
back_moments : (list : List Member) (name : ObjectName) (a b : History) → name ≡ name_of_listing (listing_text list) → Passes (InStore (name ∷ []) a.present) a b → Passes (InStore (listing_names list) a.present) a b
back_moments list name a b its x =
    let last = name_of_listing (listing_text list) in
    passes_stored_more (last ∷ []) (listing_names list) a b (among_back (map member_name list) (last ∷ []))
    (subst (λ (n : ObjectName). Passes (InStore (n ∷ []) a.present) a b) its x)

front_due : (list slice : List Member) (t : Tree) (why : CacheFault) → slice ≡ list → IsDue (Some why) (places_fault t (map member_name slice)) → IsDue (Some why) (places_fault t (listing_names list))
front_due list slice t why same h =
    let last = name_of_listing (listing_text list) in
    subst (λ (o : Option CacheFault). IsDue (Some why) o) (sym (places_push t (map member_name list) last))
    (due_first why (places_fault t (map member_name list)) (place_fault t last) (subst (λ (ms : List Member). IsDue (Some why) (places_fault t (map member_name ms))) same h))

back_due : (list slice : List Member) (name : ObjectName) (t u : Tree) (got : Option CacheFault) → slice ≡ list → name ≡ name_of_listing (listing_text list) → ((other : ObjectName) → place_fault u other ≡ place_fault t other) → places_fault t (map member_name slice) ≡ None → IsDue got (place_fault u name) → IsDue got (places_fault t (listing_names list))
back_due list slice name t u got same its kept none h =
    let last = name_of_listing (listing_text list) in
    let before : places_fault t (map member_name list) ≡ None = sym (ap (λ (ms : List Member). places_fault t (map member_name ms)) same) ∙ none in
    let later : IsDue got (place_fault t last) = subst (λ (o : Option CacheFault). IsDue got o) (ap (place_fault u) its ∙ kept last) h in
    subst (λ (o : Option CacheFault). IsDue got o) (sym (places_push t (map member_name list) last)) (due_second got (places_fault t (map member_name list)) (place_fault t last) before later)

pub returns-in_err-store_members-clause-answer : goal.returns-in_err-store_members-clause-answer
returns-in_err-store_members-clause-answer g c told =
    let t = tree_of (g.F.Ground.history c.args.files.now) in
    let list = c.args.listed.now.list in
    let why = c.in_err-store_members.field-0.0 in
    let e : c.from_residual.result ≡ Err why = search rules in
    subst (λ r. IsDue (fault_of r) (places_fault t (listing_names list))) (sym e)
    (front_due list c.as_slice.result.now t why c.as_slice.ensures.same (c.in_err-store_members.ensures.answer told))

pub returns-in_err-store_members-clause-moments : goal.returns-in_err-store_members-clause-moments
returns-in_err-store_members-clause-moments g c told =
    front_moments c.args.listed.now.list c.as_slice.result.now (g.F.Ground.history c.args.files.now) (g.F.Ground.history c.store_members.new.files) c.as_slice.ensures.same (c.store_members.ensures.moments told)

pub returns-in_err-store_text-clause-answer : goal.returns-in_err-store_text-clause-answer
returns-in_err-store_text-clause-answer g c told =
    let t = tree_of (g.F.Ground.history c.args.files.now) in
    let u = tree_of (g.F.Ground.history c.store_members.new.files) in
    let list = c.args.listed.now.list in
    let named = c.name_listing-named.result in
    let its : named.name ≡ name_of_listing (listing_text list) = ap (λ (n : Named). n.name) c.name_listing-named.ensures.exact ∙ ap name_of_listing c.requires.text in
    let why = c.in_err-store_text.field-0.0 in
    let e : c.from_residual-in_err-store_text.result ≡ Err why = search rules in
    subst (λ r. IsDue (fault_of r) (places_fault t (listing_names list))) (sym e)
    (back_due list c.as_slice.result.now named.name t u (Some why) c.as_slice.ensures.same its (c.in_ok-store_members.ensures.kept told) (c.in_ok-store_members.ensures.answer told) (c.in_err-store_text.ensures.answer told))

pub returns-in_err-store_text-clause-moments : goal.returns-in_err-store_text-clause-moments
returns-in_err-store_text-clause-moments g c told =
    let a = g.F.Ground.history c.args.files.now in
    let b = g.F.Ground.history c.store_members.new.files in
    let d = g.F.Ground.history c.store_text.new.files in
    let list = c.args.listed.now.list in
    let named = c.name_listing-named.result in
    let its : named.name ≡ name_of_listing (listing_text list) = ap (λ (n : Named). n.name) c.name_listing-named.ensures.exact ∙ ap name_of_listing c.requires.text in
    passes_stored_then a b d (front_moments list c.as_slice.result.now a b c.as_slice.ensures.same (c.store_members.ensures.moments told)) (back_moments list named.name b d its (c.store_text.ensures.moments told))

pub returns-clause-stored : goal.returns-clause-stored
returns-clause-stored g c told =
    let b = g.F.Ground.history c.store_members.new.files in
    let d = g.F.Ground.history c.store_text.new.files in
    let list = c.args.listed.now.list in
    let named = c.name_listing-named.result in
    let its : named.name ≡ name_of_listing (listing_text list) = ap (λ (n : Named). n.name) c.name_listing-named.ensures.exact ∙ ap name_of_listing c.requires.text in
    let members : are_whole (tree_of b) (map member_name list) ≡ true = subst (λ (ms : List Member). are_whole (tree_of b) (map member_name ms) ≡ true) c.as_slice.ensures.same (c.in_ok-store_members.ensures.stored told) in
    let kept = all_kept b.present d.present (map member_name list) (c.store_text.ensures.moments told).now members in
    whole_push (tree_of d) (map member_name list) (name_of_listing (listing_text list)) kept
    (subst (λ (n : ObjectName). is_some (object_at (tree_of d) n) ≡ true) its (c.in_ok-store_text.ensures.stored told))

pub returns-clause-answer : goal.returns-clause-answer
returns-clause-answer g c told =
    let t = tree_of (g.F.Ground.history c.args.files.now) in
    let u = tree_of (g.F.Ground.history c.store_members.new.files) in
    let list = c.args.listed.now.list in
    let named = c.name_listing-named.result in
    let its : named.name ≡ name_of_listing (listing_text list) = ap (λ (n : Named). n.name) c.name_listing-named.ensures.exact ∙ ap name_of_listing c.requires.text in
    back_due list c.as_slice.result.now named.name t u None c.as_slice.ensures.same its (c.in_ok-store_members.ensures.kept told) (c.in_ok-store_members.ensures.answer told) (c.in_ok-store_text.ensures.answer told)

pub returns-clause-moments : goal.returns-clause-moments
returns-clause-moments g c told =
    let a = g.F.Ground.history c.args.files.now in
    let b = g.F.Ground.history c.store_members.new.files in
    let d = g.F.Ground.history c.store_text.new.files in
    let list = c.args.listed.now.list in
    let named = c.name_listing-named.result in
    let its : named.name ≡ name_of_listing (listing_text list) = ap (λ (n : Named). n.name) c.name_listing-named.ensures.exact ∙ ap name_of_listing c.requires.text in
    passes_stored_then a b d (front_moments list c.as_slice.result.now a b c.as_slice.ensures.same (c.store_members.ensures.moments told)) (back_moments list named.name b d its (c.store_text.ensures.moments told))
