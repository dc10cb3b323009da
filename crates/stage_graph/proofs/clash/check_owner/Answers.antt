-- The first owner that overlaps this one tells whether an earlier one does.
use Rattle.std.proofs.Common.{◌≡◌, ◌<◌, List, Some, length, sym, ap, ◌∙◌, subst, inr}
use Rattle.std.proofs.lemmas.List.{length-map}
use Rattle.dvc_base.specs.Path.{Path}
use Rattle.dvc_base.specs.declared.fault.Fault.{Fault}
use Rattle.path_index.specs.Overlap.{first_overlap}
use Rattle.stage_graph.specs.Clash.{clash_of}
use Rattle.stage_graph.specs.Paths.{owner_paths}
use Rattle.stage_graph.specs.declared.owner.Owner.{Owner}
use Rattle.stage_graph.proofs.ClashLemmas.{found_before, none_before, none_found}
use Rattle.stage_graph.proofs.clash.check_owner.Goals as goal

pub bounds-owners-first : goal.bounds-owners-first
bounds-owners-first c =
    let os = c.args.owners.now in
    subst (λ n. c.in-Some.first < n) (ap (λ (ps : List Path). length ps) c.requires.paths ∙ length-map os (λ o. o.path)) c.in-Some.ensures.within

pub returns-in_ok-fault-in-Some : goal.returns-in_ok-fault-in-Some
returns-in_ok-fault-in-Some c =
    let os = c.args.owners.now in
    let o = c.args.owner.now in
    let first = c.in-Some.first in
    let earlier = c.index-owners-first.result in
    let at : first_overlap (owner_paths os) o.path ≡ Some first =
    ap (λ (ps : List Path). first_overlap ps o.path) (sym c.requires.paths) ∙ sym c.in-Some.ensures.exact in
    record {
      checked = inr (found_before os o first c.args.place earlier at c.if-first-place.true
          ∙ ap (λ (p : Owner). Some (clash_of p o)) (sym c.index-owners-first.is)
          ∙ ap (λ (fault : Fault). Some fault) (sym c.in_ok-fault-in-Some.ensures.exact));
    }

pub returns-else-first-place : goal.returns-else-first-place
returns-else-first-place c =
    let os = c.args.owners.now in
    let o = c.args.owner.now in
    let at : first_overlap (owner_paths os) o.path ≡ Some c.in-Some.first =
    ap (λ (ps : List Path). first_overlap ps o.path) (sym c.requires.paths) ∙ sym c.in-Some.ensures.exact in
    record { checked = none_before os o c.in-Some.first c.args.place at c.if-first-place.false }

pub returns-in-None : goal.returns-in-None
returns-in-None c =
    let os = c.args.owners.now in
    let o = c.args.owner.now in
    record {
      checked = none_found os o c.args.place (ap (λ (ps : List Path). first_overlap ps o.path) (sym c.requires.paths) ∙ sym c.in-None.ensures.exact);
    }
