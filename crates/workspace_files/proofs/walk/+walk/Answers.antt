-- Each name's branch is walked in its turn, or refuses the walk.
use Rattle.std.proofs.Common.{◌≡◌, ◌+◌, [], ◌∷◌, ◌++◌, take, sym, ap, subst, ◌∙◌, rules, IsTrue, Err, Option}
use Rattle.std.specs.Prelude.{IfErr, IfSome}
use Rattle.std.specs.FinMap.{entries}
use Rattle.dvc_base.specs.Path.{Path}
use Rattle.world_api.specs.Tree.{item_at}
use Rattle.world_api.specs.History.{History, IsCaused}
use Rattle.world_api.specs.Outside.{tree_of}
use Rattle.file_hash.specs.Walk.{below}
use Rattle.workspace_files.specs.Met.{Walks, IsRefusal, IsMet, IsVisit, IsVisitFault, IsInner}
use Rattle.workspace_files.proofs.MetLemmas.{caused_then}
use Rattle.workspace_files.proofs.NameLemmas.{AtName, at_name, next_walk, visit_open, visit_closed, visit_refusal, open_refusal, walked_all}
use Rattle.workspace_files.proofs.TreeOrder.{branches}
use Rattle.workspace_files.proofs.walk.+walk.Goals as goal
use Rattle.workspace_files.proofs.walk.+walk.Goals.{in-Some+in_ok-walk-in-Some, in-None}

pub returns-clause-walked : goal.returns-clause-walked
returns-clause-walked g t c = λ told.
    let tree = tree_of (g.F.Ground.history c.args.files.now) in
    walked_all tree c.args.at.now c.as_slice-name-items.result.now c.in_ok-names.names c.loop-name.name-index c.args.met.now c.loop-name.met (g.met.F.ReadFiles.stands c.args.files.now told).0 c.as_slice-name-items.ensures.same (c.in_ok-names.ensures.told told) c.in_ok-names.ensures.good.rise c.loop-name-test.false (c.loop-name.invariant.walked told)

pub returns-in_err-inner-clause-refused : goal.returns-in_err-inner-clause-refused
returns-in_err-inner-clause-refused g t c = λ told.
    let tree = tree_of (g.F.Ground.history c.args.files.now) in
    let at = c.args.at.now in
    let items = c.as_slice-name-items.result.now in
    let name = c.name-item.result in
    let i = c.loop-name.name-index in
    let q = at ++ name ∷ [] in
    let m = c.loop-name.met in
    let h = at_name tree at items c.in_ok-names.names i name (g.met.F.ReadFiles.stands c.args.files.now told).0 c.as_slice-name-items.ensures.same (c.in_ok-names.ensures.told told) c.in_ok-names.ensures.good.rise c.loop-name-test.true c.name-item.is in
    let why = c.in_err-inner.field-0.0 in
    let es = below at (entries tree) in
    let refused = subst (λ (x : History). IsVisitFault q (item_at (tree_of x) q) m why) (c.loop-name.invariant.same told) (c.in_err-inner.ensures.refused told) in
    let e : c.from_residual-in_err-inner.result ≡ Err why = search rules in
    subst (λ r. IfErr r (IsRefusal es c.args.met.now)) (sym e)
    (visit_refusal tree at items i name h c.args.met.now m why (c.loop-name.invariant.walked told) refused)

pub returns-in_err-walk-in-Some-clause-refused : goal.returns-in_err-walk-in-Some-clause-refused
returns-in_err-walk-in-Some-clause-refused g t c = λ told.
    let tree = tree_of (g.F.Ground.history c.args.files.now) in
    let at = c.args.at.now in
    let items = c.as_slice-name-items.result.now in
    let name = c.name-item.result in
    let i = c.loop-name.name-index in
    let q = at ++ name ∷ [] in
    let m = c.loop-name.met in
    let n = c.visit.new.met in
    let inner = c.in-Some.inner in
    let h = at_name tree at items c.in_ok-names.names i name (g.met.F.ReadFiles.stands c.args.files.now told).0 c.as_slice-name-items.ensures.same (c.in_ok-names.ensures.told told) c.in_ok-names.ensures.good.rise c.loop-name-test.true c.name-item.is in
    let why = c.in_err-walk-in-Some.field-0.0 in
    let es = below at (entries tree) in
    let is = (subst (λ (o : Option Path). IfSome o (IsInner q)) c.in-Some.is c.in_ok-inner.ensures.inner).0 in
    let seen = subst (λ (x : History). IsVisit q (item_at (tree_of x) q) m n c.in_ok-inner.field-0) (c.loop-name.invariant.same told) (c.in_ok-inner.ensures.visited told) in
    let visited = subst (IsVisit q (item_at tree q) m n) c.in-Some.is seen in
    let same = c.in_ok-inner.ensures.unchanged told ∙ c.loop-name.invariant.same told in
    let refused = subst (λ (x : History). IsRefusal (below inner (entries (tree_of x))) n why) same (c.in_err-walk-in-Some.ensures.refused told) in
    let e : c.from_residual-in_err-walk-in-Some.result ≡ Err why = search rules in
    subst (λ r. IfErr r (IsRefusal es c.args.met.now)) (sym e)
    (open_refusal tree at items i name h inner c.args.met.now m n why is (c.loop-name.invariant.walked told) visited refused)

pub loop-name-preserved : goal.loop-name-preserved
loop-name-preserved g t c =
    let hist = g.F.Ground.history in
    let faults = g.F.Ground.faults in
    let tree = tree_of (hist c.args.files.now) in
    let at = c.args.at.now in
    let items = c.as_slice-name-items.result.now in
    let name = c.name-item.result in
    let i = c.loop-name.name-index in
    let q = at ++ name ∷ [] in
    let m0 = c.args.met.now in
    let m = c.loop-name.met in
    let n = c.visit.new.met in
    let inv = c.loop-name.invariant in
    let visit = c.in_ok-inner.ensures in
    let h : IsTrue g.F.Ground.tells → AtName tree at items i name = λ told. at_name tree at items c.in_ok-names.names i name (g.met.F.ReadFiles.stands c.args.files.now told).0 c.as_slice-name-items.ensures.same (c.in_ok-names.ensures.told told) c.in_ok-names.ensures.good.rise c.loop-name-test.true c.name-item.is in
    let visited : IsTrue g.F.Ground.tells → IsVisit q (item_at tree q) m n c.in_ok-inner.field-0 = λ told. subst (λ (x : History). IsVisit q (item_at (tree_of x) q) m n c.in_ok-inner.field-0) (inv.same told) (visit.visited told) in
    let same : IsTrue g.F.Ground.tells → hist c.visit.new.files ≡ hist c.args.files.now = λ told. visit.unchanged told ∙ inv.same told in
    let counted = caused_then (faults c.args.files.now) (faults c.loop-name.files) (faults c.visit.new.files) inv.counted visit.cause.same visit.cause.later in
    elim c.match-branch-3.branch [
      | in-Some+in_ok-walk-in-Some w ↦
          let inner = w.in-Some.inner in
          let ok = w.in_ok-walk-in-Some.ensures in
          let last = w.walk.new.met in
          let is = (subst (λ (o : Option Path). IfSome o (IsInner q)) w.in-Some.is visit.inner).0 in
          record {
            same = λ told. ap hist w.files-is ∙ ok.unchanged told ∙ same told;
            walked = λ told. subst (Walks (branches at (entries tree) (take (i + 1) items)) m0) (sym w.met-is) (next_walk tree at items i name (h told) m0 m last (inv.walked told) (visit_open tree at items i name (h told) inner m n last is (subst (IsVisit q (item_at tree q) m n) w.in-Some.is (visited told)) (subst (λ (x : History). Walks (below inner (entries (tree_of x))) n last) (same told) (ok.walked told))));
            met = subst IsMet (sym w.met-is) ok.good;
            counted = subst (λ f. IsCaused (faults c.args.files.now) (faults f) ⊥) (sym w.files-is) (caused_then (faults c.args.files.now) (faults c.visit.new.files) (faults w.walk.new.files) counted ok.cause.same ok.cause.later);
          }
      | in-None w ↦ record {
        same = λ told. ap hist w.files-is ∙ same told;
        walked = λ told. subst (Walks (branches at (entries tree) (take (i + 1) items)) m0) (sym w.met-is) (next_walk tree at items i name (h told) m0 m n (inv.walked told) (visit_closed tree at items i name (h told) m n (subst (IsVisit q (item_at tree q) m n) w.in-None.is (visited told))));
        met = subst IsMet (sym w.met-is) visit.good;
        counted = subst (λ f. IsCaused (faults c.args.files.now) (faults f) ⊥) (sym w.files-is) counted;
      }
    ]
