-- Each name's branch is walked in its turn, or refuses the walk.
use Rattle.std.proofs.Common.{◌≡◌, ◌+◌, ◌≤◌, [], ◌∷◌, ◌++◌, take, sym, ap, subst, ◌∙◌, refl, rules, arith, IsTrue, Err}
use Rattle.std.specs.Prelude.{IfErr}
use Rattle.std.specs.FinMap.{entries}
use Rattle.std.proofs.lemmas.List.{append-nil}
use Rattle.dvc_base.specs.Path.{Path}
use Rattle.world_api.specs.Tree.{item_at}
use Rattle.world_api.specs.History.{History}
use Rattle.world_api.specs.Outside.{tree_of}
use Rattle.file_hash.specs.Walk.{below, Walks, IsRefusal, FindsAmong, IsSeen, IsSeenAt}
use Rattle.file_hash.proofs.TreeOrder.{branches}
use Rattle.file_hash.proofs.NameTurn.{AtName, at_name, look_sound, next_walk, next_refusal, not_missing, file_walk, file_refusal, folder_walk, folder_refusal, look_refusal, add_refusal, walk_refusal, found_step, found_all, rising_items, file_apart, walked_all, AllUnder}
use Rattle.file_hash.proofs.walk.+walk.Goals as goal
use Rattle.file_hash.proofs.walk.+walk.Goals.{in-Nothing, in-File+in_ok-add-in-File, in-Folder+in_ok-walk-in-Folder}

pub returns-clause-found : goal.returns-clause-found
returns-clause-found g t c = found_all c.args.inner.now _ c.args.met.now c.loop-name.met c.loop-name.invariant.found

pub returns-clause-walked : goal.returns-clause-walked
returns-clause-walked g t c = λ told.
    let tree = tree_of (g.F.Ground.history c.args.files.now) in
    walked_all tree c.args.at.now c.args.inner.now c.as_slice-name-items.result.now c.in_ok-names.names c.loop-name.name-index c.args.met.now c.loop-name.met (g.met.F.ReadFiles.stands c.args.files.now told).0 c.as_slice-name-items.ensures.same (c.in_ok-names.ensures.told told) c.in_ok-names.ensures.good.rise c.loop-name-test.false (c.loop-name.invariant.walked told)

pub returns-in_err-look-clause-refused : goal.returns-in_err-look-clause-refused
returns-in_err-look-clause-refused g t c = λ told.
    let tree = tree_of (g.F.Ground.history c.args.files.now) in
    let at = c.args.at.now in
    let inner = c.args.inner.now in
    let items = c.as_slice-name-items.result.now in
    let name = c.name-item.result in
    let i = c.loop-name.name-index in
    let h = at_name tree at inner items c.in_ok-names.names i name (g.met.F.ReadFiles.stands c.args.files.now told).0 c.as_slice-name-items.ensures.same (c.in_ok-names.ensures.told told) c.in_ok-names.ensures.good.rise c.loop-name-test.true c.name-item.is in
    let why = c.in_err-look.field-0.0 in
    let es = below (at ++ inner) (entries tree) in
    let e : c.from_residual-in_err-look.result ≡ Err why = search rules in
    subst (λ r. IfErr r (IsRefusal c.args.met.now es)) (sym e) (look_refusal c.args.met.now es why (look_sound tree at inner items i name h why c.in_err-look.ensures.kinds))

pub returns-in_err-add-in-File-clause-refused : goal.returns-in_err-add-in-File-clause-refused
returns-in_err-add-in-File-clause-refused g t c = λ told.
    let tree = tree_of (g.F.Ground.history c.args.files.now) in
    let at = c.args.at.now in
    let inner = c.args.inner.now in
    let items = c.as_slice-name-items.result.now in
    let name = c.name-item.result in
    let i = c.loop-name.name-index in
    let q = at ++ (inner ++ name ∷ []) in
    let h = at_name tree at inner items c.in_ok-names.names i name (g.met.F.ReadFiles.stands c.args.files.now told).0 c.as_slice-name-items.ensures.same (c.in_ok-names.ensures.told told) c.in_ok-names.ensures.good.rise c.loop-name-test.true c.name-item.is in
    let why = c.in_err-add-in-File.field-0.0 in
    let es = below (at ++ inner) (entries tree) in
    let seen : IsSeen (item_at tree q) c.in_ok-look.field-0 = subst (λ (x : History). IsSeen (item_at (tree_of x) q) c.in_ok-look.field-0) (c.loop-name.invariant.same told) (c.in_ok-look.ensures.told told) in
    let sized = subst (IsSeen (item_at tree q)) c.in-File.is seen in
    let e : c.from_residual-in_err-add-in-File.result ≡ Err why = search rules in
    subst (λ r. IfErr r (IsRefusal c.args.met.now es)) (sym e)
    (add_refusal c.args.met.now c.loop-name.met c.in-File.size es why (λ what limit. next_refusal tree at inner items i name h c.args.met.now c.loop-name.met what (c.loop-name.invariant.walked told) (file_refusal tree at inner items i name h c.in-File.size c.loop-name.met what sized limit)) c.in_err-add-in-File.ensures.refused)

pub returns-in_err-walk-in-Folder-clause-refused : goal.returns-in_err-walk-in-Folder-clause-refused
returns-in_err-walk-in-Folder-clause-refused g t c = λ told.
    let tree = tree_of (g.F.Ground.history c.args.files.now) in
    let at = c.args.at.now in
    let inner = c.args.inner.now in
    let items = c.as_slice-name-items.result.now in
    let name = c.name-item.result in
    let i = c.loop-name.name-index in
    let path = c.in-Folder.path in
    let q = at ++ (inner ++ name ∷ []) in
    let m = c.loop-name.met in
    let h = at_name tree at inner items c.in_ok-names.names i name (g.met.F.ReadFiles.stands c.args.files.now told).0 c.as_slice-name-items.ensures.same (c.in_ok-names.ensures.told told) c.in_ok-names.ensures.good.rise c.loop-name-test.true c.name-item.is in
    let why = c.in_err-walk-in-Folder.field-0.0 in
    let es = below (at ++ inner) (entries tree) in
    let fs = below (at ++ path) (entries tree) in
    let seen : IsSeen (item_at tree q) c.in_ok-look.field-0 = subst (λ (x : History). IsSeen (item_at (tree_of x) q) c.in_ok-look.field-0) (c.loop-name.invariant.same told) (c.in_ok-look.ensures.told told) in
    let there = subst (IsSeen (item_at tree q)) c.in-Folder.is seen in
    let is = (subst (IsSeenAt (inner ++ name ∷ [])) c.in-Folder.is c.in_ok-look.ensures.seen).0 in
    let same = c.in_ok-look.ensures.unchanged told ∙ c.loop-name.invariant.same told in
    let refused = subst (λ (x : History). IsRefusal m (below (at ++ path) (entries (tree_of x))) why) same (c.in_err-walk-in-Folder.ensures.refused told) in
    let e : c.from_residual-in_err-walk-in-Folder.result ≡ Err why = search rules in
    subst (λ r. IfErr r (IsRefusal c.args.met.now es)) (sym e)
    (walk_refusal c.args.met.now m es fs why (λ what limit. next_refusal tree at inner items i name h c.args.met.now m what (c.loop-name.invariant.walked told) (folder_refusal tree at inner items i name h path m what is there limit)) refused)

pub loop-name-preserved : goal.loop-name-preserved
loop-name-preserved g t c =
    let hist = g.F.Ground.history in
    let faults = g.F.Ground.faults in
    let tree = tree_of (hist c.args.files.now) in
    let at = c.args.at.now in
    let inner = c.args.inner.now in
    let items = c.as_slice-name-items.result.now in
    let name = c.name-item.result in
    let i = c.loop-name.name-index in
    let q = at ++ (inner ++ name ∷ []) in
    let m = c.loop-name.met in
    let m0 = c.args.met.now in
    let inv = c.loop-name.invariant in
    let rising = rising_items items c.in_ok-names.names c.as_slice-name-items.ensures.same c.in_ok-names.ensures.good.rise in
    let h : IsTrue g.F.Ground.tells → AtName tree at inner items i name = λ told. at_name tree at inner items c.in_ok-names.names i name (g.met.F.ReadFiles.stands c.args.files.now told).0 c.as_slice-name-items.ensures.same (c.in_ok-names.ensures.told told) c.in_ok-names.ensures.good.rise c.loop-name-test.true c.name-item.is in
    let seen : IsTrue g.F.Ground.tells → IsSeen (item_at tree q) c.in_ok-look.field-0 = λ told. subst (λ (x : History). IsSeen (item_at (tree_of x) q) c.in_ok-look.field-0) (inv.same told) (c.in_ok-look.ensures.told told) in
    let same : IsTrue g.F.Ground.tells → hist c.look.new.files ≡ hist c.args.files.now = λ told. c.in_ok-look.ensures.unchanged told ∙ inv.same told in
    let cause = c.in_ok-look.ensures.cause in
    let later : (faults c.args.files.now).count ≤ (faults c.look.new.files).count = omega (arith, inv.later, cause.later) in
    elim c.match-branch-3.branch [
      | in-Nothing w ↦ record {
        same = λ told. ap hist w.files-is ∙ same told;
        walked = λ told. absurd (not_missing tree at inner items i name (h told) (subst (IsSeen (item_at tree q)) w.in-Nothing.is (seen told)));
        found = subst (FindsAmong inner (take (i + 1) items) m0) (sym w.met-is) (found_step inner items i name m0 m m [] rising c.loop-name-test.true c.name-item.is inv.found (sym (append-nil m.found)) tt refl);
        origin = ap (λ f. (faults f).origin) w.files-is ∙ cause.same ∙ inv.origin;
        later = subst (λ f. (faults c.args.files.now).count ≤ (faults f).count) (sym w.files-is) later;
      }
      | in-File+in_ok-add-in-File w ↦
          let path = w.in-File.path in
          let is = subst (IsSeenAt (inner ++ name ∷ [])) w.in-File.is c.in_ok-look.ensures.seen in
          let added = w.in_ok-add-in-File.ensures.added in
          record {
            same = λ told. ap hist w.files-is ∙ same told;
            walked = λ told. subst (Walks at (branches (at ++ inner) (entries tree) (take (i + 1) items)) m0) (sym w.met-is) (next_walk tree at inner items i name (h told) m0 m w.add.new.met (inv.walked told) (file_walk tree at inner items i name (h told) path w.in-File.size m w.add.new.met is (subst (IsSeen (item_at tree q)) w.in-File.is (seen told)) added));
            found = subst (FindsAmong inner (take (i + 1) items) m0) (sym w.met-is) (found_step inner items i name m0 m w.add.new.met (record { path = path; size = w.in-File.size } ∷ []) rising c.loop-name-test.true c.name-item.is inv.found added.found (file_apart inner name path w.in-File.size is).0 (file_apart inner name path w.in-File.size is).1);
            origin = ap (λ f. (faults f).origin) w.files-is ∙ cause.same ∙ inv.origin;
            later = subst (λ f. (faults c.args.files.now).count ≤ (faults f).count) (sym w.files-is) later;
          }
      | in-Folder+in_ok-walk-in-Folder w ↦
          let path = w.in-Folder.path in
          let is = (subst (IsSeenAt (inner ++ name ∷ [])) w.in-Folder.is c.in_ok-look.ensures.seen).0 in
          let n = w.walk.new.met in
          let ok = w.in_ok-walk-in-Folder.ensures in
          record {
            same = λ told. ap hist w.files-is ∙ ok.unchanged told ∙ same told;
            walked = λ told. subst (Walks at (branches (at ++ inner) (entries tree) (take (i + 1) items)) m0) (sym w.met-is) (next_walk tree at inner items i name (h told) m0 m n (inv.walked told) (folder_walk tree at inner items i name (h told) path m n is (subst (IsSeen (item_at tree q)) w.in-Folder.is (seen told)) (subst (λ (x : History). Walks at (below (at ++ path) (entries (tree_of x))) m n) (same told) (ok.walked told))));
            found = subst (FindsAmong inner (take (i + 1) items) m0) (sym w.met-is) (found_step inner items i name m0 m n ok.found.more rising c.loop-name-test.true c.name-item.is inv.found ok.found.grown (subst (λ (p : Path). AllUnder p ok.found.more) is ok.found.inside) ok.found.apart);
            origin = ap (λ f. (faults f).origin) w.files-is ∙ ok.cause.same ∙ cause.same ∙ inv.origin;
            later = subst (λ f. (faults c.args.files.now).count ≤ (faults f).count) (sym w.files-is) (omega (arith, later, ok.cause.later));
          }
    ]
