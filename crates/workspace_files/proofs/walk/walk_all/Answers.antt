-- The walk began with nothing, at the root, below which the whole tree lies.
use Rattle.std.proofs.Common.{◌≡◌, List, sym, ap, subst, ◌∙◌, rules, Err}
use Rattle.std.specs.Prelude.{IfErr}
use Rattle.std.specs.FinMap.{entries}
use Rattle.dvc_base.specs.Path.{Path}
use Rattle.world_api.specs.Outside.{tree_of}
use Rattle.file_hash.specs.Walk.{below}
use Rattle.workspace_files.specs.Met.{Walks, IsRefusal, nothing_met}
use Rattle.workspace_files.specs.declared.walk.Met.{Met}
use Rattle.workspace_files.proofs.MetLemmas.{from_nothing}
use Rattle.workspace_files.proofs.NameLemmas.{below_root}
use Rattle.workspace_files.proofs.TreeOrder.{Entry}
use Rattle.workspace_files.proofs.walk.walk_all.Goals as goal

pub returns-in_err-walk-clause-refused : goal.returns-in_err-walk-clause-refused
returns-in_err-walk-clause-refused g c = λ told.
    let tree = tree_of (g.F.Ground.history c.args.files.now) in
    let why = c.in_err-walk.field-0.0 in
    let es = below c.root.result (entries tree) in
    let whole : es ≡ entries tree = ap (λ (p : Path). below p (entries tree)) c.root.ensures.root ∙ below_root tree (g.met.F.ReadFiles.stands c.args.files.now told).0 in
    let refused = from_nothing (λ (m : Met). IsRefusal es m why) c.new.result c.new-2.result c.new.ensures.empty c.new-2.ensures.empty (c.in_err-walk.ensures.refused told) in
    let e : c.from_residual.result ≡ Err why = search rules in
    subst (λ r. IfErr r (IsRefusal (entries tree) nothing_met)) (sym e) (subst (λ (fs : List Entry). IsRefusal fs nothing_met why) whole refused)

pub returns-clause-walked : goal.returns-clause-walked
returns-clause-walked g c = λ told.
    let tree = tree_of (g.F.Ground.history c.args.files.now) in
    let last = c.walk-2.new.met in
    let es = below c.root.result (entries tree) in
    let whole : es ≡ entries tree = ap (λ (p : Path). below p (entries tree)) c.root.ensures.root ∙ below_root tree (g.met.F.ReadFiles.stands c.args.files.now told).0 in
    let walked = from_nothing (λ (m : Met). Walks es m last) c.new.result c.new-2.result c.new.ensures.empty c.new-2.ensures.empty (c.in_ok-walk.ensures.walked told) in
    subst (λ (fs : List Entry). Walks fs nothing_met last) whole walked
