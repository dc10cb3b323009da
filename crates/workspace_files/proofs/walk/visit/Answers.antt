-- What stands at the name is what the outside tells.
use Rattle.std.proofs.Common.{◌≡◌, ◌≤◌, [], ◌∷◌, ◌++◌, length, sym, subst, ◌∙◌, arith}
use Rattle.dvc_base.specs.Path.{Path}
use Rattle.world_api.specs.Tree.{item_at}
use Rattle.world_api.specs.Calls.{kind_of}
use Rattle.world_api.specs.Outside.{tree_of}
use Rattle.world_api.specs.declared.files.Kind.TheVariants.{File}
use Rattle.workspace_files.specs.Met.{IsAdded}
use Rattle.workspace_files.proofs.MetLemmas.{visit_file}
use Rattle.workspace_files.proofs.PathsLemmas.{parts_short}
use Rattle.workspace_files.proofs.walk.visit.Goals as goal

pub returns-in_ok-add_file-in-Ok-File-clause-visited : goal.returns-in_ok-add_file-in-Ok-File-clause-visited
returns-in_ok-add_file-in-Ok-File-clause-visited g c = λ told.
    let tree = tree_of (g.F.Ground.history c.args.files.now) in
    let q = c.args.at.now ++ c.args.name.now ∷ [] in
    let old = c.args.met.now in
    let new = c.add_file.new.met in
    let size = c.in-Ok-File.field-0-0 in
    let is : c.in_ok-path.path ≡ q = c.in_ok-path.ensures.exact in
    visit_file q (item_at tree q) size old new
    (subst (λ (p : Path). File size ≡ kind_of (item_at tree p)) is (sym c.in-Ok-File.field-0-is ∙ c.in-Ok-File.ensures.told told))
    (subst (λ (p : Path). IsAdded p old new) is c.in_ok-add_file-in-Ok-File.ensures.added)

pub returns-in_ok-count-in-Ok-Folder-clause-inner : goal.returns-in_ok-count-in-Ok-Folder-clause-inner
returns-in_ok-count-in-Ok-Folder-clause-inner g c =
    let is = c.in_ok-path.ensures.exact in
    let few = parts_short c.path.inside.parts.items c.path.invariant.normal in
    (is, subst (λ (p : Path). length p ≤ 1024) (c.path.view_is ∙ is) (omega (arith, few, c.path.invariant.short)))
