use Rattle.std.proofs.Common.{ap, ◌∙◌, inr}
use Rattle.dvc_base.specs.Path.{Path}
use Rattle.world_api.specs.Tree.{item_at}
use Rattle.object_cache.specs.Objects.{object_path}
use Rattle.world_api.specs.Calls.{kind_of}
use Rattle.object_cache.proofs.CopyLemmas.{read_moments}
use Rattle.object_cache.proofs.DueLemmas.{absent_of}
use Rattle.object_cache.proofs.give.copy_at.Goals as goal

pub returns-in_err-kind-clause-moments : goal.returns-in_err-kind-clause-moments
returns-in_err-kind-clause-moments g c told =
    read_moments (g.F.Ground.history c.args.files.now) (g.F.Ground.history c.kind.new.self) (c.kind.ensures.unchanged told)

pub returns-in_default-clause-answer : goal.returns-in_default-clause-answer
returns-in_default-clause-answer g c told =
    let t = (g.F.Ground.history c.args.files.now).present.tree in
    inr (absent_of (item_at t (object_path c.args.name.now)) c.args.name.now c.in_ok-kind.kind (c.in_ok-kind.ensures.told told ∙ ap (λ (p : Path). kind_of (item_at t p)) c.requires) c.in_default.not-File)

pub returns-in_default-clause-moments : goal.returns-in_default-clause-moments
returns-in_default-clause-moments g c told =
    read_moments (g.F.Ground.history c.args.files.now) (g.F.Ground.history c.kind.new.self) (c.kind.ensures.unchanged told)
