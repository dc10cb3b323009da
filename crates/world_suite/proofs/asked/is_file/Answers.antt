-- Where `kind` answers a file, a file stands.
use Rattle.std.proofs.Common.{◌≡◌}
use Rattle.world_api.specs.Tree.{item_at}
use Rattle.world_api.specs.Calls.{kind_of}
use Rattle.world_api.specs.declared.files.Kind.TheVariants.{File}
use Rattle.world_api.proofs.ValueLemmas.{file_of_kind}
use Rattle.world_suite.proofs.asked.is_file.Goals as goal

pub returns-in-File : goal.returns-in-File
returns-in-File g c = record {
  file = λ is told.
      let told_kind = c.in_ok-kind.ensures.told told in
      let same = c.in_ok-kind.ensures.unchanged told in
      let e : File c.in-File.size ≡ kind_of (item_at (g.W.Ground.history c.kind.new.self).present.tree c.args.at.now) = cc in
      file_of_kind (item_at (g.W.Ground.history c.kind.new.self).present.tree c.args.at.now) c.in-File.size e;
}
