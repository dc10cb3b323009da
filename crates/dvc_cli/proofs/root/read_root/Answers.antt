-- Null has no keys.
use Rattle.yaml_nodes.specs.Document.{max_depth}
use Rattle.yaml_print.proofs.SoundLemmas.{sound_null}
use Rattle.dvc_cli.proofs.root.read_root.Goals as goal

pub returns-in-None-clause-printable : goal.returns-in-None-clause-printable
returns-in-None-clause-printable g c = sound_null max_depth
