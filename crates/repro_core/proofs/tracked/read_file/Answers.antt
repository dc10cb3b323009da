-- What a file gives follows from what its keys gave, or from why it holds no parameters.
use Rattle.std.proofs.Common.{refl, ap, Some, Err}
use Rattle.dvc_base.proofs.FaultLemmas.{may_be-wider}
use Rattle.world_api.specs.Tree.{item_at}
use Rattle.world_api.specs.Outside.{tree_of}
use Rattle.params.specs.Read.{params_at}
use Rattle.repro_core.specs.Steps.{params_kinds, tracked_kinds}
use Rattle.repro_core.proofs.TrackedLemmas.{caused, file_answer, file_value, file_text, file_form, file_told, file_kinds, file_honest, file_blameless, why_answer, why_told}
use Rattle.repro_core.proofs.tracked.read_file.Goals as goal

pub returns-in-Ok : goal.returns-in-Ok
returns-in-Ok g c =
    let w = c.args.tracked.now in
    let root = c.in-Ok.root in
    let due = params_at (item_at (tree_of (g.F.Ground.history c.args.files.now)) w.path) in
    let r = c.file_of.result in
    let gave = c.file_of.ensures.exact in
    let read = c.in-Ok.ensures in
    record {
      answer = λ told. file_answer w root due (read.read told) r gave;
      read = λ told. file_value w root due (read.read told) r gave;
      text = file_text w root read.printable read.shallow c.requires.keys r gave;
      keys = file_form w root read.printable read.shallow c.requires.keys r gave;
      unchanged = c.read_params.ensures.unchanged;
      told = λ s own. file_told w root s r own gave;
      kinds = file_kinds w root r gave;
      honest = file_honest w root g.F.Ground.tells r gave;
      cause = caused _ _ _ _ (λ e. absurd (file_blameless w root r gave e)) c.read_params.ensures.cause;
    }

pub returns-in-Err : goal.returns-in-Err
returns-in-Err g c =
    let w = c.args.tracked.now in
    let why = c.in-Err.why in
    let fault = c.params_answer.result in
    let says = c.params_answer.ensures in
    let due = params_at (item_at (tree_of (g.F.Ground.history c.args.files.now)) w.path) in
    record {
      answer = λ told. why_answer w why fault due says.exact (c.in-Err.ensures.read told);
      read = λ told. tt;
      text = tt;
      keys = tt;
      unchanged = c.read_params.ensures.unchanged;
      told = λ s own. why_told w.path why fault says.exact s own;
      kinds = may_be-wider params_kinds tracked_kinds refl (Some fault) says.kinds;
      honest = says.honest g.F.Ground.tells c.in-Err.ensures.changed;
      cause = caused _ _ _ _ (λ e. ap Err (says.failed (cc))) c.in-Err.ensures.cause;
    }
