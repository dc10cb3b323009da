-- A look changes nothing.
use Rattle.repro_core.proofs.StoredLemmas.{passes_untouched}
use Rattle.std.proofs.Common.{refl}
use Rattle.repro_core.proofs.store.keep_output.Goals as goal

pub returns-then-not-out-clause-moments : goal.returns-then-not-out-clause-moments
returns-then-not-out-clause-moments g c told =
    passes_untouched (g.F.Ground.history c.args.files.now) (g.F.Ground.history c.args.files.now) refl

pub returns-in_err-holds_file-clause-moments : goal.returns-in_err-holds_file-clause-moments
returns-in_err-holds_file-clause-moments g c told =
    passes_untouched (g.F.Ground.history c.args.files.now) (g.F.Ground.history c.holds_file.new.files) (c.holds_file.ensures.unchanged told)

pub returns-then-branch-clause-moments : goal.returns-then-branch-clause-moments
returns-then-branch-clause-moments g c told =
    passes_untouched (g.F.Ground.history c.args.files.now) (g.F.Ground.history c.holds_file.new.files) (c.holds_file.ensures.unchanged told)
