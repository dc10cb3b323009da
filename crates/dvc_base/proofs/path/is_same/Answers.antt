-- Two paths are one where each lies at or below the other.
use Rattle.std.proofs.Common.{◌≡◌, IsTrue, true, false, refl, sym, ◌∙◌, ap, arith}
use Rattle.std.proofs.lemmas.Bool.{false≢true}
use Rattle.dvc_base.specs.Path.{under}
use Rattle.dvc_base.proofs.PathLemmas.{under-antisym, under-refl}
use Rattle.dvc_base.proofs.path.is_same.Goals as goal

pub returns-then-is_at_or_below-clause-equal : goal.returns-then-is_at_or_below-clause-equal
returns-then-is_at_or_below-clause-equal c =
    let antisym = under-antisym c.args.a.now c.args.b.now in
    let self = under-refl c.args.a.now in
    grind (arith, antisym, self)

pub returns-else-is_at_or_below-clause-equal : goal.returns-else-is_at_or_below-clause-equal
returns-else-is_at_or_below-clause-equal c =
    let self = under-refl c.args.a.now in
    grind (arith, self)
