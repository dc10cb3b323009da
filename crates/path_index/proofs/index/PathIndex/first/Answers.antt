-- The path at the first place is the first.
use Rattle.std.proofs.Common.{◌≡◌, ◌∙◌, None, Some, ap, sym, rules}
use Rattle.std.specs.List.{find, position_from}
use Rattle.std.specs.Option.{option_copied}
use Rattle.dvc_base.specs.Path.{Path, overlap}
use Rattle.path_index.proofs.FirstLemmas.{find_place, find_nowhere}
use Rattle.path_index.proofs.index.PathIndex.first.Goals as goal

pub returns-in_err-place : goal.returns-in_err-place
returns-in_err-place c =
    let gone : c.from_residual.result ≡ None = search rules in
    record { exact = ap option_copied gone ∙ sym (find_nowhere (λ q. overlap q c.args.path.now) c.args.self.now (sym c.in_err-place.was ∙ c.first_overlap.ensures.exact)) }

pub returns : goal.returns
returns c =
    let test = λ (q : Path). overlap q c.args.path.now in
    let paths = c.paths.result.now in
    let same = c.paths.ensures.same in
    let first : Some c.in_ok-place.place ≡ position_from test 0 paths = sym c.in_ok-place.was ∙ c.first_overlap.ensures.exact ∙ ap (position_from test 0) (sym same) in
    record { exact = find_place test paths c.in_ok-place.place c.get.result first c.get.ensures.lookup.0 c.get.ensures.lookup.1 ∙ ap (find test) same }
