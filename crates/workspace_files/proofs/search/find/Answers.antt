-- What was met keeps its kind when it is put in order.
use Rattle.std.proofs.Common.{◌≡◌, true, sym, subst, arith, Result, Ok, Err}
use Rattle.std.specs.Prelude.{IfOk}
use Rattle.std.specs.Cmp.{IsStrictWeakOrder}
use Rattle.std.proofs.lemmas.Cmp.{nat_list_cmp_total}
use Rattle.std.proofs.lemmas.List.MinMax.{ranks_by}
use Rattle.dvc_base.specs.Path.{path_text}
use Rattle.dvc_base.specs.declared.fault.Fault.{Fault}
use Rattle.file_hash.proofs.OrderLemmas.{order_each, order_length}
use Rattle.workspace_files.specs.Walk.{is_before, is_ignore_path, is_track_path, IsFound}
use Rattle.workspace_files.specs.Met.{IsMet, found_of}
use Rattle.workspace_files.specs.declared.search.Found.{Found}
use Rattle.workspace_files.specs.declared.walk.Met.{Met}
use Rattle.workspace_files.proofs.search.find.Goals as goal

weak : IsStrictWeakOrder is_before
weak = ranks_by nat_list_cmp_total path_text

found_met : (m : Met) → IsMet m → IsFound (found_of m)
found_met m h = record {
  few = omega (arith, order_length is_before weak m.tracks, h.few, h.within);
  ignores = order_each is_before weak (λ p. is_ignore_path p ≡ true) m.ignores h.ignores;
  tracks = order_each is_before weak (λ p. is_track_path p ≡ true) m.tracks h.tracks;
}

found_good : (r : Result Found Fault) (m : Met) → IfOk r (λ found. found ≡ found_of m) → IsMet m → IfOk r IsFound
found_good (Ok found) m e h = subst IsFound (sym e) (found_met m h)
found_good (Err fault) m e h = tt

pub returns-in-Ok-clause-found : goal.returns-in-Ok-clause-found
returns-in-Ok-clause-found g c = found_good c.found_of.result c.in-Ok.met c.found_of.ensures.exact c.in-Ok.ensures.good
