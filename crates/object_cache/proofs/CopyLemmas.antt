-- Laws of a file that is copied into the lane.
use Rattle.std.proofs.Common.{◌≡◌, ℕ, false, sym, ◌∙◌}
use Rattle.std.proofs.lemmas.Bool.{or_from}
use Rattle.dvc_base.specs.Path.{Path, under}
use Rattle.world_api.specs.Tree.{item_at}
use Rattle.world_api.specs.History.{Moment, History, Passes}
use Rattle.world_api.specs.Calls.{IsFileAt}
use Rattle.world_api.specs.Layout.{dvc_path, tmp_path}
use Rattle.file_bytes.specs.Reading.{IsTold}
use Rattle.world_api.specs.Writes.{is_at, in_scratch, InScratch, InAppend, IsNoScratch}
use Rattle.world_api.proofs.HistoryLemmas.{passes_same, passes_on}
use Rattle.world_api.proofs.LaneLemmas.{not_at}
use Rattle.world_api.proofs.WriteLemmas.{scratch_itself, scratch_then, scratch_same, passes_append}

pub read_moments : (a b : History) → b ≡ a → Passes (InScratch a.present) a b
read_moments a b e = passes_same (InScratch a.present) a b e (scratch_itself a.present)

pub append_moments : (a b c : History) → b ≡ a → Passes (InAppend 0 b.present) b c → Passes (InScratch a.present) a c
append_moments a b c e y = passes_append 0 a b c (read_moments a b e) y

pub more_moments : (a b c : History) → Passes (InScratch a.present) a b → Passes (InScratch b.present) b c → Passes (InScratch a.present) a c
more_moments a b c x y = passes_on (InScratch a.present) (InScratch b.present) a b c x (λ m h. scratch_then a.present b.present m x.now h) y

no_scratch : (from : Path) → IsNoScratch from → in_scratch from ≡ false
no_scratch from out = or_from (is_at dvc_path from) (under tmp_path from) (not_at dvc_path from (λ s. out.no_dvc (sym s))) out.no_tmp

pub item_kept : (from : Path) (m n : Moment) → IsNoScratch from → InScratch m n → item_at n.tree from ≡ item_at m.tree from
item_kept from m n out h = (scratch_same from m n h (no_scratch from out)).item

pub file_kept : (from : Path) (m n : Moment) → IsNoScratch from → InScratch m n → IsFileAt m.tree from → IsFileAt n.tree from
file_kept from m n out h (bytes, e) = (bytes, item_kept from m n out h ∙ e)

pub told_kept : (from : Path) (size : ℕ) (m n : Moment) → IsNoScratch from → InScratch m n → IsTold (item_at m.tree from) size → IsTold (item_at n.tree from) size
told_kept from size m n out h (bytes, (e, count)) = (bytes, (item_kept from m n out h ∙ e, count))
