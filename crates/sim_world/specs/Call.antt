-- What one call makes of a world in memory.
--     Makes r make part old new      Ok made this history, and Err a part of it
--     Counted r before now           each refusal is counted once, and each is for want of memory
--     IsEdited at v m n              the value stands at the path, on the disk, and all else is as before
use Rattle.std.specs.Prelude.{◌≡◌, ℕ, ◌+◌, ◌-◌, ◌^◌, nat_lt, true, false, Result, Ok, Err, if◌then◌else◌}
use Rattle.dvc_base.specs.Path.{Path}
use Rattle.world_api.specs.Tree.{value_at}
use Rattle.world_api.specs.History.{Moment, History, Stays, itself, KeepsPaths}
use Rattle.sim_world.specs.Answer.{told}
use Rattle.sim_world.specs.Edits.{is_edited}
use Rattle.sim_world.specs.declared.value.Value.{Value}

abbrev pub Makes : {T E : Type 0} → Result T E → (History → History) → (History → History → Type 0) → History → History → Type 0
Makes (Ok value) make Part old new = new ≡ make old
Makes (Err why) make Part old new = Part old new

-- nothing was made
abbrev pub IsSame : History → History → Type 0
IsSame old new = new ≡ old

-- calls that failed, and growths that found no memory
pub record Counts : Type 0 where
  pub failed : ℕ
  pub starved : ℕ

-- one more; the last count stays
abbrev pub risen : ℕ → ℕ
risen n = if nat_lt n (2 ^ 64 - 1) then n + 1 else n

abbrev pub Counted : {T E : Type 0} → Result T E → Counts → Counts → Type 0
Counted (Ok value) before now = now ≡ before
Counted (Err why) before now = now ≡ record { failed = risen before.failed; starved = risen before.starved }

pub record IsEdited (at : Path) (value : Value) (m n : Moment) : Type 0 where
  pub stands : value_at n.tree at ≡ told value
  pub firm : (p : Path) → is_edited at value m.tree p ≡ true → n.loose p ≡ false
  pub others : KeepsPaths (is_edited at value m.tree) m n
  pub aside : Stays itself m.aside n.aside
