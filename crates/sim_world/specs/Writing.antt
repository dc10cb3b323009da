-- The histories that the writing calls make in a world in memory.
--     road_made n at h      the path and those above it, n in all, are folders
--     begun lane h, appended lane bytes h, firm lane h, moved lane at h     after each call
use Rattle.std.specs.Prelude.{◌≡◌, ◌⊎◌, ℕ, zero, suc, true, List, [], ◌++◌, length, Option, Some, None, if◌then◌else◌}
use Rattle.dvc_base.specs.Path.{Path, under}
use Rattle.world_api.specs.Tree.{Tree, Item, folder, file, item_at}
use Rattle.world_api.specs.Calls.{parent}
use Rattle.world_api.specs.History.{History}
use Rattle.world_api.specs.Layout.{dvc_path, tmp_path, lane_path}
use Rattle.sim_world.specs.Change.{grown, made, written, made_firm, published}
use Rattle.sim_world.specs.Edits.{is_folder}
use Rattle.sim_world.specs.declared.value.Value.TheVariants.{File}

-- the bytes of a file; none where another thing stands
abbrev pub held : Option Item → List ℕ
held None = []
held (Some folder) = []
held (Some (file bytes)) = bytes

abbrev pub lane_bytes : ℕ → Tree → List ℕ
lane_bytes lane t = held (item_at t (lane_path lane))

-- a folder that stands already is left alone
abbrev pub made_once : Path → History → History
made_once at h = if is_folder (item_at h.present.tree at) then h else grown (made at) h

-- the folder at the path, and those above it, from above down: n of them in all
abbrev pub road_made : ℕ → Path → History → History
road_made zero at h = h
road_made (suc n) at h = made_once at (road_made n (parent at) h)

-- the folders down to one of those were made
abbrev pub IsOnRoad : Path → History → History → Type 0
IsOnRoad at h new = (q : Path) × (under q at ≡ true) × (new ≡ road_made (length q) q h)

abbrev pub with_tmp : History → History
with_tmp h = made_once tmp_path (made_once dvc_path h)

abbrev pub begun : ℕ → History → History
begun lane h = grown (written lane (File [])) (with_tmp h)

-- some of the changes of a begin
abbrev pub IsMakingTmp : History → History → Type 0
IsMakingTmp h new = (new ≡ h) ⊎ (new ≡ made_once dvc_path h)

abbrev pub IsBeginning : History → History → Type 0
IsBeginning h new = IsMakingTmp h new ⊎ (new ≡ with_tmp h)

abbrev pub appended : ℕ → List ℕ → History → History
appended lane bytes h = grown (written lane (File (lane_bytes lane h.present.tree ++ bytes))) h

abbrev pub firm : ℕ → History → History
firm lane h = grown (made_firm lane) h

abbrev pub moved : ℕ → Path → History → History
moved lane at h = grown (published lane at (File (lane_bytes lane h.present.tree))) h
