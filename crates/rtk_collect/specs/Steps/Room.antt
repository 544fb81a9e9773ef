-- The room of epochs: how much is wanted, and what is spared.
use Rattle.std.specs.Prelude.{◌≡◌, ℕ, []}
use Rattle.rtk_obs.specs.declared.cell.CellSource.{CellSource}
use Rattle.rtk_obs.specs.declared.cell.CellSource.TheVariants.{Legacy, Msm}
use Rattle.rtk_collect.specs.declared.gathered_set.Room.{Room}
use Rattle.rtk_collect.specs.declared.gathered_set.Spare.{Spare}

-- the room for cells of a kind of message
abbrev pub room_for : CellSource → Room → ℕ
room_for Legacy room = room.legacy.cells
room_for Msm room = room.msm

-- lists without cells
abbrev pub AreSpare : {E S : Type 0} → Spare E S → Type 0
AreSpare spare = (spare.msm.items ≡ []) × (spare.legacy ≡ [])
