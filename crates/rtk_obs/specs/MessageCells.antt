-- The cells of a message, whatever its type.
use Rattle.std.specs.Prelude.{◌≡◌, List, []}
use Rattle.std.specs.List.{All}
use Rattle.rtk_message.specs.declared.any_message.AnyMessage.{AnyMessage}
use Rattle.rtk_message.specs.declared.any_message.AnyMessage.TheVariants as any
use Rattle.rtk_message.specs.declared.message.Message.TheVariants.{Obs1004, Arp1005, Arp1006, Msm1074}
use Rattle.rtk_obs.specs.declared.cell.CellSource.{CellSource}
use Rattle.rtk_obs.specs.declared.cell.CellEntry.{CellEntry}
use Rattle.rtk_obs.specs.LegacyCells.{cells_of_1004}
use Rattle.rtk_obs.specs.MsmCells.{cells_of_1074, cells_of_msm}

-- the cells of GPS of a message, in its order; a station message and a 1012 have none
abbrev pub cells_of : AnyMessage → List CellEntry
cells_of (any.Message (Obs1004 m)) = cells_of_1004 m.satellites
cells_of (any.Message (Arp1005 m)) = []
cells_of (any.Message (Arp1006 m)) = []
cells_of (any.Message (Msm1074 m)) = cells_of_1074 m
cells_of (any.Msm m) = cells_of_msm m
cells_of (any.Obs1012 m) = []

-- all cells came in one kind of message
abbrev pub AreOfOneKind : List CellEntry → Type 0
AreOfOneKind cells = (source : CellSource) × All (λ c. c.cell.source ≡ source) cells
