use Rattle.std.proofs.Common.{rules}
use Rattle.rtk_obs.proofs.cell.is_satellite.Goals as goal

pub returns-then-satellite-ge1 : goal.returns-then-satellite-ge1
returns-then-satellite-ge1 c = search rules depth 5 fits 300
