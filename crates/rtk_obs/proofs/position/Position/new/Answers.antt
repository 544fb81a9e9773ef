use Rattle.std.proofs.Common.{rules}
use Rattle.rtk_obs.proofs.position.Position.new.Goals as goal

pub returns-then-is_coordinate-3 : goal.returns-then-is_coordinate-3
returns-then-is_coordinate-3 c = search rules depth 5 fits 300
