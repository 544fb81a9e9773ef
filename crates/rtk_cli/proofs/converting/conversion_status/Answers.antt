use Rattle.std.proofs.Common.{rules}
use Rattle.rtk_cli.proofs.converting.conversion_status.Goals as goal

pub returns-in-Ok-2 : goal.returns-in-Ok-2
returns-in-Ok-2 g c = search rules depth 5 fits 300
