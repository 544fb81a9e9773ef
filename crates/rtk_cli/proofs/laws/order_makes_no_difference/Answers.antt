use Rattle.rtk_cli.proofs.OrderLemmas.{any-order}
use Rattle.rtk_cli.proofs.laws.order_makes_no_difference.Goals as goal

pub returns : goal.returns
returns c = any-order
