use Rattle.std.proofs.Common.{rules}
use Rattle.rtk_collect.proofs.PositionLemmas.{stored}
use Rattle.rtk_collect.proofs.stations.position_of.Goals as goal

pub invariant_of-result : goal.invariant_of-result
invariant_of-result c = record {
  x_fits = stored c.args.arp.x (search rules) c.requires.1.1.1.1.1.1.0;
  y_fits = stored c.args.arp.y (search rules) c.requires.1.1.1.1.1.1.1.1.1.0;
  z_fits = stored c.args.arp.z (search rules) c.requires.1.1.1.1.1.1.1.1.1.1.1.0;
}
