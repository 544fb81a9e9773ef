use Rattle.std.proofs.Common.{[], ◌∷◌}
use Rattle.rtk_message.specs.Fields.{u}
use Rattle.rtk_message.proofs.PublicLaws.{fit-parts}
use Rattle.rtk_message.specs.Arp1005.{table}
use Rattle.rtk_collect.proofs.stations.position.Goals as goal

pub position_of-requires : goal.position_of-requires
position_of-requires c =
    let m = c.in-Some.message in
    (fit-parts (table m.arp) (u 16 m.height ∷ []) (c.requires.fits_1006 m c.in-Some.is)).0

pub position_of-requires-in-Some-arp1005 : goal.position_of-requires-in-Some-arp1005
position_of-requires-in-Some-arp1005 c = c.requires.fits_1005 c.in-Some-arp1005.arp c.in-Some-arp1005.is
