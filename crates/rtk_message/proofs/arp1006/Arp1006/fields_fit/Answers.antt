use Rattle.std.proofs.Common.{rules, ◌<◌, ◌∷◌, []}
use Rattle.rtk_message.specs.Arp1005 as arp1005
use Rattle.rtk_message.specs.FieldLaws.{fit-append, fit-parts}
use Rattle.rtk_message.specs.Fields.{u}
use Rattle.rtk_message.proofs.arp1006.Arp1006.fields_fit.Goals as goal

pub returns : goal.returns
returns c =
    let m = c.args.self in
    let height : m.height < 65536 = search rules in (
      λ h. fit-append (arp1005.table m.arp) (u 16 m.height ∷ []) (c.fits.ensures.0 h) (height, tt),
      λ f. c.fits.ensures.1 (fit-parts (arp1005.table m.arp) (u 16 m.height ∷ []) f).0,
    )
