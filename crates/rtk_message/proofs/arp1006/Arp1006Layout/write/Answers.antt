use Rattle.std.proofs.Common.{[], ◌∷◌}
use Rattle.rtk_message.specs.Fields.{u}
use Rattle.rtk_message.specs.Steps.FieldSteps.{PutsAll}
use Rattle.rtk_message.specs.FieldLaws.{fit-parts}
use Rattle.rtk_message.specs.Arp1005.{table}
use Rattle.rtk_message.proofs.FieldLemmas.{put, put_none, put_both}
use Rattle.rtk_message.proofs.arp1006.Arp1006Layout.write.Goals as goal

pub write-requires : goal.write-requires
write-requires c = (fit-parts (table c.args.self.now.arp) (u 16 c.args.self.now.height ∷ []) c.requires).0

pub returns : goal.returns
returns c =
    let arp : PutsAll (table c.args.self.now.arp) c.args.writer.now c.write.new.writer = record { is = c.in_ok-write.ensures } in
    (put_both arp (put c.in_ok-put_u.ensures put_none)).is
