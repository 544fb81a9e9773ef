use Rattle.std.proofs.Common.{sym, subst}
use Rattle.rtk_message.specs.declared.any_message.AnyMessage.{AnyMessage as Message}
use Rattle.rtk_convert.specs.Steps.Remarks.{PutsSlots}
use Rattle.rtk_convert.proofs.SlotsLemmas.{message-none}
use Rattle.rtk_convert.proofs.remarks.Remarks.put_message.Goals as goal

pub returns-in-Message : goal.returns-in-Message
returns-in-Message c =
    subst (λ (m : Message). PutsSlots c.args.channels.now m c.args.self.now c.args.self.now) (sym c.in-Message.is) (message-none c.args.channels.now c.in-Message.field-0 c.args.self.now)

pub returns-in-Obs1012 : goal.returns-in-Obs1012
returns-in-Obs1012 c =
    subst (λ (m : Message). PutsSlots c.args.channels.now m c.args.self.now c.put_1012.new.remarks) (sym c.in-Obs1012.is) c.put_1012.ensures

pub returns-in-Msm : goal.returns-in-Msm
returns-in-Msm c =
    subst (λ (m : Message). PutsSlots c.args.channels.now m c.args.self.now c.put_msm.new.remarks) (sym c.in-Msm.is) c.put_msm.ensures
