-- Messages that are borrowed.
use Rattle.rtk_message.specs.declared.any_message.AnyMessage.{AnyMessage}
use Rattle.rtk_message.specs.declared.any_message.AnyMessage.TheVariants as any
use Rattle.rtk_collect.specs.declared.dated_ref.Borrowed.{Borrowed}
use Rattle.rtk_collect.specs.declared.dated_ref.Borrowed.TheVariants.{Message, Msm, Obs1012}

-- the message that is borrowed
abbrev pub borrowed : Borrowed → AnyMessage
borrowed (Message m) = any.Message m.now
borrowed (Msm m) = any.Msm m.now
borrowed (Obs1012 m) = any.Obs1012 m.now
