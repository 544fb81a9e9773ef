use Rattle.rtk_frame.specs.Frames.{frames}
use Rattle.rtk_message.specs.declared.msm_kind.MsmKind.TheVariants.{Msm4}
use Rattle.rtk_message.specs.Accepted.{only}
use Rattle.rtk_commands.specs.ShownBySet.{IsLineBy}
use Rattle.rtk_commands.proofs.KindLemmas.{lines-of-show}
use Rattle.rtk_commands.proofs.MemoryLemmas.{lines_in_memory}
use Rattle.rtk_commands.proofs.showing.show_bytes.Goals as goal

pub returns-in-Ok : goal.returns-in-Ok
returns-in-Ok c =
    let shown = rw (c.in-Ok.is, c.only-accepted.ensures) at c.show_through-lines.ensures.told in
    lines-of-show (frames c.args.capture.now) c.show_through-lines.result.0.items
    (lines_in_memory (IsLineBy (only Msm4)) c.in-Ok.field-0 c.args.capture.now c.new.result.items c.show_through-lines.result.0.items shown c.new.ensures.items)
