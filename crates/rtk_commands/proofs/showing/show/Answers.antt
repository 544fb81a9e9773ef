use Rattle.rtk_commands.proofs.KindLemmas.{result-of-show, part-of-show}
use Rattle.rtk_commands.proofs.showing.show.Goals as goal

pub returns-clause-shown : goal.returns-clause-shown
returns-clause-shown g c =
    let shown = rw c.only.ensures at c.show_accepted.ensures.shown in
    result-of-show c.args.hex c.show_accepted.result _ _ _ _ shown

pub returns-clause-part : goal.returns-clause-part
returns-clause-part g c =
    let part = rw c.only.ensures at c.show_accepted.ensures.part in
    part-of-show c.args.hex _ _ _ _ part
