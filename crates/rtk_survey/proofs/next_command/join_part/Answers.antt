use Rattle.std.proofs.Common.{◌||◌, ◌∙◌, Option, Bor, sym, ap}
use Rattle.std.specs.Option.{option_copied}
use Rattle.rtk_obs.specs.AnyCode.{number_of}
use Rattle.rtk_survey.specs.BitMarks.{is_marked_in}
use Rattle.rtk_survey.specs.Steps.OtherSystems.{code_in_part}
use Rattle.rtk_survey.specs.declared.system_msm.SystemMsm.{SystemMsm}
use Rattle.rtk_survey.proofs.next_command.join_part.Goals as goal

pub returns-in-Some : goal.returns-in-Some
returns-in-Some c = λ k.
    c.join.ensures (number_of k)
    ∙ ap (λ (o : Option (Bor SystemMsm)). code_in_part (option_copied o) k || is_marked_in c.args.marks.now.words (number_of k)) (sym c.in-Some.is)
