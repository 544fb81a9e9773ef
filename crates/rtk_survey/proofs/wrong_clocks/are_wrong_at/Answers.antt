use Rattle.std.proofs.Common.{◌∙◌, ℕ, Option, sym, ap}
use Rattle.rtk_survey.specs.WrongClocks.{are_wrong, are_wrong_at}
use Rattle.rtk_survey.specs.declared.date_message.UtcDate.{UtcDate}
use Rattle.rtk_survey.proofs.wrong_clocks.are_wrong_at.Goals as goal

pub returns-in-Some : goal.returns-in-Some
returns-in-Some c =
    let offsets = c.args.offsets.now in
    c.are_wrong.ensures
    ∙ ap (λ (n : ℕ). are_wrong n offsets) c.leap_seconds_by.ensures
    ∙ ap (λ (d : Option UtcDate). are_wrong_at d offsets) (sym c.in-Some.is)
