use Rattle.std.proofs.Common.{◌++◌, ◌∙◌, ℕ, List, ap}
use Rattle.rtk_survey.specs.NextCommand.{kinds_option, glonass_words_of, next_options}
use Rattle.rtk_survey.specs.Steps.Tables.{system_epochs_held}
use Rattle.rtk_survey.proofs.next_command.next_options.Goals as goal

pub returns : goal.returns
unfolding next_options
returns c =
    let kinds : List ℕ = kinds_option c.args.gps (system_epochs_held c.args.station.now) c.args.sent.now in
    c.in_ok-put_glonass_words.ensures
    ∙ ap (λ (t : List ℕ). t ++ glonass_words_of c.args.sent.now c.as_slice.result.now) (c.in_ok-put_kinds.ensures ∙ ap (λ (t : List ℕ). t ++ kinds) c.new-text.ensures.items)
    ∙ ap (λ (t : List ℕ). kinds ++ glonass_words_of c.args.sent.now t) (c.as_slice.ensures.value ∙ c.in_ok-glonass.ensures)
