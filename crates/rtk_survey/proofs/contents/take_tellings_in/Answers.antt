use Rattle.std.proofs.Common.{Option, sym, subst, ◌∙◌}
use Rattle.std.specs.List.{cons_option}
use Rattle.rtk_survey.specs.Contents.{HasSystemTellings}
use Rattle.rtk_survey.specs.declared.system_message.SystemMessage.{SystemMessage}
use Rattle.rtk_survey.proofs.ResultLemmas.{on-ok}
use Rattle.rtk_survey.proofs.contents.take_tellings_in.Goals as goal

pub returns-in-Some : goal.returns-in-Some
returns-in-Some c = on-ok c.take.result
    (λ took ts has. subst (λ (o : Option SystemMessage). HasSystemTellings c.take.new.self (cons_option o ts)) (sym c.in-Some.is ∙ c.system_message_in.ensures) (took ts has))
    c.take.ensures

pub returns-in-None : goal.returns-in-None
returns-in-None c = λ ts has.
    subst (λ (o : Option SystemMessage). HasSystemTellings c.args.tellings.now (cons_option o ts)) (sym c.in-None.is ∙ c.system_message_in.ensures) has
