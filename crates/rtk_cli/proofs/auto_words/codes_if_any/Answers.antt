use Rattle.rtk_cli.specs.Steps.AnyCodeList.{IsNameCause}
use Rattle.rtk_cli.specs.Steps.AutoWords.{IsCauseOfCodes}
use Rattle.rtk_cli.proofs.AutoLemmas.{given-cause}
use Rattle.rtk_cli.proofs.RefusedLemmas.{exit-also}
use Rattle.rtk_cli.proofs.auto_words.codes_if_any.Goals as goal

-- a name is no code's word
pub returns-in_err-codes-clause-refused : goal.returns-in_err-codes-clause-refused
returns-in_err-codes-clause-refused c =
    exit-also (IsNameCause c.in-Some.text.now) (IsCauseOfCodes c.args.text) c.in_err-codes.field-0.0 c.from_residual.result c.from_residual.ensures.1
    (given-cause c.args.text c.in-Some.text c.in-Some.is) c.in_err-codes.ensures.refused
