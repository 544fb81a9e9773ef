use Rattle.std.proofs.Common.{arith}
use Rattle.rtk_survey.proofs.BitLemmas.{left_long}
use Rattle.rtk_survey.proofs.date_message.read_1013.Goals as goal

pub next_u-announced-requires-clause-enough : goal.next_u-announced-requires-clause-enough
next_u-announced-requires-clause-enough c =
    left_long c.new-reader.result c.next_utc-date.new.reader 57 5 c.next_utc-date.ensures.rest (omega (arith, c.if-size-lt70.false, c.remaining-size.ensures))
