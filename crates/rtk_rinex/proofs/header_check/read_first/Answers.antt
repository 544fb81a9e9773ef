use Rattle.std.proofs.Common.{◌≡◌, ◌∙◌, arith}
use Rattle.rtk_obs.specs.Reading.{reading_of}
use Rattle.rtk_rinex.proofs.HeaderShownLemmas.{first_is, moment_read}
use Rattle.rtk_rinex.proofs.header_check.read_first.Goals as goal

pub returns-then-seconds-ge600000000 : goal.returns-then-seconds-ge600000000
returns-then-seconds-ge600000000 c = λ t h line.
    let s = first_is c.args.text.now line.0 t h line.1 in absurd (omega (arith, s.seconds, c.number_at-seconds.ensures.value))

pub returns : goal.returns
returns c = λ t h line.
    let s = first_is c.args.text.now line.0 t h line.1 in
    let shown : c.first_reading.result ≡ reading_of t = c.first_reading.ensures ∙ s.reading in
    moment_read c.of_civil.result c.first_reading.result t h shown c.of_civil.ensures
