use Rattle.std.proofs.Common.{◌≡◌, Bool, List, take, ap, ◌∙◌, arith}
use Rattle.rtk_bits.specs.Bits.{unsigned}
use Rattle.rtk_survey.specs.DateMessages.{unsigned_at}
use Rattle.rtk_survey.proofs.BitLemmas.{left_long, left_twice}
use Rattle.rtk_survey.proofs.date_message.next_utc.Goals as goal

pub next_u-day-requires-clause-enough : goal.next_u-day-requires-clause-enough
next_u-day-requires-clause-enough c =
    let bs : List Bool = c.args.reader.now in
    let second = left_twice bs c.next_u-number.new.self c.next_u-station.new.self 12 12 c.next_u-number.ensures.rest c.next_u-station.ensures.rest in
    left_long bs c.next_u-station.new.self 24 16 second (omega (arith, c.requires))

pub next_u-second-requires-clause-enough : goal.next_u-second-requires-clause-enough
next_u-second-requires-clause-enough c =
    let bs : List Bool = c.args.reader.now in
    let second = left_twice bs c.next_u-number.new.self c.next_u-station.new.self 12 12 c.next_u-number.ensures.rest c.next_u-station.ensures.rest in
    let third = left_twice bs c.next_u-station.new.self c.next_u-day.new.self 24 16 second c.next_u-day.ensures.rest in
    left_long bs c.next_u-day.new.self 40 17 third (omega (arith, c.requires))

pub returns-clause-date : goal.returns-clause-date
returns-clause-date c =
    let bs : List Bool = c.args.reader.now in
    let first = c.next_u-number.ensures.rest in
    let second = left_twice bs c.next_u-number.new.self c.next_u-station.new.self 12 12 first c.next_u-station.ensures.rest in
    let third = left_twice bs c.next_u-station.new.self c.next_u-day.new.self 24 16 second c.next_u-day.ensures.rest in
    let station : c.next_u-station.result ≡ unsigned_at 12 12 bs = c.next_u-station.ensures.number ∙ ap (λ (left : List Bool). unsigned (take 12 left)) first in
    let day : c.next_u-day.result ≡ unsigned_at 24 16 bs = c.next_u-day.ensures.number ∙ ap (λ (left : List Bool). unsigned (take 16 left)) second in
    let second_of_day : c.next_u-second.result ≡ unsigned_at 40 17 bs = c.next_u-second.ensures.number ∙ ap (λ (left : List Bool). unsigned (take 17 left)) third in
    rw (station, day, second_of_day)

pub returns-clause-rest : goal.returns-clause-rest
returns-clause-rest c =
    let bs : List Bool = c.args.reader.now in
    let second = left_twice bs c.next_u-number.new.self c.next_u-station.new.self 12 12 c.next_u-number.ensures.rest c.next_u-station.ensures.rest in
    let third = left_twice bs c.next_u-station.new.self c.next_u-day.new.self 24 16 second c.next_u-day.ensures.rest in
    left_twice bs c.next_u-day.new.self c.next_u-second.new.self 40 17 third c.next_u-second.ensures.rest
