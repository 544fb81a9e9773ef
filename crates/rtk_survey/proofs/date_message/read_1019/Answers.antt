use Rattle.std.proofs.Common.{◌≡◌, Bool, false, List, length, take, nat_lt, ap, ◌∙◌, arith}
use Rattle.std.proofs.lemmas.Grind.{common_steps}
use Rattle.rtk_bits.specs.Bits.{bits, unsigned}
use Rattle.rtk_survey.specs.DateMessages.{unsigned_at}
use Rattle.rtk_survey.proofs.BitLemmas.{left_long, left_twice}
use Rattle.rtk_survey.proofs.date_message.read_1019.Goals as goal

pub pass_to_reference_time-requires : goal.pass_to_reference_time-requires
pass_to_reference_time-requires c =
    let bs : List Bool = c.new-reader.result in
    let second = left_twice bs c.next_u-number.new.self c.next_u-satellite.new.self 12 6 c.next_u-number.ensures.rest c.next_u-satellite.ensures.rest in
    let third = left_twice bs c.next_u-satellite.new.self c.next_u-week.new.self 18 10 second c.next_u-week.ensures.rest in
    left_long bs c.next_u-week.new.self 28 260 third (omega (arith, c.if-remaining-lt488.false, c.remaining.ensures))

pub next_u-requires-clause-enough : goal.next_u-requires-clause-enough
next_u-requires-clause-enough c =
    let bs : List Bool = c.new-reader.result in
    let second = left_twice bs c.next_u-number.new.self c.next_u-satellite.new.self 12 6 c.next_u-number.ensures.rest c.next_u-satellite.ensures.rest in
    let third = left_twice bs c.next_u-satellite.new.self c.next_u-week.new.self 18 10 second c.next_u-week.ensures.rest in
    let fourth = left_twice bs c.next_u-week.new.self c.pass_to_reference_time.new.reader 28 260 third c.pass_to_reference_time.ensures in
    left_long bs c.pass_to_reference_time.new.reader 288 16 fourth (omega (arith, c.if-remaining-lt488.false, c.remaining.ensures))

pub returns : goal.returns
returns c =
    let bs : List Bool = c.new-reader.result in
    let first = c.next_u-number.ensures.rest in
    let second = left_twice bs c.next_u-number.new.self c.next_u-satellite.new.self 12 6 first c.next_u-satellite.ensures.rest in
    let third = left_twice bs c.next_u-satellite.new.self c.next_u-week.new.self 18 10 second c.next_u-week.ensures.rest in
    let fourth = left_twice bs c.next_u-week.new.self c.pass_to_reference_time.new.reader 28 260 third c.pass_to_reference_time.ensures in
    let satellite : c.next_u-satellite.result ≡ unsigned_at 12 6 bs = c.next_u-satellite.ensures.number ∙ ap (λ (left : List Bool). unsigned (take 6 left)) first in
    let week : c.next_u-week.result ≡ unsigned_at 18 10 bs = c.next_u-week.ensures.number ∙ ap (λ (left : List Bool). unsigned (take 10 left)) second in
    let time : c.next_u.result ≡ unsigned_at 288 16 bs = c.next_u.ensures.number ∙ ap (λ (left : List Bool). unsigned (take 16 left)) fourth in
    let known : bs ≡ bits c.args.payload.now = c.new-reader.ensures in
    let enough : nat_lt (length bs) 488 ≡ false = grind (arith, common_steps) in
    rw (← known, enough, satellite, week, time)
