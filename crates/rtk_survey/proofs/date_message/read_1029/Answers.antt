use Rattle.std.proofs.Common.{◌≡◌, ◌+◌, ◌*◌, Bool, true, false, List, length, take, nat_lt, ap, ◌∙◌, arith}
use Rattle.std.proofs.lemmas.Grind.{common_steps}
use Rattle.rtk_bits.specs.Bits.{bits, unsigned}
use Rattle.rtk_survey.specs.DateMessages.{unsigned_at}
use Rattle.rtk_survey.proofs.BitLemmas.{left_long, left_twice}
use Rattle.rtk_survey.proofs.date_message.read_1029.Goals as goal

pub next_u-characters-requires-clause-enough : goal.next_u-characters-requires-clause-enough
next_u-characters-requires-clause-enough c =
    left_long c.new-reader.result c.next_utc-date.new.reader 57 7 c.next_utc-date.ensures.rest (omega (arith, c.if-size-lt72.false, c.remaining-size.ensures))

pub next_u-code_units-requires-clause-enough : goal.next_u-code_units-requires-clause-enough
next_u-code_units-requires-clause-enough c =
    let bs : List Bool = c.new-reader.result in
    let second = left_twice bs c.next_utc-date.new.reader c.next_u-characters.new.self 57 7 c.next_utc-date.ensures.rest c.next_u-characters.ensures.rest in
    left_long bs c.next_u-characters.new.self 64 8 second (omega (arith, c.if-size-lt72.false, c.remaining-size.ensures))

pub returns-then-size-from : goal.returns-then-size-from
returns-then-size-from c =
    let bs : List Bool = c.new-reader.result in
    let second = left_twice bs c.next_utc-date.new.reader c.next_u-characters.new.self 57 7 c.next_utc-date.ensures.rest c.next_u-characters.ensures.rest in
    let units : c.next_u-code_units.result ≡ unsigned_at 64 8 bs = c.next_u-code_units.ensures.number ∙ ap (λ (left : List Bool). unsigned (take 8 left)) second in
    let known : bs ≡ bits c.args.payload.now = c.new-reader.ensures in
    let size = c.remaining-size.ensures in
    let from = c.from.ensures in
    let less = c.if-size-from.true in
    let short : nat_lt (length bs) (72 + 8 * unsigned_at 64 8 bs) ≡ true = rw (← units) (grind (arith, common_steps)) in
    rw (← known, short)

pub returns : goal.returns
returns c =
    let bs : List Bool = c.new-reader.result in
    let second = left_twice bs c.next_utc-date.new.reader c.next_u-characters.new.self 57 7 c.next_utc-date.ensures.rest c.next_u-characters.ensures.rest in
    let units : c.next_u-code_units.result ≡ unsigned_at 64 8 bs = c.next_u-code_units.ensures.number ∙ ap (λ (left : List Bool). unsigned (take 8 left)) second in
    let known : bs ≡ bits c.args.payload.now = c.new-reader.ensures in
    let size = c.remaining-size.ensures in
    let from = c.from.ensures in
    let enough = c.if-size-from.false in
    let whole : nat_lt (length bs) (72 + 8 * unsigned_at 64 8 bs) ≡ false = rw (← units) (grind (arith, common_steps)) in
    rw (← known, whole, c.next_utc-date.ensures.date)
