use Rattle.std.proofs.Common.{◌≡◌, arith, refl, take, length}
use Rattle.std.proofs.lemmas.Grind.{take_at_read}
use Rattle.rtk_rinex.specs.Steps.Digits.{digits_from}
use Rattle.rtk_rinex.proofs.DigitsLemmas.{digits_from-append, pow-le, pow-more}
use Rattle.rtk_rinex.proofs.digits.number_of_digits.Goals as goal

pub loop-byte-init : goal.loop-byte-init
unfolding digits_from
loop-byte-init c = record { value = refl; small = omega arith }

pub with_digit-value-requires : goal.with_digit-value-requires
with_digit-value-requires c = omega (arith, pow-le c.loop-byte.byte-index 18)

pub loop-byte-preserved : goal.loop-byte-preserved
unfolding digits_from
loop-byte-preserved c =
    let l = c.loop-byte in
    let text = c.args.text.now in
    let next = (take_at_read text l.byte-index 0 c.loop-byte-test.true).1 in record {
      value = rw (next, digits_from-append 0 (take l.byte-index text), ← l.invariant.value) c.with_digit-value.ensures.value;
      small = rw (pow-more l.byte-index) (omega arith);
    }

pub returns-clause-bound : goal.returns-clause-bound
returns-clause-bound c = omega (arith, pow-le c.loop-byte.byte-index 18)

pub returns-clause-width : goal.returns-clause-width
returns-clause-width c =
    let whole : c.loop-byte.byte-index ≡ length c.args.text.now = omega arith in
    rw whole at c.loop-byte.invariant.small
