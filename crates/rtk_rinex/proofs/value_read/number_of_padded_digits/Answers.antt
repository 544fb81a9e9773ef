use Rattle.std.proofs.Common.{arith, refl, take}
use Rattle.std.proofs.lemmas.Grind.{take_at_read}
use Rattle.rtk_rinex.specs.Steps.Digits.{padded_digits_from}
use Rattle.rtk_rinex.proofs.DigitsLemmas.{pow-le, pow-more}
use Rattle.rtk_rinex.proofs.KnownLemmas.{padded-append}
use Rattle.rtk_rinex.proofs.value_read.number_of_padded_digits.Goals as goal

pub loop-byte-init : goal.loop-byte-init
unfolding padded_digits_from
loop-byte-init c = record { value = refl; small = omega arith }

pub with_padded_digit-value-requires : goal.with_padded_digit-value-requires
with_padded_digit-value-requires c = omega (arith, pow-le c.loop-byte.byte-index 10)

pub loop-byte-preserved : goal.loop-byte-preserved
unfolding padded_digits_from
loop-byte-preserved c =
    let l = c.loop-byte in
    let text = c.args.text.now in
    let next = (take_at_read text l.byte-index 0 c.loop-byte-test.true).1 in record {
      value = rw (next, padded-append 0 (take l.byte-index text), ← l.invariant.value) c.with_padded_digit-value.ensures.value;
      small = rw (pow-more l.byte-index) (omega arith);
    }

pub returns-clause-bound : goal.returns-clause-bound
returns-clause-bound c = omega (arith, pow-le c.loop-byte.byte-index 10)
