-- Fields taken and put one after another, and fields of one bit.
use Rattle.std.proofs.Common.{◌≡◌, ℕ, zero, suc, ◌<◌, Bool, true, false, List, [], ◌∷◌, ◌++◌, length, refl, sym, ap, ◌∙◌, append_assoc, arith}
use Rattle.std.proofs.lemmas.List.{append-nil}
use Rattle.std.specs.Prelude.{◌==◌}
use Rattle.rtk_bits.specs.Bits.{bit, bits_of}
use Rattle.rtk_message.specs.Fields.{Field, field_bits, bits_of_fields, TakesAll}
use Rattle.rtk_message.specs.Steps.FieldSteps.{Puts, TakesField, PutsAll}
use Rattle.rtk_message.specs.FieldLaws.{bits_of_fields-append, fit-append}

-- one field more in front of what was taken
pub took : {f : Field} {fs : List Field} {a b c : List Bool} → TakesField f a b → TakesAll fs b c → TakesAll (f ∷ fs) a c
took {f = f} {fs = fs} {c = c} first rest = record {
  fit = (first.fits, rest.fit);
  is = first.is ∙ ap (λ (t : List Bool). field_bits f ++ t) rest.is ∙ sym (append_assoc (field_bits f) (bits_of_fields fs) c);
}

pub took_none : {a : List Bool} → TakesAll [] a a
took_none = record { fit = tt; is = refl }

pub put : {f : Field} {fs : List Field} {a b c : List Bool} → Puts f a b → PutsAll fs b c → PutsAll (f ∷ fs) a c
put {f = f} {fs = fs} {a = a} first rest = record { is = rest.is ∙ ap (λ (t : List Bool). t ++ bits_of_fields fs) first.is ∙ append_assoc a (field_bits f) (bits_of_fields fs) }

pub put_none : {a : List Bool} → PutsAll [] a a
put_none {a = a} = record { is = sym (append-nil a) }

-- fields put after fields
pub put_both : {fs gs : List Field} {a b c : List Bool} → PutsAll fs a b → PutsAll gs b c → PutsAll (fs ++ gs) a c
put_both {fs = fs} {gs = gs} {a = a} p q = record { is = q.is ∙ ap (λ (t : List Bool). t ++ bits_of_fields gs) p.is ∙ append_assoc a (bits_of_fields fs) (bits_of_fields gs) ∙ ap (λ (t : List Bool). a ++ t) (sym (bits_of_fields-append fs gs)) }

-- fields taken after fields
pub took_both : {fs gs : List Field} {a b c : List Bool} → TakesAll fs a b → TakesAll gs b c → TakesAll (fs ++ gs) a c
took_both {fs = fs} {gs = gs} {c = c} p q = record {
  fit = fit-append fs gs p.fit q.fit;
  is = p.is ∙ ap (λ (t : List Bool). bits_of_fields fs ++ t) q.is ∙ sym (append_assoc (bits_of_fields fs) (bits_of_fields gs) c) ∙ ap (λ (t : List Bool). t ++ c) (sym (bits_of_fields-append fs gs));
}

-- if nothing is left before the rest
pub took_rest : {fs : List Field} {from rest : List Bool} (left : List Bool) → TakesAll fs from (left ++ rest) → length left ≡ 0 → TakesAll fs from rest
took_rest [] p none = p
took_rest (b ∷ bs) p none = absurd (omega arith)

-- fields that take all bits of a word leave the bits after the word
pub took_word : {fs : List Field} {word left from rest : List Bool} → TakesAll fs word left → length left ≡ 0 → from ≡ word ++ rest → TakesAll fs from rest
took_word {fs = fs} {left = left} {rest = rest} p none e =
    took_rest left (record { fit = p.fit; is = e ∙ ap (λ (t : List Bool). t ++ rest) p.is ∙ append_assoc (bits_of_fields fs) left rest }) none

-- a number of one bit
pub one_bit : (n : ℕ) → n < 2 → bits_of 1 n ≡ (n == 1) ∷ []
unfolding bits_of
one_bit zero h = refl
one_bit (suc zero) h = refl
one_bit (suc (suc n)) h = absurd (omega arith)

pub flag_bit : (b : Bool) → bits_of 1 (bit b) ≡ b ∷ []
flag_bit true = one_bit 1 (omega arith)
flag_bit false = one_bit 0 (omega arith)
