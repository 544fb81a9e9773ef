-- Bits begin with at most one message 1005, and have no fault if they begin with one.
use Rattle.std.proofs.lemmas.Bool.{le-ltb}
use Rattle.std.proofs.Common.{◌≡◌, ℕ, ℤ, sym, ◌∙◌, Bool, List, [], ◌++◌, length, None, refl, arith, length-append}
use Rattle.rtk_message.specs.Fields.{Field, bits_of_fields}
use Rattle.rtk_message.specs.Arp1005.{table, first_fault, IsValid}
use Rattle.rtk_message.specs.declared.arp1005.Arp1005.{Arp1005}
use Rattle.rtk_message.specs.FieldLaws.{length-bits_of_fields, SameForm, one_list}

pub is_accepted : (m : Arp1005) (rest : List Bool) → IsValid m → first_fault (bits_of_fields (table m) ++ rest) ≡ None
is_accepted m rest fits = rw (le-ltb (length (bits_of_fields (table m) ++ rest)) 140 (omega (arith, length-append (bits_of_fields (table m)) rest, length-bits_of_fields (table m)))) refl

pub make : ℕ → ℕ → Bool → Bool → Bool → Bool → ℤ → Bool → Bool → ℤ → ℕ → ℤ → Arp1005
make station realization_year gps glonass galileo reference_station x single_oscillator reserved y quarter_cycle z = record { station = station; realization_year = realization_year; gps = gps; glonass = glonass; galileo = galileo; reference_station = reference_station; x = x; single_oscillator = single_oscillator; reserved = reserved; y = y; quarter_cycle = quarter_cycle; z = z }

pub made : (m : Arp1005) → make m.station m.realization_year m.gps m.glonass m.galileo m.reference_station m.x m.single_oscillator m.reserved m.y m.quarter_cycle m.z ≡ m
unfolding make
made m = refl

-- messages with the same fields are the same
pub same_message : (m n : Arp1005) → table m ≡ table n → m ≡ n
same_message m n same =
    let all : make m.station m.realization_year m.gps m.glonass m.galileo m.reference_station m.x m.single_oscillator m.reserved m.y m.quarter_cycle m.z ≡ make n.station n.realization_year n.gps n.glonass n.galileo n.reference_station n.x n.single_oscillator n.reserved n.y n.quarter_cycle n.z = cc in
    sym (made m) ∙ all ∙ made n

-- the fields of two messages, and any others of one form after them
pub same_form : (m n : Arp1005) (fs gs : List Field) → SameForm fs gs → SameForm (table m ++ fs) (table n ++ gs)
same_form m n fs gs rest = (refl, (refl, (omega arith, refl, (omega arith, refl, (refl, (omega arith, refl, rest))))))

pub is_unique : (m n : Arp1005) (a b : List Bool) → IsValid m → IsValid n → bits_of_fields (table m) ++ a ≡ bits_of_fields (table n) ++ b → m ≡ n
is_unique m n a b p q e = same_message m n (one_list (table m) (table n) a b (same_form m n [] [] tt) p q e).0
