-- Bits begin with at most one message 1006, and have no fault if they begin with one.
use Rattle.std.proofs.lemmas.Bool.{le-ltb}
use Rattle.std.proofs.Common.{◌≡◌, Bool, List, [], ◌∷◌, ◌++◌, length, None, refl, arith, length-append}
use Rattle.rtk_message.specs.Fields.{u, bits_of_fields}
use Rattle.rtk_message.specs.Arp1006.{table, first_fault, IsValid}
use Rattle.rtk_message.specs.Arp1005Laws.{same_message, same_form}
use Rattle.rtk_message.specs.declared.arp1006.Arp1006.{Arp1006}
use Rattle.rtk_message.specs.FieldLaws.{length-bits_of_fields, one_list}

pub is_accepted : (m : Arp1006) (rest : List Bool) → IsValid m → first_fault (bits_of_fields (table m) ++ rest) ≡ None
is_accepted m rest fits = rw (le-ltb (length (bits_of_fields (table m) ++ rest)) 156 (omega (arith, length-append (bits_of_fields (table m)) rest, length-bits_of_fields (table m)))) refl

pub is_unique : (m n : Arp1006) (a b : List Bool) → IsValid m → IsValid n → bits_of_fields (table m) ++ a ≡ bits_of_fields (table n) ++ b → m ≡ n
is_unique m n a b p q e =
    let same : table m ≡ table n = (one_list (table m) (table n) a b (same_form m.arp n.arp (u 16 m.height ∷ []) (u 16 n.height ∷ []) (refl, tt)) p q e).0 in
    let arp : m.arp ≡ n.arp = same_message m.arp n.arp cc in
    let height : m.height ≡ n.height = cc in
    λ i. record { arp = arp i; height = height i }
