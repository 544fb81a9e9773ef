-- Lists of fields as bits: their lengths, and that they can be read in one way only.
use Rattle.std.proofs.Common.{◌≡◌, ℕ, suc, ◌+◌, ◌-◌, ◌*◌, ◌^◌, ◌<◌, ◌≤◌, ℤ, pos, negsuc, Bool, List, [], ◌∷◌, ◌++◌, length, refl, sym, ap, subst, take, drop, ◌∙◌, append_assoc, arith, length-append}
use Rattle.std.proofs.lemmas.List.{take_at, drop_at}
use Rattle.std.proofs.lemmas.Int.{ints}
use Rattle.std.proofs.lemmas.Nat.{pow_pos}
use Rattle.std.proofs.Math.Nat.{mod-eq_of_lt, pow-succ'}
use Rattle.rtk_bits.specs.Bits.{unsigned, bits_of, signed_bits_of, FitsSigned}
use Rattle.rtk_bits.proofs.PublicLaws.{length-bits_of, unsigned-bits_of}
use Rattle.rtk_message.specs.Fields.{Field, u, i, flag, field_bits, bits_of_fields, FieldsFit}

-- the bits of a field and of fields
abbrev pub width : Field → ℕ
width (u w n) = w
width (i w z) = w
width (flag b) = 1

abbrev pub total : List Field → ℕ
total [] = 0
total (f ∷ fs) = width f + total fs

pub length-signed_bits_of : (w : ℕ) (z : ℤ) → length (signed_bits_of w z) ≡ w
length-signed_bits_of w (pos n) = length-bits_of w n
length-signed_bits_of w (negsuc n) = length-bits_of w (2 ^ w - suc n)

pub length-bits_of_fields : (fs : List Field) → length (bits_of_fields fs) ≡ total fs
length-bits_of_fields [] = refl
length-bits_of_fields (u w n ∷ fs) = rw (length-append (bits_of w n) (bits_of_fields fs), length-bits_of w n, length-bits_of_fields fs) refl
length-bits_of_fields (i w z ∷ fs) = rw (length-append (signed_bits_of w z) (bits_of_fields fs), length-signed_bits_of w z, length-bits_of_fields fs) refl
length-bits_of_fields (flag b ∷ fs) = rw (length-bits_of_fields fs) (omega arith)

-- ---- fields after fields

pub bits_of_fields-append : (fs gs : List Field) → bits_of_fields (fs ++ gs) ≡ bits_of_fields fs ++ bits_of_fields gs
bits_of_fields-append [] gs = refl
bits_of_fields-append (f ∷ fs) gs = ap (λ (t : List Bool). field_bits f ++ t) (bits_of_fields-append fs gs) ∙ sym (append_assoc (field_bits f) (bits_of_fields fs) (bits_of_fields gs))

pub fit-append : (fs gs : List Field) → FieldsFit fs → FieldsFit gs → FieldsFit (fs ++ gs)
fit-append [] gs p q = q
fit-append (f ∷ fs) gs p q = (p.0, fit-append fs gs p.1 q)

pub fit-parts : (fs gs : List Field) → FieldsFit (fs ++ gs) → FieldsFit fs × FieldsFit gs
fit-parts [] gs p = (tt, p)
fit-parts (f ∷ fs) gs p = let r = fit-parts fs gs p.1 in ((p.0, r.0), r.1)

-- the number in a field with n bits before it
pub number_taken : (before : List Field) (w n : ℕ) (fs : List Field) (bs rest : List Bool) (k : ℕ) → total before ≡ k → n < 2 ^ w → bs ≡ bits_of_fields (before ++ u w n ∷ fs) ++ rest → unsigned (take w (drop k bs)) ≡ n
number_taken before w n fs bs rest k at small e =
    let parts : bs ≡ bits_of_fields before ++ (bits_of w n ++ (bits_of_fields fs ++ rest)) =
    e ∙ ap (λ (t : List Bool). t ++ rest) (bits_of_fields-append before (u w n ∷ fs)) ∙ append_assoc (bits_of_fields before) (bits_of w n ++ bits_of_fields fs) rest ∙ ap (λ (t : List Bool). bits_of_fields before ++ t) (append_assoc (bits_of w n) (bits_of_fields fs) rest) in
    rw (parts, drop_at (bits_of_fields before) (bits_of w n ++ (bits_of_fields fs ++ rest)) k (length-bits_of_fields before ∙ at), take_at (bits_of w n) (bits_of_fields fs ++ rest) w (length-bits_of w n)) (unsigned-bits_of w n ∙ mod-eq_of_lt small)

-- ---- one reading

split_same : (p q x y : List Bool) → length p ≡ length q → p ++ x ≡ q ++ y → (p ≡ q) × (x ≡ y)
split_same p q x y len e = (
  sym (take_at p x (length p) refl) ∙ ap (take (length p)) e ∙ take_at q y (length p) (sym len),
  sym (drop_at p x (length p) refl) ∙ ap (drop (length p)) e ∙ drop_at q y (length p) (sym len),
)

bits_same : (w m n : ℕ) → m < 2 ^ w → n < 2 ^ w → bits_of w m ≡ bits_of w n → m ≡ n
bits_same w m n p q e = sym (mod-eq_of_lt p) ∙ sym (unsigned-bits_of w m) ∙ ap unsigned e ∙ unsigned-bits_of w n ∙ mod-eq_of_lt q

half : (w : ℕ) → 1 ≤ w → 2 ^ w ≡ 2 * 2 ^ (w - 1)
half w few = let one : suc (w - 1) ≡ w = omega arith in ap (λ (k : ℕ). 2 ^ k) (sym one) ∙ pow-succ' 2 (w - 1)

ints_same : (w : ℕ) (y z : ℤ) → 1 ≤ w → FitsSigned w y → FitsSigned w z → signed_bits_of w y ≡ signed_bits_of w z → y ≡ z
ints_same w (pos m) (pos n) few p q e = ap pos (bits_same w m n (omega (arith, ints, p.1, half w few)) (omega (arith, ints, q.1, half w few)) e)
ints_same w (negsuc m) (negsuc n) few p q e =
    let lm : suc m ≤ 2 ^ w = omega (arith, ints, p.0, half w few) in
    let ln : suc n ≤ 2 ^ w = omega (arith, ints, q.0, half w few) in
    let s = bits_same w (2 ^ w - suc m) (2 ^ w - suc n) (omega arith) (omega arith) e in
    ap negsuc (omega arith)
ints_same w (pos m) (negsuc n) few p q e =
    let s = bits_same w m (2 ^ w - suc n) (omega (arith, ints, p.1, half w few)) (omega (arith, pow_pos w)) e in
    absurd (omega (arith, ints, p.1, q.0, half w few, s))
ints_same w (negsuc m) (pos n) few p q e =
    let s = bits_same w (2 ^ w - suc m) n (omega (arith, pow_pos w)) (omega (arith, ints, q.1, half w few)) e in
    absurd (omega (arith, ints, p.0, q.1, half w few, s))

-- two lists of fields of the same widths and kinds
abbrev pub SameForm : List Field → List Field → Type 0
SameForm [] [] = Unit {0}
SameForm (u w m ∷ fs) (u v n ∷ gs) = (w ≡ v) × SameForm fs gs
SameForm (i w m ∷ fs) (i v n ∷ gs) = (1 ≤ w) × (w ≡ v) × SameForm fs gs
SameForm (flag m ∷ fs) (flag n ∷ gs) = SameForm fs gs
SameForm fs gs = ⊥

one_field : (f g : Field) (fs gs : List Field) (a b : List Bool) → length (field_bits f) ≡ length (field_bits g) → bits_of_fields (f ∷ fs) ++ a ≡ bits_of_fields (g ∷ gs) ++ b
    → (field_bits f ≡ field_bits g) × (bits_of_fields fs ++ a ≡ bits_of_fields gs ++ b)
one_field f g fs gs a b len e =
    split_same (field_bits f) (field_bits g) (bits_of_fields fs ++ a) (bits_of_fields gs ++ b) len
    (sym (append_assoc (field_bits f) (bits_of_fields fs) a) ∙ e ∙ append_assoc (field_bits g) (bits_of_fields gs) b)

pub one_list : (fs gs : List Field) (a b : List Bool) → SameForm fs gs → FieldsFit fs → FieldsFit gs → bits_of_fields fs ++ a ≡ bits_of_fields gs ++ b → (fs ≡ gs) × (a ≡ b)
one_list [] [] a b form p q e = (refl, e)
one_list (u w m ∷ fs) (u v n ∷ gs) a b form p q e =
    let s = one_field (u w m) (u v n) fs gs a b (length-bits_of w m ∙ form.0 ∙ sym (length-bits_of v n)) e in
    let r = one_list fs gs a b form.1 p.1 q.1 s.1 in
    let k : v ≡ w = sym form.0 in
    let same : m ≡ n = bits_same w m n p.0 (subst (λ (x : ℕ). n < 2 ^ x) k q.0) (s.0 ∙ ap (λ (x : ℕ). bits_of x n) k) in
    (cc, r.1)
one_list (i w m ∷ fs) (i v n ∷ gs) a b form p q e =
    let s = one_field (i w m) (i v n) fs gs a b (length-signed_bits_of w m ∙ form.1 ∙ sym (length-signed_bits_of v n)) e in
    let r = one_list fs gs a b form.2 p.1 q.1 s.1 in
    let k : v ≡ w = sym form.1 in
    let same : m ≡ n = ints_same w m n form.0 p.0 (subst (λ (x : ℕ). FitsSigned x n) k q.0) (s.0 ∙ ap (λ (x : ℕ). signed_bits_of x n) k) in
    (cc, r.1)
one_list (flag m ∷ fs) (flag n ∷ gs) a b form p q e =
    let s = one_field (flag m) (flag n) fs gs a b refl e in
    let r = one_list fs gs a b form p.1 q.1 s.1 in
    let same : m ≡ n = cc in
    (cc, r.1)
one_list fs gs a b form p q e = absurd form
