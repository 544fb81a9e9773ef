-- A column as fields: how many bits it has, how many of them are set, and that they can be read in
-- one way only.
use Rattle.std.proofs.Common.{◌≡◌, ℕ, ℤ, ◌+◌, ◌*◌, ◌≤◌, Bool, List, [], ◌∷◌, ◌++◌, length, refl, sym, ap, ◌∙◌, arith, append_assoc, sum_by, count_ones}
use Rattle.std.proofs.lemmas.List.Sums.{sum_by-cons}
use Rattle.std.proofs.lemmas.Nat.{ones_cat}
use lib.Count.{ones}
use Rattle.std.proofs.Math.Nat.{mod-eq_of_lt}
use Rattle.rtk_bits.specs.Bits.{unsigned, bits_of}
use Rattle.rtk_bits.proofs.PublicLaws.{unsigned-append, unsigned_lt, unsigned-bits_of}
use Rattle.rtk_message.specs.Fields.{Field, bits_of_fields, FieldsFit}
use Rattle.rtk_message.specs.FieldLaws.{SameForm, one_list, total, bits_of_fields-append, fit-parts}
use Rattle.rtk_message.specs.FieldColumns.{numbers, integers, flags}

-- ---- lengths

pub total-numbers : (w : ℕ) (ns : List ℕ) → total (numbers w ns) ≡ w * length ns
total-numbers w [] = omega arith
total-numbers w (n ∷ ns) = rw (total-numbers w ns) (omega arith)

pub total-integers : (w : ℕ) (zs : List ℤ) → total (integers w zs) ≡ w * length zs
total-integers w [] = omega arith
total-integers w (z ∷ zs) = rw (total-integers w zs) (omega arith)

pub total-flags : (bs : List Bool) → total (flags bs) ≡ length bs
total-flags [] = refl
total-flags (b ∷ bs) = rw (total-flags bs) (omega arith)

-- ---- bits that are set

-- the concatenated rows have as many set bits as all rows together
pub ones-numbers : (w : ℕ) (ns : List ℕ) → FieldsFit (numbers w ns) → count_ones (unsigned (bits_of_fields (numbers w ns))) ≡ sum_by count_ones ns
unfolding unsigned lib.Count.ones
ones-numbers w [] fit = refl
ones-numbers w (n ∷ ns) fit =
    let rest = bits_of_fields (numbers w ns) in
    rw (unsigned-append (bits_of w n) rest, unsigned-bits_of w n, mod-eq_of_lt fit.0, sum_by-cons count_ones n ns)
    (ones_cat (length rest) n (unsigned rest) (unsigned_lt rest) ∙ ap (λ (k : ℕ). count_ones n + k) (ones-numbers w ns fit.1))

-- ---- one reading

-- two columns at the front of the bits are the same; the fields after them fit, and their bits are
-- the same too
pub record SameFront (X : Type 0) (xs ys : X) (fs gs : List Field) (a b : List Bool) : Type 0 where
  pub here : xs ≡ ys
  pub left : FieldsFit fs
  pub right : FieldsFit gs
  pub after : bits_of_fields fs ++ a ≡ bits_of_fields gs ++ b

pub peel : (hs ks fs gs : List Field) (a b : List Bool) → SameForm hs ks → FieldsFit (hs ++ fs) → FieldsFit (ks ++ gs) → bits_of_fields (hs ++ fs) ++ a ≡ bits_of_fields (ks ++ gs) ++ b → SameFront (List Field) hs ks fs gs a b
peel hs ks fs gs a b form p q e =
    let fp = fit-parts hs fs p in
    let fq = fit-parts ks gs q in
    let one = one_list hs ks (bits_of_fields fs ++ a) (bits_of_fields gs ++ b) form fp.0 fq.0
    (sym (ap (λ (t : List Bool). t ++ a) (bits_of_fields-append hs fs) ∙ append_assoc (bits_of_fields hs) (bits_of_fields fs) a) ∙ e ∙ (ap (λ (t : List Bool). t ++ b) (bits_of_fields-append ks gs) ∙ append_assoc (bits_of_fields ks) (bits_of_fields gs) b)) in
    record { here = one.0; left = fp.1; right = fq.1; after = one.1 }

form-numbers : (w v : ℕ) (ms ns : List ℕ) → w ≡ v → length ms ≡ length ns → SameForm (numbers w ms) (numbers v ns)
form-numbers w v [] [] k e = tt
form-numbers w v (m ∷ ms) (n ∷ ns) k e = (k, form-numbers w v ms ns k (omega arith))
form-numbers w v [] (n ∷ ns) k e = absurd (omega arith)
form-numbers w v (m ∷ ms) [] k e = absurd (omega arith)

form-integers : (w : ℕ) (ms ns : List ℤ) → 1 ≤ w → length ms ≡ length ns → SameForm (integers w ms) (integers w ns)
form-integers w [] [] h e = tt
form-integers w (m ∷ ms) (n ∷ ns) h e = (h, refl, form-integers w ms ns h (omega arith))
form-integers w [] (n ∷ ns) h e = absurd (omega arith)
form-integers w (m ∷ ms) [] h e = absurd (omega arith)

form-flags : (ms ns : List Bool) → length ms ≡ length ns → SameForm (flags ms) (flags ns)
form-flags [] [] e = tt
form-flags (m ∷ ms) (n ∷ ns) e = form-flags ms ns (omega arith)
form-flags [] (n ∷ ns) e = absurd (omega arith)
form-flags (m ∷ ms) [] e = absurd (omega arith)

same-numbers : (w v : ℕ) (ms ns : List ℕ) → numbers w ms ≡ numbers v ns → ms ≡ ns
same-numbers w v [] [] e = refl
same-numbers w v (m ∷ ms) (n ∷ ns) e =
    let tail : numbers w ms ≡ numbers v ns = cc in
    let rest = same-numbers w v ms ns tail in
    let head : m ≡ n = cc in cc
same-numbers w v [] (n ∷ ns) e = absurd cc
same-numbers w v (m ∷ ms) [] e = absurd cc

same-integers : (w : ℕ) (ms ns : List ℤ) → integers w ms ≡ integers w ns → ms ≡ ns
same-integers w [] [] e = refl
same-integers w (m ∷ ms) (n ∷ ns) e =
    let tail : integers w ms ≡ integers w ns = cc in
    let rest = same-integers w ms ns tail in
    let head : m ≡ n = cc in cc
same-integers w [] (n ∷ ns) e = absurd cc
same-integers w (m ∷ ms) [] e = absurd cc

same-flags : (ms ns : List Bool) → flags ms ≡ flags ns → ms ≡ ns
same-flags [] [] e = refl
same-flags (m ∷ ms) (n ∷ ns) e =
    let tail : flags ms ≡ flags ns = cc in
    let rest = same-flags ms ns tail in
    let head : m ≡ n = cc in cc
same-flags [] (n ∷ ns) e = absurd cc
same-flags (m ∷ ms) [] e = absurd cc

pub peel_numbers : (w v : ℕ) (ms ns : List ℕ) (fs gs : List Field) (a b : List Bool) → w ≡ v → length ms ≡ length ns → FieldsFit (numbers w ms ++ fs) → FieldsFit (numbers v ns ++ gs) → bits_of_fields (numbers w ms ++ fs) ++ a ≡ bits_of_fields (numbers v ns ++ gs) ++ b → SameFront (List ℕ) ms ns fs gs a b
peel_numbers w v ms ns fs gs a b k len p q e =
    let s = peel (numbers w ms) (numbers v ns) fs gs a b (form-numbers w v ms ns k len) p q e in
    record { here = same-numbers w v ms ns s.here; left = s.left; right = s.right; after = s.after }

pub peel_integers : (w : ℕ) (ms ns : List ℤ) (fs gs : List Field) (a b : List Bool) → 1 ≤ w → length ms ≡ length ns → FieldsFit (integers w ms ++ fs) → FieldsFit (integers w ns ++ gs) → bits_of_fields (integers w ms ++ fs) ++ a ≡ bits_of_fields (integers w ns ++ gs) ++ b → SameFront (List ℤ) ms ns fs gs a b
peel_integers w ms ns fs gs a b h len p q e =
    let s = peel (integers w ms) (integers w ns) fs gs a b (form-integers w ms ns h len) p q e in
    record { here = same-integers w ms ns s.here; left = s.left; right = s.right; after = s.after }

pub peel_flags : (ms ns : List Bool) (fs gs : List Field) (a b : List Bool) → length ms ≡ length ns → FieldsFit (flags ms ++ fs) → FieldsFit (flags ns ++ gs) → bits_of_fields (flags ms ++ fs) ++ a ≡ bits_of_fields (flags ns ++ gs) ++ b → SameFront (List Bool) ms ns fs gs a b
peel_flags ms ns fs gs a b len p q e =
    let s = peel (flags ms) (flags ns) fs gs a b (form-flags ms ns len) p q e in
    record { here = same-flags ms ns s.here; left = s.left; right = s.right; after = s.after }

pub last_numbers : (w : ℕ) (ms ns : List ℕ) (a b : List Bool) → length ms ≡ length ns → FieldsFit (numbers w ms) → FieldsFit (numbers w ns) → bits_of_fields (numbers w ms) ++ a ≡ bits_of_fields (numbers w ns) ++ b → ms ≡ ns
last_numbers w ms ns a b len p q e = same-numbers w w ms ns (one_list (numbers w ms) (numbers w ns) a b (form-numbers w w ms ns refl len) p q e).0

pub last_integers : (w : ℕ) (ms ns : List ℤ) (a b : List Bool) → 1 ≤ w → length ms ≡ length ns → FieldsFit (integers w ms) → FieldsFit (integers w ns) → bits_of_fields (integers w ms) ++ a ≡ bits_of_fields (integers w ns) ++ b → ms ≡ ns
last_integers w ms ns a b h len p q e = same-integers w ms ns (one_list (integers w ms) (integers w ns) a b (form-integers w ms ns h len) p q e).0
