-- Columns taken and put value by value, and how many values are taken at once.
use Rattle.std.proofs.Common.{◌≡◌, ℕ, zero, suc, ◌+◌, ◌-◌, ◌*◌, ◌/◌, ◌<◌, ◌≤◌, Bool, List, [], ◌∷◌, ◌++◌, length, map, take, get_or, refl, sym, ap, ◌∙◌, arith, append_assoc, sum_by, count_ones}
use Rattle.std.proofs.lemmas.List.{append-nil, take_more, take_more_set, take_all, map_push}
use Rattle.std.proofs.lemmas.List.Sums.{sum_by-cons}
use Rattle.std.proofs.lemmas.Nat.{ones-le, le-div}
use Rattle.std.proofs.Math.ListN.{set}
use Rattle.std.proofs.Math.Nat.{mul-le-mul_left, mul-le-mul_right, div-mul-le_self, le_trans}
use Rattle.rtk_bits.specs.Bits.{bits_of, unsigned}
use Rattle.rtk_message.specs.Fields.{Field, u, field_bits, bits_of_fields, FieldFits, FieldsFit, TakesAll}
use Rattle.rtk_message.specs.Steps.FieldSteps.{TakesField, Puts, PutsAll}
use Rattle.rtk_message.specs.FieldLaws.{fit-append}
use Rattle.rtk_message.specs.ColumnLaws.{ones-numbers}
use Rattle.rtk_message.specs.FieldColumns.{numbers, flags}
use Rattle.rtk_message.proofs.FieldLemmas.{took, took_none, took_both, put, put_none, put_both}

module _ {X : Type 0} (f : X → Field) where
  pub took_more : (xs : List X) (x : X) (a b c : List Bool) → TakesAll (map f xs) a b → TakesField (f x) b c → TakesAll (map f (xs ++ x ∷ [])) a c
  took_more xs x a b c p q = rw (map_push f xs x) (took_both p (took q took_none))

  -- after the column's fields and before the rest
  pub took_next : (xs : List X) (x : X) (from rest : List Bool) {b c : List Bool} → TakesAll (map f xs) from (b ++ rest) → TakesField (f x) b c → TakesAll (map f (xs ++ x ∷ [])) from (c ++ rest)
  took_next xs x from rest {b = b} {c = c} p q =
      took_more xs x from (b ++ rest) (c ++ rest) p (record { fits = q.fits; is = ap (λ (t : List Bool). t ++ rest) q.is ∙ append_assoc (field_bits (f x)) c rest })

  -- the value after the first k ones is set
  pub took_set : (xs : List X) (k : ℕ) (x : X) (from rest : List Bool) {b c : List Bool} → k < length xs → TakesAll (map f (take k xs)) from (b ++ rest) → TakesField (f x) b c → TakesAll (map f (take (k + 1) (set xs k x))) from (c ++ rest)
  took_set xs k x from rest h p q = rw (take_more_set xs k x h) (took_next (take k xs) x from rest p q)

  -- all values are read
  pub took_whole : (xs : List X) (n : ℕ) (a b : List Bool) → length xs ≤ n → TakesAll (map f (take n xs)) a b → TakesAll (map f xs) a b
  took_whole xs n a b h p = rw (take_all n xs h) at p

  pub put_more : (xs : List X) (k : ℕ) (d : X) (a b c : List Bool) → k < length xs → PutsAll (map f (take k xs)) a b → Puts (f (get_or xs k d)) b c → PutsAll (map f (take (k + 1) xs)) a c
  put_more xs k d a b c h p q = rw (take_more xs k d h, map_push f (take k xs) (get_or xs k d)) (put_both p (put q put_none))

  pub fit_one : (xs : List X) (k : ℕ) (d : X) → k < length xs → FieldsFit (map f xs) → FieldFits (f (get_or xs k d))
  fit_one [] k d h p = absurd (omega arith)
  fit_one (x ∷ xs) zero d h p = p.0
  fit_one (x ∷ xs) (suc k) d h p = fit_one xs k d (omega arith) p.1

  pub fit_more : (xs : List X) (k : ℕ) (d : X) → k < length xs → FieldsFit (map f (take k xs)) → FieldFits (f (get_or xs k d)) → FieldsFit (map f (take (k + 1) xs))
  fit_more xs k d h p q = rw (take_more xs k d h, map_push f (take k xs) (get_or xs k d)) (fit-append (map f (take k xs)) (f (get_or xs k d) ∷ []) p (q, tt))

-- no bits at all
pub takes_none : (w : ℕ) (a : List Bool) → w ≡ 0 → TakesField (u w 0) a a
unfolding bits_of
takes_none zero a e = record { fits = omega arith; is = refl }
takes_none (suc w) a e = absurd (omega arith)

no_bits : (w : ℕ) (ns : List ℕ) → w ≡ 0 → bits_of_fields (numbers w ns) ≡ []
unfolding bits_of
no_bits w [] e = refl
no_bits zero (n ∷ ns) e = no_bits zero ns e
no_bits (suc w) (n ∷ ns) e = absurd (omega arith)

pub puts_no_bits : (w : ℕ) (ns : List ℕ) (a : List Bool) → w ≡ 0 → PutsAll (numbers w ns) a a
puts_no_bits w ns a e = record { is = sym (ap (λ (t : List Bool). a ++ t) (no_bits w ns e) ∙ append-nil a) }

pub flags-fit : (bs : List Bool) → FieldsFit (flags bs)
flags-fit [] = tt
flags-fit (b ∷ bs) = (tt, flags-fit bs)

pub one_step : (w k : ℕ) → w * (k + 1) ≡ w * k + w
one_step w k = omega arith

-- the rows have at most as many set bits as they have bits
pub ones-few : (w : ℕ) (ns : List ℕ) → FieldsFit (numbers w ns) → sum_by count_ones ns ≤ w * length ns
ones-few w [] fit = omega arith
ones-few w (n ∷ ns) fit =
    let head = ones-le w n fit.0 in
    let tail = ones-few w ns fit.1 in
    rw (sum_by-cons count_ones n ns) (omega (arith, head, tail))

-- the bits of the rows have as many set bits as the rows
pub ones_taken : (w : ℕ) (ns : List ℕ) (word left : List Bool) → TakesAll (numbers w ns) word left → length left ≡ 0 → count_ones (unsigned word) ≡ sum_by count_ones ns
ones_taken w ns word [] t none = rw (t.is, append-nil (bits_of_fields (numbers w ns))) (ones-numbers w ns t.fit)
ones_taken w ns word (b ∷ bs) t none = absurd (omega arith)

-- ---- values taken at once

-- at most as many as 57 bits hold
pub at_once : (width fields : ℕ) → fields ≤ 57 / width → width * fields ≤ 57
at_once width fields few =
    let all = le_trans (mul-le-mul_right width few) (div-mul-le_self 57 width) in
    omega (arith, all)

-- 57 bits hold one
pub some_at_once : (width : ℕ) → 1 ≤ width → width ≤ 57 → 1 ≤ 57 / width
some_at_once width some most = le-div 1 57 width (omega arith) (omega arith)

-- some fields of some width have some bits
pub some_bits : (width fields : ℕ) → 1 ≤ width → 1 ≤ fields → 1 ≤ width * fields
some_bits width fields wide some =
    let product : width * 1 ≤ width * fields = mul-le-mul_left width some in
    omega (arith, wide, product)

-- there is room for them, by a test of the length n
pub room_left : (fields n so_far count : ℕ) → fields ≤ count - n → n ≡ so_far → so_far ≤ count → so_far + fields ≤ count
room_left fields n so_far count few is some = omega arith

-- fewer are left, by tests of the lengths n and k
pub fewer_left : (most n k so_far count : ℕ) → count - n < most → n ≡ so_far → k ≡ so_far → count - k ≤ most
fewer_left most n k so_far count few is same = omega arith

pub rest_is : (k so_far count : ℕ) → k ≡ so_far → so_far ≤ count → count ≡ so_far + (count - k)
rest_is k so_far count is some = omega arith

-- the bits of these fields are still there
pub enough_left : (width so_far fields count total left : ℕ) → so_far + fields ≤ count → width * count ≤ total → total ≡ width * so_far + left → width * fields ≤ left
enough_left width so_far fields count total left room enough e =
    let product : width * (so_far + fields) ≤ width * count = mul-le-mul_left width room in
    omega (arith, product)

-- the bits that are left after them
pub left_after : (width so_far fields now total before after : ℕ) → total ≡ width * so_far + before → before ≡ width * fields + after → now ≡ so_far + fields → total ≡ width * now + after
left_after width so_far fields now total before after first second sum = rw sum (omega (arith, first, second))
