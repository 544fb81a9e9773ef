-- Offsets and heights in their columns.
use Rattle.std.proofs.Common.{◌≡◌, ◌≢◌, ◌<◌, ◌≤◌, ℕ, ◌+◌, ◌-◌, ◌/◌, ◌%◌, ◌==◌, List, [], ◌∷◌, ◌++◌, length, take, drop, get_or, slice_index, replicate, codes, decimal, pos, if◌then◌else◌, ap, sym, arith, refl, ◌∙◌, inl, inr, length-append}
use Rattle.std.proofs.lemmas.Bool.{cases_order}
use Rattle.std.proofs.lemmas.Fmt.{decimal_digit}
use Rattle.std.proofs.lemmas.List.{length-replicate, length-drop, take-append-drop, take_at, drop_at, get_or-replicate, get_or_append_left, get_or-append_right, get_or-take}
use Rattle.rtk_obs.specs.CivilText.{last_digits}
use Rattle.rtk_rinex.specs.Columns.{right, fixed}
use Rattle.rtk_label.specs.Fields.{IsSign, IsSigned, IsOffset, offset_columns}
use Rattle.rtk_label.specs.Steps.Shown.{IsOffsetIn}
use Rattle.rtk_label.specs.Steps.Fronts.{plain_offset}
use Rattle.rtk_label.proofs.ChoiceLemmas.{if_blank, if_filled, none_is, blank_or_filled}

abbrev pub zero_offset : List ℕ
zero_offset = codes "        0.0000"

-- ---- an offset at the right end of its columns

pub length-right : (w : ℕ) (text : List ℕ) → length text ≤ w → length (right w text) ≡ w
length-right w text h = length-append (replicate (w - length text) 32) text ∙ omega (arith, length-replicate {A = ℕ} (w - length text) 32)

sign_no_blank : (x : ℕ) → IsSign x → x ≢ 32
sign_no_blank x (inl e) h = absurd (omega (arith, e, h))
sign_no_blank x (inr e) h = absurd (omega (arith, e, h))

-- its sign stands after the blanks
sign_at : (g : List ℕ) (k : ℕ) → IsSigned g → k ≡ 14 - length g → get_or (right 14 g) k 0 ≢ 32
sign_at g k h e is =
    let blanks : List ℕ = replicate (14 - length g) 32 in
    let size : length blanks ≡ k = length-replicate {A = ℕ} (14 - length g) 32 ∙ sym e in
    let at : get_or (blanks ++ g) k 0 ≡ get_or g (k - k) 0 = get_or-append_right blanks g k k 0 size (omega arith) in
    let first : k - k ≡ 0 = omega arith in
    sign_no_blank (get_or g 0 0) h.1 (sym (at ∙ ap (λ (n : ℕ). get_or g n 0) first) ∙ is)

blank_before : (g : List ℕ) (k : ℕ) → k < 14 - length g → get_or (right 14 g) k 0 ≡ 32
blank_before g k lt =
    get_or_append_left (replicate (14 - length g) 32) g 0 k (omega (arith, length-replicate {A = ℕ} (14 - length g) 32, lt)) ∙ get_or-replicate (14 - length g) k 32 0 lt

-- the blanks of columns that begin with r blanks and no more, if they are those of an offset
blanks_of : (columns g : List ℕ) (r : ℕ) → length columns ≡ 14 → r ≤ 14 → take r columns ≡ replicate r 32
    → (r < length columns → slice_index columns r ≢ 32) → IsSigned g → columns ≡ right 14 g → r ≡ 14 - length g
blanks_of columns g r l within blanks most h e =
    elim (cases_order r (14 - length g)) [
      | inl same ↦ same
      | inr (inl below) ↦ absurd (most (omega (arith, l, below)) (ap (λ (t : List ℕ). get_or t r 0) e ∙ blank_before g r below))
      | inr (inr above) ↦
          let k = 14 - length g in
          let lt : k < r = omega (arith, above) in
          let seen : get_or columns k 0 ≡ 32 = sym (get_or-take r columns k 0 lt) ∙ ap (λ (t : List ℕ). get_or t k 0) blanks ∙ get_or-replicate r k 32 0 lt in
          absurd (sign_at g k h refl (sym (ap (λ (t : List ℕ). get_or t k 0) e) ∙ seen))
    ]

shown_is : (columns g : List ℕ) (r : ℕ) → length columns ≡ 14 → r ≤ 14 → take r columns ≡ replicate r 32
    → (r < length columns → slice_index columns r ≢ 32) → IsSigned g → columns ≡ right 14 g → drop r columns ≡ g
shown_is columns g r l within blanks most h e =
    let n : r ≡ 14 - length g = blanks_of columns g r l within blanks most h e in
    ap (drop r) e ∙ drop_at (replicate (14 - length g) 32) g r (length-replicate {A = ℕ} (14 - length g) 32 ∙ sym n)

pub offset-none : (columns : List ℕ) (r : ℕ) → length columns ≡ 14 → r ≤ 14 → take r columns ≡ replicate r 32
    → (r < length columns → slice_index columns r ≢ 32) → ¬ (IsOffset (drop r columns)) → IsOffsetIn columns []
offset-none columns r l within blanks most unlike = record {
  good = λ h. absurd (omega (arith, h));
  some = λ h. absurd (omega (arith, h));
  all = λ g h e. absurd (unlike (λ some. rw (shown_is columns g r l within blanks most h e) h));
}

pub offset-some : (columns field : List ℕ) (r : ℕ) → length columns ≡ 14 → r ≤ 14 → take r columns ≡ replicate r 32
    → (r < length columns → slice_index columns r ≢ 32) → field ≡ drop r columns → IsOffset (drop r columns) → IsOffsetIn columns field
offset-some columns field r l within blanks most is good = record {
  good = rw is good;
  some = λ h.
      let size : length field ≡ 14 - r = ap length is ∙ length-drop r columns ∙ omega (arith, l) in
      let n : 14 - length field ≡ r = omega (arith, size, within) in
      sym (take-append-drop r columns) ∙ ap (λ (t : List ℕ). t ++ drop r columns) blanks ∙ ap (λ (t : List ℕ). replicate r 32 ++ t) (sym is)
      ∙ ap (λ (k : ℕ). replicate {A = ℕ} k 32 ++ field) (sym n);
  all = λ g h e. is ∙ shown_is columns g r l within blanks most h e;
}

-- ---- numbers without a sign

-- eight blanks, and then other text: no offset with a sign stands in such columns
unsigned : (g rest : List ℕ) → IsSigned g → replicate 8 32 ++ rest ≢ right 14 g
unsigned g rest h e =
    let k = 14 - length g in
    let lt : k < 8 = omega (arith, h.0) in
    let blank : get_or (replicate 8 32 ++ rest) k 0 ≡ 32 =
    get_or_append_left (replicate 8 32) rest 0 k (omega (arith, length-replicate {A = ℕ} 8 32, lt)) ∙ get_or-replicate 8 k 32 0 lt in
    sign_at g k h refl (sym (ap (λ (t : List ℕ). get_or t k 0) e) ∙ blank)

-- a height of the stream has one digit before the point
pub fixed_height : (h : ℕ) → h < 65_536 → fixed 4 14 (pos h) ≡ replicate 8 32 ++ ((48 + h / 10_000) ∷ 46 ∷ last_digits 4 h)
fixed_height h small =
    let one : decimal (h / 10_000) ≡ (48 + h / 10_000) ∷ [] = decimal_digit (h / 10_000) (omega (arith, small)) in
    ap (λ (ds : List ℕ). right 14 (ds ++ 46 ∷ last_digits 4 h)) one

pub told_zero : (h : ℕ) → h < 65_536 → fixed 4 14 (pos h) ≡ zero_offset → h ≡ 0
told_zero h small e =
    let t : replicate 8 32 ++ ((48 + h / 10_000) ∷ 46 ∷ last_digits 4 h) ≡ zero_offset = sym (fixed_height h small) ∙ e in
    let a : 48 + h / 10_000 ≡ 48 = ap (λ (t : List ℕ). get_or t 8 0) t in
    let b : 48 + h / 10 / 10 / 10 % 10 ≡ 48 = ap (λ (t : List ℕ). get_or t 10 0) t in
    let c : 48 + h / 10 / 10 % 10 ≡ 48 = ap (λ (t : List ℕ). get_or t 11 0) t in
    let d : 48 + h / 10 % 10 ≡ 48 = ap (λ (t : List ℕ). get_or t 12 0) t in
    let f : 48 + h % 10 ≡ 48 = ap (λ (t : List ℕ). get_or t 13 0) t in
    omega (arith, a, b, c, d, f)

pub zero_height : fixed 4 14 (pos 0) ≡ zero_offset
zero_height = fixed_height 0 (omega arith)

-- ---- the columns of an offset, made 0

pub length-plain_offset : (field columns : List ℕ) → length columns ≡ 14 → length (plain_offset field columns) ≡ 14
length-plain_offset field columns l =
    elim (blank_or_filled field) [
      | inl none ↦ ap length (if_blank field columns zero_offset none) ∙ l
      | inr some ↦ ap length (if_filled field columns zero_offset some)
    ]

pub length-offset : (g : List ℕ) → IsOffset g → length (offset_columns g) ≡ 14
length-offset g h =
    elim (blank_or_filled g) [
      | inl none ↦ ap length (if_blank g zero_offset (right 14 g) none)
      | inr some ↦ ap length (if_filled g zero_offset (right 14 g) some) ∙ length-right 14 g (omega (arith, (h some).0))
    ]

-- plain columns were those of the offset; `told` is a number without a sign
pub offset_was : (columns field told : List ℕ) → IsOffsetIn columns field → plain_offset field columns ≡ told
    → columns ≡ (if length field == 0 then told else right 14 field)
offset_was columns field told is e =
    elim (blank_or_filled field) [
      | inl none ↦ sym (if_blank field columns zero_offset none) ∙ e ∙ sym (if_blank field told (right 14 field) none)
      | inr some ↦ is.some some ∙ sym (if_filled field told (right 14 field) some)
    ]

pub offset_is_told : (columns field g rest : List ℕ) → IsOffsetIn columns field → IsOffset g
    → columns ≡ (if length g == 0 then replicate 8 32 ++ rest else right 14 g) → field ≡ g
offset_is_told columns field g rest is good e =
    elim (blank_or_filled g) [
      | inl none ↦ elim (blank_or_filled field) [
        | inl blank ↦ none_is field blank ∙ sym (none_is g none)
        | inr some ↦ absurd (unsigned field rest (is.good some) (sym (if_blank g (replicate 8 32 ++ rest) (right 14 g) none) ∙ sym e ∙ is.some some))
      ]
      | inr some ↦ is.all g (good some) (e ∙ if_filled g (replicate 8 32 ++ rest) (right 14 g) some)
    ]

-- columns of an offset become plain
pub offset_is_plain : (columns g told : List ℕ) → (0 < length g → told ≡ zero_offset)
    → columns ≡ (if length g == 0 then told else right 14 g) → plain_offset g columns ≡ told
offset_is_plain columns g told only e =
    elim (blank_or_filled g) [
      | inl none ↦ if_blank g columns zero_offset none ∙ e ∙ if_blank g told (right 14 g) none
      | inr some ↦ if_filled g columns zero_offset some ∙ sym (only some)
    ]

-- ---- one offset in its columns

one_offset : (f g : List ℕ) → IsSigned f → IsSigned g → right 14 f ≡ right 14 g → f ≡ g
one_offset f g hf hg e =
    let r = 14 - length f in
    let size : length (replicate {A = ℕ} r 32) ≡ r = length-replicate {A = ℕ} r 32 in
    sym (drop_at (replicate r 32) f r size)
    ∙ shown_is (right 14 f) g r (length-right 14 f (omega (arith, hf.0))) (omega arith) (take_at (replicate r 32) f r size) (λ inside. sign_at f r hf refl) hg e

pub offset_in : (columns f rest : List ℕ) → IsOffset f → columns ≡ (if length f == 0 then replicate 8 32 ++ rest else right 14 f) → IsOffsetIn columns f
offset_in columns f rest good e = record {
  good = good;
  some = λ some. e ∙ if_filled f (replicate 8 32 ++ rest) (right 14 f) some;
  all = λ g h is.
      elim (blank_or_filled f) [
        | inl none ↦ absurd (unsigned g rest h (sym (e ∙ if_blank f (replicate 8 32 ++ rest) (right 14 f) none) ∙ is))
        | inr some ↦ one_offset f g (good some) h (sym (e ∙ if_filled f (replicate 8 32 ++ rest) (right 14 f) some) ∙ is)
      ];
}

-- columns of a line are those of its place
pub offset_at : (columns place field : List ℕ) → columns ≡ place → IsOffsetIn columns field → IsOffsetIn place field
offset_at columns place field e is = rw e at is
