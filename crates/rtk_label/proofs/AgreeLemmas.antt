-- Texts that agree up to a byte, or from it on.
use Rattle.std.proofs.Common.{◌≡◌, ◌≤◌, ◌⊎◌, inl, inr, ℕ, ◌+◌, ◌-◌, ◌*◌, List, [], ◌∷◌, ◌++◌, length, take, drop, ap, sym, arith, refl, ◌∙◌}
use Rattle.std.proofs.Math.Seq.{take-append-add}
use Rattle.std.proofs.lemmas.Bool.{cases_lt}
use Rattle.std.proofs.lemmas.List.{append-nil, length-take, take_all, take-take, take-append-le, drop_all, drop_at, drop-drop, drop-take, drop-append-le}
use Rattle.rtk_label.proofs.PieceLemmas.{joined, HasWidths}

take_both : (d w : ℕ) (x : List ℕ) → take d (take w x) ≡ take w (take d x)
take_both d w x =
    elim (cases_lt d w) [
      | inl below ↦ take-take d w x (omega (arith, below)) ∙ sym (take_all w (take d x) (omega (arith, below, length-take d x)))
      | inr above ↦ take_all d (take w x) (omega (arith, above, length-take w x)) ∙ sym (take-take w d x above)
    ]

take_drop : (n c : ℕ) (s : List ℕ) → take (n - c) (drop c s) ≡ drop c (take n s)
take_drop n c s =
    elim (cases_lt c n) [
      | inr below ↦ let none : n - c ≡ 0 = omega (arith, below) in ap (λ (k : ℕ). take k (drop c s)) none ∙ sym (drop_all c (take n s) (omega (arith, below, length-take n s)))
      | inl above ↦ let sum : c + (n - c) ≡ n = omega (arith, above) in sym (drop-take c (n - c) s) ∙ ap (λ (k : ℕ). drop c (take k s)) sum
    ]

cut_piece : (n c w : ℕ) (s : List ℕ) → take (n - c) (take w (drop c s)) ≡ take w (drop c (take n s))
cut_piece n c w s = take_both (n - c) w (drop c s) ∙ ap (take w) (take_drop n c s)

-- pieces of texts that agree up to n
pub agree_piece : (n c w : ℕ) (s t : List ℕ) → take n s ≡ take n t → take (n - c) (take w (drop c s)) ≡ take (n - c) (take w (drop c t))
agree_piece n c w s t e = cut_piece n c w s ∙ ap (λ (x : List ℕ). take w (drop c x)) e ∙ sym (cut_piece n c w t)

whole_piece : (n c w : ℕ) (s : List ℕ) → c + w ≤ n → take (n - c) (take w (drop c s)) ≡ take w (drop c s)
whole_piece n c w s h = take_all (n - c) (take w (drop c s)) (omega (arith, h, length-take w (drop c s)))

pub same_columns : (n c w : ℕ) (s t : List ℕ) → c + w ≤ n → take n s ≡ take n t → take w (drop c s) ≡ take w (drop c t)
same_columns n c w s t h e = sym (whole_piece n c w s h) ∙ agree_piece n c w s t e ∙ whole_piece n c w t h

drop_past : (n c : ℕ) (s : List ℕ) → n ≤ c → drop c s ≡ drop (c - n) (drop n s)
drop_past n c s h = let sum : n + (c - n) ≡ c = omega (arith, h) in ap (λ (k : ℕ). drop k s) (sym sum) ∙ sym (drop-drop (c - n) n s)

pub same_past : (n c : ℕ) (s t : List ℕ) → n ≤ c → drop n s ≡ drop n t → drop c s ≡ drop c t
same_past n c s t h e = drop_past n c s h ∙ ap (drop (c - n)) e ∙ sym (drop_past n c t h)

-- ---- texts in pieces

pub take_append : (n : ℕ) (x r : List ℕ) → take n (x ++ r) ≡ take n x ++ take (n - length x) r
take_append n x r =
    elim (cases_lt (length x) n) [
      | inr below ↦ let none : n - length x ≡ 0 = omega (arith, below) in take-append-le n x r below ∙ sym (ap (λ (k : ℕ). take n x ++ take k r) none ∙ append-nil (take n x))
      | inl above ↦
          let sum : length x + (n - length x) ≡ n = omega (arith, above) in
          ap (λ (k : ℕ). take k (x ++ r)) (sym sum) ∙ take-append-add x r (n - length x) ∙ ap (λ (y : List ℕ). y ++ take (n - length x) r) (sym (take_all n x (omega (arith, above))))
    ]

pub drop_append : (n : ℕ) (x r : List ℕ) → drop n (x ++ r) ≡ drop n x ++ drop (n - length x) r
drop_append n x r =
    elim (cases_lt (length x) n) [
      | inr below ↦ let none : n - length x ≡ 0 = omega (arith, below) in drop-append-le n x r below ∙ ap (λ (k : ℕ). drop n x ++ drop k r) (sym none)
      | inl above ↦
          drop_past (length x) n (x ++ r) (omega (arith, above)) ∙ ap (drop (n - length x)) (drop_at x r (length x) refl)
          ∙ ap (λ (y : List ℕ). y ++ drop (n - length x) r) (sym (drop_all n x (omega (arith, above))))
    ]

-- pieces of these widths, the first of which begins at the byte k, are alike up to the byte n
abbrev pub AreAlikeUpTo : ℕ → ℕ → List ℕ → List (List ℕ) → List (List ℕ) → Type 0
AreAlikeUpTo n k [] [] [] = Unit {0}
AreAlikeUpTo n k (w ∷ ws) (x ∷ xs) (y ∷ ys) = (take (n - k) x ≡ take (n - k) y) × AreAlikeUpTo n (k + w) ws xs ys
AreAlikeUpTo n k _ _ _ = ⊥

pub alike_up_to : (n k : ℕ) (ws : List ℕ) (xs ys : List (List ℕ)) → HasWidths ws xs → HasWidths ws ys → AreAlikeUpTo n k ws xs ys → take (n - k) (joined xs) ≡ take (n - k) (joined ys)
alike_up_to n k [] [] [] g h a = refl
alike_up_to n k [] [] (y ∷ ys) g h a = absurd h
alike_up_to n k [] (x ∷ xs) ys g h a = absurd g
alike_up_to n k (w ∷ ws) [] ys g h a = absurd g
alike_up_to n k (w ∷ ws) (x ∷ xs) [] g h a = absurd h
alike_up_to n k (w ∷ ws) (x ∷ xs) (y ∷ ys) g h a =
    let first : n - k - length x ≡ n - (k + w) = omega (arith, g.0) in
    let second : n - k - length y ≡ n - (k + w) = omega (arith, h.0) in
    take_append (n - k) x (joined xs) ∙ ap (λ (j : ℕ). take (n - k) x ++ take j (joined xs)) first
    ∙ ap (λ (t : List ℕ). t ++ take (n - (k + w)) (joined xs)) a.0
    ∙ ap (λ (t : List ℕ). take (n - k) y ++ t) (alike_up_to n (k + w) ws xs ys g.1 h.1 a.1)
    ∙ ap (λ (j : ℕ). take (n - k) y ++ take j (joined ys)) (sym second) ∙ sym (take_append (n - k) y (joined ys))

-- they are alike from the byte n on
abbrev pub AreAlikeFrom : ℕ → ℕ → List ℕ → List (List ℕ) → List (List ℕ) → Type 0
AreAlikeFrom n k [] [] [] = Unit {0}
AreAlikeFrom n k (w ∷ ws) (x ∷ xs) (y ∷ ys) = (drop (n - k) x ≡ drop (n - k) y) × AreAlikeFrom n (k + w) ws xs ys
AreAlikeFrom n k _ _ _ = ⊥

pub alike_from : (n k : ℕ) (ws : List ℕ) (xs ys : List (List ℕ)) → HasWidths ws xs → HasWidths ws ys → AreAlikeFrom n k ws xs ys → drop (n - k) (joined xs) ≡ drop (n - k) (joined ys)
alike_from n k [] [] [] g h a = refl
alike_from n k [] [] (y ∷ ys) g h a = absurd h
alike_from n k [] (x ∷ xs) ys g h a = absurd g
alike_from n k (w ∷ ws) [] ys g h a = absurd g
alike_from n k (w ∷ ws) (x ∷ xs) [] g h a = absurd h
alike_from n k (w ∷ ws) (x ∷ xs) (y ∷ ys) g h a =
    let first : n - k - length x ≡ n - (k + w) = omega (arith, g.0) in
    let second : n - k - length y ≡ n - (k + w) = omega (arith, h.0) in
    drop_append (n - k) x (joined xs) ∙ ap (λ (j : ℕ). drop (n - k) x ++ drop j (joined xs)) first
    ∙ ap (λ (t : List ℕ). t ++ drop (n - (k + w)) (joined xs)) a.0
    ∙ ap (λ (t : List ℕ). drop (n - k) y ++ t) (alike_from n (k + w) ws xs ys g.1 h.1 a.1)
    ∙ ap (λ (j : ℕ). drop (n - k) y ++ drop j (joined ys)) (sym second) ∙ sym (drop_append (n - k) y (joined ys))

-- ---- columns of a line of 81 bytes, which is one of the first j lines or not

pub before_or_after : (n j i c w : ℕ) → n ≡ 81 * j → 81 * i ≤ c → c + w ≤ 81 * (i + 1) → (n ≤ c) ⊎ (c + w ≤ n)
before_or_after n j i c w is low high =
    elim (cases_lt i j) [ inl below ↦ inr (omega (arith, is, high, below)) | inr above ↦ inl (omega (arith, is, low, above)) ]

-- what stands in columns is one thing
abbrev pub IsOne : (List ℕ → List ℕ → Type 0) → Type 0
IsOne In = (columns f g : List ℕ) → In columns f → In columns g → f ≡ g

pub blank_past : (In : List ℕ → List ℕ → Type 0) (n c w : ℕ) (a p f : List ℕ) → IsOne In → drop n a ≡ drop n p → In (take w (drop c a)) f → In (take w (drop c p)) [] → n ≤ c → f ≡ []
blank_past In n c w a p f one e is none past =
    let same : take w (drop c a) ≡ take w (drop c p) = ap (take w) (same_past n c a p past e) in
    one (take w (drop c p)) f [] (rw same at is) none

pub shown_in : (In : List ℕ → List ℕ → Type 0) (n c w : ℕ) (a b x f : List ℕ) → (n ≤ c) ⊎ (c + w ≤ n) → take n x ≡ take n a → drop n x ≡ drop n b
    → In (take w (drop c a)) f → In (take w (drop c b)) [] → (n ≤ c → f ≡ []) → In (take w (drop c x)) f
shown_in In n c w a b x f place up from is none blank =
    elim place [
      | inl past ↦
          let same : take w (drop c x) ≡ take w (drop c b) = ap (take w) (same_past n c x b past from) in
          rw (same, blank past) none
      | inr inside ↦
          let same : take w (drop c x) ≡ take w (drop c a) = same_columns n c w x a inside up in
          rw same is
    ]
