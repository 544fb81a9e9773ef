-- Cells whose keys rise join kept ones: from the greatest key down, each takes its last place.
use Rattle.std.proofs.Common.{◌≡◌, ℕ, zero, suc, ◌+◌, ◌-◌, ◌<◌, ◌≤◌, List, [], ◌∷◌, ◌++◌, length, get_or, take, drop, set, Some, refl, ap, append_assoc, sym, ◌∙◌, arith, inl, inr, subst}
use Rattle.std.specs.List.{AllByRecursion}
use Rattle.std.proofs.lemmas.Bool.{cases_order, ne_eqb, eq-eqb}
use Rattle.std.proofs.lemmas.List.{append-nil, length-append, length-set, length-take-le, take-append-drop, take-set-le, drop-set, get_or-take, take_at, drop_all}
use Rattle.std.proofs.Math.Seq.{take-length, take-suc, set-append_seam}
use Rattle.rtk_collect.specs.Key.{key, Above, KeysRise}
use Rattle.rtk_collect.specs.EpochSet.{with_cell, with_cells, cell_under, fresh}
use Rattle.rtk_collect.proofs.CellsLemmas.{with_cell-new, with_cell-past, with_cell-same, with_cell-longer, with_cell-sets, with_cells-each, with_cells-rises, with_cells-keeps, above-all, drop-at, fresh-length}
use Rattle.rtk_collect.proofs.RisingLemmas.{rises-before, join-after, length-with}
use Rattle.rtk_collect.specs.Entries.{Entries}

-- ---- greater kept cells stay where they are

abbrev pub IsGreater : {E S : Type 0} (es : Entries E S) → ℕ → E → Type 0
IsGreater es k c = k < key es c

abbrev IsLess : {E S : Type 0} (es : Entries E S) → ℕ → E → Type 0
IsLess es k c = key es c < k

abbrev IsAtMost : {E S : Type 0} (es : Entries E S) → ℕ → E → Type 0
IsAtMost es k c = key es c ≤ k

cell-before : {E S : Type 0} (es : Entries E S) (c : E) (xs ys : List E) → AllByRecursion (IsGreater es (key es c)) ys → with_cell es c (xs ++ ys) ≡ with_cell es c xs ++ ys
cell-before es c [] [] h = refl
cell-before es c [] (y ∷ ys) h = with_cell-new es c y ys h.0
cell-before es c (x ∷ xs) ys h = elim (cases_order (key es c) (key es x)) [
  | inl same ↦ rw (with_cell-same es c x (xs ++ ys) same, with_cell-same es c x xs same) refl
  | inr more ↦ elim more [
    | inl new ↦ rw (with_cell-new es c x (xs ++ ys) new, with_cell-new es c x xs new) refl
    | inr past ↦ rw (with_cell-past es c x (xs ++ ys) past, with_cell-past es c x xs past) (ap (λ t. x ∷ t) (cell-before es c xs ys h))
  ]
]

greater-than : {E S : Type 0} (es : Entries E S) (k l : ℕ) (ys : List E) → k ≤ l → AllByRecursion (IsGreater es l) ys → AllByRecursion (IsGreater es k) ys
greater-than es k l [] h a = tt
greater-than es k l (y ∷ ys) h a = (omega (arith, h, a.0), greater-than es k l ys h a.1)

cells-before : {E S : Type 0} (es : Entries E S) (k : ℕ) (cells xs ys : List E) → AllByRecursion (IsAtMost es k) cells → AllByRecursion (IsGreater es k) ys → with_cells es cells (xs ++ ys) ≡ with_cells es cells xs ++ ys
cells-before es k [] xs ys a h = refl
cells-before es k (c ∷ more) xs ys a h = ap (with_cells es more) (cell-before es c xs ys (greater-than es (key es c) k ys a.0 h)) ∙ cells-before es k more (with_cell es c xs) ys a.1 h

-- ---- the last of the cells that join

cells-last : {E S : Type 0} (es : Entries E S) (cells : List E) (c : E) (xs : List E) → with_cells es (cells ++ c ∷ []) xs ≡ with_cell es c (with_cells es cells xs)
cells-last es [] c xs = refl
cells-last es (x ∷ cells) c xs = cells-last es cells c (with_cell es x xs)

last-new : {E S : Type 0} (es : Entries E S) (c : E) (xs : List E) → AllByRecursion (IsLess es (key es c)) xs → with_cell es c xs ≡ xs ++ c ∷ []
last-new es c [] a = refl
last-new es c (x ∷ xs) a = with_cell-past es c x xs a.0 ∙ ap (λ t. x ∷ t) (last-new es c xs a.1)

less-than-last : {E S : Type 0} (es : Entries E S) (xs : List E) (c : E) → KeysRise es (xs ++ c ∷ []) → AllByRecursion (IsLess es (key es c)) xs
less-than-last es [] c r = tt
less-than-last es (x ∷ xs) c r = (rises-before es x c xs [] r, less-than-last es xs c r.1)

at-most-last : {E S : Type 0} (es : Entries E S) (xs : List E) (c : E) → KeysRise es (xs ++ c ∷ []) → AllByRecursion (IsAtMost es (key es c)) (xs ++ c ∷ [])
at-most-last es [] c r = (omega arith, tt)
at-most-last es (x ∷ xs) c r = (let h : key es x < key es c = rises-before es x c xs [] r in omega arith, at-most-last es xs c r.1)

above-take : {E S : Type 0} (es : Entries E S) (k n : ℕ) (xs : List E) → Above es k xs → Above es k (take n xs)
above-take es k zero xs a = tt
above-take es k (suc n) [] a = tt
above-take es k (suc n) (x ∷ xs) a = a

pub rises-take : {E S : Type 0} (es : Entries E S) (n : ℕ) (xs : List E) → KeysRise es xs → KeysRise es (take n xs)
rises-take es zero xs r = tt
rises-take es (suc n) [] r = tt
rises-take es (suc n) (x ∷ xs) r = (above-take es (key es x) n xs r.0, rises-take es n xs r.1)

cells-longer : {E S : Type 0} (es : Entries E S) (cells xs : List E) → length xs ≤ length (with_cells es cells xs)
cells-longer es [] xs = omega arith
cells-longer es (c ∷ more) xs = let a : length xs ≤ length (with_cell es c xs) = with_cell-longer es c xs in let b : length (with_cell es c xs) ≤ length (with_cells es more (with_cell es c xs)) = cells-longer es more (with_cell es c xs) in omega arith

under-at : {E S : Type 0} (es : Entries E S) (k i : ℕ) (d : E) (xs : List E) → KeysRise es xs → i < length xs → key es (get_or xs i d) ≡ k → cell_under es k xs ≡ Some (get_or xs i d)
under-at es k i d [] r l h = grind arith
under-at es k zero d (x ∷ xs) r l h = rw (eq-eqb k (key es x) (sym h)) refl
under-at es k (suc i) d (x ∷ xs) r l h =
    let a : key es x < key es (get_or xs i d) = above-all es (key es x) xs r.0 r.1 i d (omega arith) in
    rw (ne_eqb k (key es x) (λ q. omega arith)) (under-at es k i d xs r.1 (omega arith) h)

take-last : {E : Type 0} (n : ℕ) (d : E) (xs : List E) → n < length xs → take (n + 1) xs ≡ take n xs ++ get_or xs n d ∷ []
take-last n d xs l = let e : n + 1 ≡ suc n = omega arith in ap (λ t. take t xs) e ∙ take-suc xs n d l

-- if the last of rising cells is less, all are
less-than-all : {E S : Type 0} (es : Entries E S) (k i : ℕ) (d : E) (xs : List E) → KeysRise es xs → i < length xs → key es (get_or xs i d) < k → AllByRecursion (IsLess es k) (take (suc i) xs)
less-than-all es k i d [] r l h = absurd (omega arith)
less-than-all es k zero d (x ∷ xs) r l h = (h, tt)
less-than-all es k (suc i) d (x ∷ xs) r l h =
    let a : key es x < key es (get_or xs i d) = above-all es (key es x) xs r.0 r.1 i d (omega arith) in
    (omega (arith, a, h), less-than-all es k i d xs r.1 (omega arith) h)

less-than-at : {E S : Type 0} (es : Entries E S) (k n : ℕ) (d : E) (xs : List E) → KeysRise es xs → n ≤ length xs → (0 < n → key es (get_or xs (n - 1) d) < k) → AllByRecursion (IsLess es k) (take n xs)
less-than-at es k zero d xs r l h = tt
less-than-at es k (suc i) d xs r l h =
    let e : suc i - 1 ≡ i = omega arith in
    less-than-all es k i d xs r (omega arith) (subst (λ (t : ℕ). key es (get_or xs t d) < k) e (h (omega arith)))

-- ---- lists with the same first cells

pub same-before : {E : Type 0} (old list : List E) (n i : ℕ) (d : E) → take n list ≡ take n old → i < n → get_or list i d ≡ get_or old i d
same-before old list n i d h l = sym (get_or-take n list i d l) ∙ ap (λ t. get_or t i d) h ∙ get_or-take n old i d l

take-shorter : {E : Type 0} (s n : ℕ) (xs : List E) → s ≤ n → take s (take n xs) ≡ take s xs
take-shorter zero n xs h = refl
take-shorter (suc s) zero xs h = absurd (omega arith)
take-shorter (suc s) (suc n) [] h = refl
take-shorter (suc s) (suc n) (x ∷ xs) h = ap (λ t. x ∷ t) (take-shorter s n xs (omega arith))

take-fewer : {E : Type 0} (s n : ℕ) (xs ys : List E) → s ≤ n → take n xs ≡ take n ys → take s xs ≡ take s ys
take-fewer s n xs ys l h = sym (take-shorter s n xs l) ∙ ap (take s) h ∙ take-shorter s n ys l

-- ---- what stands in its place, and what is still to be put

pub record Puts {E S : Type 0} (es : Entries E S) (cells kept list : List E) (n stay gap : ℕ) : Type 0 where
  pub next : n ≤ length cells
  pub left : stay ≤ length kept
  pub size : stay + gap ≤ length list
  pub items : with_cells es (take n cells) (take stay kept) ++ drop (stay + gap) list ≡ with_cells es cells kept
  pub before : take stay list ≡ take stay kept
  pub count : length (with_cells es (take n cells) (take stay kept)) ≡ stay + gap

pub puts-first : {E S : Type 0} (es : Entries E S) (cells list : List E) (n : ℕ) → n ≤ length list → KeysRise es (take n list) → KeysRise es cells → length list ≡ n + fresh es cells (take n list)
    → Puts es cells (take n list) list (length cells) n (length list - n)
puts-first es cells list n l rises rising room =
    let kept = take n list in
    let size : length kept ≡ n = length-take-le n list l in
    let same : take n kept ≡ kept = ap (λ t. take t kept) (sym size) ∙ take-length kept in
    let whole : with_cells es (take (length cells) cells) (take n kept) ≡ with_cells es cells kept = ap (λ t. with_cells es t (take n kept)) (take-length cells) ∙ ap (with_cells es cells) same in
    let none : drop (n + (length list - n)) list ≡ [] = drop_all (n + (length list - n)) list (omega arith) in
    record {
      next = omega arith;
      left = omega (arith, size);
      size = omega arith;
      items = ap (λ t. with_cells es (take (length cells) cells) (take n kept) ++ t) none ∙ append-nil (with_cells es (take (length cells) cells) (take n kept)) ∙ whole;
      before = sym same;
      count = ap length whole ∙ length-with es cells kept rising rises ∙ (omega (arith, size, room, l));
    }

pub puts-last : {E S : Type 0} (es : Entries E S) (cells kept list : List E) (left gap : ℕ) → Puts es cells kept list 0 left gap → list ≡ with_cells es cells kept
puts-last es cells kept list left gap p =
    let size : length (take left kept) ≡ left = length-take-le left kept p.left in
    let none : left + gap ≡ left = sym p.count ∙ size in
    sym (take-append-drop left list) ∙ ap (λ t. t ++ drop left list) p.before ∙ ap (λ t. take left kept ++ drop t list) (sym none) ∙ p.items

-- the greatest kept cell is greater than the cells that are still to be put
module _ {E S : Type 0} (es : Entries E S) (cells kept list : List E) (n s gap : ℕ) (d : E) (rising : KeysRise es cells) (p : Puts es cells kept list (n + 1) (s + 1) gap)
    (greater : key es (get_or cells n d) < key es (get_or list s d)) where
  kept-last : with_cells es (take (n + 1) cells) (take (s + 1) kept) ≡ with_cells es (take (n + 1) cells) (take s kept) ++ get_or list s d ∷ []
  kept-last =
      let c = get_or cells n d in
      let x = get_or list s d in
      let all : take (n + 1) cells ≡ take n cells ++ c ∷ [] = take-last n d cells (omega (arith, p.next)) in
      let low : AllByRecursion (IsAtMost es (key es c)) (take (n + 1) cells) = rw all (at-most-last es (take n cells) c (subst (KeysRise es) all (rises-take es (n + 1) cells rising))) in
      let held : take (s + 1) kept ≡ take s kept ++ x ∷ [] = take-last s d kept (omega (arith, p.left)) ∙ ap (λ t. take s kept ++ t ∷ []) (sym (same-before kept list (s + 1) s d p.before (omega arith))) in
      ap (with_cells es (take (n + 1) cells)) held ∙ cells-before es (key es c) (take (n + 1) cells) (take s kept) (x ∷ []) low (greater, tt)

  puts-moved : Puts es cells kept (set list (s + gap) (get_or list s d)) (n + 1) s gap
  puts-moved =
      let x = get_or list s d in
      let w = with_cells es (take (n + 1) cells) (take s kept) in
      let past : s + gap + 1 ≡ s + 1 + gap = omega arith in
      record {
        next = p.next;
        left = omega (arith, p.left);
        size = omega (arith, p.size, length-set list (s + gap) x);
        items = ap (λ t. w ++ t) (drop-set list (s + gap) x (omega (arith, p.size))) ∙ sym (append_assoc w (x ∷ []) (drop (s + gap + 1) list)) ∙ ap (λ t. t ++ drop (s + gap + 1) list) (sym kept-last)
            ∙ ap (λ t. with_cells es (take (n + 1) cells) (take (s + 1) kept) ++ drop t list) past ∙ p.items;
        before = take-set-le s list (s + gap) x (omega arith) ∙ take-fewer s (s + 1) list kept (omega arith) p.before;
        count = omega (arith, p.count, ap length kept-last, length-append w (x ∷ []));
      }

-- a cell is kept under the key
pub puts-same : {E S : Type 0} (es : Entries E S) (cells kept list : List E) (n left gap : ℕ) (d : E) → KeysRise es kept → Puts es cells kept list (n + 1) left gap → 0 < left
    → key es (get_or list (left - 1) d) ≡ key es (get_or cells n d) → Puts es cells kept list n left gap
puts-same es cells kept list n left gap d r p l same =
    let c = get_or cells n d in
    let held = take left kept in
    let rises : KeysRise es held = rises-take es left kept r in
    let last : key es (get_or held (left - 1) d) ≡ key es c = ap (key es) (ap (λ t. get_or t (left - 1) d) (sym p.before) ∙ get_or-take left list (left - 1) d (omega arith)) ∙ same in
    let under = under-at es (key es c) (left - 1) d held rises (omega (arith, length-take-le left kept p.left)) last in
    let stays : with_cells es (take (n + 1) cells) held ≡ with_cells es (take n cells) held =
    ap (λ t. with_cells es t held) (take-last n d cells (omega (arith, p.next))) ∙ cells-last es (take n cells) c held
    ∙ with_cell-sets es c _ (with_cells es (take n cells) held) (with_cells-rises es (take n cells) held rises) (with_cells-keeps es (key es c) _ (take n cells) held rises under) in
    record {
      next = omega (arith, p.next);
      left = p.left;
      size = p.size;
      items = ap (λ t. t ++ drop (left + gap) list) (sym stays) ∙ p.items;
      before = p.before;
      count = ap length (sym stays) ∙ p.count;
    }

-- the key is new
module _ {E S : Type 0} (es : Entries E S) (cells kept list : List E) (n left gap : ℕ) (d : E) (rising : KeysRise es cells) (rises : KeysRise es kept) (p : Puts es cells kept list (n + 1) left gap)
    (less : 0 < left → key es (get_or list (left - 1) d) < key es (get_or cells n d)) where
  joins-last : with_cells es (take (n + 1) cells) (take left kept) ≡ with_cells es (take n cells) (take left kept) ++ get_or cells n d ∷ []
  joins-last =
      let c = get_or cells n d in
      let all : take (n + 1) cells ≡ take n cells ++ c ∷ [] = take-last n d cells (omega (arith, p.next)) in
      let low : AllByRecursion (IsLess es (key es c)) (take n cells) = less-than-last es (take n cells) c (subst (KeysRise es) all (rises-take es (n + 1) cells rising)) in
      let held : AllByRecursion (IsLess es (key es c)) (take left kept) = less-than-at es (key es c) left d kept rises p.left
      (λ z. subst (λ (t : E). key es t < key es c) (same-before kept list left (left - 1) d p.before (omega arith)) (less z)) in
      ap (λ t. with_cells es t (take left kept)) all ∙ cells-last es (take n cells) c (take left kept)
      ∙ last-new es c (with_cells es (take n cells) (take left kept)) (with_cells-each es (IsLess es (key es c)) (take n cells) (take left kept) low held)

  counted : length (with_cells es (take n cells) (take left kept)) + 1 ≡ left + gap
  counted = sym (length-append (with_cells es (take n cells) (take left kept)) (get_or cells n d ∷ [])) ∙ ap length (sym joins-last) ∙ p.count

  pub puts-room : 1 ≤ gap
  puts-room =
      let longer : length (take left kept) ≤ length (with_cells es (take n cells) (take left kept)) = cells-longer es (take n cells) (take left kept) in
      omega (arith, longer, counted, length-take-le left kept p.left)

  pub puts-new : Puts es cells kept (set list (left + (gap - 1)) (get_or cells n d)) n left (gap - 1)
  puts-new =
      let c = get_or cells n d in
      let at = left + (gap - 1) in
      let room : 1 ≤ gap = puts-room in
      let past : at + 1 ≡ left + gap = omega arith in
      record {
        next = omega (arith, p.next);
        left = p.left;
        size = omega (arith, p.size, length-set list at c);
        items = ap (λ t. with_cells es (take n cells) (take left kept) ++ t) (drop-set list at c (omega (arith, p.size)))
            ∙ sym (append_assoc (with_cells es (take n cells) (take left kept)) (c ∷ []) (drop (at + 1) list))
            ∙ ap (λ t. t ++ drop (at + 1) list) (sym joins-last) ∙ ap (λ t. with_cells es (take (n + 1) cells) (take left kept) ++ drop t list) past ∙ p.items;
        before = take-set-le left list at c (omega arith) ∙ p.before;
        count = omega (arith, counted);
      }

-- ---- the same at the places of the loop

module _ {E S : Type 0} (es : Entries E S) (cells kept list : List E) (next left gap : ℕ) (d : E) (rising : KeysRise es cells) (rises : KeysRise es kept) (p : Puts es cells kept list next left gap)
    (more : 0 < next) where
  from-next : Puts es cells kept list (next - 1 + 1) left gap
  from-next = let e : next ≡ next - 1 + 1 = omega arith in subst (λ (t : ℕ). Puts es cells kept list t left gap) e p

  pub put-kept : 0 < left → key es (get_or cells (next - 1) d) < key es (get_or list (left - 1) d) → Puts es cells kept (set list (left - 1 + gap) (get_or list (left - 1) d)) next (left - 1) gap
  put-kept l h =
      let e : left ≡ left - 1 + 1 = omega arith in
      let back : next - 1 + 1 ≡ next = omega arith in
      subst (λ (t : ℕ). Puts es cells kept (set list (left - 1 + gap) (get_or list (left - 1) d)) t (left - 1) gap) back
      (puts-moved es cells kept list (next - 1) (left - 1) gap d rising (subst (λ (t : ℕ). Puts es cells kept list (next - 1 + 1) t gap) e from-next) h)

  pub put-same : 0 < left → key es (get_or list (left - 1) d) ≡ key es (get_or cells (next - 1) d) → Puts es cells kept list (next - 1) left gap
  put-same l h = puts-same es cells kept list (next - 1) left gap d rises from-next l h

  pub put-room : 0 < left → key es (get_or list (left - 1) d) < key es (get_or cells (next - 1) d) → 1 ≤ gap
  put-room l h = puts-room es cells kept list (next - 1) left gap d rising rises from-next (λ z. h)

  pub put-new : 0 < left → key es (get_or list (left - 1) d) < key es (get_or cells (next - 1) d) → Puts es cells kept (set list (left + (gap - 1)) (get_or cells (next - 1) d)) (next - 1) left (gap - 1)
  put-new l h = puts-new es cells kept list (next - 1) left gap d rising rises from-next (λ z. h)

-- no kept cell is left, or no cell that joins
pub end-room : {E S : Type 0} (es : Entries E S) (cells kept list : List E) (next left gap : ℕ) → KeysRise es cells → Puts es cells kept list next left gap → (0 < left → 0 < next → ⊥) → next ≤ length list
end-room es cells kept list zero left gap r p h = omega arith
end-room es cells kept list (suc n) zero gap r p h =
    let alone : with_cells es (take (suc n) cells) [] ≡ take (suc n) cells = (join-after es (take (suc n) cells) [] (rises-take es (suc n) cells r)).0 in
    let all : 0 + gap ≡ suc n = sym p.count ∙ ap length alone ∙ length-take-le (suc n) cells p.next in
    omega (arith, p.size, all)
end-room es cells kept list (suc n) (suc s) gap r p h = absurd (h (omega arith) (omega arith))

pub puts-end : {E S : Type 0} (es : Entries E S) (cells kept list : List E) (next left gap : ℕ) → KeysRise es cells → Puts es cells kept list next left gap → (0 < left → 0 < next → ⊥) → take next cells ++ drop next list ≡ with_cells es cells kept
puts-end es cells kept list zero left gap r p h = puts-last es cells kept list left gap p
puts-end es cells kept list (suc n) zero gap r p h =
    let alone : with_cells es (take (suc n) cells) [] ≡ take (suc n) cells = (join-after es (take (suc n) cells) [] (rises-take es (suc n) cells r)).0 in
    let all : 0 + gap ≡ suc n = sym p.count ∙ ap length alone ∙ length-take-le (suc n) cells p.next in
    ap (λ t. t ++ drop (suc n) list) (sym alone) ∙ ap (λ t. with_cells es (take (suc n) cells) [] ++ drop t list) (sym all) ∙ p.items
puts-end es cells kept list (suc n) (suc s) gap r p h = absurd (h (omega arith) (omega arith))

-- ---- the list that grows by as many places as cells are new

module _ {E S : Type 0} (es : Entries E S) (cells kept all : List E) (n count : ℕ) (size : n ≡ length kept) (new : count ≡ fresh es cells kept) (grown : all ≡ kept ++ take count cells) where
  pub grown-front : take n all ≡ kept
  grown-front = ap (take n) grown ∙ take_at kept (take count cells) n (sym size)

  pub grown-few : count ≤ length cells
  grown-few = omega (arith, new, fresh-length es cells kept)

  pub grown-room : length all ≡ n + fresh es cells (take n all)
  grown-room =
      let same : fresh es cells (take n all) ≡ fresh es cells kept = ap (fresh es cells) grown-front in
      omega (arith, same, size, new, grown-few, ap length grown, length-append kept (take count cells), length-take-le count cells grown-few)

  -- what is written over the list
  pub grown-whole : (put items : List E) (len : ℕ) → KeysRise es cells → KeysRise es kept → put ≡ with_cells es cells (take n all) → len ≡ length all → take len (put ++ drop (length put) items) ≡ with_cells es cells kept
  grown-whole put items len rising rises e l =
      let same : put ≡ with_cells es cells kept = e ∙ ap (with_cells es cells) grown-front in
      let size : length put ≡ len = ap length same ∙ length-with es cells kept rising rises ∙ (let r = grown-room in let q : fresh es cells (take n all) ≡ fresh es cells kept = ap (fresh es cells) grown-front in omega (arith, size, l, r, q)) in
      take_at put (drop (length put) items) len size ∙ same

-- ---- cells at the first places of a list
pub first-next : {E : Type 0} (cells old : List E) (at : ℕ) (d : E) → at < length cells → at < length old
    → set (take at cells ++ drop at old) at (get_or cells at d) ≡ take (at + 1) cells ++ drop (at + 1) old
first-next cells old at d l k =
    let c = get_or cells at d in
    let size : length (take at cells) ≡ at = length-take-le at cells (omega arith) in
    ap (λ t. set (take at cells ++ t) at c) (drop-at at d old k)
    ∙ ap (λ n. set (take at cells ++ get_or old at d ∷ drop (at + 1) old) n c) (sym size)
    ∙ set-append_seam (take at cells) (get_or old at d) (drop (at + 1) old) c
    ∙ sym (append_assoc (take at cells) (c ∷ []) (drop (at + 1) old))
    ∙ ap (λ t. t ++ drop (at + 1) old) (sym (take-last at d cells l))
