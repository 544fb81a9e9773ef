-- Columns that fill several lines, 52 on each after 6 others: the lines, and what stands in them.
use Rattle.std.proofs.Common.{◌≡◌, ℕ, zero, suc, ◌+◌, ◌-◌, ◌*◌, ◌<◌, ◌≤◌, List, [], ◌∷◌, ◌++◌, length, take, drop, get_or, codes, arith, refl, sym, ◌∙◌, ap, append_assoc, length-append}
use Rattle.std.specs.Prelude.{All}
use Rattle.std.proofs.Math.Seq.{drop-append-add}
use Rattle.std.proofs.Math.ListN.{get_or-append}
use Rattle.std.proofs.lemmas.List.{same_lists, get_or-take, length-take, length-drop, take-append-le, take-append-drop, take-take, drop-take, drop-drop, drop-append-le}
use Rattle.std.proofs.lemmas.List.Elements.{All-nil, All-cons}
use Rattle.rtk_rinex.specs.Columns.{left}
use Rattle.rtk_rinex.specs.Lines.{HasNoEnd, text_of}
use Rattle.rtk_rinex.specs.Steps.HeaderShown.{line_at}
use Rattle.rtk_rinex.proofs.DigitsLemmas.{length-left}
use Rattle.rtk_rinex.proofs.HeaderGoodLemmas.{of_row, of_take, of_drop, known}
use Rattle.rtk_rinex.proofs.HeaderRowsLemmas.{row, line_of, ended}
use Rattle.rtk_rinex.proofs.HeaderShownLemmas.{line_rest, line_is}
use Rattle.rtk_rinex.proofs.HeaderTypesLemmas.{line_in}
use Rattle.rtk_rinex.proofs.LineLemmas.{both}

abbrev pub further : List ℕ
further = codes "      "

-- what stands before the columns of the line after j lines
abbrev pub head_of : List ℕ → ℕ → List ℕ
head_of first zero = first
head_of first (suc j) = further

-- the line after j lines
unfoldable pub piece_line : List ℕ → List ℕ → List ℕ → ℕ → List ℕ
piece_line first label text j = row (head_of first j ++ take 52 (drop (52 * j) text)) label

-- m lines from the j-th on
unfoldable pub piece_rows : List ℕ → List ℕ → List ℕ → ℕ → ℕ → List (List ℕ)
piece_rows first label text j zero = []
piece_rows first label text j (suc m) = piece_line first label text j ∷ piece_rows first label text (suc j) m

pub length-piece_rows : (first label text : List ℕ) (j m : ℕ) → length (piece_rows first label text j m) ≡ m
unfolding piece_rows
length-piece_rows first label text j zero = refl
length-piece_rows first label text j (suc m) = ap suc (length-piece_rows first label text (suc j) m)

read_piece : (first label text : List ℕ) (j m i : ℕ) (d : List ℕ) → i < m → get_or (piece_rows first label text j m) i d ≡ piece_line first label text (j + i)
unfolding piece_rows
read_piece first label text j zero i d lt = absurd (omega arith)
read_piece first label text j (suc m) zero d lt = let n : j ≡ j + 0 = omega arith in ap (λ (k : ℕ). piece_line first label text k) n
read_piece first label text j (suc m) (suc i) d lt =
    let n : suc j + i ≡ j + suc i = omega arith in
    read_piece first label text (suc j) m i d (omega arith) ∙ ap (λ (k : ℕ). piece_line first label text k) n

pub piece_in : (first label text : List ℕ) (m j : ℕ) (d : List ℕ) → j < m → get_or (piece_rows first label text 0 m) j d ≡ piece_line first label text j
piece_in first label text m j d lt = let n : 0 + j ≡ j = omega arith in read_piece first label text 0 m j d lt ∙ ap (λ (k : ℕ). piece_line first label text k) n

length-head_of : (first : List ℕ) (j : ℕ) → length first ≡ 6 → length (head_of first j) ≡ 6
length-head_of first zero h = h
length-head_of first (suc j) h = refl

pub length-piece_line : (first label text : List ℕ) (j : ℕ) → length first ≡ 6 → length label ≤ 20 → length (piece_line first label text j) ≡ 80
unfolding piece_line row
length-piece_line first label text j h g =
    let head : List ℕ = head_of first j in
    let shown : List ℕ = take 52 (drop (52 * j) text) in
    let few = length-take 52 (drop (52 * j) text) in
    let long : length (head ++ shown) ≤ 60 = omega (arith, length-append head shown, length-head_of first j h, few) in
    length-append (left 60 (head ++ shown)) (left 20 label) ∙ omega (arith, length-left 60 (head ++ shown) long, length-left 20 label g)

-- ---- columns of a line

-- columns of a text that a line shows
pub piece_at : (line first label text : List ℕ) (j r n : ℕ) → length first ≡ 6 → line ≡ ended (piece_line first label text j) → r + n ≤ 52 → 52 * j + (r + n) ≤ length text
    → take n (drop (6 + r) line) ≡ take n (drop (52 * j + r) text)
unfolding piece_line
piece_at line first label text j r n six is fits within =
    let head : List ℕ = head_of first j in
    let rest : List ℕ = drop (52 * j) text in
    let shown : List ℕ = take 52 rest in
    let after : List ℕ = line_rest (head ++ shown) label [] in
    let whole : line ≡ head ++ (shown ++ after) = is ∙ line_of (head ++ shown) label ∙ line_is (head ++ shown) label [] ∙ append_assoc head shown after in
    let long = length-take 52 rest in
    let left = length-drop (52 * j) text in
    let place : 6 + r ≡ length head + r = omega (arith, length-head_of first j six) in
    let room : r ≤ length shown = omega (arith, long, left, within, fits) in
    let cut : drop (6 + r) line ≡ drop r shown ++ after =
    ap (λ (l : List ℕ). drop (6 + r) l) whole ∙ ap (λ (k : ℕ). drop k (head ++ (shown ++ after))) place ∙ drop-append-add head (shown ++ after) r ∙ drop-append-le r shown after room in
    let kept = length-drop r shown in
    let enough : n ≤ length (drop r shown) = omega (arith, kept, long, left, within, fits) in
    let sum : 52 ≡ r + (52 - r) = omega (arith, fits) in
    let inner : drop r shown ≡ take (52 - r) (drop r rest) = ap (λ (k : ℕ). drop r (take k rest)) sum ∙ drop-take r (52 - r) rest in
    ap (take n) cut ∙ take-append-le n (drop r shown) after enough ∙ ap (take n) inner ∙ take-take n (52 - r) (drop r rest) (omega (arith, fits)) ∙ ap (take n) (drop-drop r (52 * j) text)

-- ---- lines of one text and of another

pub pieces_same : (first label text other : List ℕ) (k j : ℕ) → take (52 * k) text ≡ take (52 * k) other → j < k → piece_line first label text j ≡ piece_line first label other j
unfolding piece_line
pieces_same first label text other k j e lt =
    let n : 52 * j + (52 + 52 * (k - (j + 1))) ≡ 52 * k = omega (arith, lt) in
    let cut : (t : List ℕ) → take 52 (drop (52 * j) t) ≡ take 52 (drop (52 * j) (take (52 * k) t)) = λ t.
    sym (ap (λ (m : ℕ). take 52 (drop (52 * j) (take m t))) (sym n) ∙ ap (take 52) (drop-take (52 * j) (52 + 52 * (k - (j + 1))) t) ∙ take-take 52 (52 + 52 * (k - (j + 1))) (drop (52 * j) t) (omega arith)) in
    let same : take 52 (drop (52 * j) text) ≡ take 52 (drop (52 * j) other) = cut text ∙ ap (λ (t : List ℕ). take 52 (drop (52 * j) t)) e ∙ sym (cut other) in
    ap (λ (t : List ℕ). row (head_of first j ++ t) label) same

-- lines that begin with those of another text
pub pieces_back : (first other_first label text other : List ℕ) (m n : ℕ) (a b : List (List ℕ)) → piece_rows other_first label other 0 n ≡ a ++ b
    → (0 < length a → (first ≡ other_first) × ((m ≡ n) × (take (52 * length a) text ≡ take (52 * length a) other)))
    → (c : List (List ℕ)) × (piece_rows first label text 0 m ≡ a ++ c)
pieces_back first other_first label text other m n [] b e h = (piece_rows first label text 0 m, refl)
pieces_back first other_first label text other m n (l ∷ a) b e h =
    let k = length (l ∷ a) in
    let s = h (omega arith) in
    let all : length (piece_rows other_first label other 0 n) ≡ n = length-piece_rows other_first label other 0 n in
    let few : k ≤ n = omega (arith, all, ap length e, length-append (l ∷ a) b) in
    let mine : List (List ℕ) = piece_rows first label text 0 m in
    let size : length mine ≡ m = length-piece_rows first label text 0 m in
    let count = length-take k mine in
    let front : take k mine ≡ l ∷ a =
    same_lists (take k mine) (l ∷ a) (omega (arith, count, size, s.1.0, few)) (λ i d lt.
    let low : i < k = omega (arith, lt, count) in
    get_or-take k mine i d low ∙ piece_in first label text m i d (omega (arith, low, few, s.1.0)) ∙ pieces_same first label text other k i s.1.1 low
    ∙ ap (λ (f : List ℕ). piece_line f label other i) s.0 ∙ sym (piece_in other_first label other n i d (omega (arith, low, few)))
    ∙ ap (λ (x : List (List ℕ)). get_or x i d) e ∙ get_or-append (l ∷ a) b d i low) in
    (drop k mine, sym (take-append-drop k mine) ∙ ap (λ (x : List (List ℕ)). x ++ drop k mine) front)

-- the lines that begin a text, at their places
pub line_shown : (first label text : List ℕ) (n : ℕ) (a b : List (List ℕ)) (file rest : List ℕ) (j : ℕ) → length first ≡ 6 → length label ≤ 20
    → piece_rows first label text 0 n ≡ a ++ b → file ≡ text_of a ++ rest → j < length a → line_at j file ≡ ended (piece_line first label text j)
line_shown first label text n a b file rest j six small e t lt =
    let all : length (piece_rows first label text 0 n) ≡ n = length-piece_rows first label text 0 n in
    let few : length a ≤ n = omega (arith, all, ap length e, length-append a b) in
    let read : (i : ℕ) (d : List ℕ) → i < length a → get_or a i d ≡ piece_line first label text i = λ i d low.
    sym (get_or-append a b d i low) ∙ ap (λ (x : List (List ℕ)). get_or x i d) (sym e) ∙ piece_in first label text n i d (omega (arith, low, few)) in
    ap (line_at j) t ∙ line_in a rest j (λ i low. ap length (read i [] low) ∙ length-piece_line first label text i six small) lt ∙ ap (λ (x : List ℕ). ended x) (read j [] lt)

-- ---- no line has an end among its columns

pub of_piece : (first label text : List ℕ) (j : ℕ) → HasNoEnd first → HasNoEnd label → HasNoEnd text → HasNoEnd (piece_line first label text j)
unfolding piece_line
of_piece first label text zero h g i = of_row (first ++ take 52 text) label (both first (take 52 text) h (of_take 52 text i)) g
of_piece first label text (suc j) h g i =
    of_row (further ++ take 52 (drop (52 * suc j) text)) label (both further (take 52 (drop (52 * suc j) text)) (known further refl) (of_take 52 (drop (52 * suc j) text) (of_drop (52 * suc j) text i))) g

pub of_pieces : (first label text : List ℕ) (j m : ℕ) → HasNoEnd first → HasNoEnd label → HasNoEnd text → All HasNoEnd (piece_rows first label text j m)
unfolding piece_rows
of_pieces first label text j zero h g i = All-nil HasNoEnd
of_pieces first label text j (suc m) h g i =
    All-cons HasNoEnd (piece_line first label text j) (piece_rows first label text (suc j) m) (of_piece first label text j h g i) (of_pieces first label text (suc j) m h g i)
