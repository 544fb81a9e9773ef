-- The lines of the observation types are read back.
use Rattle.std.proofs.Common.{◌≡◌, ◌≢◌, ℕ, zero, suc, ◌+◌, ◌-◌, ◌*◌, ◌/◌, ◌%◌, ◌<◌, ◌≤◌, List, [], ◌∷◌, ◌++◌, length, take, drop, get_or, decimal, codes, arith, refl, sym, ◌∙◌, ap, append_assoc, length-append, inl, inr, min, AllPairs}
use Rattle.std.specs.Int.{IsInRange}
use Rattle.std.proofs.Math.Seq.{take-append-add, drop-append-add, drop-cons, drop-append_seam}
use Rattle.std.proofs.Math.ListN.{get_or-append}
use Rattle.std.proofs.lemmas.Bool.Decides.{leb_tells}
use Rattle.std.proofs.lemmas.Fmt.{length-decimal-le}
use Rattle.std.proofs.lemmas.Grind.{flat_map-append}
use Rattle.std.proofs.lemmas.List.{same_lists, get_or-take, length-take, take-append-le, take_all, take-append-drop, drop-append-le, drop-take, length-drop, append-nil}
use Rattle.rtk_obs.specs.declared.code.Code.{Code}
use Rattle.rtk_obs.specs.Code.{name_of}
use Rattle.rtk_rinex.specs.Columns.{left, right}
use Rattle.rtk_rinex.specs.Header.{first_types_line, types_of, types, types_label}
use Rattle.rtk_rinex.specs.Lines.{text_of}
use Rattle.rtk_rinex.specs.Steps.HeaderShown.{StartsWith, line_at, name_at}
use Rattle.rtk_rinex.proofs.DigitsLemmas.{piece, take-exact, length-left, length-right}
use Rattle.rtk_rinex.proofs.HeaderShownLemmas.{line_rest, line_is, count_is}
use Rattle.rtk_rinex.proofs.HeaderRowsLemmas.{row, line_of, ended, types_head, types_line, type_rows, row_count, Values, IsGood, types_part, length-name, length-types}
use Rattle.rtk_rinex.proofs.PartLemmas.{EndsItself, ReadsBack}

-- ---- lines by their places

length-type_rows : (j m : ℕ) (cs : List Code) → length (type_rows j m cs) ≡ m
unfolding type_rows
length-type_rows j zero cs = refl
length-type_rows j (suc m) cs = ap suc (length-type_rows (suc j) m cs)

read_type : (j m i : ℕ) (cs : List Code) (d : List ℕ) → i < m → get_or (type_rows j m cs) i d ≡ types_line (j + i) cs
unfolding type_rows
read_type j zero i cs d lt = absurd (omega arith)
read_type j (suc m) zero cs d lt = let n : j ≡ j + 0 = omega arith in ap (λ (k : ℕ). types_line k cs) n
read_type j (suc m) (suc i) cs d lt =
    let n : suc j + i ≡ j + suc i = omega arith in
    read_type (suc j) m i cs d (omega arith) ∙ ap (λ (k : ℕ). types_line k cs) n

-- the line after j lines of a part of types, with more after it
type_at : (v : Values) (p : List (List ℕ)) (j : ℕ) (d : List ℕ) → j < row_count (length v.head.listed) → get_or (types_part v ++ p) j d ≡ types_line j v.head.listed
type_at v p j d lt =
    let n = length-type_rows 0 (row_count (length v.head.listed)) v.head.listed in
    let place : 0 + j ≡ j = omega arith in
    get_or-append (types_part v) p d j (omega (arith, n, lt)) ∙ read_type 0 (row_count (length v.head.listed)) j v.head.listed d lt ∙ ap (λ (k : ℕ). types_line k v.head.listed) place

length-head : (j n : ℕ) → IsInRange 1 16 n → length (types_head j n) ≡ 6
length-head zero n h =
    let digits = length-decimal-le 3 (3 * n) (omega arith) (omega arith) (omega arith) in
    let three : length (right 3 (decimal (3 * n))) ≡ 3 = length-right 3 (decimal (3 * n)) digits in
    omega (arith, three)
length-head (suc j) n h = refl

length-types_line : (j : ℕ) (cs : List Code) → IsInRange 1 16 (length cs) → length (types_line j cs) ≡ 80
unfolding types_line row
length-types_line j cs h =
    let head : List ℕ = types_head j (length cs) in
    let shown : List ℕ = take 52 (drop (52 * j) (types cs)) in
    let few = length-take 52 (drop (52 * j) (types cs)) in
    let long : length (head ++ shown) ≤ 60 = omega (arith, length-append head shown, length-head j (length cs) h, few) in
    length-append (left 60 (head ++ shown)) (left 20 types_label) ∙ omega (arith, length-left 60 (head ++ shown) long, length-left 20 types_label (omega arith))

pub line_in : (rows : List (List ℕ)) (rest : List ℕ) (i : ℕ) → ((j : ℕ) → j < length rows → length (get_or rows j []) ≡ 80) → i < length rows
    → line_at i (text_of rows ++ rest) ≡ ended (get_or rows i [])
line_in [] rest i h lt = absurd (omega arith)
line_in (r ∷ rows) rest zero h lt =
    let long : length (ended r) ≡ 81 = length-append r (10 ∷ []) ∙ omega (arith, h 0 (omega arith)) in
    rw (append_assoc (ended r) (text_of rows) rest) (take-exact 81 (ended r) (text_of rows ++ rest) long)
line_in (r ∷ rows) rest (suc i) h lt =
    let long : length (ended r) ≡ 81 = length-append r (10 ∷ []) ∙ omega (arith, h 0 (omega arith)) in
    let places : 81 * suc i ≡ length (ended r) + 81 * i = omega arith in
    rw (append_assoc (ended r) (text_of rows) rest, places, drop-append-add (ended r) (text_of rows ++ rest) (81 * i)) (line_in rows rest i (λ j low. h (suc j) (omega (arith, low))) (omega arith))

-- ---- the number of types

first_types : (cs : List Code) → ended (types_line 0 cs) ≡ first_types_line (length cs) (types cs) ++ []
unfolding types_line
first_types cs = line_of (types_head 0 (length cs) ++ take 52 (types cs)) types_label

one_count : (cs ds : List Code) → IsInRange 1 16 (length cs) → IsInRange 1 16 (length ds) → types_line 0 cs ≡ types_line 0 ds → length cs ≡ length ds
one_count cs ds h g e =
    let a = count_is (ended (types_line 0 cs)) (types cs) [] (length cs) h (first_types cs) in
    let b = count_is (ended (types_line 0 cs)) (types ds) [] (length ds) g (ap (λ (l : List ℕ). ended l) e ∙ first_types ds) in
    omega (arith, a, b)

pub types_count : (u v : Values) (p q : List (List ℕ)) → IsGood u → IsGood v → types_part u ++ p ≡ types_part v ++ q → length u.head.listed ≡ length v.head.listed
types_count u v p q g f e =
    one_count u.head.listed v.head.listed g.heading.1.0 f.heading.1.0
    (sym (type_at u p 0 [] (omega (arith, g.heading.1.0))) ∙ ap (λ (l : List (List ℕ)). get_or l 0 []) e ∙ type_at v q 0 [] (omega (arith, f.heading.1.0)))

pub types_end : EndsItself types_part
types_end u v p q g f e =
    let n = ap (λ (k : ℕ). row_count k) (types_count u v p q g f e) in
    let size : length (types_part v) ≡ length (types_part u) =
    length-type_rows 0 (row_count (length v.head.listed)) v.head.listed ∙ sym n ∙ sym (length-type_rows 0 (row_count (length u.head.listed)) u.head.listed) in
    sym (drop-append_seam (types_part u) p) ∙ ap (λ (l : List (List ℕ)). drop (length (types_part u)) l) e
    ∙ ap (λ (k : ℕ). drop k (types_part v ++ q)) (sym size) ∙ drop-append_seam (types_part v) q

-- ---- the codes

-- the types around the first name of a code
record Around (cs : List Code) (i : ℕ) (name : List ℕ) : Type 0 where
  pub front : List ℕ
  pub rest : List ℕ
  pub is : types cs ≡ front ++ (name ++ rest)
  pub length : length front ≡ 12 * i + 2

around : (cs : List Code) (i : ℕ) (e : Code) → i < length cs → Around cs i (name_of (get_or cs i e))
around cs i e lt =
    let x = get_or cs i e in
    let before : List Code = take i cs in
    let after : List Code = drop (suc i) cs in
    let n = length-take i cs in
    let long : length before ≡ i = omega (arith, n, lt) in
    let split : cs ≡ before ++ (x ∷ after) = sym (take-append-drop i cs) ∙ ap (λ (ys : List Code). before ++ ys) (drop-cons cs i e lt) in
    let rest : List ℕ = (codes " L" ++ name_of x ++ codes " S" ++ name_of x) ++ types after in
    let one : types_of x ++ types after ≡ codes " C" ++ (name_of x ++ rest) = simp append_assoc in
    let all : types cs ≡ (types before ++ codes " C") ++ (name_of x ++ rest) =
    ap types split ∙ flat_map-append types_of before (x ∷ after) ∙ ap (λ (ys : List ℕ). types before ++ ys) one ∙ sym (append_assoc (types before) (codes " C") (name_of x ++ rest)) in
    record { front = types before ++ codes " C"; rest = rest; is = all; length = length-append (types before) (codes " C") ∙ omega (arith, length-types before, long) }

-- columns after 6 others, of a piece of 52 columns from the j-th on
name_in : (front name rest head tail : List ℕ) (j r : ℕ) → length head ≡ 6 → length name ≡ 2 → r ≤ 12 → length front ≡ 52 * j + (4 * r + 2)
    → take 2 (drop (8 + 4 * r) ((head ++ take 52 (drop (52 * j) (front ++ (name ++ rest)))) ++ tail)) ≡ name
name_in front name rest head tail j r lh ln le lf =
    let kept : List ℕ = drop (52 * j) front in
    let dropped : drop (52 * j) (front ++ (name ++ rest)) ≡ kept ++ (name ++ rest) = drop-append-le (52 * j) front (name ++ rest) (omega arith) in
    let lk : length kept ≡ 4 * r + 2 = length-drop (52 * j) front ∙ omega arith in
    let n : 52 ≡ length kept + (2 + (48 - 4 * r)) = omega arith in
    let more : 2 + (48 - 4 * r) ≡ length name + (48 - 4 * r) = omega arith in
    let cut : take 52 (kept ++ (name ++ rest)) ≡ kept ++ (name ++ take (48 - 4 * r) rest) =
    ap (λ (m : ℕ). take m (kept ++ (name ++ rest))) n ∙ take-append-add kept (name ++ rest) (2 + (48 - 4 * r))
    ∙ ap (λ (m : ℕ). kept ++ take m (name ++ rest)) more ∙ ap (λ (ys : List ℕ). kept ++ ys) (take-append-add name rest (48 - 4 * r)) in
    let before : length (head ++ kept) ≡ 8 + 4 * r = length-append head kept ∙ omega arith in
    let whole : (head ++ take 52 (drop (52 * j) (front ++ (name ++ rest)))) ++ tail ≡ (head ++ kept) ++ (name ++ (take (48 - 4 * r) rest ++ tail)) =
    rw (dropped, cut) (simp append_assoc) in
    rw whole (piece (8 + 4 * r) 2 (head ++ kept) name (take (48 - 4 * r) rest ++ tail) before ln)

-- a text with the line that shows the first name of a code has the name at the place that is read
name_is : (text : List ℕ) (cs : List Code) (i : ℕ) (e : Code) → IsInRange 1 16 (length cs) → i < length cs
    → line_at (3 * i / 13) text ≡ ended (types_line (3 * i / 13) cs) → name_at i text ≡ name_of (get_or cs i e)
unfolding types_line
name_is text cs i e h lt line =
    let j = 3 * i / 13 in
    let r = 3 * i % 13 in
    let a = around cs i e lt in
    let head : List ℕ = types_head j (length cs) in
    let content : List ℕ = head ++ take 52 (drop (52 * j) (types cs)) in
    let places : length a.front ≡ 52 * j + (4 * r + 2) = a.length ∙ omega arith in
    let found = name_in a.front (name_of (get_or cs i e)) a.rest head (line_rest content types_label []) j r (length-head j (length cs) h) (length-name (get_or cs i e)) (omega arith) places in
    let whole : line_at j text ≡ content ++ line_rest content types_label [] = line ∙ line_of content types_label ∙ line_is content types_label [] in
    rw whole (rw (← a.is) at found)

-- the first types are the types of the first codes
types_front : (cs : List Code) (n q : ℕ) → n ≤ 12 * q → take n (types cs) ≡ take n (types (take q cs))
types_front cs n q h =
    elim (leb_tells q (length cs)) [
      | inl few ↦
          let e = length-take q cs in
          let long : length (types (take q cs)) ≡ 12 * q = length-types (take q cs) ∙ omega (arith, e, few.1) in
          let two : types cs ≡ types (take q cs) ++ types (drop q cs) = ap types (sym (take-append-drop q cs)) ∙ flat_map-append types_of (take q cs) (drop q cs) in
          ap (λ (ys : List ℕ). take n ys) two ∙ take-append-le n (types (take q cs)) (types (drop q cs)) (omega (arith, long, h))
      | inr all ↦ ap (λ (ys : List Code). take n (types ys)) (sym (take_all q cs (omega (arith, all.1))))
    ]

same_codes : (xs ys : List Code) (q : ℕ) → length xs ≡ length ys → ((i : ℕ) (e : Code) → i < length ys → i < q → get_or xs i e ≡ get_or ys i e) → take q xs ≡ take q ys
same_codes xs ys q n same =
    let a = length-take q xs in
    let b = length-take q ys in
    same_lists (take q xs) (take q ys) (a ∙ ap (λ (m : ℕ). min q m) n ∙ sym b)
    (λ k d lt.
    let low : k < q = omega (arith, lt, a) in
    let high : k < length ys = omega (arith, lt, a, n) in
    get_or-take q xs k d low ∙ same k d high low ∙ sym (get_or-take q ys k d low))

-- two lists of codes that agree in the codes that j + 1 lines show have the same line after j lines
types_same : (xs ys : List Code) (j : ℕ) → length xs ≡ length ys → ((i : ℕ) (e : Code) → i < length ys → 3 * i / 13 ≤ j → get_or xs i e ≡ get_or ys i e)
    → types_line j xs ≡ types_line j ys
unfolding types_line
types_same xs ys j n same =
    let q = (13 * (j + 1) + 2) / 3 in
    let front : take q xs ≡ take q ys = same_codes xs ys q n (λ i e lt low. same i e lt (omega (arith, low))) in
    let long : 52 * j + 52 ≤ 12 * q = omega arith in
    let all : take (52 * j + 52) (types xs) ≡ take (52 * j + 52) (types ys) =
    types_front xs (52 * j + 52) q long ∙ ap (λ (cs : List Code). take (52 * j + 52) (types cs)) front ∙ sym (types_front ys (52 * j + 52) q long) in
    let shown : take 52 (drop (52 * j) (types xs)) ≡ take 52 (drop (52 * j) (types ys)) =
    sym (drop-take (52 * j) 52 (types xs)) ∙ ap (λ (cs : List ℕ). drop (52 * j) cs) all ∙ drop-take (52 * j) 52 (types ys) in
    rw (n, shown) refl

-- ---- the lines read back

-- what the lines of types show, from their beginning on
pub record ShowsTypes (text : List ℕ) (cs : List Code) : Type 0 where
  pub count : (n : ℕ) (shown : List ℕ) → IsInRange 1 16 n → StartsWith (first_types_line n shown) text → length cs ≡ n
  pub listed : (ds : List Code) (i : ℕ) (e : Code) → AllPairs (λ a b. a ≢ b) ds → length cs ≡ length ds → IsInRange 1 16 (length ds) → i < length ds
      → ((j : ℕ) → j ≤ i → name_at j text ≡ name_of (get_or ds j e)) → get_or cs i e ≡ get_or ds i e

pub types_back : (text : List ℕ) (v : Values) → ShowsTypes text v.head.listed → ReadsBack types_part text v
types_back text v shows u [] b rest g e t = (types_part v, refl)
types_back text v shows u (l ∷ a) b rest g e t =
    let cs = v.head.listed in
    let ds = u.head.listed in
    let k = length (l ∷ a) in
    let all = length-type_rows 0 (row_count (length ds)) ds in
    let few : k ≤ row_count (length ds) = omega (arith, all, ap length e, length-append (l ∷ a) b) in
    let read : (j : ℕ) (d : List ℕ) → j < k → get_or (l ∷ a) j d ≡ types_line j ds = λ j d lt.
    sym (get_or-append (l ∷ a) b d j lt) ∙ ap (λ (x : List (List ℕ)). get_or x j d) (sym e ∙ sym (append-nil (types_part u))) ∙ type_at u [] j d (omega (arith, lt, few)) in
    let long : (j : ℕ) → j < k → length (get_or (l ∷ a) j []) ≡ 80 = λ j lt. ap length (read j [] lt) ∙ length-types_line j ds g.heading.1.0 in
    let line : (j : ℕ) → j < k → line_at j text ≡ ended (types_line j ds) = λ j lt.
    ap (line_at j) t ∙ line_in (l ∷ a) rest j long lt ∙ ap (λ (x : List ℕ). ended x) (read j [] lt) in
    let begins : text ≡ first_types_line (length ds) (types ds) ++ (text_of a ++ rest) =
    t ∙ append_assoc (ended l) (text_of a) rest
    ∙ ap (λ (x : List ℕ). x ++ (text_of a ++ rest)) (ap (λ (x : List ℕ). ended x) (read 0 [] (omega arith)) ∙ first_types ds ∙ append-nil (first_types_line (length ds) (types ds))) in
    let count : length cs ≡ length ds = shows.count (length ds) (types ds) g.heading.1.0 (text_of a ++ rest, begins) in
    let same : (j : ℕ) → j < k → types_line j cs ≡ types_line j ds = λ j lt.
    types_same cs ds j count (λ i x within low.
    shows.listed ds i x g.heading.1.1 count g.heading.1.0 within (λ n le.
    name_is text ds n x g.heading.1.0 (omega (arith, le, within)) (line (3 * n / 13) (omega (arith, le, low, lt))))) in
    let size = length-type_rows 0 (row_count (length cs)) cs in
    let lines : row_count (length cs) ≡ row_count (length ds) = ap (λ (n : ℕ). row_count n) count in
    let m = length-take k (types_part v) in
    let front : take k (types_part v) ≡ l ∷ a =
    same_lists (take k (types_part v)) (l ∷ a) (omega (arith, m, size, lines, few)) (λ i d lt.
    let low : i < k = omega (arith, lt, m) in
    get_or-take k (types_part v) i d low ∙ ap (λ (x : List (List ℕ)). get_or x i d) (sym (append-nil (types_part v))) ∙ type_at v [] i d (omega (arith, low, few, lines)) ∙ same i low ∙ sym (read i d low)) in
    (drop k (types_part v), sym (take-append-drop k (types_part v)) ∙ ap (λ (x : List (List ℕ)). x ++ drop k (types_part v)) front)

-- ---- one list

-- no two codes have one name, as a law of the codes says
abbrev pub HaveOneName : Type 0
HaveOneName = (c d : Code) → name_of c ≡ name_of d → c ≡ d

-- the lines of types show their codes
pub one_listed : (u v : Values) (p q : List (List ℕ)) → HaveOneName → IsGood u → IsGood v → types_part u ++ p ≡ types_part v ++ q → u.head.listed ≡ v.head.listed
one_listed u v p q names g f e =
    let count = types_count u v p q g f e in
    same_lists u.head.listed v.head.listed count (λ i d lt.
    let j = 3 * i / 13 in
    let row : types_line j u.head.listed ≡ types_line j v.head.listed =
    sym (type_at u p j [] (omega (arith, lt, g.heading.1.0))) ∙ ap (λ (l : List (List ℕ)). get_or l j []) e ∙ type_at v q j [] (omega (arith, lt, count, f.heading.1.0)) in
    let n = length-type_rows 0 (row_count (length u.head.listed)) u.head.listed in
    let text : List ℕ = text_of (types_part u) ++ [] in
    let own : (k : ℕ) → k < length (types_part u) → get_or (types_part u) k [] ≡ types_line k u.head.listed = λ k low.
    ap (λ (l : List (List ℕ)). get_or l k []) (sym (append-nil (types_part u))) ∙ type_at u [] k [] (omega (arith, low, n)) in
    let inside : j < length (types_part u) = omega (arith, lt, n, g.heading.1.0) in
    let line : line_at j text ≡ ended (types_line j u.head.listed) =
    line_in (types_part u) [] j (λ k low. ap length (own k low) ∙ length-types_line k u.head.listed g.heading.1.0) inside ∙ ap (λ (x : List ℕ). ended x) (own j inside) in
    names (get_or u.head.listed i d) (get_or v.head.listed i d)
    (sym (name_is text u.head.listed i d g.heading.1.0 lt line)
    ∙ name_is text v.head.listed i d f.heading.1.0 (omega (arith, lt, count)) (line ∙ ap (λ (x : List ℕ). ended x) row)))
