-- The lines of the slots of GLONASS are read back.
use Rattle.std.proofs.Common.{◌≡◌, ◌≢◌, ℕ, zero, suc, ◌+◌, ◌-◌, ◌*◌, ◌/◌, ◌%◌, ◌<◌, ◌≤◌, List, [], ◌∷◌, ◌++◌, length, take, drop, get_or, decimal, codes, arith, refl, sym, ◌∙◌, ap, append_assoc, length-append, inl, inr, Bool, true, false, ◌==◌, if◌then◌else◌, ℤ, pos, negsuc, Option, Some, None, is_some}
use Rattle.std.specs.Prelude.{All}
use Rattle.std.specs.List.{count_by}
use Rattle.std.proofs.lemmas.Bool.Decides.{Decides-eqb, leb_tells}
use Rattle.std.proofs.lemmas.Fmt.{length-decimal-le}
use Rattle.std.proofs.lemmas.List.{append-nil, append_cancel_left, length-drop, take_all}
use Rattle.std.proofs.lemmas.List.Elements.{All-nil}
use Rattle.std.proofs.lemmas.List.Sums.{count_by-le-length}
use Rattle.rtk_obs.specs.Carriers.{IsChannel, AreChannels, channel_at}
use Rattle.rtk_obs.specs.CivilText.{last_digits}
use Rattle.rtk_rinex.specs.Columns.{right}
use Rattle.rtk_rinex.specs.Header.{header_line}
use Rattle.rtk_rinex.specs.Lines.{HasNoEnd, text_of}
use Rattle.rtk_rinex.specs.MixedHeader.{channel_text, slot_text, slots_text, slots_label, further_slots_line, slots_lines}
use Rattle.rtk_rinex.specs.Steps.Digits.{digits_from}
use Rattle.rtk_rinex.specs.Steps.HeaderShown.{line_at, number_at}
use Rattle.rtk_rinex.specs.Steps.MixedHeaderRead.{Reads, slot_at, slot_of, ShowsSlots}
use Rattle.rtk_rinex.proofs.DigitsLemmas.{piece, digits_from-right, length-right}
use Rattle.rtk_rinex.proofs.HeaderGoodLemmas.{known}
use Rattle.rtk_rinex.proofs.HeaderPartsLemmas.{lines_begin}
use Rattle.rtk_rinex.proofs.HeaderRowsLemmas.{row, row_ended, ended}
use Rattle.rtk_rinex.proofs.HeaderShownLemmas.{line_rest, line_is}
use Rattle.rtk_rinex.proofs.LineLemmas.{both, one, of_right, of_decimal, of_last_digits}
use Rattle.rtk_rinex.proofs.SlotsPieceLemmas.{piece_line, piece_rows, length-piece_rows, piece_in, piece_at, pieces_back, line_shown, of_pieces}
use Rattle.rtk_rinex.proofs.SlotsReadLemmas.{length-slots}
use Rattle.rtk_rinex.proofs.TextPartLemmas.{AreWhole, text_of-append}

-- ---- the lines

abbrev pub number : List (Option ℤ) → ℕ
number ks = count_by is_some ks

-- what stands before the slots of the first line
abbrev pub first_of : ℕ → List ℕ
first_of n = right 3 (decimal n) ++ codes " "

-- eight slots stand on a line; without a slot there is one line
abbrev line_count : ℕ → ℕ
line_count n = (n + 7) / 8 + (1 - n)

abbrev rows_of : List (Option ℤ) → List (List ℕ)
rows_of ks = piece_rows (first_of (number ks)) slots_label (slots_text ks 27) 0 (line_count (number ks))

few : (ks : List (Option ℤ)) → AreChannels ks → number ks ≤ 27
few ks good = let n = count_by-le-length is_some ks in omega (arith, n, good.count)

three : (n : ℕ) → n ≤ 27 → length (right 3 (decimal n)) ≡ 3
three n h = length-right 3 (decimal n) (length-decimal-le 3 n (omega arith) (omega arith) (omega arith))

length-first : (n : ℕ) → n ≤ 27 → length (first_of n) ≡ 4
length-first n h = length-append (right 3 (decimal n)) (codes " ") ∙ omega (arith, three n h)

if_none : (text r : List ℕ) (b : Bool) → (length text == 0) ≡ b → length text ≡ 0 → (if b then [] else r) ≡ []
if_none text r true e h = refl
if_none text r false e h = absurd (let t = (Decides-eqb (length text) 0).1 h in cc)

if_some : (text r : List ℕ) (b : Bool) → (length text == 0) ≡ b → 0 < length text → (if b then [] else r) ≡ r
if_some text r false e h = refl
if_some text r true e h = absurd (let t = (Decides-eqb (length text) 0).0 e in omega (arith, t, h))

further-none : (j : ℕ) (text : List ℕ) → length text ≤ 56 * j → further_slots_line (drop (56 * j) text) ≡ []
further-none j text h = let rest = length-drop (56 * j) text in if_none (drop (56 * j) text) _ (length (drop (56 * j) text) == 0) refl (omega (arith, rest, h))

further-some : (first : List ℕ) (j : ℕ) (text : List ℕ) → 56 * suc j < length text → further_slots_line (drop (56 * suc j) text) ≡ ended (piece_line first slots_label text (suc j))
unfolding piece_line
further-some first j text h =
    let rest = length-drop (56 * suc j) text in
    if_some (drop (56 * suc j) text) _ (length (drop (56 * suc j) text) == 0) refl (omega (arith, rest, h)) ∙ row_ended (codes "    " ++ take 56 (drop (56 * suc j) text)) slots_label

first-line : (first text : List ℕ) → header_line (first ++ take 56 text) slots_label ≡ ended (piece_line first slots_label text 0)
unfolding piece_line
first-line first text = row_ended (first ++ take 56 text) slots_label

-- the lines of n slots with these columns
abbrev lines_of : ℕ → List ℕ → List ℕ
lines_of n text =
    header_line (first_of n ++ take 56 text) slots_label ++ further_slots_line (drop 56 text) ++ further_slots_line (drop 112 text) ++ further_slots_line (drop 168 text)

lines_text : (n : ℕ) (text : List ℕ) → n ≤ 27 → length text ≡ 7 * n → text_of (piece_rows (first_of n) slots_label text 0 (line_count n)) ≡ lines_of n text
unfolding piece_rows
lines_text n text h size =
    let f = first_of n in
    elim (leb_tells n 8) [
      | inl le ↦
          let m : line_count n ≡ 1 = omega (arith, le.1) in
          rw (m, first-line f text, further-none 1 text (omega (arith, size, le.1)), further-none 2 text (omega (arith, size, le.1)), further-none 3 text (omega (arith, size, le.1))) (simp append_assoc)
      | inr more ↦ elim (leb_tells n 16) [
        | inl le ↦
            let m : line_count n ≡ 2 = omega (arith, more.1, le.1) in
            rw (m, first-line f text, further-some f 0 text (omega (arith, size, more.1)), further-none 2 text (omega (arith, size, le.1)), further-none 3 text (omega (arith, size, le.1))) (simp append_assoc)
        | inr many ↦ elim (leb_tells n 24) [
          | inl le ↦
              let m : line_count n ≡ 3 = omega (arith, many.1, le.1) in
              rw (m, first-line f text, further-some f 0 text (omega (arith, size, many.1)), further-some f 1 text (omega (arith, size, many.1)), further-none 3 text (omega (arith, size, le.1))) (simp append_assoc)
          | inr all ↦
              let m : line_count n ≡ 4 = omega (arith, all.1, h) in
              rw (m, first-line f text, further-some f 0 text (omega (arith, size, all.1)), further-some f 1 text (omega (arith, size, all.1)), further-some f 2 text (omega (arith, size, all.1))) (simp append_assoc)
        ]
      ]
    ]

slots_as_rows : (ks : List (Option ℤ)) → AreChannels ks → slots_lines ks ≡ text_of (rows_of ks)
slots_as_rows ks good = sym (lines_text (number ks) (slots_text ks 27) (few ks good) (length-slots ks good))

-- ---- no line has an end

of_channel : (k : ℤ) → IsChannel k → HasNoEnd (channel_text k)
of_channel (pos n) h = both (32 ∷ []) ((48 + n) ∷ []) (one 32 (λ e. omega (arith, e))) (one (48 + n) (λ e. omega (arith, e)))
of_channel (negsuc n) h = both (45 ∷ []) ((49 + n) ∷ []) (one 45 (λ e. omega (arith, e))) (one (49 + n) (λ e. omega (arith, e)))

of_slot_if : (slot : ℕ) (o : Option ℤ) (us : List (Option ℤ)) → AreChannels us → channel_at us slot ≡ o → HasNoEnd (slot_text slot o)
of_slot_if slot None us good e = All-nil (λ x. x ≢ 10)
of_slot_if slot (Some k) us good e =
    let h = good.each (slot - 1) in
    let is : IsChannel k = rw e at h in
    both (82 ∷ last_digits 2 slot) (32 ∷ channel_text k ++ 32 ∷ []) (both (82 ∷ []) (last_digits 2 slot) (one 82 (λ z. omega (arith, z))) (of_last_digits 2 slot))
    (both (32 ∷ channel_text k) (32 ∷ []) (both (32 ∷ []) (channel_text k) (one 32 (λ z. omega (arith, z))) (of_channel k is)) (one 32 (λ z. omega (arith, z))))

of_slots : (us : List (Option ℤ)) (n : ℕ) → AreChannels us → HasNoEnd (slots_text us n)
of_slots us zero good = All-nil (λ x. x ≢ 10)
of_slots us (suc n) good = both (slots_text us n) (slot_text (suc n) (channel_at us (suc n))) (of_slots us n good) (of_slot_if (suc n) (channel_at us (suc n)) us good refl)

of_rows : (us : List (Option ℤ)) → AreChannels us → All HasNoEnd (rows_of us)
of_rows us good =
    of_pieces (first_of (number us)) slots_label (slots_text us 27) 0 (line_count (number us))
    (both (right 3 (decimal (number us))) (codes " ") (of_right 3 (decimal (number us)) (of_decimal (number us) (let n = few us good in omega (arith, n)))) (known (codes " ") refl))
    (known slots_label refl) (of_slots us 27 good)

pub whole_slots : (us : List (Option ℤ)) → AreChannels us → AreWhole (slots_lines us)
whole_slots us good = record { lines = rows_of us; plain = of_rows us good; is = slots_as_rows us good }

-- ---- what is read

count_shown : (n : ℕ) (text shown rest : List ℕ) → n ≤ 27 → text ≡ ended (row (first_of n ++ shown) slots_label) ++ rest → number_at 0 3 text ≡ n
count_shown n text shown rest h e =
    let a : List ℕ = right 3 (decimal n) in
    let content : List ℕ = first_of n ++ shown in
    let after : List ℕ = line_rest content slots_label rest in
    let whole : text ≡ [] ++ (a ++ ((codes " " ++ shown) ++ after)) =
    e ∙ ap (λ (x : List ℕ). x ++ rest) (sym (row_ended content slots_label)) ∙ line_is content slots_label rest ∙ simp append_assoc in
    ap (digits_from 0) (rw whole (piece 0 3 [] a ((codes " " ++ shown) ++ after) refl (three n h))) ∙ digits_from-right 3 n (omega arith)

line_zero : (n : ℕ) (text : List ℕ) → piece_line (first_of n) slots_label text 0 ≡ row (first_of n ++ take 56 text) slots_label
unfolding piece_line
line_zero n text = refl

no_rows : (lines : List (List ℕ)) → text_of lines ≡ [] → lines ≡ []
no_rows [] e = refl
no_rows (l ∷ lines) e = absurd (let size = ap length e in omega (arith, size, length-append (ended l) (text_of lines), length-append l (10 ∷ [])))

some_text : (us : List (Option ℤ)) → AreChannels us → slots_lines us ≡ [] → ⊥
some_text us good e =
    let none = no_rows (rows_of us) (sym (slots_as_rows us good) ∙ e) in
    let size = length-piece_rows (first_of (number us)) slots_label (slots_text us 27) 0 (line_count (number us)) in
    let zero = ap length none in
    omega (arith, size, zero)

-- the columns of a slot that a line shows
slot_is : (text : List ℕ) (us : List (Option ℤ)) (i : ℕ) → AreChannels us → i < number us → line_at (i / 8) text ≡ ended (piece_line (first_of (number us)) slots_label (slots_text us 27) (i / 8))
    → slot_at i text ≡ slot_of i us
slot_is text us i good lt line =
    let n = few us good in
    let size = length-slots us good in
    let place : 56 * (i / 8) + 7 * (i % 8) ≡ 7 * i = omega arith in
    piece_at (line_at (i / 8) text) (first_of (number us)) slots_label (slots_text us 27) (i / 8) (7 * (i % 8)) 7 (length-first (number us) n) line (omega arith) (omega (arith, size, lt, place))
    ∙ ap (λ (k : ℕ). take 7 (drop k (slots_text us 27))) place

pub slots_read : (ks : List (Option ℤ)) (text : List ℕ) → ShowsSlots text ks → Reads {V = List (Option ℤ)} AreChannels (λ us. us ≡ ks) slots_lines text ks
slots_read ks text shows us [] rest more good ok e t = record { rest = slots_lines ks; begins = refl; whole = λ none. absurd (some_text us good (e ∙ none)) }
slots_read ks text shows us (l ∷ ls) rest more good ok e t =
    let n = number us in
    let small = few us good in
    let m = line_count n in
    let lines : List (List ℕ) = l ∷ ls in
    let k = length lines in
    let first : List ℕ = first_of n in
    let columns : List ℕ = slots_text us 27 in
    let mine : List ℕ = slots_text ks 27 in
    let rows : List (List ℕ) = rows_of us in
    let all : text_of lines ++ more ≡ text_of rows = sym e ∙ slots_as_rows us good in
    let cut = lines_begin lines rows more ok (of_rows us good) all in
    let rest_is : more ≡ text_of cut.0 = append_cancel_left (text_of lines) more (text_of cut.0) (all ∙ ap text_of cut.1 ∙ text_of-append lines cut.0) in
    let four = length-first n small in
    let line : (j : ℕ) → j < k → line_at j text ≡ ended (piece_line first slots_label columns j) = λ j lt. line_shown first slots_label columns m lines cut.0 text rest j four (omega arith) cut.1 t lt in
    let first_is : l ≡ row (first ++ take 56 columns) slots_label =
    ap (λ (x : List (List ℕ)). get_or x 0 []) (sym cut.1) ∙ piece_in first slots_label columns m 0 [] (omega arith) ∙ line_zero n columns in
    let begins : text ≡ ended (row (first ++ take 56 columns) slots_label) ++ (text_of ls ++ rest) =
    t ∙ append_assoc (ended l) (text_of ls) rest ∙ ap (λ (x : List ℕ). ended x ++ (text_of ls ++ rest)) first_is in
    let count : number ks ≡ n = shows.count us good (count_shown n text (take 56 columns) (text_of ls ++ rest) small begins) in
    let size = length-slots us good in
    let own = length-slots ks shows.good in
    let has : (j : ℕ) → j < n → j < 8 * k → slot_at j text ≡ slot_of j us = λ j lt low. slot_is text us j good lt (line (j / 8) (omega (arith, low))) in
    let prefix : take (56 * k) mine ≡ take (56 * k) columns =
    elim (leb_tells (8 * k) n) [
      | inl less ↦
          let same = shows.shown us (8 * k) good count less.1 (λ j lt. has j (omega (arith, lt, less.1)) lt) in
          let place : 56 * k ≡ 7 * (8 * k) = omega arith in
          ap (λ (z : ℕ). take z mine) place ∙ same ∙ ap (λ (z : ℕ). take z columns) (sym place)
      | inr past ↦
          let same = shows.shown us n good count (omega arith) (λ j lt. has j lt (omega (arith, lt, past.1))) in
          take_all (56 * k) mine (omega (arith, own, count, past.1)) ∙ sym (take_all (7 * n) mine (omega (arith, own, count))) ∙ same
          ∙ take_all (7 * n) columns (omega (arith, size)) ∙ sym (take_all (56 * k) columns (omega (arith, size, past.1)))
    ] in
    let back = pieces_back (first_of (number ks)) first slots_label mine columns (line_count (number ks)) m lines cut.0 cut.1 (λ some. (ap first_of count, (ap line_count count, prefix))) in
    record {
      rest = text_of back.0;
      begins = slots_as_rows ks shows.good ∙ ap text_of back.1 ∙ text_of-append lines back.0;
      whole = λ none.
          let nothing : cut.0 ≡ [] = no_rows cut.0 (sym rest_is ∙ none) in
          let height = length-piece_rows first slots_label columns 0 m in
          let whole = ap length (cut.1 ∙ ap (λ (x : List (List ℕ)). lines ++ x) nothing ∙ append-nil lines) in
          let same : us ≡ ks = shows.all us good count (λ j lt. has j lt (omega (arith, lt, height, whole))) in
          let end : back.0 ≡ [] = append_cancel_left lines back.0 [] (sym back.1 ∙ ap rows_of (sym same) ∙ cut.1 ∙ ap (λ (x : List (List ℕ)). lines ++ x) nothing) in
          (ap text_of end, same);
    }
