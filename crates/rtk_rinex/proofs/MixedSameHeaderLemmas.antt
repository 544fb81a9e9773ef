-- Two headers of any systems that begin one text are equal, part by part.
use Rattle.std.proofs.Common.{◌≡◌, ◌⊎◌, ℕ, zero, suc, ◌+◌, ◌-◌, ◌*◌, ◌<◌, ◌≤◌, List, [], ◌∷◌, ◌++◌, length, take, drop, get_or, codes, decimal, arith, refl, sym, ◌∙◌, ap, subst, append_assoc, length-append, inl, inr, Bool, true, false, ◌==◌, if◌then◌else◌, ℤ, pos, negsuc, Option, Some, None, is_some}
use Rattle.std.specs.Prelude.{All}
use Rattle.std.specs.List.{count_by}
use Rattle.std.proofs.lemmas.Bool.{eqb-true}
use Rattle.std.proofs.lemmas.Bool.Decides.{leb_tells}
use Rattle.std.proofs.lemmas.Fmt.{length-decimal-le}
use Rattle.std.proofs.lemmas.List.{same_lists, get_or_default, length-take, length-drop, take_all, take-append-drop, drop-drop, append-nil, append_cancel_left}
use Rattle.std.proofs.lemmas.List.Elements.{All-head, All-tail}
use Rattle.std.proofs.lemmas.List.Sums.{count_by-le-length}
use Rattle.rtk_obs.specs.declared.any_code.AnyCode.{AnyCode}
use Rattle.rtk_obs.specs.declared.time.Civil.{Civil}
use Rattle.rtk_obs.specs.AnyCode.{name_of, text_of}
use Rattle.rtk_obs.specs.Calendar.{ReadsAs}
use Rattle.rtk_obs.specs.Carriers.{AreChannels, channel_at}
use Rattle.rtk_obs.proofs.PublicLaws.{one_moment, reading-reads}
use Rattle.rtk_rinex.specs.Columns.{left, right}
use Rattle.rtk_obs.specs.Reading.{IsMoment, reading_of}
use Rattle.rtk_rinex.specs.Header.{PositionView, header_line, made_line, marker_line, place_line, height_line, types_label, unit_line, first_line}
use Rattle.rtk_rinex.specs.MixedHead.{GlonassView, TellsGlonass, letter}
use Rattle.rtk_rinex.specs.MixedHeader.{codes_of, code_types, types_count, types_text, types_lines_of, system_types_lines, phase_shift_line, by_system, channel_text, slot_text, slots_text, slots_label, slots_lines, biases_line, leap_line, glonass_lines, unknown_lines, version_letter, mixed_version_line}
use Rattle.rtk_rinex.specs.Steps.Digits.{digits_from}
use Rattle.rtk_rinex.specs.Steps.MixedRoom.{codes_of_letter}
use Rattle.rtk_rinex.specs.Steps.MixedHeaderRead.{IsGroup, shows_doppler, types_and_unit, IsListOf}
use Rattle.rtk_rinex.proofs.DigitsLemmas.{take-exact, drop-exact, piece, digits_from-right, length-right}
use Rattle.rtk_rinex.proofs.GlonassReadLemmas.{leap_is}
use Rattle.rtk_rinex.proofs.FlagLemmas.{flag_after, types_flag}
use Rattle.rtk_rinex.proofs.GroupLemmas.{first_of, length-first, last_types, name_front, small_count}
use Rattle.rtk_rinex.proofs.HeaderShownLemmas.{line_rest, line_is, made_is, marker_is, place_is, height_is, first_is}
use Rattle.rtk_rinex.proofs.MixedListLemmas.{HaveOnePlace}
use Rattle.rtk_rinex.proofs.MixedPartsLemmas.{MixedValues, IsGoodMixed, mixed_text, end_line, all_is, from_made, from_marker, from_unknown, from_place, from_height, from_types, from_first, from_shift, from_glonass, list_of}
use Rattle.rtk_rinex.proofs.MixedRoomLemmas.{few_types, length-name, length-types_text, types_lines-some}
use Rattle.rtk_rinex.proofs.SlotsReadLemmas.{slot_shown, length-slot_some, length-slots}
use Rattle.rtk_rinex.proofs.SystemLinesLemmas.{from, types_from, Starts, starts_from, is_apart, starts_apart}
use Rattle.rtk_rinex.proofs.SystemOrderLemmas.{in_groups, seven}
use Rattle.rtk_rinex.proofs.SystemsReadLemmas.{group_or_none}

-- ---- lines with other text after them

same_ends : (a b x y : List ℕ) → length x ≡ length y → a ++ x ≡ b ++ y → (a ≡ b) × (x ≡ y)
same_ends a b x y h e =
    let size = ap length e in
    let long : length b ≡ length a = omega (arith, size, h, length-append a x, length-append b y) in
    (sym (take-exact (length a) a x refl) ∙ ap (take (length a)) e ∙ take-exact (length a) b y long, sym (drop-exact (length a) a x refl) ∙ ap (drop (length a)) e ∙ drop-exact (length a) b y long)

-- the contents of two lines, as long as each other
same_content : (c d label x y : List ℕ) → length d ≡ length c → header_line c label ++ x ≡ header_line d label ++ y → (c ≡ d) × (x ≡ y)
same_content c d label x y long e =
    let split : c ++ line_rest c label x ≡ d ++ line_rest d label y = sym (line_is c label x) ∙ e ∙ line_is d label y in
    let same : c ≡ d =
    sym (take-exact (length c) c (line_rest c label x) refl) ∙ ap (take (length c)) split ∙ take-exact (length c) d (line_rest d label y) long in
    (same, append_cancel_left (header_line d label) x y (ap (λ (t : List ℕ). header_line t label ++ x) (sym same) ∙ e))

-- the first columns of two lines
same_columns : (p q a b label x y : List ℕ) → length q ≡ length p → header_line (p ++ a) label ++ x ≡ header_line (q ++ b) label ++ y → p ≡ q
same_columns p q a b label x y long e =
    let left_is = line_is (p ++ a) label x ∙ append_assoc p a (line_rest (p ++ a) label x) in
    let right_is = line_is (q ++ b) label y ∙ append_assoc q b (line_rest (q ++ b) label y) in
    sym (take-exact (length p) p (a ++ line_rest (p ++ a) label x) refl) ∙ ap (take (length p)) (sym left_is ∙ e ∙ right_is)
    ∙ take-exact (length p) q (b ++ line_rest (q ++ b) label y) long

-- ---- columns that fill several lines

-- a further line of w columns, if any are left
abbrev further_line : ℕ → List ℕ → List ℕ → List ℕ → List ℕ
further_line w first label text = if length text == 0 then [] else header_line (first ++ take w text) label

further_if : (w : ℕ) (first label t u x y : List ℕ) (b c : Bool) → (length t == 0) ≡ b → (length u == 0) ≡ c → b ≡ c → (b ≡ true → take w t ≡ take w u) → length t ≡ length u
    → (if b then [] else header_line (first ++ take w t) label) ++ x ≡ (if c then [] else header_line (first ++ take w u) label) ++ y → (take w t ≡ take w u) × (x ≡ y)
further_if w first label t u x y true true e f g none long same = (none refl, same)
further_if w first label t u x y true false e f g none long same = absurd (cc)
further_if w first label t u x y false true e f g none long same = absurd (cc)
further_if w first label t u x y false false e f g none long same =
    let a = length-append first (take w t) in
    let b = length-append first (take w u) in
    let m = length-take w t in
    let n = length-take w u in
    let s = same_content (first ++ take w t) (first ++ take w u) label x y (omega (arith, a, b, m, n, long)) same in
    (append_cancel_left first (take w t) (take w u) s.0, s.1)

none_of : (w : ℕ) (t u : List ℕ) → length t ≡ length u → length t ≡ 0 → take w t ≡ take w u
none_of w [] [] long none = refl
none_of w [] (b ∷ u) long none = absurd (omega (arith, long))
none_of w (a ∷ t) u long none = absurd (omega (arith, none))

same_further : (w : ℕ) (first label t u x y : List ℕ) → length t ≡ length u → further_line w first label t ++ x ≡ further_line w first label u ++ y → (take w t ≡ take w u) × (x ≡ y)
same_further w first label t u x y long e =
    further_if w first label t u x y (length t == 0) (length u == 0) refl refl (ap (λ (n : ℕ). n == 0) long)
    (λ is. none_of w t u long (eqb-true (length t) 0 is)) long e

-- columns on four lines of w, the first one after others
abbrev four_lines : ℕ → List ℕ → List ℕ → List ℕ → List ℕ → List ℕ
four_lines w p further label text =
    header_line (p ++ take w text) label ++ further_line w further label (drop w text) ++ further_line w further label (drop (w + w) text)
    ++ further_line w further label (drop (w + w + w) text)

-- the further lines, and what follows them
abbrev further_lines : ℕ → List ℕ → List ℕ → List ℕ → List ℕ → List ℕ
further_lines w further label text x =
    further_line w further label (drop w text) ++ (further_line w further label (drop (w + w) text) ++ (further_line w further label (drop (w + w + w) text) ++ x))

in_row : (a b c d x : List ℕ) → (((a ++ b) ++ c) ++ d) ++ x ≡ a ++ (b ++ (c ++ (d ++ x)))
in_row a b c d x = simp append_assoc

first_then : (w : ℕ) (p further label t x : List ℕ) → four_lines w p further label t ++ x ≡ header_line (p ++ take w t) label ++ further_lines w further label t x
first_then w p further label t x =
    in_row (header_line (p ++ take w t) label) (further_line w further label (drop w t)) (further_line w further label (drop (w + w) t)) (further_line w further label (drop (w + w + w) t)) x

same_split : (w k : ℕ) (t u : List ℕ) → take w (drop k t) ≡ take w (drop k u) → drop (k + w) t ≡ drop (k + w) u → drop k t ≡ drop k u
same_split w k t u e f =
    sym (take-append-drop w (drop k t)) ∙ ap (λ (x : List ℕ). x ++ drop w (drop k t)) e ∙ ap (λ (x : List ℕ). take w (drop k u) ++ x) (drop-drop w k t ∙ f ∙ sym (drop-drop w k u))
    ∙ take-append-drop w (drop k u)

same_four : (w : ℕ) (p further label t u x y : List ℕ) → length t ≡ length u → length t ≤ w + w + w + w → four_lines w p further label t ++ x ≡ four_lines w p further label u ++ y
    → (t ≡ u) × (x ≡ y)
same_four w p further label t u x y long few e =
    let row : header_line (p ++ take w t) label ++ further_lines w further label t x ≡ header_line (p ++ take w u) label ++ further_lines w further label u y =
    sym (first_then w p further label t x) ∙ e ∙ first_then w p further label u y in
    let size : (k : ℕ) → length (drop k t) ≡ length (drop k u) = λ k. length-drop k t ∙ ap (λ (n : ℕ). n - k) long ∙ sym (length-drop k u) in
    let m = length-take w t in
    let n = length-take w u in
    let first = same_content (p ++ take w t) (p ++ take w u) label (further_lines w further label t x) (further_lines w further label u y)
    (omega (arith, length-append p (take w t), length-append p (take w u), m, n, long)) row in
    let last_t : List ℕ = further_line w further label (drop (w + w + w) t) ++ x in
    let last_u : List ℕ = further_line w further label (drop (w + w + w) u) ++ y in
    let second = same_further w further label (drop w t) (drop w u) (further_line w further label (drop (w + w) t) ++ last_t) (further_line w further label (drop (w + w) u) ++ last_u) (size w) first.1 in
    let third = same_further w further label (drop (w + w) t) (drop (w + w) u) last_t last_u (size (w + w)) second.1 in
    let fourth = same_further w further label (drop (w + w + w) t) (drop (w + w + w) u) x y (size (w + w + w)) third.1 in
    let k = length-drop (w + w + w) t in
    let l = length-drop (w + w + w) u in
    let end : drop (w + w + w) t ≡ drop (w + w + w) u =
    sym (take_all w (drop (w + w + w) t) (omega (arith, k, few))) ∙ fourth.0 ∙ take_all w (drop (w + w + w) u) (omega (arith, l, few, long)) in
    let three = same_split w (w + w) t u third.0 end in
    let two = same_split w w t u second.0 three in
    (sym (take-append-drop w t) ∙ ap (λ (z : List ℕ). z ++ drop w t) (append_cancel_left p (take w t) (take w u) first.0) ∙ ap (λ (z : List ℕ). take w u ++ z) two ∙ take-append-drop w u, fourth.1)

-- columns on five lines of w
abbrev five_lines : ℕ → List ℕ → List ℕ → List ℕ → List ℕ → List ℕ
five_lines w p further label text = four_lines w p further label text ++ further_line w further label (drop (w + w + w + w) text)

-- what follows the first line
abbrev further_four : ℕ → List ℕ → List ℕ → List ℕ → List ℕ → List ℕ
further_four w further label text x = further_lines w further label text (further_line w further label (drop (w + w + w + w) text) ++ x)

five_then : (w : ℕ) (p further label t x : List ℕ) → five_lines w p further label t ++ x ≡ header_line (p ++ take w t) label ++ further_four w further label t x
five_then w p further label t x =
    append_assoc (four_lines w p further label t) (further_line w further label (drop (w + w + w + w) t)) x
    ∙ first_then w p further label t (further_line w further label (drop (w + w + w + w) t) ++ x)

same_five : (w : ℕ) (p further label t u x y : List ℕ) → length t ≡ length u → length t ≤ w + w + w + w + w → five_lines w p further label t ++ x ≡ five_lines w p further label u ++ y
    → (t ≡ u) × (x ≡ y)
same_five w p further label t u x y long few e =
    let row : header_line (p ++ take w t) label ++ further_four w further label t x ≡ header_line (p ++ take w u) label ++ further_four w further label u y =
    sym (five_then w p further label t x) ∙ e ∙ five_then w p further label u y in
    let size : (k : ℕ) → length (drop k t) ≡ length (drop k u) = λ k. length-drop k t ∙ ap (λ (n : ℕ). n - k) long ∙ sym (length-drop k u) in
    let m = length-take w t in
    let n = length-take w u in
    let first = same_content (p ++ take w t) (p ++ take w u) label (further_four w further label t x) (further_four w further label u y)
    (omega (arith, length-append p (take w t), length-append p (take w u), m, n, long)) row in
    let end_t : List ℕ = further_line w further label (drop (w + w + w + w) t) ++ x in
    let end_u : List ℕ = further_line w further label (drop (w + w + w + w) u) ++ y in
    let last_t : List ℕ = further_line w further label (drop (w + w + w) t) ++ end_t in
    let last_u : List ℕ = further_line w further label (drop (w + w + w) u) ++ end_u in
    let second = same_further w further label (drop w t) (drop w u) (further_line w further label (drop (w + w) t) ++ last_t) (further_line w further label (drop (w + w) u) ++ last_u) (size w) first.1 in
    let third = same_further w further label (drop (w + w) t) (drop (w + w) u) last_t last_u (size (w + w)) second.1 in
    let fourth = same_further w further label (drop (w + w + w) t) (drop (w + w + w) u) end_t end_u (size (w + w + w)) third.1 in
    let fifth = same_further w further label (drop (w + w + w + w) t) (drop (w + w + w + w) u) x y (size (w + w + w + w)) fourth.1 in
    let k = length-drop (w + w + w + w) t in
    let l = length-drop (w + w + w + w) u in
    let end : drop (w + w + w + w) t ≡ drop (w + w + w + w) u =
    sym (take_all w (drop (w + w + w + w) t) (omega (arith, k, few))) ∙ fifth.0 ∙ take_all w (drop (w + w + w + w) u) (omega (arith, l, few, long)) in
    let four = same_split w (w + w + w) t u fourth.0 end in
    let three = same_split w (w + w) t u third.0 four in
    let two = same_split w w t u second.0 three in
    (sym (take-append-drop w t) ∙ ap (λ (z : List ℕ). z ++ drop w t) (append_cancel_left p (take w t) (take w u) first.0) ∙ ap (λ (z : List ℕ). take w u ++ z) two ∙ take-append-drop w u, fifth.1)

-- ---- the lines of one system

-- a text belongs to one code
abbrev pub HaveOneText : Type 0
HaveOneText = (c d : AnyCode) → text_of c ≡ text_of d → c ≡ d

-- the code whose types begin a text
name_read : (doppler : Bool) (c : AnyCode) (rest : List ℕ) → take 2 (drop 2 (code_types doppler c ++ rest)) ≡ name_of c
name_read doppler c rest =
    ap (λ (t : List ℕ). take 2 (drop 2 t)) (name_front doppler c rest) ∙ piece 2 2 (codes " C") (name_of c) (last_types doppler c ++ rest) refl (length-name c)

same_cons : (a b : ℕ) (x y : List ℕ) → a ≡ b → x ≡ y → a ∷ x ≡ b ∷ y
same_cons a b x y e f = cc

same_code : (c d : AnyCode) (g h : List AnyCode) → c ≡ d → g ≡ h → c ∷ g ≡ d ∷ h
same_code c d g h e f = cc

one_types : (doppler : Bool) (s : ℕ) (g h : List AnyCode) → HaveOneText → length g ≡ length h → All (λ c. letter c ≡ s) g → All (λ c. letter c ≡ s) h
    → types_text doppler g ≡ types_text doppler h → g ≡ h
one_types doppler s [] [] texts n own other e = refl
one_types doppler s [] (d ∷ h) texts n own other e = absurd (omega (arith, n))
one_types doppler s (c ∷ g) [] texts n own other e = absurd (omega (arith, n))
one_types doppler s (c ∷ g) (d ∷ h) texts n own other e =
    let name : name_of c ≡ name_of d = sym (name_read doppler c (types_text doppler g)) ∙ ap (λ (t : List ℕ). take 2 (drop 2 t)) e ∙ name_read doppler d (types_text doppler h) in
    let system : letter c ≡ letter d = All-head (λ c. letter c ≡ s) c g own ∙ sym (All-head (λ c. letter c ≡ s) d h other) in
    let code : c ≡ d = texts c d (same_cons (letter c) (letter d) (name_of c) (name_of d) system name) in
    let rest : types_text doppler g ≡ types_text doppler h =
    append_cancel_left (code_types doppler d) (types_text doppler g) (types_text doppler h) (ap (λ (x : AnyCode). code_types doppler x ++ types_text doppler g) (sym code) ∙ e) in
    same_code c d g h code (one_types doppler s g h texts (omega (arith, n)) (All-tail (λ c. letter c ≡ s) c g own) (All-tail (λ c. letter c ≡ s) d h other) rest)

one_number : (doppler : Bool) (n m : ℕ) → types_count doppler * n ≡ types_count doppler * m → n ≡ m
one_number false n m e = omega (arith, e)
one_number true n m e = omega (arith, e)

-- 16 codes have at most five lines
few_columns : (doppler : Bool) (n len : ℕ) → n ≤ 16 → len ≡ 4 * types_count doppler * n → len ≤ 52 + 52 + 52 + 52 + 52
few_columns false n len h e = omega (arith, h, e)
few_columns true n len h e = omega (arith, h, e)

one_count : (doppler : Bool) (s n m : ℕ) (t u x y : List ℕ) → n ≤ 16 → m ≤ 16 → types_lines_of doppler s n t ++ x ≡ types_lines_of doppler s m u ++ y → n ≡ m
one_count doppler s n m t u x y h g e =
    let p : List ℕ = first_of doppler s n in
    let q : List ℕ = first_of doppler s m in
    let alike : five_lines 52 p (codes "      ") types_label t ++ x ≡ five_lines 52 q (codes "      ") types_label u ++ y = e in
    let row = sym (five_then 52 p (codes "      ") types_label t x) ∙ alike ∙ five_then 52 q (codes "      ") types_label u y in
    let front : p ≡ q =
    same_columns p q (take 52 t) (take 52 u) types_label (further_four 52 (codes "      ") types_label t x) (further_four 52 (codes "      ") types_label u y)
    (length-first doppler s m g ∙ sym (length-first doppler s n h)) row in
    let digits : right 3 (decimal (types_count doppler * n)) ≡ right 3 (decimal (types_count doppler * m)) =
    append_cancel_left (s ∷ codes "  ") (right 3 (decimal (types_count doppler * n))) (right 3 (decimal (types_count doppler * m))) front in
    one_number doppler n m
    (sym (digits_from-right 3 (types_count doppler * n) (small_count (types_count doppler * n) (few_types doppler n h))) ∙ ap (digits_from 0) digits
    ∙ digits_from-right 3 (types_count doppler * m) (small_count (types_count doppler * m) (few_types doppler m g)))

one_group : (doppler : Bool) (s : ℕ) (g h : List AnyCode) (x y : List ℕ) → HaveOneText → IsGroup s g → IsGroup s h
    → system_types_lines doppler s g ++ x ≡ system_types_lines doppler s h ++ y → (g ≡ h) × (x ≡ y)
one_group doppler s g h x y texts a b e =
    let lines : types_lines_of doppler s (length g) (types_text doppler g) ++ x ≡ types_lines_of doppler s (length h) (types_text doppler h) ++ y =
    ap (λ (t : List ℕ). t ++ x) (sym (types_lines-some doppler s g (omega (arith, a.count)))) ∙ e ∙ ap (λ (t : List ℕ). t ++ y) (types_lines-some doppler s h (omega (arith, b.count))) in
    let n : length g ≡ length h = one_count doppler s (length g) (length h) (types_text doppler g) (types_text doppler h) x y (omega (arith, a.count)) (omega (arith, b.count)) lines in
    let alike : types_lines_of doppler s (length h) (types_text doppler g) ++ x ≡ types_lines_of doppler s (length h) (types_text doppler h) ++ y =
    ap (λ (m : ℕ). types_lines_of doppler s m (types_text doppler g) ++ x) (sym n) ∙ lines in
    let p = length-types_text doppler g in
    let q = length-types_text doppler h in
    let same = same_five 52 (first_of doppler s (length h)) (codes "      ") types_label (types_text doppler g) (types_text doppler h) x y
    (p ∙ ap (λ (k : ℕ). 4 * types_count doppler * k) n ∙ sym q) (few_columns doppler (length g) (length (types_text doppler g)) a.count.1 p) alike in
    (one_types doppler s g h texts n a.own b.own same.0, same.1)

-- the lines of a group begin with its letter
first_letter : (doppler : Bool) (s : ℕ) (g : List AnyCode) (x : List ℕ) → 0 < length g → get_or (system_types_lines doppler s g ++ x) 0 0 ≡ s
unfolding header_line left
first_letter doppler s [] x some = absurd (omega arith)
first_letter doppler s (c ∷ g) x some = refl

-- no lines of a system are lines of a group
no_group : (doppler : Bool) (s : ℕ) (ss : List ℕ) (g h : List AnyCode) (x y : List ℕ) → is_apart s ss ≡ true → g ≡ [] → IsGroup s h → Starts ss x → system_types_lines doppler s g ++ x ≡ system_types_lines doppler s h ++ y → ⊥
no_group doppler s ss g h x y apart none group starts e =
    let text : x ≡ system_types_lines doppler s h ++ y = ap (λ (z : List AnyCode). system_types_lines doppler s z ++ x) (sym none) ∙ e in
    starts_apart s ss x apart starts
    (ap (λ (t : List ℕ). get_or t 0 0) (sym starts.is) ∙ ap (λ (t : List ℕ). get_or t 0 0) text ∙ first_letter doppler s h y (omega (arith, group.count)))

one_system : (doppler : Bool) (s : ℕ) (ss : List ℕ) (g h : List AnyCode) (x y : List ℕ) → is_apart s ss ≡ true → HaveOneText → (g ≡ []) ⊎ IsGroup s g → (h ≡ []) ⊎ IsGroup s h → Starts ss x → Starts ss y
    → system_types_lines doppler s g ++ x ≡ system_types_lines doppler s h ++ y → (g ≡ h) × (x ≡ y)
one_system doppler s ss g h x y apart texts (inl none) (inl nothing) starts begins e =
    (none ∙ sym nothing, ap (λ (z : List AnyCode). system_types_lines doppler s z ++ x) (sym none) ∙ e ∙ ap (λ (z : List AnyCode). system_types_lines doppler s z ++ y) nothing)
one_system doppler s ss g h x y apart texts (inl none) (inr group) starts begins e = absurd (no_group doppler s ss g h x y apart none group starts e)
one_system doppler s ss g h x y apart texts (inr group) (inl none) starts begins e = absurd (no_group doppler s ss h g y x apart none group begins (sym e))
one_system doppler s ss g h x y apart texts (inr group) (inr other) starts begins e = one_group doppler s g h x y texts group other e

-- ---- the lines of all systems

starts_with : (ss text more : List ℕ) → Starts ss text → Starts ss (text ++ more)
starts_with ss text more h = record { char = h.char; rest = h.rest ++ more; is = ap (λ (t : List ℕ). t ++ more) h.is; one = h.one }

next_system : (doppler : Bool) (s : ℕ) (ss : List ℕ) (file other : ℕ) (cs ds : List AnyCode) (x y : List ℕ) → is_apart s ss ≡ true → codes_of_letter s ≤ 16 → HaveOnePlace → HaveOneText
    → IsListOf file cs → IsListOf other ds → from doppler (s ∷ ss) cs ++ x ≡ from doppler (s ∷ ss) ds ++ y → (codes_of s cs ≡ codes_of s ds) × (from doppler ss cs ++ x ≡ from doppler ss ds ++ y)
next_system doppler s ss file other cs ds x y apart few places texts h g e =
    one_system doppler s ss (codes_of s cs) (codes_of s ds) (from doppler ss cs ++ x) (from doppler ss ds ++ y) apart texts (group_or_none file s cs places few h) (group_or_none other s ds places few g)
    (starts_with ss (from doppler ss cs) x (starts_from doppler ss cs)) (starts_with ss (from doppler ss ds) y (starts_from doppler ss ds))
    (sym (append_assoc (system_types_lines doppler s (codes_of s cs)) (from doppler ss cs) x) ∙ e ∙ append_assoc (system_types_lines doppler s (codes_of s ds)) (from doppler ss ds) y)

same_seven : (a b c d e f g h i j k l m n : List AnyCode) → a ≡ h → b ≡ i → c ≡ j → d ≡ k → e ≡ l → f ≡ m → g ≡ n → seven a b c d e f g ≡ seven h i j k l m n
same_seven a b c d e f g h i j k l m n p q r s t u v = rw (p, q, r, s, t, u, v) refl

one_list : (doppler : Bool) (file other : ℕ) (cs ds : List AnyCode) (x y : List ℕ) → HaveOnePlace → HaveOneText → IsListOf file cs → IsListOf other ds → types_and_unit doppler cs ++ x ≡ types_and_unit doppler ds ++ y
    → (cs ≡ ds) × (x ≡ y)
one_list doppler file other cs ds x y places texts h g e =
    let start : from doppler (codes "GRECJSI") cs ++ x ≡ from doppler (codes "GRECJSI") ds ++ y = ap (λ (t : List ℕ). t ++ x) (sym (types_from doppler cs)) ∙ e ∙ ap (λ (t : List ℕ). t ++ y) (types_from doppler ds) in
    let gps = next_system doppler 71 (codes "RECJSI") file other cs ds x y refl (omega arith) places texts h g start in
    let glonass = next_system doppler 82 (codes "ECJSI") file other cs ds x y refl (omega arith) places texts h g gps.1 in
    let galileo = next_system doppler 69 (codes "CJSI") file other cs ds x y refl (omega arith) places texts h g glonass.1 in
    let beidou = next_system doppler 67 (codes "JSI") file other cs ds x y refl (omega arith) places texts h g galileo.1 in
    let qzss = next_system doppler 74 (codes "SI") file other cs ds x y refl (omega arith) places texts h g beidou.1 in
    let sbas = next_system doppler 83 (codes "I") file other cs ds x y refl (omega arith) places texts h g qzss.1 in
    let navic = next_system doppler 73 [] file other cs ds x y refl (omega arith) places texts h g sbas.1 in (
      in_groups cs h.list.order
          ∙ same_seven (codes_of 71 cs) (codes_of 82 cs) (codes_of 69 cs) (codes_of 67 cs) (codes_of 74 cs) (codes_of 83 cs) (codes_of 73 cs) (codes_of 71 ds) (codes_of 82 ds) (codes_of 69 ds) (codes_of 67 ds) (codes_of 74 ds) (codes_of 83 ds) (codes_of 73 ds)
          gps.0 glonass.0 galileo.0 beidou.0 qzss.0 sbas.0 navic.0
          ∙ sym (in_groups ds g.list.order),
      append_cancel_left unit_line x y navic.1,
    )

-- ---- the slots

one_channel : (k l : ℤ) → channel_text k ≡ channel_text l → k ≡ l
one_channel (pos n) (pos m) e = let digit : 48 + n ≡ 48 + m = ap (λ (t : List ℕ). get_or t 1 0) e in let same : n ≡ m = omega (arith, digit) in ap pos same
one_channel (pos n) (negsuc m) e = absurd (let sign : 32 ≡ 45 = ap (λ (t : List ℕ). get_or t 0 0) e in omega (arith, sign))
one_channel (negsuc n) (pos m) e = absurd (let sign : 45 ≡ 32 = ap (λ (t : List ℕ). get_or t 0 0) e in omega (arith, sign))
one_channel (negsuc n) (negsuc m) e = let digit : 49 + n ≡ 49 + m = ap (λ (t : List ℕ). get_or t 1 0) e in let same : n ≡ m = omega (arith, digit) in ap negsuc same

-- the last slot of some columns
record LastSlot (ks : List (Option ℤ)) (n : ℕ) : Type 0 where
  pub front : List ℕ
  pub slot : ℕ
  pub channel : ℤ
  pub small : slot ≤ n
  pub is : slots_text ks n ≡ front ++ slot_text slot (Some channel)

last_if : (ks : List (Option ℤ)) (n : ℕ) (o : Option ℤ) → channel_at ks (suc n) ≡ o → (slots_text ks n ≡ []) ⊎ LastSlot ks n → (slots_text ks (suc n) ≡ []) ⊎ LastSlot ks (suc n)
last_if ks n (Some k) e h = inr (record { front = slots_text ks n; slot = suc n; channel = k; small = omega arith; is = ap (λ (o : Option ℤ). slots_text ks n ++ slot_text (suc n) o) e })
last_if ks n None e (inl none) = inl (ap (λ (o : Option ℤ). slots_text ks n ++ slot_text (suc n) o) e ∙ append-nil (slots_text ks n) ∙ none)
last_if ks n None e (inr last) =
    let small = last.small in
    inr (record { front = last.front; slot = last.slot; channel = last.channel; small = omega (arith, small); is = ap (λ (o : Option ℤ). slots_text ks n ++ slot_text (suc n) o) e ∙ append-nil (slots_text ks n) ∙ last.is })

last_slot : (ks : List (Option ℤ)) (n : ℕ) → (slots_text ks n ≡ []) ⊎ LastSlot ks n
last_slot ks zero = inl refl
last_slot ks (suc n) = last_if ks n (channel_at ks (suc n)) refl (last_slot ks n)

-- columns of the slots up to n do not end with the slot after n
no_later : (ks : List (Option ℤ)) (n : ℕ) (front : List ℕ) (k : ℤ) → suc n ≤ 27 → slots_text ks n ≡ front ++ slot_text (suc n) (Some k) → ⊥
no_later ks n front k small e =
    elim (last_slot ks n) [
      | inl none ↦
          let size = ap length (sym e ∙ none) in
          omega (arith, size, length-append front (slot_text (suc n) (Some k)), length-slot_some (suc n) k)
      | inr last ↦
          let low = last.small in
          let a : List ℕ = slot_text last.slot (Some last.channel) in
          let same = same_ends last.front front a (slot_text (suc n) (Some k)) (length-slot_some last.slot last.channel ∙ sym (length-slot_some (suc n) k)) (sym last.is ∙ e) in
          let number : last.slot ≡ suc n = sym (slot_shown a last.slot last.channel (omega (arith, low, small)) refl).number ∙ (slot_shown a (suc n) k small same.1).number in
          omega (arith, number, low)
    ]

same_if : (ks us : List (Option ℤ)) (n : ℕ) (o p : Option ℤ) → suc n ≤ 27 → slots_text ks n ++ slot_text (suc n) o ≡ slots_text us n ++ slot_text (suc n) p → (slots_text ks n ≡ slots_text us n) × (o ≡ p)
same_if ks us n None None small e = (sym (append-nil (slots_text ks n)) ∙ e ∙ append-nil (slots_text us n), refl)
same_if ks us n None (Some k) small e = absurd (no_later ks n (slots_text us n) k small (sym (append-nil (slots_text ks n)) ∙ e))
same_if ks us n (Some k) None small e = absurd (no_later us n (slots_text ks n) k small (sym (append-nil (slots_text us n)) ∙ sym e))
same_if ks us n (Some k) (Some l) small e =
    let same = same_ends (slots_text ks n) (slots_text us n) (slot_text (suc n) (Some k)) (slot_text (suc n) (Some l)) (length-slot_some (suc n) k ∙ sym (length-slot_some (suc n) l)) e in
    let mine = (slot_shown (slot_text (suc n) (Some k)) (suc n) k small refl).channel in
    let other = (slot_shown (slot_text (suc n) (Some k)) (suc n) l small same.1).channel in
    (same.0, ap Some (one_channel k l (sym mine ∙ other)))

same_slots : (ks us : List (Option ℤ)) (n : ℕ) → n ≤ 27 → slots_text ks n ≡ slots_text us n → (s : ℕ) → 1 ≤ s → s ≤ n → channel_at ks s ≡ channel_at us s
same_slots ks us zero small e s low high = absurd (omega (arith, low, high))
same_slots ks us (suc n) small e s low high =
    let same = same_if ks us n (channel_at ks (suc n)) (channel_at us (suc n)) small e in
    elim (leb_tells s n) [
      | inl below ↦ same_slots ks us n (omega (arith, small)) same.0 s low below.1
      | inr above ↦
          let is : s ≡ suc n = omega (arith, above.1, high) in
          ap (channel_at ks) is ∙ same.1 ∙ ap (channel_at us) (sym is)
    ]

same_channels : (ks us : List (Option ℤ)) → AreChannels ks → AreChannels us → slots_text ks 27 ≡ slots_text us 27 → ks ≡ us
same_channels ks us h g e =
    same_lists ks us (h.count ∙ sym g.count) (λ j d lt.
    let n : j < 27 = omega (arith, lt, h.count, g.count) in
    let back : suc j - 1 ≡ j = omega arith in
    let same : channel_at ks (suc j) ≡ channel_at us (suc j) = same_slots ks us 27 (omega arith) e (suc j) (omega arith) (omega (arith, n)) in
    get_or_default ks j d None (omega (arith, n, h.count)) ∙ ap (λ (k : ℕ). get_or ks k None) (sym back) ∙ same ∙ ap (λ (k : ℕ). get_or us k None) back
    ∙ get_or_default us j None d (omega (arith, n, g.count)))

abbrev number : List (Option ℤ) → ℕ
number ks = count_by is_some ks

few_slots : (ks : List (Option ℤ)) → AreChannels ks → number ks ≤ 27
few_slots ks good = let n = count_by-le-length is_some ks in omega (arith, n, good.count)

abbrev front_of : ℕ → List ℕ
front_of n = right 3 (decimal n) ++ codes " "

three : (n : ℕ) → n ≤ 27 → length (right 3 (decimal n)) ≡ 3
three n h = length-right 3 (decimal n) (length-decimal-le 3 n (omega arith) (omega arith) (omega arith))

length-front : (n : ℕ) → n ≤ 27 → length (front_of n) ≡ 4
length-front n h = length-append (right 3 (decimal n)) (codes " ") ∙ omega (arith, three n h)

one_slots : (ks us : List (Option ℤ)) (x y : List ℕ) → AreChannels ks → AreChannels us → slots_lines ks ++ x ≡ slots_lines us ++ y → (ks ≡ us) × (x ≡ y)
one_slots ks us x y h g e =
    let n = number ks in
    let m = number us in
    let t : List ℕ = slots_text ks 27 in
    let u : List ℕ = slots_text us 27 in
    let lines : four_lines 56 (front_of n) (codes "    ") slots_label t ++ x ≡ four_lines 56 (front_of m) (codes "    ") slots_label u ++ y = e in
    let row = sym (first_then 56 (front_of n) (codes "    ") slots_label t x) ∙ lines ∙ first_then 56 (front_of m) (codes "    ") slots_label u y in
    let front : front_of n ≡ front_of m =
    same_columns (front_of n) (front_of m) (take 56 t) (take 56 u) slots_label (further_lines 56 (codes "    ") slots_label t x) (further_lines 56 (codes "    ") slots_label u y)
    (length-front m (few_slots us g) ∙ sym (length-front n (few_slots ks h))) row in
    let digits : right 3 (decimal n) ≡ right 3 (decimal m) = (same_ends (right 3 (decimal n)) (right 3 (decimal m)) (codes " ") (codes " ") refl front).0 in
    let few = few_slots ks h in
    let less = few_slots us g in
    let count : n ≡ m = sym (digits_from-right 3 n (omega (arith, few))) ∙ ap (digits_from 0) digits ∙ digits_from-right 3 m (omega (arith, less)) in
    let alike : four_lines 56 (front_of m) (codes "    ") slots_label t ++ x ≡ four_lines 56 (front_of m) (codes "    ") slots_label u ++ y =
    ap (λ (k : ℕ). four_lines 56 (front_of k) (codes "    ") slots_label t ++ x) (sym count) ∙ lines in
    let p = length-slots ks h in
    let q = length-slots us g in
    let same = same_four 56 (front_of m) (codes "    ") slots_label t u x y (omega (arith, p, q, count)) (omega (arith, p, few)) alike in
    (same_channels ks us h g same.0, same.1)

abbrev view_with : List (Option ℤ) → ℕ → GlonassView
view_with ks n = record { channels = ks; leap_seconds = n }

view_of : (ks us : List (Option ℤ)) (n m : ℕ) → ks ≡ us → n ≡ m → view_with ks n ≡ view_with us m
view_of ks us n m e f = rw (e, f) refl

same_view : (g h : GlonassView) → g.channels ≡ h.channels → g.leap_seconds ≡ h.leap_seconds → g ≡ h
same_view g h e f = view_of g.channels h.channels g.leap_seconds h.leap_seconds e f

three_rows : (a b c x : List ℕ) → ((a ++ b) ++ c) ++ x ≡ a ++ (b ++ (c ++ x))
three_rows a b c x = simp append_assoc

one_glonass : (cs : List AnyCode) (g h : Option GlonassView) (x y : List ℕ) → TellsGlonass cs g → TellsGlonass cs h → glonass_lines g ++ x ≡ glonass_lines h ++ y → (g ≡ h) × (x ≡ y)
one_glonass cs None None x y t u e = (refl, e)
one_glonass cs None (Some h) x y t u e = absurd (let clash : false ≡ true = sym t ∙ u.0 in cc)
one_glonass cs (Some g) None x y t u e = absurd (let clash : false ≡ true = sym u ∙ t.0 in cc)
one_glonass cs (Some g) (Some h) x y t u e =
    let row : slots_lines g.channels ++ (biases_line ++ (leap_line g.leap_seconds ++ x)) ≡ slots_lines h.channels ++ (biases_line ++ (leap_line h.leap_seconds ++ y)) =
    sym (three_rows (slots_lines g.channels) biases_line (leap_line g.leap_seconds) x) ∙ e ∙ three_rows (slots_lines h.channels) biases_line (leap_line h.leap_seconds) y in
    let slots = one_slots g.channels h.channels (biases_line ++ (leap_line g.leap_seconds ++ x)) (biases_line ++ (leap_line h.leap_seconds ++ y)) t.1.channels u.1.channels row in
    let leap : leap_line g.leap_seconds ++ x ≡ leap_line h.leap_seconds ++ y = append_cancel_left biases_line (leap_line g.leap_seconds ++ x) (leap_line h.leap_seconds ++ y) slots.1 in
    let seconds : g.leap_seconds ≡ h.leap_seconds =
    sym (leap_is (leap_line g.leap_seconds ++ x) x g.leap_seconds t.1.leap_seconds refl) ∙ leap_is (leap_line g.leap_seconds ++ x) y h.leap_seconds u.1.leap_seconds leap in
    (ap Some (same_view g h slots.0 seconds), append_cancel_left (leap_line h.leap_seconds) x y (ap (λ (n : ℕ). leap_line n ++ x) (sym seconds) ∙ leap))

-- ---- the header

same_moment : (t u : ℕ) → IsMoment t → IsMoment u → reading_of t ≡ reading_of u → t ≡ u
same_moment t u h g e = one_moment t u (reading_of t) (reading-reads t h) (subst (λ (c : Civil). ReadsAs u c) (sym e) (reading-reads u g))

abbrev values_with : List ℕ → List AnyCode → Option GlonassView → ℕ → Bool → ℤ → ℤ → ℤ → ℕ → ℕ → MixedValues
values_with m cs g made d x y z n t = record { head = record { marker = m; listed = cs; glonass = g; made = made; doppler = d }; site = record { x = x; y = y; z = z; height = n }; first = t }

same_values : (m₁ m₂ : List ℕ) (cs ds : List AnyCode) (g h : Option GlonassView) (made₁ made₂ : ℕ) (p q : Bool) (x₁ x₂ y₁ y₂ z₁ z₂ : ℤ) (n₁ n₂ t₁ t₂ : ℕ)
    → m₁ ≡ m₂ → cs ≡ ds → g ≡ h → made₁ ≡ made₂ → p ≡ q → x₁ ≡ x₂ → y₁ ≡ y₂ → z₁ ≡ z₂ → n₁ ≡ n₂ → t₁ ≡ t₂
    → values_with m₁ cs g made₁ p x₁ y₁ z₁ n₁ t₁ ≡ values_with m₂ ds h made₂ q x₂ y₂ z₂ n₂ t₂
same_values m₁ m₂ cs ds g h made₁ made₂ p q x₁ x₂ y₁ y₂ z₁ z₂ n₁ n₂ t₁ t₂ a b c d l e f i j k = rw (a, b, c, d, l, e, f, i, j, k) refl

same_place : (s r : PositionView) → s.x ≡ r.x → s.y ≡ r.y → s.z ≡ r.z → place_line s ≡ place_line r
same_place s r a b c = rw (a, b, c) refl

-- the part that begins a text is the same, and so is the text after it
after_same : (a b c d x y : List ℕ) → a ≡ b → (a ++ c) ++ x ≡ (b ++ d) ++ y → c ++ x ≡ d ++ y
after_same a b c d x y same e =
    append_cancel_left b (c ++ x) (d ++ y) (ap (λ (t : List ℕ). t ++ (c ++ x)) (sym same) ∙ sym (append_assoc a c x) ∙ e ∙ append_assoc b d y)

pub one_mixed_header : HaveOnePlace → HaveOneText → (u v : MixedValues) (x y : List ℕ) → IsGoodMixed u → IsGoodMixed v → mixed_text u ++ x ≡ mixed_text v ++ y → (u ≡ v) × (x ≡ y)
one_mixed_header places texts u v x y g h e =
    let start : (mixed_version_line (version_letter u.head.listed) ++ from_made u) ++ x ≡ (mixed_version_line (version_letter v.head.listed) ++ from_made v) ++ y =
    ap (λ (t : List ℕ). t ++ x) (all_is u) ∙ e ∙ ap (λ (t : List ℕ). t ++ y) (sym (all_is v)) in
    let version = same_content (codes "     3.05           OBSERVATION DATA    " ++ version_letter u.head.listed ∷ []) (codes "     3.05           OBSERVATION DATA    " ++ version_letter v.head.listed ∷ [])
    (codes "RINEX VERSION / TYPE") (from_made u ++ x) (from_made v ++ y) refl
    (sym (append_assoc (mixed_version_line (version_letter u.head.listed)) (from_made u) x) ∙ start ∙ append_assoc (mixed_version_line (version_letter v.head.listed)) (from_made v) y) in
    let t1 : List ℕ = from_made u ++ x in
    let made : u.head.made ≡ v.head.made =
    same_moment u.head.made v.head.made g.heading.made h.heading.made
    (sym (made_is t1 (from_marker u ++ x) u.head.made g.heading.made g.heading.whole_second (append_assoc (made_line (reading_of u.head.made)) (from_marker u) x))
    ∙ made_is t1 (from_marker v ++ y) v.head.made h.heading.made h.heading.whole_second (version.1 ∙ append_assoc (made_line (reading_of v.head.made)) (from_marker v) y)) in
    let e2 : from_marker u ++ x ≡ from_marker v ++ y =
    after_same (made_line (reading_of u.head.made)) (made_line (reading_of v.head.made)) (from_marker u) (from_marker v) x y (ap (λ (t : ℕ). made_line (reading_of t)) made) version.1 in
    let t2 : List ℕ = from_marker u ++ x in
    let marker : u.head.marker ≡ v.head.marker =
    sym (marker_is t2 (from_unknown u ++ x) u.head.marker g.heading.marker (append_assoc (marker_line u.head.marker) (from_unknown u) x))
    ∙ marker_is t2 (from_unknown v ++ y) v.head.marker h.heading.marker (e2 ∙ append_assoc (marker_line v.head.marker) (from_unknown v) y) in
    let e3 : from_unknown u ++ x ≡ from_unknown v ++ y =
    after_same (marker_line u.head.marker) (marker_line v.head.marker) (from_unknown u) (from_unknown v) x y (ap marker_line marker) e2 in
    let e4 : from_place u ++ x ≡ from_place v ++ y = after_same unknown_lines unknown_lines (from_place u) (from_place v) x y refl e3 in
    let t4 : List ℕ = from_place u ++ x in
    let place_u = place_is t4 (from_height u ++ x) u.site g.site (append_assoc (place_line u.site) (from_height u) x) in
    let place_v = place_is t4 (from_height v ++ y) v.site h.site (e4 ∙ append_assoc (place_line v.site) (from_height v) y) in
    let px : u.site.x ≡ v.site.x = sym place_u.first ∙ place_v.first in
    let py : u.site.y ≡ v.site.y = sym place_u.second ∙ place_v.second in
    let pz : u.site.z ≡ v.site.z = sym place_u.third ∙ place_v.third in
    let e5 : from_height u ++ x ≡ from_height v ++ y =
    after_same (place_line u.site) (place_line v.site) (from_height u) (from_height v) x y (same_place u.site v.site px py pz) e4 in
    let t5 : List ℕ = from_height u ++ x in
    let height : u.site.height ≡ v.site.height =
    sym (height_is t5 (from_types u ++ x) u.site.height g.site.3 (append_assoc (height_line u.site.height) (from_types u) x))
    ∙ height_is t5 (from_types v ++ y) v.site.height h.site.3 (e5 ∙ append_assoc (height_line v.site.height) (from_types v) y) in
    let e6 : from_types u ++ x ≡ from_types v ++ y =
    after_same (height_line u.site.height) (height_line v.site.height) (from_types u) (from_types v) x y (ap height_line height) e5 in
    let lines : types_and_unit u.head.doppler u.head.listed ++ (from_first u ++ x) ≡ types_and_unit v.head.doppler v.head.listed ++ (from_first v ++ y) =
    sym (append_assoc (types_and_unit u.head.doppler u.head.listed) (from_first u) x) ∙ e6 ∙ append_assoc (types_and_unit v.head.doppler v.head.listed) (from_first v) y in
    let flag_u = types_flag u.head.doppler (version_letter u.head.listed) u.head.listed places (list_of u g) in
    let flag_v = types_flag v.head.doppler (version_letter v.head.listed) v.head.listed places (list_of v h) in
    let doppler : u.head.doppler ≡ v.head.doppler =
    sym (flag_after u.head.doppler (types_and_unit u.head.doppler u.head.listed) (from_first u ++ x) flag_u) ∙ ap shows_doppler lines
    ∙ flag_after v.head.doppler (types_and_unit v.head.doppler v.head.listed) (from_first v ++ y) flag_v in
    let types = one_list v.head.doppler (version_letter u.head.listed) (version_letter v.head.listed) u.head.listed v.head.listed (from_first u ++ x) (from_first v ++ y) places texts (list_of u g) (list_of v h)
    (ap (λ (d : Bool). types_and_unit d u.head.listed ++ (from_first u ++ x)) (sym doppler) ∙ lines) in
    let t7 : List ℕ = from_first u ++ x in
    let first : u.first ≡ v.first =
    same_moment u.first v.first g.first h.first
    (sym (first_is t7 (from_shift u ++ x) u.first g.first (append_assoc (first_line (reading_of u.first)) (from_shift u) x)).reading
    ∙ (first_is t7 (from_shift v ++ y) v.first h.first (types.1 ∙ append_assoc (first_line (reading_of v.first)) (from_shift v) y)).reading) in
    let e8 : from_shift u ++ x ≡ from_shift v ++ y =
    after_same (first_line (reading_of u.first)) (first_line (reading_of v.first)) (from_shift u) (from_shift v) x y (ap (λ (t : ℕ). first_line (reading_of t)) first) types.1 in
    let e9 : from_glonass u ++ x ≡ from_glonass v ++ y =
    after_same (by_system phase_shift_line u.head.listed) (by_system phase_shift_line v.head.listed) (from_glonass u) (from_glonass v) x y (ap (by_system phase_shift_line) types.0) e8 in
    let tells : TellsGlonass u.head.listed v.head.glonass = subst (λ (cs : List AnyCode). TellsGlonass cs v.head.glonass) (sym types.0) h.heading.glonass in
    let glonass = one_glonass u.head.listed u.head.glonass v.head.glonass (end_line ++ x) (end_line ++ y) g.heading.glonass tells
    (sym (append_assoc (glonass_lines u.head.glonass) end_line x) ∙ e9 ∙ append_assoc (glonass_lines v.head.glonass) end_line y) in (
      same_values u.head.marker v.head.marker u.head.listed v.head.listed u.head.glonass v.head.glonass u.head.made v.head.made u.head.doppler v.head.doppler u.site.x v.site.x u.site.y v.site.y u.site.z v.site.z
          u.site.height v.site.height u.first v.first marker types.0 glonass.0 made doppler px py pz height first,
      append_cancel_left end_line x y glonass.1,
    )
