-- The third observation type of the first code of a header shows whether the file has Doppler shifts.
use Rattle.std.proofs.Common.{◌≡◌, ◌≢◌, ℕ, zero, suc, ◌+◌, ◌*◌, ◌<◌, ◌≤◌, List, [], ◌∷◌, ◌++◌, length, take, drop, get_or, codes, arith, refl, sym, ◌∙◌, ap, subst, append_assoc, length-append, inl, inr, Bool, true, false, ◌==◌}
use Rattle.std.specs.Prelude.{All}
use Rattle.std.proofs.Math.ListN.{get_or-append}
use Rattle.std.proofs.lemmas.List.Elements.{All-nil, All-cons, All-head, All-tail}
use Rattle.rtk_obs.specs.declared.any_code.AnyCode.{AnyCode}
use Rattle.rtk_obs.specs.AnyCode.{name_of}
use Rattle.rtk_rinex.specs.Header.{header_line, types_label, continuation_line}
use Rattle.rtk_rinex.specs.Lines.{HasNoEnd, text_of}
use Rattle.rtk_rinex.specs.MixedHeader.{codes_of, code_types, types_count, types_text, system_types_lines}
use Rattle.rtk_rinex.specs.Steps.MixedRoom.{codes_of_letter}
use Rattle.rtk_rinex.specs.Steps.MixedHeaderRead.{IsGroup, shows_doppler, types_and_unit, IsListOf}
use Rattle.rtk_rinex.proofs.GroupLemmas.{first_line, first_of, length-first, of_first, of_types_text}
use Rattle.rtk_rinex.proofs.HeaderGoodLemmas.{known}
use Rattle.rtk_rinex.proofs.HeaderRowsLemmas.{ended}
use Rattle.rtk_rinex.proofs.LineLemmas.{same_front}
use Rattle.rtk_rinex.proofs.MixedListLemmas.{HaveOnePlace}
use Rattle.rtk_rinex.proofs.MixedRoomLemmas.{length-name, length-types_text}
use Rattle.rtk_rinex.proofs.SystemLinesLemmas.{from, types_from}
use Rattle.rtk_rinex.proofs.SystemOrderLemmas.{in_groups, seven}
use Rattle.rtk_rinex.proofs.SystemsReadLemmas.{group_or_none}
use Rattle.rtk_rinex.proofs.TypesPieceLemmas.{piece_line, piece_at, length-piece_line, of_piece}

-- ---- one character

at_end : (xs : List ℕ) (y : ℕ) (ys : List ℕ) (k : ℕ) → length xs ≡ k → get_or (xs ++ y ∷ ys) k 0 ≡ y
at_end [] y ys zero e = refl
at_end [] y ys (suc k) e = absurd (omega (arith, e))
at_end (x ∷ xs) y ys zero e = absurd (omega (arith, e))
at_end (x ∷ xs) y ys (suc k) e = at_end xs y ys k (omega (arith, e))

one_char : (n : ℕ) (xs : List ℕ) → get_or (take 1 (drop n xs)) 0 0 ≡ get_or xs n 0
one_char zero [] = refl
one_char zero (x ∷ xs) = refl
one_char (suc n) [] = refl
one_char (suc n) (x ∷ xs) = one_char n xs

-- what stands before the letter of the third type of a code
front_of : AnyCode → List ℕ
front_of c = codes " C" ++ name_of c ++ codes " L" ++ name_of c ++ codes " "

length-front : (c : AnyCode) → length (front_of c) ≡ 9
unfolding front_of
length-front c = simp length-append (omega (arith, length-name c))

three_front : (c : AnyCode) (rest : List ℕ) → code_types false c ++ rest ≡ front_of c ++ 83 ∷ (name_of c ++ rest)
unfolding front_of
three_front c rest = simp append_assoc

four_front : (c : AnyCode) (rest : List ℕ) → code_types true c ++ rest ≡ front_of c ++ 68 ∷ (name_of c ++ (codes " S" ++ (name_of c ++ rest)))
unfolding front_of
four_front c rest = simp append_assoc

third_type : (doppler : Bool) (c : AnyCode) (rest : List ℕ) → (get_or (code_types doppler c ++ rest) 9 0 == 68) ≡ doppler
third_type false c rest =
    ap (λ (t : List ℕ). get_or t 9 0 == 68) (three_front c rest) ∙ ap (λ (x : ℕ). x == 68) (at_end (front_of c) 83 (name_of c ++ rest) 9 (length-front c))
third_type true c rest =
    ap (λ (t : List ℕ). get_or t 9 0 == 68) (four_front c rest)
    ∙ ap (λ (x : ℕ). x == 68) (at_end (front_of c) 68 (name_of c ++ (codes " S" ++ (name_of c ++ rest))) 9 (length-front c))

-- ---- the first line

-- a text begins with a line that shows this
pub record HasFlag (doppler : Bool) (text : List ℕ) : Type 0 where
  pub row : List ℕ
  pub rest : List ℕ
  pub plain : HasNoEnd row
  pub long : 15 < length row
  pub flag : (get_or row 15 0 == 68) ≡ doppler
  pub is : text ≡ ended row ++ rest

row_flag : (doppler : Bool) (row rest : List ℕ) → 15 < length row → (get_or row 15 0 == 68) ≡ doppler → shows_doppler (ended row ++ rest) ≡ doppler
row_flag doppler row rest long flag =
    let more = length-append row (10 ∷ []) in
    ap (λ (x : ℕ). x == 68) (get_or-append (ended row) rest 0 15 (omega (arith, more, long)) ∙ get_or-append row (10 ∷ []) 0 15 long) ∙ flag

-- such a text, and whatever stands after it, shows it
pub flag_after : (doppler : Bool) (text more : List ℕ) → HasFlag doppler text → shows_doppler (text ++ more) ≡ doppler
flag_after doppler text more h =
    ap shows_doppler (ap (λ (t : List ℕ). t ++ more) h.is ∙ append_assoc (ended h.row) h.rest more) ∙ row_flag doppler h.row (h.rest ++ more) h.long h.flag

-- so does a text that begins with some of its lines
pub flag_read : (doppler : Bool) (part : List ℕ) (l : List ℕ) (ls : List (List ℕ)) (more rest : List ℕ) → HasFlag doppler part → All HasNoEnd (l ∷ ls) → part ≡ text_of (l ∷ ls) ++ more
    → shows_doppler (text_of (l ∷ ls) ++ rest) ≡ doppler
flag_read doppler part l ls more rest h plain e =
    let ends : l ++ 10 ∷ (text_of ls ++ more) ≡ h.row ++ 10 ∷ h.rest =
    sym (append_assoc l (10 ∷ []) (text_of ls ++ more)) ∙ sym (append_assoc (ended l) (text_of ls) more) ∙ sym e ∙ h.is ∙ append_assoc h.row (10 ∷ []) h.rest in
    let same = same_front l h.row (text_of ls ++ more) h.rest (All-head HasNoEnd l ls plain) h.plain ends in
    ap shows_doppler (append_assoc (ended l) (text_of ls) rest ∙ ap (λ (t : List ℕ). ended t ++ (text_of ls ++ rest)) same.0) ∙ row_flag doppler h.row (text_of ls ++ rest) h.long h.flag

-- ---- the lines of the types

ten_types : (doppler : Bool) (n len : ℕ) → len ≡ 4 * types_count doppler * n → 1 ≤ n → 52 * 0 + (9 + 1) ≤ len
ten_types false n len e some = omega (arith, e, some)
ten_types true n len e some = omega (arith, e, some)

first_apart : (a b c d e x : List ℕ) → ((((a ++ b) ++ c) ++ d) ++ e) ++ x ≡ a ++ ((((b ++ c) ++ d) ++ e) ++ x)
first_apart a b c d e x = simp append_assoc

pub lines_flag : (doppler : Bool) (s : ℕ) (cs : List AnyCode) (next : List ℕ) → s ≢ 10 → 1 ≤ length cs → length cs ≤ 16 → HasFlag doppler (system_types_lines doppler s cs ++ next)
lines_flag doppler s [] next plain some few = absurd (omega (arith, some))
lines_flag doppler s (c ∷ cs) next plain some few =
    let n = length (c ∷ cs) in
    let first : List ℕ = first_of doppler s n in
    let text : List ℕ = types_text doppler (c ∷ cs) in
    let six = length-first doppler s n few in
    let row : List ℕ = piece_line first types_label text 0 in
    let b : List ℕ = continuation_line (drop 52 text) in
    let d : List ℕ = continuation_line (drop 104 text) in
    let e : List ℕ = continuation_line (drop 156 text) in
    let f : List ℕ = continuation_line (drop 208 text) in
    let long : length row ≡ 80 = length-piece_line first types_label text 0 six (omega arith) in
    let enough : 52 * 0 + (9 + 1) ≤ length text = ten_types doppler n (length text) (length-types_text doppler (c ∷ cs)) some in
    let shown : take 1 (drop (6 + 9) (ended row)) ≡ take 1 (drop (52 * 0 + 9) text) = piece_at (ended row) first types_label text 0 9 1 six refl (omega arith) enough in
    let char : get_or row 15 0 ≡ get_or text 9 0 =
    sym (get_or-append row (10 ∷ []) 0 15 (omega (arith, long))) ∙ sym (one_char 15 (ended row)) ∙ ap (λ (t : List ℕ). get_or t 0 0) shown ∙ one_char 9 text in
    record {
      row = row;
      rest = (((b ++ d) ++ e) ++ f) ++ next;
      plain = of_piece first types_label text 0 (of_first doppler s n plain few) (known types_label refl) (of_types_text doppler (c ∷ cs));
      long = omega (arith, long);
      flag = ap (λ (x : ℕ). x == 68) char ∙ third_type doppler c (types_text doppler cs);
      is = first_apart (header_line (first ++ take 52 text) types_label) b d e f next ∙ ap (λ (t : List ℕ). t ++ ((((b ++ d) ++ e) ++ f) ++ next)) (first_line first text);
    }

group_flag : (doppler : Bool) (s : ℕ) (cs : List AnyCode) (next : List ℕ) → s ≢ 10 → IsGroup s cs → HasFlag doppler (system_types_lines doppler s cs ++ next)
group_flag doppler s cs next plain group = lines_flag doppler s cs next plain group.count.0 group.count.1

-- ---- all systems

-- a letter of a system
abbrev IsLetter : ℕ → Type 0
IsLetter s = (s ≢ 10) × (codes_of_letter s ≤ 16)

from_flag : (doppler : Bool) (file : ℕ) (ss : List ℕ) (cs : List AnyCode) → HaveOnePlace → IsListOf file cs → All IsLetter ss → (All (λ s. codes_of s cs ≡ []) ss → ⊥)
    → HasFlag doppler (from doppler ss cs)
from_flag doppler file [] cs place good letters some = absurd (some (All-nil (λ s. codes_of s cs ≡ [])))
from_flag doppler file (s ∷ ss) cs place good letters some =
    let is = All-head IsLetter s ss letters in
    elim (group_or_none file s cs place is.1 good) [
      | inl none ↦
          let rest = from_flag doppler file ss cs place good (All-tail IsLetter s ss letters) (λ all. some (All-cons (λ s. codes_of s cs ≡ []) s ss none all)) in
          subst (HasFlag doppler) (ap (λ (x : List AnyCode). system_types_lines doppler s x ++ from doppler ss cs) (sym none)) rest
      | inr group ↦ group_flag doppler s (codes_of s cs) (from doppler ss cs) is.0 group
    ]

all_none : (a b c d e f g : List AnyCode) → a ≡ [] → b ≡ [] → c ≡ [] → d ≡ [] → e ≡ [] → f ≡ [] → g ≡ [] → seven a b c d e f g ≡ []
all_none a b c d e f g p q r s t u v = rw (p, q, r, s, t, u, v) refl

letters_are : All IsLetter (codes "GRECJSI")
letters_are =
    All-cons IsLetter 71 (codes "RECJSI") (λ z. omega (arith, z), omega arith)
    (All-cons IsLetter 82 (codes "ECJSI") (λ z. omega (arith, z), omega arith)
    (All-cons IsLetter 69 (codes "CJSI") (λ z. omega (arith, z), omega arith)
    (All-cons IsLetter 67 (codes "JSI") (λ z. omega (arith, z), omega arith)
    (All-cons IsLetter 74 (codes "SI") (λ z. omega (arith, z), omega arith)
    (All-cons IsLetter 83 (codes "I") (λ z. omega (arith, z), omega arith)
    (All-cons IsLetter 73 [] (λ z. omega (arith, z), omega arith) (All-nil IsLetter)))))))

pub types_flag : (doppler : Bool) (file : ℕ) (cs : List AnyCode) → HaveOnePlace → IsListOf file cs → HasFlag doppler (types_and_unit doppler cs)
types_flag doppler file cs place good =
    let some : All (λ s. codes_of s cs ≡ []) (codes "GRECJSI") → ⊥ = λ none.
    let nothing : cs ≡ [] =
    in_groups cs good.list.order
    ∙ all_none (codes_of 71 cs) (codes_of 82 cs) (codes_of 69 cs) (codes_of 67 cs) (codes_of 74 cs) (codes_of 83 cs) (codes_of 73 cs)
    (none 0 0 (omega arith)) (none 1 0 (omega arith)) (none 2 0 (omega arith)) (none 3 0 (omega arith)) (none 4 0 (omega arith)) (none 5 0 (omega arith)) (none 6 0 (omega arith)) in
    let size = ap length nothing in
    omega (arith, size, good.list.count) in
    subst (HasFlag doppler) (sym (types_from doppler cs)) (from_flag doppler file (codes "GRECJSI") cs place good letters_are some)
