-- A header has one fault at most, and a text with such a fault begins with no header.
use Rattle.std.proofs.Common.{◌≡◌, ℕ, ◌≤◌, List, [], ◌∷◌, ◌++◌, length, refl, sym, ◌∙◌, ap, arith, append_assoc, length-append, inl, inr}
use Rattle.std.specs.Prelude.{All}
use Rattle.std.proofs.lemmas.Bool.Decides.{leb_tells}
use Rattle.std.proofs.lemmas.Grind.{flat_map-append}
use Rattle.std.proofs.lemmas.List.{append-nil}
use Rattle.std.proofs.lemmas.List.Elements.{All-nil, All-head, All-tail}
use Rattle.rtk_rinex.specs.declared.check_fault.Cause.{Cause}
use Rattle.rtk_rinex.specs.declared.check_fault.Cause.TheVariants.{HeaderLine, Columns, Value, Order, Truncated, OutOfMemory}
use Rattle.rtk_rinex.specs.Header.{header_text}
use Rattle.rtk_rinex.specs.Lines.{HasNoEnd, text_of}
use Rattle.rtk_rinex.specs.HeaderFault.{AreLines, IsHeader, BeginsHeader, BeginsTable, IsLineFault, IsFaultAfter}
use Rattle.rtk_rinex.specs.Steps.HeaderRead.{HasHeader}
use Rattle.rtk_rinex.specs.Table.{IsTableEpoch}
use Rattle.rtk_rinex.proofs.HeaderRowsLemmas.{ended, Values, IsGood, text_with}
use Rattle.rtk_rinex.proofs.HeaderPartsLemmas.{lines-front, same_lines, are_lines, one_header}
use Rattle.rtk_rinex.proofs.LineLemmas.{no_front, same_front}
use Rattle.rtk_rinex.proofs.TextLemmas.{line_bytes}

-- ---- the lines of a text

pub no_text : (more : List (List ℕ)) (x : List ℕ) → text_of more ++ x ≡ [] → length more ≡ 0
no_text more x e =
    let size = ap length e in
    omega (arith, size, line_bytes more, length-append (text_of more) x)

not_fewer : (n m : ℕ) (text : List ℕ) → AreLines n text → AreLines m text → n ≤ m → n ≡ m
not_fewer n m text a b le =
    let goes = same_lines a.0 b.0 [] [] a.1 b.1 (omega (arith, a.2, b.2, le)) (append-nil (text_of a.0) ∙ sym a.3 ∙ b.3 ∙ sym (append-nil (text_of b.0))) in
    let none = no_text goes.more [] (sym goes.text) in
    let size = ap length goes.list in
    omega (arith, a.2, b.2, size, none, length-append a.0 goes.more)

-- a text has one number of lines
pub one_number : (n m : ℕ) (text : List ℕ) → AreLines n text → AreLines m text → n ≡ m
one_number n m text a b =
    elim (leb_tells n m) [
      | inl low ↦ not_fewer n m text a b low.1
      | inr high ↦ sym (not_fewer m n text b a (omega (arith, high.1)))
    ]

-- ---- the line with the fault

-- after n lines, which begin a header and are no whole one, stands a line with this fault
pub record HasFaultAfter (n : ℕ) (bytes : List ℕ) (cause : Cause) : Type 0 where
  pub lines : List (List ℕ)
  pub rest : List ℕ
  pub are_lines : All HasNoEnd lines
  pub size : length lines ≡ n
  pub text : bytes ≡ text_of lines ++ rest
  pub begins : BeginsHeader (text_of lines)
  pub part : ¬ (IsHeader (text_of lines))
  pub fault : IsLineFault (text_of lines) rest cause

pub has-fault-after : (n : ℕ) (bytes : List ℕ) (cause : Cause) → IsFaultAfter n bytes cause → HasFaultAfter n bytes cause
has-fault-after n bytes cause b =
    let front : b.0 ≡ text_of b.2.0 = b.2.3 in
    record {
      lines = b.2.0;
      rest = b.1;
      are_lines = b.2.1;
      size = b.2.2;
      text = rw front at b.3;
      begins = rw front at b.4;
      part = rw front at b.5;
      fault = rw front at b.6;
    }

-- a header is a table without epochs
table_begins : (text x : List ℕ) → IsHeader (text ++ x) → BeginsTable text
table_begins text x h = (
  record { head = h.0; site = h.1; first = h.2; epochs = [] },
  x,
  record {
    head = h.3;
    site = h.4;
    first = h.5;
    starts = tt;
    epochs = All-nil (IsTableEpoch (length h.0.listed));
    rise = λ i j d low high. absurd (omega arith);
  },
  append-nil (header_text h.0 h.1 h.2) ∙ sym h.6,
)

-- no header goes on with the line that has the fault
no_next : (front rest : List ℕ) (cause : Cause) (l y x : List ℕ) → IsLineFault front rest cause → HasNoEnd l
    → rest ≡ l ++ 10 ∷ y → IsHeader ((front ++ l ++ 10 ∷ []) ++ x) → ⊥
no_next front rest HeaderLine l y x f is e h =
    let same = same_front l f.0 y f.1 is f.2 (sym e ∙ f.3) in
    f.4 (rw same.0 at (table_begins (front ++ l ++ 10 ∷ []) x h))
no_next front rest Truncated l y x f is e h = no_front l y (rw e at f)
no_next front rest Columns l y x f is e h = f
no_next front rest Value l y x f is e h = f
no_next front rest Order l y x f is e h = f
no_next front rest OutOfMemory l y x f is e h = f

pub more_lines : (ls ms : List (List ℕ)) → All HasNoEnd (ls ++ ms) → All HasNoEnd ms
more_lines [] ms h = h
more_lines (l ∷ ls) ms h = more_lines ls ms (All-tail HasNoEnd l (ls ++ ms) h)

goes_on : (n : ℕ) (bytes : List ℕ) (cause : Cause) (a : HasFaultAfter n bytes cause) (ms : List (List ℕ)) (l : List ℕ) (more : List (List ℕ)) (y z : List ℕ)
    → All HasNoEnd ms → ms ≡ a.lines ++ l ∷ more → a.rest ≡ text_of (l ∷ more) ++ y → IsHeader (text_of ms ++ z) → ⊥
goes_on n bytes cause a ms l more y z is e text h =
    let good : All HasNoEnd (a.lines ++ l ∷ more) = rw e at is in
    let line = All-head HasNoEnd l more (more_lines a.lines (l ∷ more) good) in
    let front : List ℕ = text_of a.lines in
    let all : text_of ms ++ z ≡ (front ++ text_of (l ∷ more)) ++ z = ap (λ (t : List ℕ). t ++ z) (ap text_of e ∙ flat_map-append ended a.lines (l ∷ more)) in
    let split : (front ++ text_of (l ∷ more)) ++ z ≡ (front ++ l ++ 10 ∷ []) ++ (text_of more ++ z) = simp append_assoc in
    let whole : text_of ms ++ z ≡ (front ++ l ++ 10 ∷ []) ++ (text_of more ++ z) = all ∙ split in
    no_next front a.rest cause l (text_of more ++ y) (text_of more ++ z) a.fault line (text ∙ lines-front l more y) (rw whole at h)

-- ---- a text with a fault in the header begins with no header

no_header_more : (n : ℕ) (bytes : List ℕ) (cause : Cause) (a : HasFaultAfter n bytes cause) (ms more : List (List ℕ)) (y : List ℕ)
    → All HasNoEnd ms → ms ≡ a.lines ++ more → a.rest ≡ text_of more ++ y → IsHeader (text_of ms) → ⊥
no_header_more n bytes cause a ms [] y is e text h =
    let same : ms ≡ a.lines = e ∙ append-nil a.lines in
    a.part (rw same at h)
no_header_more n bytes cause a ms (l ∷ more) y is e text h =
    goes_on n bytes cause a ms l more y [] is e text (rw (append-nil (text_of ms)) h)

-- a header that ends before the fault is no part of another one
no_longer : (n : ℕ) (bytes : List ℕ) (cause : Cause) (a : HasFaultAfter n bytes cause) (v : Values) (ms more : List (List ℕ))
    → IsGood v → text_with v ≡ text_of ms → a.lines ≡ ms ++ more → length more ≡ 0
no_longer n bytes cause a v ms more g e list =
    let b = a.begins.1 in
    let x = a.begins.0 in
    let u : Values = record { head = b.0; site = b.1; first = b.2 } in
    let good : IsGood u = record { heading = b.3; site = b.4; first = b.5 } in
    let text : text_of a.lines ≡ text_with v ++ text_of more =
    ap text_of list ∙ flat_map-append ended ms more ∙ ap (λ (f : List ℕ). f ++ text_of more) (sym e) in
    let whole : text_with v ++ (text_of more ++ x) ≡ text_with u ++ [] =
    sym (append_assoc (text_with v) (text_of more) x) ∙ ap (λ (f : List ℕ). f ++ x) (sym text) ∙ b.6 ∙ sym (append-nil (text_with u)) in
    let one = one_header v u (text_of more ++ x) [] g good whole in
    no_text more x one.rest

pub no_header : (n : ℕ) (bytes : List ℕ) (cause : Cause) → HasFaultAfter n bytes cause → ¬ (HasHeader bytes)
no_header n bytes cause a has =
    let v : Values = record { head = has.2.0; site = has.2.1; first = has.2.2 } in
    let g : IsGood v = record { heading = has.2.3; site = has.2.4; first = has.2.5 } in
    let lines = are_lines v g in
    let ms = lines.0 in
    let header : text_with v ≡ text_of ms = lines.3 in
    let text : bytes ≡ text_of ms ++ has.1 = has.3 ∙ ap (λ (f : List ℕ). f ++ has.1) (has.2.6 ∙ header) in
    elim (leb_tells (length a.lines) (length ms)) [
      | inl low ↦
          let goes = same_lines a.lines ms a.rest has.1 a.are_lines lines.1 low.1 (sym a.text ∙ text) in
          no_header_more n bytes cause a ms goes.more has.1 lines.1 goes.list goes.text (v.head, v.site, v.first, g.heading, g.site, g.first, sym header)
      | inr high ↦
          let goes = same_lines ms a.lines has.1 a.rest lines.1 a.are_lines (omega (arith, high.1)) (sym text ∙ a.text) in
          let none = no_longer n bytes cause a v ms goes.more g header goes.list in
          let size = ap length goes.list in
          omega (arith, size, none, high.1, length-append ms goes.more)
    ]

-- ---- two faults of a header

one_line_cause : (front other rest : List ℕ) (c d : Cause) → IsLineFault front rest c → IsLineFault other rest d → c ≡ d
one_line_cause front other rest HeaderLine HeaderLine a b = refl
one_line_cause front other rest HeaderLine Truncated a b = absurd (no_front a.0 a.1 (rw a.3 at b))
one_line_cause front other rest HeaderLine Columns a b = absurd b
one_line_cause front other rest HeaderLine Value a b = absurd b
one_line_cause front other rest HeaderLine Order a b = absurd b
one_line_cause front other rest HeaderLine OutOfMemory a b = absurd b
one_line_cause front other rest Truncated HeaderLine a b = absurd (no_front b.0 b.1 (rw b.3 at a))
one_line_cause front other rest Truncated Truncated a b = refl
one_line_cause front other rest Truncated Columns a b = absurd b
one_line_cause front other rest Truncated Value a b = absurd b
one_line_cause front other rest Truncated Order a b = absurd b
one_line_cause front other rest Truncated OutOfMemory a b = absurd b
one_line_cause front other rest Columns d a b = absurd a
one_line_cause front other rest Value d a b = absurd a
one_line_cause front other rest Order d a b = absurd a
one_line_cause front other rest OutOfMemory d a b = absurd a

lines_with_more : (n m : ℕ) (bytes : List ℕ) (c d : Cause) (a : HasFaultAfter n bytes c) (b : HasFaultAfter m bytes d) (more : List (List ℕ))
    → b.lines ≡ a.lines ++ more → a.rest ≡ text_of more ++ b.rest → (n ≡ m) × (c ≡ d)
lines_with_more n m bytes c d a b [] e text =
    let size = ap length (e ∙ append-nil a.lines) in
    let fault : IsLineFault (text_of b.lines) a.rest d = rw text b.fault in
    (omega (arith, size, a.size, b.size), one_line_cause (text_of a.lines) (text_of b.lines) a.rest c d a.fault fault)
lines_with_more n m bytes c d a b (l ∷ more) e text =
    absurd (goes_on n bytes c a b.lines l more b.rest b.begins.0 b.are_lines e text b.begins.1)

lines_ordered : (n m : ℕ) (bytes : List ℕ) (c d : Cause) → HasFaultAfter n bytes c → HasFaultAfter m bytes d
    → n ≤ m → (n ≡ m) × (c ≡ d)
lines_ordered n m bytes c d a b le =
    let goes = same_lines a.lines b.lines a.rest b.rest a.are_lines b.are_lines (omega (arith, a.size, b.size, le)) (sym a.text ∙ b.text) in
    lines_with_more n m bytes c d a b goes.more goes.list goes.text

pub one_of_header : (n m : ℕ) (bytes : List ℕ) (c d : Cause) → HasFaultAfter n bytes c → HasFaultAfter m bytes d
    → (n ≡ m) × (c ≡ d)
one_of_header n m bytes c d a b =
    elim (leb_tells n m) [
      | inl low ↦ lines_ordered n m bytes c d a b low.1
      | inr high ↦
          let turned = lines_ordered m n bytes d c b a (omega (arith, high.1)) in
          (sym turned.0, sym turned.1)
    ]
