-- Parts of a header one after another, each as a text: parts that are read where the part before them ends
-- as it is written, are read back.
use Rattle.std.proofs.Common.{◌≡◌, ℕ, List, [], ◌∷◌, ◌++◌, length, drop, refl, sym, ◌∙◌, ap, arith, append_assoc, length-append, inl, inr}
use Rattle.std.specs.Prelude.{All}
use Rattle.std.proofs.Math.Seq.{drop-append_seam}
use Rattle.std.proofs.lemmas.Bool.Decides.{leb_tells}
use Rattle.std.proofs.lemmas.Grind.{flat_map-append}
use Rattle.std.proofs.lemmas.List.{append-nil, drop-drop}
use Rattle.std.proofs.lemmas.List.Elements.{All-nil, All-cons, All-head, All-tail, All-append, All-same}
use Rattle.rtk_rinex.specs.Header.{header_line}
use Rattle.rtk_rinex.specs.Lines.{HasNoEnd, text_of}
use Rattle.rtk_rinex.specs.Steps.HeaderShown.{StartsWith}
use Rattle.rtk_rinex.specs.Steps.MixedHeaderRead.{Reads}
use Rattle.rtk_rinex.proofs.HeaderRowsLemmas.{row, row_ended, ended}
use Rattle.rtk_rinex.proofs.HeaderPartsLemmas.{same_lines}
use Rattle.rtk_rinex.proofs.LineLemmas.{same_front}

-- ---- texts of lines

-- a text of whole lines
pub record AreWhole (text : List ℕ) : Type 0 where
  pub lines : List (List ℕ)
  pub plain : All HasNoEnd lines
  pub is : text ≡ text_of lines

pub text_of-append : (xs ys : List (List ℕ)) → text_of (xs ++ ys) ≡ text_of xs ++ text_of ys
text_of-append xs ys = flat_map-append (λ (line : List ℕ). line ++ 10 ∷ []) xs ys

pub whole_then : (a b : List ℕ) → AreWhole a → AreWhole b → AreWhole (a ++ b)
whole_then a b h g = record {
  lines = h.lines ++ g.lines;
  plain = All-append HasNoEnd h.lines g.lines h.plain g.plain;
  is = ap (λ (x : List ℕ). x ++ b) h.is ∙ ap (λ (x : List ℕ). text_of h.lines ++ x) g.is ∙ sym (text_of-append h.lines g.lines);
}

pub whole_none : AreWhole []
whole_none = record { lines = []; plain = All-nil HasNoEnd; is = refl }

pub whole_line : (content label : List ℕ) → HasNoEnd (row content label) → AreWhole (header_line content label)
whole_line content label h = record {
  lines = row content label ∷ [];
  plain = All-cons HasNoEnd (row content label) [] h (All-nil HasNoEnd);
  is = row_ended content label ∙ sym (append-nil (ended (row content label)));
}

-- two lists without an element
none_of : {X : Type 0} (a b : List X) → a ++ b ≡ [] → (a ≡ []) × (b ≡ [])
none_of [] b e = (refl, e)
none_of (x ∷ a) b e = absurd (cc)

-- ---- one part after another

after_part : (text front part rest : List ℕ) → drop (length front) text ≡ part ++ rest → drop (length (front ++ part)) text ≡ rest
after_part text front part rest e =
    ap (λ (n : ℕ). drop n text) (length-append front part) ∙ sym (drop-drop (length part) (length front) text)
    ∙ ap (λ (x : List ℕ). drop (length part) x) e ∙ drop-append_seam part rest

tail_plain : (xs ys more : List (List ℕ)) → ys ≡ xs ++ more → All HasNoEnd ys → All HasNoEnd more
tail_plain [] ys more e h = All-same HasNoEnd more ys (sym e) h
tail_plain (x ∷ xs) ys more e h =
    tail_plain xs (xs ++ more) more refl (All-tail HasNoEnd x (xs ++ more) (All-same HasNoEnd (x ∷ (xs ++ more)) ys (sym e) h))

pub reads_then : {V : Type 0} (If Mid Then : V → Type 0) (part next : V → List ℕ) (text front written : List ℕ) (v : V)
    → ((u : V) → If u → AreWhole (part u)) → written ≡ front ++ part v
    → Reads If Mid part (drop (length front) text) v → Reads Mid Then next (drop (length written) text) v
    → Reads If Then (λ x. part x ++ next x) (drop (length front) text) v
reads_then If Mid Then part next text front written v each put first second u lines rest more given plain e t =
    let p = each u given in
    let whole : text_of lines ++ more ≡ text_of p.lines ++ next u = sym e ∙ ap (λ (x : List ℕ). x ++ next u) p.is in
    elim (leb_tells (length lines) (length p.lines)) [
      | inl within ↦
          let cut = same_lines lines p.lines more (next u) plain p.plain within.1 whole in
          let own : part u ≡ text_of lines ++ text_of cut.more = p.is ∙ ap text_of cut.list ∙ text_of-append lines cut.more in
          let r = first u lines rest (text_of cut.more) given plain own t in
          record {
            rest = r.rest ++ next v;
            begins = ap (λ (x : List ℕ). x ++ next v) r.begins ∙ append_assoc (text_of lines) r.rest (next v);
            whole = λ none.
                let both = none_of (text_of cut.more) (next u) (sym cut.text ∙ none) in
                let known = r.whole both.0 in
                let place : written ≡ front ++ text_of lines = put ∙ ap (λ (x : List ℕ). front ++ x) (r.begins ∙ ap (λ (x : List ℕ). text_of lines ++ x) known.0 ∙ append-nil (text_of lines)) in
                let on : drop (length written) text ≡ rest =
                ap (λ (x : List ℕ). drop (length x) text) place ∙ after_part text front (text_of lines) rest t in
                let s = second u [] rest [] known.1 (All-nil HasNoEnd) both.1 on in
                let left = s.whole refl in
                (ap (λ (x : List ℕ). x ++ next v) known.0 ∙ s.begins ∙ left.0, left.1);
          }
      | inr past ↦
          let cut = same_lines p.lines lines (next u) more p.plain plain (omega (arith, past.1)) (sym whole) in
          let split : drop (length front) text ≡ text_of p.lines ++ (text_of cut.more ++ rest) =
          t ∙ ap (λ (x : List ℕ). x ++ rest) (ap text_of cut.list ∙ text_of-append p.lines cut.more) ∙ append_assoc (text_of p.lines) (text_of cut.more) rest in
          let r = first u p.lines (text_of cut.more ++ rest) [] given p.plain (p.is ∙ sym (append-nil (text_of p.lines))) split in
          let known = r.whole refl in
          let same : part v ≡ text_of p.lines = r.begins ∙ ap (λ (x : List ℕ). text_of p.lines ++ x) known.0 ∙ append-nil (text_of p.lines) in
          let place : written ≡ front ++ text_of p.lines = put ∙ ap (λ (x : List ℕ). front ++ x) same in
          let on : drop (length written) text ≡ text_of cut.more ++ rest =
          ap (λ (x : List ℕ). drop (length x) text) place ∙ after_part text front (text_of p.lines) (text_of cut.more ++ rest) split in
          let more_plain : All HasNoEnd cut.more = tail_plain p.lines lines cut.more cut.list plain in
          let s = second u cut.more rest more known.1 more_plain cut.text on in
          record {
            rest = s.rest;
            begins = ap (λ (x : List ℕ). x ++ next v) same ∙ ap (λ (x : List ℕ). text_of p.lines ++ x) s.begins
                ∙ sym (append_assoc (text_of p.lines) (text_of cut.more) s.rest) ∙ ap (λ (x : List ℕ). x ++ s.rest) (sym (ap text_of cut.list ∙ text_of-append p.lines cut.more));
            whole = s.whole;
          }
    ]

-- ---- parts of one kind

-- a part that is always the same
pub reads_fixed : {V : Type 0} (If : V → Type 0) (part text : List ℕ) (v : V) → Reads If If (λ x. part) text v
reads_fixed If part text v u lines rest more given plain e t = record { rest = more; begins = e; whole = λ none. (none, given) }

-- a part that is known from what is read before it
pub reads_known : {V : Type 0} (If : V → Type 0) (part : V → List ℕ) (text : List ℕ) (v : V) → ((u : V) → If u → part v ≡ part u) → Reads If If part text v
reads_known If part text v same u lines rest more given plain e t = record { rest = more; begins = same u given ∙ e; whole = λ none. (none, given) }

-- no line is left of a line
one_left : (l : List ℕ) (ls : List (List ℕ)) (m more : List ℕ) → HasNoEnd l → HasNoEnd m → ended m ≡ text_of (l ∷ ls) ++ more → (m ≡ l) × ([] ≡ text_of ls ++ more)
one_left l ls m more h g e =
    let front : m ++ 10 ∷ [] ≡ l ++ 10 ∷ (text_of ls ++ more) = e ∙ append_assoc (ended l) (text_of ls) more ∙ append_assoc l (10 ∷ []) (text_of ls ++ more) in
    same_front m l [] (text_of ls ++ more) g h front

-- a part of one line, which shows a value
pub reads_line : {V : Type 0} (If Then : V → Type 0) (content label : V → List ℕ) (text : List ℕ) (v : V) → ((u : V) → If u → HasNoEnd (row (content u) (label u)))
    → ((u : V) → If u → StartsWith (header_line (content u) (label u)) text → (header_line (content v) (label v) ≡ header_line (content u) (label u)) × Then u)
    → Reads If Then (λ x. header_line (content x) (label x)) text v
reads_line If Then content label text v each shows u [] rest more given plain e t = record {
  rest = header_line (content v) (label v);
  begins = refl;
  whole = λ none. absurd (let some = row_ended (content u) (label u) in let size = ap length (sym some ∙ e ∙ none) in omega (arith, size, length-append (row (content u) (label u)) (10 ∷ [])));
}
reads_line If Then content label text v each shows u (l ∷ ls) rest more given plain e t =
    let one = one_left l ls (row (content u) (label u)) more (All-head HasNoEnd l ls plain) (each u given) (sym (row_ended (content u) (label u)) ∙ e) in
    let left = none_of (text_of ls) more (sym one.1) in
    let begins : text ≡ header_line (content u) (label u) ++ (text_of ls ++ rest) =
    t ∙ append_assoc (ended l) (text_of ls) rest ∙ ap (λ (x : List ℕ). ended x ++ (text_of ls ++ rest)) (sym one.0) ∙ ap (λ (x : List ℕ). x ++ (text_of ls ++ rest)) (sym (row_ended (content u) (label u))) in
    let r = shows u given (text_of ls ++ rest, begins) in
    record { rest = more; begins = r.0 ∙ e; whole = λ none. (none, r.1) }

-- parts of a value of the values
pub reads_at : {V W : Type 0} (value : V → W) (If Then : W → Type 0) (also : V → Type 0) (part : W → List ℕ) (text : List ℕ) (v : V)
    → Reads If Then part text (value v) → Reads (λ u. also u × If (value u)) (λ u. also u × Then (value u)) (λ x. part (value x)) text v
reads_at value If Then also part text v h u lines rest more given plain e t =
    let r = h (value u) lines rest more given.1 plain e t in
    record { rest = r.rest; begins = r.begins; whole = λ none. ((r.whole none).0, (given.0, (r.whole none).1)) }

-- more is given, or less is told
pub reads_from : {V : Type 0} (If Then More Less : V → Type 0) (part : V → List ℕ) (text : List ℕ) (v : V) → ((u : V) → More u → If u) → ((u : V) → More u → Then u → Less u)
    → Reads If Then part text v → Reads More Less part text v
reads_from If Then More Less part text v weaker told h u lines rest more given plain e t =
    let r = h u lines rest more (weaker u given) plain e t in
    record { rest = r.rest; begins = r.begins; whole = λ none. ((r.whole none).0, told u given (r.whole none).1) }
