-- With the first line in which a text differs from the header that it shows, no header begins; so
-- the text begins with no header.
use Rattle.std.proofs.Common.{◌≡◌, ◌≢◌, ℕ, ◌+◌, ◌≤◌, List, [], ◌∷◌, ◌++◌, length, take, drop, refl, sym, ◌∙◌, ap, arith, append_assoc, length-append, flat_map, inl, inr}
use Rattle.std.specs.Prelude.{All}
use Rattle.std.proofs.lemmas.Bool.Decides.{leb_tells}
use Rattle.std.proofs.lemmas.Grind.{flat_map-append}
use Rattle.std.proofs.Math.Seq.{drop-append_seam, take-append_seam}
use Rattle.std.proofs.lemmas.List.{append-nil, append_cancel_left, take-append-drop}
use Rattle.std.proofs.lemmas.List.Elements.{All-nil, All-cons, All-head, All-tail, All-append}
use Rattle.rtk_rinex.specs.HeaderFault.{AreLines, BeginsTable, IsLineFault, IsFaultOfHeader}
use Rattle.rtk_rinex.specs.Lines.{HasNoEnd, IsLine, text_of}
use Rattle.rtk_rinex.specs.Record.{record_text}
use Rattle.rtk_rinex.specs.Steps.HeaderRead.{IsOnlyHeader, ShowsHeader, BeginAlike, IsLineCause, IsUnlike}
use Rattle.rtk_rinex.specs.declared.check_fault.Cause.{Cause}
use Rattle.rtk_rinex.specs.declared.check_fault.Cause.TheVariants.{HeaderLine, Columns, Value, Order, Truncated, OutOfMemory}
use Rattle.rtk_rinex.specs.declared.check_fault.CheckFault.{CheckFault}
use Rattle.rtk_rinex.proofs.HeaderRowsLemmas.{ended, Values, IsGood, text_with, all_parts, all_text}
use Rattle.rtk_rinex.proofs.HeaderGoodLemmas.{all_lines}
use Rattle.rtk_rinex.proofs.HeaderTypesLemmas.{HaveOneName}
use Rattle.rtk_rinex.proofs.HeaderPartsLemmas.{lines-front, same_lines, one_header}
use Rattle.rtk_rinex.proofs.LineLemmas.{no_front, same_front}

-- ---- lines that two texts have alike

pub none_alike : (text other : List ℕ) → BeginAlike 0 text other text other
none_alike text other = record { lines = []; are_lines = All-nil HasNoEnd; size = refl; begins = refl; other_begins = refl }

pub more_text : (lines : List (List ℕ)) (line rest : List ℕ) → text_of lines ++ (line ++ 10 ∷ rest) ≡ text_of (lines ++ line ∷ []) ++ rest
more_text lines line rest =
    sym (ap (λ (t : List ℕ). t ++ rest) (flat_map-append (λ (l : List ℕ). l ++ 10 ∷ []) lines (line ∷ [])) ∙ simp append_assoc)

-- one more line that both have
pub alike_on : (n : ℕ) (text written rest wanted line more : List ℕ) → BeginAlike n text written rest wanted → IsLine line → wanted ≡ line ++ more → take (length line) rest ≡ line
    → BeginAlike (n + 1) text written (drop (length line) rest) more
alike_on n text written rest wanted line more a is e same =
    let split : rest ≡ line ++ drop (length line) rest = sym (take-append-drop (length line) rest) ∙ ap (λ (l : List ℕ). l ++ drop (length line) rest) same in
    let on : (x y : List ℕ) → x ≡ line ++ y → x ≡ is.0 ++ 10 ∷ y = λ x y f. f ∙ ap (λ (l : List ℕ). l ++ y) is.2 ∙ append_assoc is.0 (10 ∷ []) y in
    record {
      lines = a.lines ++ is.0 ∷ [];
      are_lines = All-append HasNoEnd a.lines (is.0 ∷ []) a.are_lines (All-cons HasNoEnd is.0 [] is.1 (All-nil HasNoEnd));
      size = length-append a.lines (is.0 ∷ []) ∙ omega (arith, a.size);
      begins = a.begins ∙ ap (λ (x : List ℕ). text_of a.lines ++ x) (on rest (drop (length line) rest) split) ∙ more_text a.lines is.0 (drop (length line) rest);
      other_begins = a.other_begins ∙ ap (λ (x : List ℕ). text_of a.lines ++ x) (on wanted more e) ∙ more_text a.lines is.0 more;
    }

-- a line that the text does not have
pub unlike_at : (n : ℕ) (text written rest wanted line more : List ℕ) (f : CheckFault) → BeginAlike n text written rest wanted → IsLine line → wanted ≡ line ++ more
    → take (length line) rest ≢ line → f.line ≡ n + 1 → IsLineCause rest f.cause → IsUnlike text written f
unlike_at n text written rest wanted line more f a is e other number cause =
    let front : (y : List ℕ) → line ++ y ≡ is.0 ++ 10 ∷ y = λ y. ap (λ (l : List ℕ). l ++ y) is.2 ∙ append_assoc is.0 (10 ∷ []) y in
    record {
      before = n;
      rest = rest;
      line = is.0;
      more = more;
      number = number;
      alike = rw (e ∙ front more) at a;
      is_line = is.1;
      unlike = λ after same. other (ap (take (length line)) (same ∙ sym (front after)) ∙ take-append_seam line after);
      cause = cause;
    }

-- ---- a text that has all lines of a header

-- no part of a line is left of a text of lines
pub none_left : (ls ms : List (List ℕ)) (end : List ℕ) → All HasNoEnd ls → All HasNoEnd ms → HasNoEnd end → text_of ms ≡ text_of ls ++ end → end ≡ []
none_left [] [] end h g none e = sym e
none_left [] (m ∷ ms) end h g none e =
    let whole : end ≡ m ++ 10 ∷ text_of ms = sym e ∙ append_assoc m (10 ∷ []) (text_of ms) in
    absurd (no_front m (text_of ms) (rw whole at none))
none_left (l ∷ ls) [] end h g none e =
    absurd (let size = ap length e in omega (arith, size, length-append (text_of (l ∷ ls)) end, length-append (ended l) (text_of ls), length-append l (10 ∷ [])))
none_left (l ∷ ls) (m ∷ ms) end h g none e =
    let one = same_front m l (text_of ms) (text_of ls ++ end) (All-head HasNoEnd m ms g) (All-head HasNoEnd l ls h)
    (sym (append_assoc m (10 ∷ []) (text_of ms)) ∙ e ∙ lines-front l ls end) in
    none_left ls ms end (All-tail HasNoEnd l ls h) (All-tail HasNoEnd m ms g) none one.1

-- a text has all lines of the header that is written
pub record HasAll (n : ℕ) (text written : List ℕ) : Type 0 where
  pub begins : text ≡ written ++ drop (length written) text
  pub lines : AreLines n written

pub has_all : (n : ℕ) (text written rest end : List ℕ) (v : Values) → IsGood v → written ≡ text_with v → HasNoEnd end → BeginAlike n text written rest end → HasAll n text written
has_all n text written rest end v f is none a =
    let nothing : end ≡ [] = none_left a.lines (all_parts v) end a.are_lines (all_lines v f) none (all_text v f.heading.1.0 ∙ sym is ∙ a.other_begins) in
    let all : written ≡ text_of a.lines = a.other_begins ∙ ap (λ (x : List ℕ). text_of a.lines ++ x) nothing ∙ append-nil (text_of a.lines) in
    let split : text ≡ written ++ rest = a.begins ∙ ap (λ (x : List ℕ). x ++ rest) (sym all) in
    let left : drop (length written) text ≡ rest = ap (λ (x : List ℕ). drop (length written) x) split ∙ drop-append_seam written rest in
    record { begins = split ∙ ap (λ (x : List ℕ). written ++ x) (sym left); lines = (a.lines, a.are_lines, a.size, all) }

pub only_header : (bytes rest : List ℕ) (v : Values) → HaveOneName → IsGood v → bytes ≡ text_with v ++ rest → IsOnlyHeader bytes v.head v.site v.first
only_header bytes rest v names f e h s t more heading site first other =
    let u : Values = record { head = h; site = s; first = t } in
    let g : IsGood u = record { heading = heading; site = site; first = first } in
    let one = one_header u v more rest g f (sym other ∙ e) in
    (one.head names, one.alike.site, one.alike.first)

-- ---- a text that has a line unlike the header's

-- nothing follows a header in a header
none_after : (u v : Values) (written x : List ℕ) → IsGood u → IsGood v → written ≡ text_with v → written ≡ text_with u ++ x → x ≡ []
none_after u v written x g f is e = (one_header u v x [] g f (sym e ∙ is ∙ sym (append-nil (text_with v)))).rest

some_left : (x line more : List ℕ) → x ++ (line ++ 10 ∷ more) ≡ [] → ⊥
some_left x line more e = let size = ap length e in omega (arith, size, length-append x (line ++ 10 ∷ more), length-append line (10 ∷ more))

-- no table begins with the lines before and with another line than the one that is written
no_table : (text written : List ℕ) (v : Values) (f : CheckFault) (line more : List ℕ) → IsGood v → written ≡ text_with v → ShowsHeader text written
    → (w : IsUnlike text written f) → HasNoEnd line → w.rest ≡ line ++ 10 ∷ more → ¬ (BeginsTable (text_of w.alike.lines ++ line ++ 10 ∷ []))
no_table text written v f line more h is shows w plain e x =
    let a = w.alike in
    let t = x.0 in
    let good = x.2 in
    let u : Values = record { head = t.head; site = t.site; first = t.first } in
    let g : IsGood u = record { heading = good.head; site = good.site; first = good.first } in
    let records : List ℕ = flat_map record_text t.epochs in
    let lines : List (List ℕ) = a.lines ++ line ∷ [] in
    let are : All HasNoEnd lines = All-append HasNoEnd a.lines (line ∷ []) a.are_lines (All-cons HasNoEnd line [] plain (All-nil HasNoEnd)) in
    let file : text_of (all_parts u) ++ records ≡ (text_of a.lines ++ line ++ 10 ∷ []) ++ x.1 = ap (λ (y : List ℕ). y ++ records) (all_text u g.heading.1.0) ∙ x.3 in
    let longer : text_of a.lines ++ (line ++ 10 ∷ x.1) ≡ (text_of a.lines ++ line ++ 10 ∷ []) ++ x.1 = simp append_assoc in
    elim (leb_tells (length lines) (length (all_parts u))) [
      | inl le ↦
          let goes = same_lines lines (all_parts u) x.1 records are (all_lines u g) le.1 (sym (more_text a.lines line x.1) ∙ longer ∙ sym file) in
          let begins : text_of lines ++ text_of goes.more ≡ text_with u =
          sym (flat_map-append (λ (l : List ℕ). l ++ 10 ∷ []) lines goes.more) ∙ ap text_of (sym goes.list) ∙ all_text u g.heading.1.0 in
          let r = shows lines more are (text_of goes.more, (u.head, u.site, u.first, g.heading, g.site, g.first, begins))
          (a.begins ∙ ap (λ (y : List ℕ). text_of a.lines ++ y) e ∙ more_text a.lines line more) in
          let two : text_of a.lines ++ (w.line ++ 10 ∷ w.more) ≡ text_of a.lines ++ (line ++ 10 ∷ r.0) = sym a.other_begins ∙ r.1 ∙ sym (more_text a.lines line r.0) in
          let same = same_front w.line line w.more r.0 w.is_line plain (append_cancel_left (text_of a.lines) (w.line ++ 10 ∷ w.more) (line ++ 10 ∷ r.0) two) in
          w.unlike more (e ∙ ap (λ (y : List ℕ). y ++ 10 ∷ more) (sym same.0))
      | inr lt ↦
          let few : length (all_parts u) ≤ length a.lines = omega (arith, lt.1, length-append {A = List ℕ} a.lines (line ∷ [])) in
          let goes = same_lines (all_parts u) a.lines records (line ++ 10 ∷ x.1) (all_lines u g) a.are_lines few (file ∙ sym longer) in
          let next : List ℕ = w.line ++ 10 ∷ w.more in
          let front : written ≡ text_with u ++ (text_of goes.more ++ next) =
          a.other_begins ∙ ap (λ (y : List (List ℕ)). text_of y ++ next) goes.list ∙ ap (λ (y : List ℕ). y ++ next) (flat_map-append (λ (l : List ℕ). l ++ 10 ∷ []) (all_parts u) goes.more)
          ∙ append_assoc (text_of (all_parts u)) (text_of goes.more) next ∙ ap (λ (y : List ℕ). y ++ (text_of goes.more ++ next)) (all_text u g.heading.1.0) in
          some_left (text_of goes.more) w.line w.more (none_after u v written (text_of goes.more ++ next) g h is front)
    ]

line_fault : (text written : List ℕ) (v : Values) (f : CheckFault) (cause : Cause) → IsGood v → written ≡ text_with v → ShowsHeader text written → (w : IsUnlike text written f)
    → IsLineCause w.rest cause → IsLineFault (text_of w.alike.lines) w.rest cause
line_fault text written v f Truncated g is shows w c = c
line_fault text written v f HeaderLine g is shows w c = (c.0, c.1, c.2, c.3, no_table text written v f c.0 c.1 g is shows w c.2 c.3)
line_fault text written v f Columns g is shows w c = c
line_fault text written v f Value g is shows w c = c
line_fault text written v f Order g is shows w c = c
line_fault text written v f OutOfMemory g is shows w c = c

pub fault_is : (text written : List ℕ) (v : Values) (f : CheckFault) → IsGood v → written ≡ text_with v → ShowsHeader text written → IsUnlike text written f → IsFaultOfHeader text f
fault_is text written v f g is shows w =
    let a = w.alike in (
      w.before,
      w.number,
      (
        text_of a.lines,
        w.rest,
        (a.lines, a.are_lines, a.size, refl),
        a.begins,
        (w.line ++ 10 ∷ w.more, (v.head, v.site, v.first, g.heading, g.site, g.first, sym a.other_begins ∙ is)),
        λ x.
            let u : Values = record { head = x.0; site = x.1; first = x.2 } in
            let h : IsGood u = record { heading = x.3; site = x.4; first = x.5 } in
            some_left [] w.line w.more (none_after u v written (w.line ++ 10 ∷ w.more) h g is (a.other_begins ∙ ap (λ (t : List ℕ). t ++ (w.line ++ 10 ∷ w.more)) x.6)),
        line_fault text written v f f.cause g is shows w w.cause,
      ),
    )
