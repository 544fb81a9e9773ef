-- With the first line in which a text differs from the header of any systems that it shows, no header
-- begins; so the text begins with no header.
use Rattle.std.proofs.Common.{◌≡◌, ℕ, List, [], ◌∷◌, ◌++◌, length, drop, refl, sym, ◌∙◌, ap, arith, append_assoc, length-append}
use Rattle.std.specs.Prelude.{All}
use Rattle.std.proofs.Math.Seq.{drop-append_seam}
use Rattle.std.proofs.lemmas.List.{append-nil, append_cancel_left}
use Rattle.std.proofs.lemmas.List.Elements.{All-nil, All-cons, All-append}
use Rattle.rtk_rinex.specs.Lines.{HasNoEnd, text_of}
use Rattle.rtk_rinex.specs.MixedHeaderFault.{IsMixedHeader, BeginsMixedHeader, BeginsWithMixedHeader, IsMixedLineFault, IsFaultOfMixedHeader, IsOnlyMixedHeader}
use Rattle.rtk_rinex.specs.Steps.HeaderRead.{BeginAlike, IsLineCause, IsUnlike}
use Rattle.rtk_rinex.specs.Steps.MixedHeaderRead.{Reads, ShowsMixedHeader}
use Rattle.rtk_rinex.specs.declared.check_fault.Cause.{Cause}
use Rattle.rtk_rinex.specs.declared.check_fault.Cause.TheVariants.{HeaderLine, Columns, Value, Order, Truncated, OutOfMemory}
use Rattle.rtk_rinex.specs.declared.check_fault.CheckFault.{CheckFault}
use Rattle.rtk_rinex.proofs.HeaderVerdictLemmas.{HasAll, more_text, none_left}
use Rattle.rtk_rinex.proofs.LineLemmas.{same_front}
use Rattle.rtk_rinex.proofs.MixedPartsLemmas.{MixedValues, IsGoodMixed, mixed_values, mixed_text}
use Rattle.rtk_rinex.proofs.TextPartLemmas.{AreWhole}

-- ---- what is read of a text

-- a header that is read whole is the only one
abbrev pub ReadsMixed : List ℕ → MixedValues → Type 0
ReadsMixed text v = Reads {V = MixedValues} IsGoodMixed (λ u. u ≡ v) mixed_text text v

pub shows_mixed : (text written : List ℕ) (v : MixedValues) → written ≡ mixed_text v → ReadsMixed text v → ShowsMixedHeader text written
shows_mixed text written v is reads lines rest ok begins e =
    let u : MixedValues = mixed_values begins.1.0 begins.1.1 begins.1.2 in
    let g : IsGoodMixed u = record { heading = begins.1.3; site = begins.1.4; first = begins.1.5 } in
    let r = reads u lines rest begins.0 g ok (sym begins.1.6) e in
    (r.rest, is ∙ r.begins)

pub only_mixed : (text : List ℕ) (v : MixedValues) → ((u : MixedValues) → IsGoodMixed u → AreWhole (mixed_text u)) → ReadsMixed text v → IsOnlyMixedHeader text v.head v.site v.first
only_mixed text v whole reads h s f rest heading site first e =
    let u : MixedValues = mixed_values h s f in
    let g : IsGoodMixed u = record { heading = heading; site = site; first = first } in
    let w = whole u g in
    let r = reads u w.lines rest [] g w.plain (w.is ∙ sym (append-nil (text_of w.lines))) (e ∙ ap (λ (x : List ℕ). x ++ rest) w.is) in
    let same = (r.whole refl).1 in
    (ap (λ (x : MixedValues). x.head) same, ap (λ (x : MixedValues). x.site) same, ap (λ (x : MixedValues). x.first) same)

-- ---- a text that has all lines of the header that is written

pub has_all_mixed : (n : ℕ) (text written rest end : List ℕ) → AreWhole written → HasNoEnd end → BeginAlike n text written rest end → HasAll n text written
has_all_mixed n text written rest end whole none a =
    let nothing : end ≡ [] = none_left a.lines whole.lines end a.are_lines whole.plain none (sym whole.is ∙ a.other_begins) in
    let all : written ≡ text_of a.lines = a.other_begins ∙ ap (λ (x : List ℕ). text_of a.lines ++ x) nothing ∙ append-nil (text_of a.lines) in
    let split : text ≡ written ++ rest = a.begins ∙ ap (λ (x : List ℕ). x ++ rest) (sym all) in
    let left : drop (length written) text ≡ rest = ap (λ (x : List ℕ). drop (length written) x) split ∙ drop-append_seam written rest in
    record { begins = split ∙ ap (λ (x : List ℕ). written ++ x) (sym left); lines = (a.lines, a.are_lines, a.size, all) }

-- ---- a text that has a line unlike the header's

-- what is known of the values that are read
pub record IsRead (text written : List ℕ) (v : MixedValues) : Type 0 where
  pub good : IsGoodMixed v
  pub is : written ≡ mixed_text v
  pub shows : ShowsMixedHeader text written
  pub only : IsOnlyMixedHeader text v.head v.site v.first

same_text : (u v : MixedValues) → u.head ≡ v.head → u.site ≡ v.site → u.first ≡ v.first → mixed_text u ≡ mixed_text v
same_text u v e f g = rw (e, f, g) refl

-- a header with which the text begins is written
written_is : (text written header rest : List ℕ) (v : MixedValues) → IsRead text written v → IsMixedHeader header → text ≡ header ++ rest → header ≡ written
written_is text written header rest v r h e =
    let u : MixedValues = mixed_values h.0 h.1 h.2 in
    let one = r.only h.0 h.1 h.2 rest h.3 h.4 h.5 (e ∙ ap (λ (x : List ℕ). x ++ rest) h.6) in
    h.6 ∙ same_text u v one.0 one.1 one.2 ∙ sym r.is

-- no header begins with the lines before and with another line than the one that is written
no_header : (text written : List ℕ) (v : MixedValues) (f : CheckFault) (line more : List ℕ) → IsRead text written v → (w : IsUnlike text written f) → HasNoEnd line → w.rest ≡ line ++ 10 ∷ more
    → ¬ (BeginsMixedHeader (text_of w.alike.lines ++ line ++ 10 ∷ []))
no_header text written v f line more r w plain e x =
    let a = w.alike in
    let lines : List (List ℕ) = a.lines ++ line ∷ [] in
    let are : All HasNoEnd lines = All-append HasNoEnd a.lines (line ∷ []) a.are_lines (All-cons HasNoEnd line [] plain (All-nil HasNoEnd)) in
    let same : text_of a.lines ++ line ++ 10 ∷ [] ≡ text_of lines = append_assoc (text_of a.lines) line (10 ∷ []) ∙ more_text a.lines line [] ∙ append-nil (text_of lines) in
    let begins : BeginsMixedHeader (text_of lines) = (x.0, (x.1.0, x.1.1, x.1.2, x.1.3, x.1.4, x.1.5, ap (λ (t : List ℕ). t ++ x.0) (sym same) ∙ x.1.6)) in
    let s = r.shows lines more are begins (a.begins ∙ ap (λ (y : List ℕ). text_of a.lines ++ y) e ∙ more_text a.lines line more) in
    let two : text_of a.lines ++ (w.line ++ 10 ∷ w.more) ≡ text_of a.lines ++ (line ++ 10 ∷ s.0) = sym a.other_begins ∙ s.1 ∙ sym (more_text a.lines line s.0) in
    let front = same_front w.line line w.more s.0 w.is_line plain (append_cancel_left (text_of a.lines) (w.line ++ 10 ∷ w.more) (line ++ 10 ∷ s.0) two) in
    w.unlike more (e ∙ ap (λ (y : List ℕ). y ++ 10 ∷ more) (sym front.0))

line_fault : (text written : List ℕ) (v : MixedValues) (f : CheckFault) (cause : Cause) → IsRead text written v → (w : IsUnlike text written f) → IsLineCause w.rest cause
    → IsMixedLineFault (text_of w.alike.lines) w.rest cause
line_fault text written v f Truncated r w c = c
line_fault text written v f HeaderLine r w c = (c.0, c.1, c.2, c.3, no_header text written v f c.0 c.1 r w c.2 c.3)
line_fault text written v f Columns r w c = c
line_fault text written v f Value r w c = c
line_fault text written v f Order r w c = c
line_fault text written v f OutOfMemory r w c = c

longer : (x line more : List ℕ) → x ≡ x ++ (line ++ 10 ∷ more) → ⊥
longer x line more e = let size = ap length e in omega (arith, size, length-append x (line ++ 10 ∷ more), length-append line (10 ∷ more))

pub mixed_fault : (text written : List ℕ) (v : MixedValues) (f : CheckFault) → IsRead text written v → IsUnlike text written f → IsFaultOfMixedHeader text f
mixed_fault text written v f r w =
    let a = w.alike in (
      w.before,
      w.number,
      (
        text_of a.lines,
        w.rest,
        (a.lines, a.are_lines, a.size, refl),
        a.begins,
        (w.line ++ 10 ∷ w.more, (v.head, v.site, v.first, r.good.heading, r.good.site, r.good.first, sym a.other_begins ∙ r.is)),
        λ x. longer (text_of a.lines) w.line w.more (written_is text written (text_of a.lines) w.rest v r x a.begins ∙ a.other_begins),
        line_fault text written v f f.cause r w w.cause,
      ),
    )

pub no_mixed : (text written : List ℕ) (v : MixedValues) (f : CheckFault) → IsRead text written v → IsUnlike text written f → ¬ (BeginsWithMixedHeader text)
no_mixed text written v f r w x =
    let a = w.alike in
    let is = written_is text written x.0 x.1 v r x.2 x.3 in
    let whole : text ≡ text_of a.lines ++ ((w.line ++ 10 ∷ w.more) ++ x.1) =
    x.3 ∙ ap (λ (t : List ℕ). t ++ x.1) (is ∙ a.other_begins) ∙ append_assoc (text_of a.lines) (w.line ++ 10 ∷ w.more) x.1 in
    let left = append_cancel_left (text_of a.lines) w.rest ((w.line ++ 10 ∷ w.more) ++ x.1) (sym a.begins ∙ whole) in
    w.unlike (w.more ++ x.1) (left ∙ append_assoc w.line (10 ∷ w.more) x.1)
