-- A header is read back from its parts, and a text begins with one header at most.
use Rattle.std.proofs.Common.{◌≡◌, ℕ, ◌≤◌, ℤ, List, [], ◌∷◌, ◌++◌, length, drop, get_or, refl, sym, ◌∙◌, ap, arith, subst, append_assoc, length-append, inl, inr}
use Rattle.std.specs.Prelude.{All}
use Rattle.std.proofs.lemmas.Bool.Decides.{leb_tells}
use Rattle.std.proofs.lemmas.Grind.{flat_map-append}
use Rattle.std.proofs.lemmas.List.{append-nil}
use Rattle.std.proofs.lemmas.List.Elements.{All-head, All-tail}
use Rattle.rtk_obs.specs.declared.code.Code.{Code}
use Rattle.rtk_obs.specs.declared.time.Civil.{Civil}
use Rattle.rtk_obs.specs.Calendar.{ReadsAs}
use Rattle.rtk_obs.proofs.PublicLaws.{one_moment, reading-reads}
use Rattle.rtk_obs.specs.Reading.{IsMoment, reading_of}
use Rattle.rtk_rinex.specs.Header.{HeadView, PositionView}
use Rattle.rtk_rinex.specs.HeaderFault.{AreLines}
use Rattle.rtk_rinex.specs.Lines.{HasNoEnd, text_of}
use Rattle.rtk_rinex.specs.Steps.HeaderRead.{ShowsHeader}
use Rattle.rtk_rinex.proofs.HeaderShownLemmas.{made_is, marker_is, place_is, height_is, first_is}
use Rattle.rtk_rinex.proofs.HeaderRowsLemmas.{line_of, ended, Values, IsGood, text_with, made_row, marker_row, place_row, height_row, types_part, first_row, from_unit, all_parts, all_text}
use Rattle.rtk_rinex.proofs.HeaderGoodLemmas.{all_lines}
use Rattle.rtk_rinex.proofs.HeaderTypesLemmas.{HaveOneName, types_count, types_end, one_listed}
use Rattle.rtk_rinex.proofs.LineLemmas.{same_front}
use Rattle.rtk_rinex.proofs.OneLemmas.{Goes, same_cons}
use Rattle.rtk_rinex.proofs.PartLemmas.{ReadsBack}

-- ---- lines and texts

pub lines-front : (l : List ℕ) (ls : List (List ℕ)) (x : List ℕ) → text_of (l ∷ ls) ++ x ≡ l ++ 10 ∷ (text_of ls ++ x)
lines-front l ls x = append_assoc (ended l) (text_of ls) x ∙ append_assoc l (10 ∷ []) (text_of ls ++ x)

pub same_lines : (ls ms : List (List ℕ)) (x y : List ℕ) → All HasNoEnd ls → All HasNoEnd ms → length ls ≤ length ms → text_of ls ++ x ≡ text_of ms ++ y → Goes ended ls ms x y
same_lines [] ms x y h g long e = record { more = ms; list = refl; text = e }
same_lines (l ∷ ls) [] x y h g long e = absurd (omega arith)
same_lines (l ∷ ls) (m ∷ ms) x y h g long e =
    let one = same_front l m (text_of ls ++ x) (text_of ms ++ y) (All-head HasNoEnd l ls h) (All-head HasNoEnd m ms g)
    (sym (lines-front l ls x) ∙ e ∙ lines-front m ms y) in
    let rest = same_lines ls ms x y (All-tail HasNoEnd l ls h) (All-tail HasNoEnd m ms g) (omega arith) one.1 in
    record { more = rest.more; list = same_cons l m (ls ++ rest.more) ms one.0 rest.list; text = rest.text }

-- lines that begin a text of lines
pub lines_begin : (ls ms : List (List ℕ)) (x : List ℕ) → All HasNoEnd ls → All HasNoEnd ms → text_of ls ++ x ≡ text_of ms → (more : List (List ℕ)) × (ms ≡ ls ++ more)
lines_begin [] ms x h g e = (ms, refl)
lines_begin (l ∷ ls) [] x h g e = absurd (let size = ap length e in omega (arith, size, length-append (text_of (l ∷ ls)) x, length-append (ended l) (text_of ls), length-append l (10 ∷ [])))
lines_begin (l ∷ ls) (m ∷ ms) x h g e =
    let one = same_front l m (text_of ls ++ x) (text_of ms) (All-head HasNoEnd l ls h) (All-head HasNoEnd m ms g)
    (sym (lines-front l ls x) ∙ e ∙ append_assoc m (10 ∷ []) (text_of ms)) in
    let rest = lines_begin ls ms x (All-tail HasNoEnd l ls h) (All-tail HasNoEnd m ms g) one.1 in
    (rest.0, same_cons l m (ls ++ rest.0) ms one.0 rest.1)

pub are_lines : (v : Values) → IsGood v → AreLines (length (all_parts v)) (text_with v)
are_lines v g = (all_parts v, all_lines v g, refl, sym (all_text v g.heading.1.0))

-- the lines that begin a header, or go on where it ends
pub header_begins : (lines : List (List ℕ)) (x : List ℕ) (v : Values) → All HasNoEnd lines → IsGood v → text_of lines ++ x ≡ text_with v
    → (more : List (List ℕ)) × (all_parts v ≡ lines ++ more)
header_begins lines x v h g e = lines_begin lines (all_parts v) x h (all_lines v g) (e ∙ sym (all_text v g.heading.1.0))

-- parts that are read back make a header that the text shows
pub shows_header : (text written : List ℕ) (v : Values) → IsGood v → written ≡ text_with v → ReadsBack all_parts text v → ShowsHeader text written
shows_header text written v f is back lines rest h begins e =
    let u : Values = record { head = begins.1.0; site = begins.1.1; first = begins.1.2 } in
    let g : IsGood u = record { heading = begins.1.3; site = begins.1.4; first = begins.1.5 } in
    let split = header_begins lines begins.0 u h g begins.1.6 in
    let r = back u lines split.0 rest g split.1 e in
    (text_of r.0, is ∙ sym (all_text v f.heading.1.0) ∙ ap text_of r.1 ∙ flat_map-append (λ (line : List ℕ). line ++ 10 ∷ []) lines r.0)

-- ---- one header

-- moments with one reading are equal
same_moment : (t u : ℕ) → IsMoment t → IsMoment u → reading_of u ≡ reading_of t → t ≡ u
same_moment t u h g e =
    one_moment t u (reading_of t) (reading-reads t h) (subst (λ (c : Civil). ReadsAs u c) e (reading-reads u g))

abbrev heading_with : List ℕ → List Code → ℕ → HeadView
heading_with m cs t = record { marker = m; listed = cs; made = t }

same_heading : (m n : List ℕ) (cs ds : List Code) (t u : ℕ) → m ≡ n → cs ≡ ds → t ≡ u → heading_with m cs t ≡ heading_with n ds u
same_heading m n cs ds t u e₁ e₂ e₃ = cc

abbrev site_with : ℤ → ℤ → ℤ → ℕ → PositionView
site_with x y z n = record { x = x; y = y; z = z; height = n }

same_site : (x₁ x₂ y₁ y₂ z₁ z₂ : ℤ) (n₁ n₂ : ℕ) → x₁ ≡ x₂ → y₁ ≡ y₂ → z₁ ≡ z₂ → n₁ ≡ n₂ → site_with x₁ y₁ z₁ n₁ ≡ site_with x₂ y₂ z₂ n₂
same_site x₁ x₂ y₁ y₂ z₁ z₂ n₁ n₂ e₁ e₂ e₃ e₄ = cc

-- what is one of two headers that begin one text: all but the codes, of which the number is
pub record AreAlike (u v : Values) : Type 0 where
  pub made : u.head.made ≡ v.head.made
  pub marker : u.head.marker ≡ v.head.marker
  pub site : u.site ≡ v.site
  pub count : length u.head.listed ≡ length v.head.listed
  pub first : u.first ≡ v.first

-- the parts up to the types, and those after them
from_types : (u v : Values) (p q : List (List ℕ)) → all_parts u ++ p ≡ all_parts v ++ q → types_part u ++ (from_unit u ++ p) ≡ types_part v ++ (from_unit v ++ q)
from_types u v p q e =
    sym (append_assoc (types_part u) (from_unit u) p) ∙ ap (λ (l : List (List ℕ)). drop 9 l) e ∙ append_assoc (types_part v) (from_unit v) q

alike : (u v : Values) (p q : List (List ℕ)) → IsGood u → IsGood v → all_parts u ++ p ≡ all_parts v ++ q → AreAlike u v
alike u v p q g f e =
    let types = from_types u v p q e in
    let last = types_end u v (from_unit u ++ p) (from_unit v ++ q) g f types in
    let line : (k : ℕ) → ended (get_or (all_parts u ++ p) k []) ≡ ended (get_or (all_parts v ++ q) k []) = λ k. ap (λ (l : List (List ℕ)). ended (get_or l k [])) e in
    let made_u = made_is (ended (made_row u.head.made)) [] u.head.made g.heading.2 g.heading.3 (line_of _ _) in
    let made_v = made_is (ended (made_row u.head.made)) [] v.head.made f.heading.2 f.heading.3 (line 1 ∙ line_of _ _) in
    let marker_u = marker_is (ended (marker_row u.head.marker)) [] u.head.marker g.heading.0 (line_of _ _) in
    let marker_v = marker_is (ended (marker_row u.head.marker)) [] v.head.marker f.heading.0 (line 2 ∙ line_of _ _) in
    let place_u = place_is (ended (place_row u.site)) [] u.site g.site (line_of _ _) in
    let place_v = place_is (ended (place_row u.site)) [] v.site f.site (line 7 ∙ line_of _ _) in
    let height_u = height_is (ended (height_row u.site.height)) [] u.site.height g.site.3 (line_of _ _) in
    let height_v = height_is (ended (height_row u.site.height)) [] v.site.height f.site.3 (line 8 ∙ line_of _ _) in
    let first_line : ended (first_row u.first) ≡ ended (first_row v.first) = ap (λ (l : List (List ℕ)). ended (get_or l 1 [])) last in
    let first_u = first_is (ended (first_row u.first)) [] u.first g.first (line_of _ _) in
    let first_v = first_is (ended (first_row u.first)) [] v.first f.first (first_line ∙ line_of _ _) in
    record {
      made = same_moment u.head.made v.head.made g.heading.2 f.heading.2 (sym made_v ∙ made_u);
      marker = sym marker_u ∙ marker_v;
      site = same_site u.site.x v.site.x u.site.y v.site.y u.site.z v.site.z u.site.height v.site.height
          (sym place_u.first ∙ place_v.first) (sym place_u.second ∙ place_v.second) (sym place_u.third ∙ place_v.third) (sym height_u ∙ height_v);
      count = types_count u v (from_unit u ++ p) (from_unit v ++ q) g f types;
      first = same_moment u.first v.first g.first f.first (sym first_v.reading ∙ first_u.reading);
    }

all_end : (u v : Values) (p q : List (List ℕ)) → IsGood u → IsGood v → all_parts u ++ p ≡ all_parts v ++ q → p ≡ q
all_end u v p q g f e =
    ap (λ (l : List (List ℕ)). drop 4 l) (types_end u v (from_unit u ++ p) (from_unit v ++ q) g f (from_types u v p q e))

-- two headers that begin one text
pub record IsOneHeader (u v : Values) (x y : List ℕ) : Type 0 where
  pub alike : AreAlike u v
  pub text : text_with u ≡ text_with v
  pub rest : x ≡ y
  pub head : HaveOneName → u.head ≡ v.head

fewer_lines : (u v : Values) (x y : List ℕ) → IsGood u → IsGood v → length (all_parts u) ≤ length (all_parts v) → text_with u ++ x ≡ text_with v ++ y → IsOneHeader u v x y
fewer_lines u v x y g f le e =
    let a = all_text u g.heading.1.0 in
    let b = all_text v f.heading.1.0 in
    let goes = same_lines (all_parts u) (all_parts v) x y (all_lines u g) (all_lines v f) le (ap (λ (t : List ℕ). t ++ x) a ∙ e ∙ ap (λ (t : List ℕ). t ++ y) (sym b)) in
    let parts : all_parts u ++ goes.more ≡ all_parts v ++ [] = sym goes.list ∙ sym (append-nil (all_parts v)) in
    let none : goes.more ≡ [] = all_end u v goes.more [] g f parts in
    let same = alike u v goes.more [] g f parts in
    record {
      alike = same;
      text = sym a ∙ ap text_of (sym (append-nil (all_parts u)) ∙ ap (λ (l : List (List ℕ)). all_parts u ++ l) (sym none) ∙ sym goes.list) ∙ b;
      rest = goes.text ∙ ap (λ (l : List (List ℕ)). text_of l ++ y) none;
      head = λ names.
          same_heading u.head.marker v.head.marker u.head.listed v.head.listed u.head.made v.head.made same.marker
          (one_listed u v (from_unit u ++ goes.more) (from_unit v ++ []) names g f (from_types u v goes.more [] parts)) same.made;
    }

other_way : (u v : Values) (x y : List ℕ) → IsOneHeader v u y x → IsOneHeader u v x y
other_way u v x y h =
    let a = h.alike in
    record {
      alike = record { made = sym a.made; marker = sym a.marker; site = sym a.site; count = sym a.count; first = sym a.first };
      text = sym h.text;
      rest = sym h.rest;
      head = λ names. sym (h.head names);
    }

pub one_header : (u v : Values) (x y : List ℕ) → IsGood u → IsGood v → text_with u ++ x ≡ text_with v ++ y → IsOneHeader u v x y
one_header u v x y g f e =
    elim (leb_tells (length (all_parts u)) (length (all_parts v))) [
      | inl le ↦ fewer_lines u v x y g f le.1 e
      | inr lt ↦ other_way u v x y (fewer_lines v u y x f g (omega (arith, lt.1)) (sym e))
    ]
