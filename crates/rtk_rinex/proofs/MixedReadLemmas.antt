-- A header of any systems is read back from its parts.
use Rattle.std.proofs.Common.{◌≡◌, ◌∙◌, ◌++◌, ◌<◌, ◌%◌, ℕ, Bool, List, [], ◌∷◌, length, drop, codes, ap, sym, refl, subst, ℤ, pos, Option, append_assoc}
use Rattle.rtk_obs.specs.declared.any_code.AnyCode.{AnyCode}
use Rattle.rtk_rinex.specs.Columns.{fixed}
use Rattle.rtk_rinex.specs.Header.{PositionView, IsMarker, IsPositionView, made_text, first_text, made_line, marker_line, place_line, height_line, first_line}
use Rattle.rtk_rinex.specs.MixedHead.{MixedHeadView, GlonassView, TellsGlonass}
use Rattle.rtk_rinex.specs.MixedHeader.{version_letter, mixed_version_line, phase_shift_line, by_system, glonass_lines, unknown_lines}
use Rattle.rtk_obs.specs.Reading.{IsMoment, reading_of}
use Rattle.rtk_rinex.specs.Steps.HeaderShown.{StartsWith}
use Rattle.rtk_rinex.specs.Steps.MixedHeaderRead.{Reads, shows_doppler, types_and_unit, IsListOf}
use Rattle.rtk_rinex.specs.Steps.MixedRoom.{IsFileLetter}
use Rattle.rtk_rinex.proofs.FlagLemmas.{flag_read, types_flag}
use Rattle.rtk_rinex.proofs.HeaderGoodLemmas.{of_made, of_first}
use Rattle.rtk_rinex.proofs.MixedListLemmas.{HaveOnePlace}
use Rattle.rtk_rinex.proofs.MixedPartsLemmas.{MixedValues, IsGoodMixed, mixed_text, end_line, all_mixed, all_is, from_made, from_marker, from_unknown, from_place, from_height, from_types, from_first, from_shift, from_glonass, from_end, file_letter, of_version, of_marker, of_place, of_height, whole_unknown, whole_types, whole_shifts, whole_glonass}
use Rattle.rtk_rinex.proofs.SystemLinesLemmas.{types_from, starts_from}
use Rattle.rtk_rinex.proofs.TextPartLemmas.{whole_line, reads_then, reads_fixed, reads_known, reads_line, reads_at, reads_from}

-- what each part shows where it is read, and where the parts are put
pub record MixedSteps (text : List ℕ) (file : ℕ) (v : MixedValues) (o1 o2 o3 o4 o5 o6 o7 o8 o9 o10 o11 : List ℕ) : Type 0 where
  pub good : IsGoodMixed v
  pub letter : version_letter v.head.listed ≡ file
  pub put1 : o1 ≡ [] ++ mixed_version_line (version_letter v.head.listed)
  pub put2 : o2 ≡ o1 ++ made_line (reading_of v.head.made)
  pub put3 : o3 ≡ o2 ++ marker_line v.head.marker
  pub put4 : o4 ≡ o3 ++ unknown_lines
  pub put5 : o5 ≡ o4 ++ place_line v.site
  pub put6 : o6 ≡ o5 ++ height_line v.site.height
  pub put7 : o7 ≡ o6 ++ types_and_unit v.head.doppler v.head.listed
  pub put8 : o8 ≡ o7 ++ first_line (reading_of v.first)
  pub put9 : o9 ≡ o8 ++ by_system phase_shift_line v.head.listed
  pub put10 : o10 ≡ o9 ++ glonass_lines v.head.glonass
  pub put11 : o11 ≡ o10 ++ end_line
  pub read1 : (l : ℕ) → IsFileLetter l → StartsWith (mixed_version_line l) text → file ≡ l
  pub read2 : (t : ℕ) → IsMoment t → t % 1000 ≡ 0 → StartsWith (made_line (reading_of t)) (drop (length o1) text) → v.head.made ≡ t
  pub read3 : (m : List ℕ) → IsMarker m → StartsWith (marker_line m) (drop (length o2) text) → v.head.marker ≡ m
  pub read5 : (s : PositionView) → IsPositionView s → StartsWith (place_line s) (drop (length o4) text) → (v.site.x ≡ s.x) × ((v.site.y ≡ s.y) × (v.site.z ≡ s.z))
  pub read6 : (h : ℕ) → h < 65_536 → StartsWith (height_line h) (drop (length o5) text) → v.site.height ≡ h
  pub flag : v.head.doppler ≡ shows_doppler (drop (length o6) text)
  pub read7 : Reads {V = List AnyCode} (IsListOf file) (λ ds. ds ≡ v.head.listed) (types_and_unit v.head.doppler) (drop (length o6) text) v.head.listed
  pub read8 : (t : ℕ) → IsMoment t → StartsWith (first_line (reading_of t)) (drop (length o7) text) → v.first ≡ t
  pub read10 : Reads {V = Option GlonassView} (TellsGlonass v.head.listed) (λ g. g ≡ v.head.glonass) glonass_lines (drop (length o9) text) v.head.glonass

abbrev head_with : List ℕ → List AnyCode → Option GlonassView → ℕ → Bool → MixedHeadView
head_with m cs g t d = record { marker = m; listed = cs; glonass = g; made = t; doppler = d }

same_head : (m n : List ℕ) (cs ds : List AnyCode) (g h : Option GlonassView) (t u : ℕ) (p q : Bool) → m ≡ n → cs ≡ ds → g ≡ h → t ≡ u → p ≡ q
    → head_with m cs g t p ≡ head_with n ds h u q
same_head m n cs ds g h t u p q a b c d e = rw (a, b, c, d, e) refl

abbrev site_with : ℤ → ℤ → ℤ → ℕ → PositionView
site_with x y z n = record { x = x; y = y; z = z; height = n }

same_site : (x₁ x₂ y₁ y₂ z₁ z₂ : ℤ) (n₁ n₂ : ℕ) → x₁ ≡ x₂ → y₁ ≡ y₂ → z₁ ≡ z₂ → n₁ ≡ n₂ → site_with x₁ y₁ z₁ n₁ ≡ site_with x₂ y₂ z₂ n₂
same_site x₁ x₂ y₁ y₂ z₁ z₂ n₁ n₂ e₁ e₂ e₃ e₄ = rw (e₁, e₂, e₃, e₄) refl

abbrev values_with : MixedHeadView → PositionView → ℕ → MixedValues
values_with h s t = record { head = h; site = s; first = t }

same_values : (h k : MixedHeadView) (s r : PositionView) (t u : ℕ) → h ≡ k → s ≡ r → t ≡ u → values_with h s t ≡ values_with k r u
same_values h k s r t u a b c = rw (a, b, c) refl

-- the place of two positions is one
same_place : (s r : PositionView) → s.x ≡ r.x → s.y ≡ r.y → s.z ≡ r.z → place_line s ≡ place_line r
same_place s r a b c = rw (a, b, c) refl

-- what two headers have alike, part by part
abbrev Same1 : ℕ → MixedValues → Type 0
Same1 file u = IsGoodMixed u × (version_letter u.head.listed ≡ file)

abbrev Same2 : ℕ → MixedValues → MixedValues → Type 0
Same2 file v u = Same1 file u × (v.head.made ≡ u.head.made)

abbrev Same3 : ℕ → MixedValues → MixedValues → Type 0
Same3 file v u = Same2 file v u × (v.head.marker ≡ u.head.marker)

abbrev IsPlace : MixedValues → MixedValues → Type 0
IsPlace v u = (v.site.x ≡ u.site.x) × ((v.site.y ≡ u.site.y) × (v.site.z ≡ u.site.z))

abbrev Same5 : ℕ → MixedValues → MixedValues → Type 0
Same5 file v u = Same3 file v u × IsPlace v u

abbrev Same6 : ℕ → MixedValues → MixedValues → Type 0
Same6 file v u = Same5 file v u × (v.site.height ≡ u.site.height)

abbrev Same7 : ℕ → MixedValues → MixedValues → Type 0
Same7 file v u = Same6 file v u × ((u.head.doppler ≡ v.head.doppler) × (u.head.listed ≡ v.head.listed))

abbrev Same8 : ℕ → MixedValues → MixedValues → Type 0
Same8 file v u = Same7 file v u × (v.first ≡ u.first)

abbrev Same10 : ℕ → MixedValues → MixedValues → Type 0
Same10 file v u = Same8 file v u × (u.head.glonass ≡ v.head.glonass)

all_same : (file : ℕ) (v u : MixedValues) → Same10 file v u → u ≡ v
all_same file v u h =
    let glonass = h.1 in
    let first = h.0.1 in
    let doppler = h.0.0.1.0 in
    let listed = h.0.0.1.1 in
    let height = h.0.0.0.1 in
    let place = h.0.0.0.0.1 in
    let marker = h.0.0.0.0.0.1 in
    let made = h.0.0.0.0.0.0.1 in
    same_values u.head v.head u.site v.site u.first v.first
    (same_head u.head.marker v.head.marker u.head.listed v.head.listed u.head.glonass v.head.glonass u.head.made v.head.made u.head.doppler v.head.doppler (sym marker) listed glonass (sym made) doppler)
    (same_site u.site.x v.site.x u.site.y v.site.y u.site.z v.site.z u.site.height v.site.height (sym place.0) (sym place.1.0) (sym place.1.1) (sym height)) (sym first)

-- ---- one part after another, from the last one on

read_end : (text : List ℕ) (file : ℕ) (v : MixedValues) (o : List ℕ) → Reads (Same10 file v) (λ u. u ≡ v) from_end (drop (length o) text) v
read_end text file v o =
    reads_from (Same10 file v) (Same10 file v) (Same10 file v) (λ u. u ≡ v) from_end (drop (length o) text) v (λ u h. h) (λ u h k. all_same file v u k) (reads_fixed (Same10 file v) end_line (drop (length o) text) v)

read_glonass : (text : List ℕ) (file : ℕ) (v : MixedValues) (o p : List ℕ) → p ≡ o ++ glonass_lines v.head.glonass
    → Reads {V = Option GlonassView} (TellsGlonass v.head.listed) (λ g. g ≡ v.head.glonass) glonass_lines (drop (length o) text) v.head.glonass
    → Reads (Same8 file v) (λ u. u ≡ v) from_glonass (drop (length o) text) v
read_glonass text file v o p put read =
    let Told : MixedValues → Type 0 = λ u. Same8 file v u × TellsGlonass v.head.listed u.head.glonass in
    let tells : (u : MixedValues) → Same8 file v u → Told u = λ u h.
    (h, subst (λ (cs : List AnyCode). TellsGlonass cs u.head.glonass) h.0.1.1 h.0.0.0.0.0.0.0.heading.glonass) in
    let first : Reads (Same8 file v) (Same10 file v) (λ u. glonass_lines u.head.glonass) (drop (length o) text) v =
    reads_from Told (λ u. Same8 file v u × (u.head.glonass ≡ v.head.glonass)) (Same8 file v) (Same10 file v) (λ u. glonass_lines u.head.glonass) (drop (length o) text) v tells (λ u h k. k)
    (reads_at (λ u. u.head.glonass) (TellsGlonass v.head.listed) (λ g. g ≡ v.head.glonass) (Same8 file v) glonass_lines (drop (length o) text) v read) in
    reads_then (Same8 file v) (Same10 file v) (λ u. u ≡ v) (λ u. glonass_lines u.head.glonass) from_end text o p v (λ u h. whole_glonass u.head.listed u.head.glonass h.0.0.0.0.0.0.0.heading.glonass) put
    first (read_end text file v p)

read_shift : (text : List ℕ) (file : ℕ) (v : MixedValues) (o p : List ℕ) → p ≡ o ++ by_system phase_shift_line v.head.listed
    → Reads (Same8 file v) (λ u. u ≡ v) from_glonass (drop (length p) text) v → Reads (Same8 file v) (λ u. u ≡ v) from_shift (drop (length o) text) v
read_shift text file v o p put next =
    reads_then (Same8 file v) (Same8 file v) (λ u. u ≡ v) (λ u. by_system phase_shift_line u.head.listed) from_glonass text o p v (λ u h. whole_shifts u.head.listed) put
    (reads_known (Same8 file v) (λ u. by_system phase_shift_line u.head.listed) (drop (length o) text) v (λ u h. ap (by_system phase_shift_line) (sym h.0.1.1))) next

read_first : (text : List ℕ) (file : ℕ) (v : MixedValues) (o p : List ℕ) → p ≡ o ++ first_line (reading_of v.first)
    → ((t : ℕ) → IsMoment t → StartsWith (first_line (reading_of t)) (drop (length o) text) → v.first ≡ t)
    → Reads (Same8 file v) (λ u. u ≡ v) from_shift (drop (length p) text) v → Reads (Same7 file v) (λ u. u ≡ v) from_first (drop (length o) text) v
read_first text file v o p put read next =
    reads_then (Same7 file v) (Same8 file v) (λ u. u ≡ v) (λ u. first_line (reading_of u.first)) from_shift text o p v
    (λ u h. whole_line (first_text (reading_of u.first)) (codes "TIME OF FIRST OBS") (of_first u.first h.0.0.0.0.0.0.first)) put
    (reads_line (Same7 file v) (Same8 file v) (λ u. first_text (reading_of u.first)) (λ u. codes "TIME OF FIRST OBS") (drop (length o) text) v (λ u h. of_first u.first h.0.0.0.0.0.0.first)
    (λ u h starts. let is = read u.first h.0.0.0.0.0.0.first starts in (ap (λ (t : ℕ). first_line (reading_of t)) is, (h, is)))) next

-- the lines of the types are not empty
some_types : (doppler : Bool) (cs : List AnyCode) → types_and_unit doppler cs ≡ [] → ⊥
some_types doppler cs e =
    let starts = starts_from doppler (codes "GRECJSI") cs in
    let some : starts.char ∷ starts.rest ≡ [] = sym starts.is ∙ sym (types_from doppler cs) ∙ e in
    absurd (cc)

-- the types of one file, read with the flag that they show
read_flagged : (text : List ℕ) (file : ℕ) (v : MixedValues) (o : List ℕ) → HaveOnePlace → v.head.doppler ≡ shows_doppler (drop (length o) text)
    → Reads {V = List AnyCode} (IsListOf file) (λ ds. ds ≡ v.head.listed) (types_and_unit v.head.doppler) (drop (length o) text) v.head.listed
    → Reads (Same6 file v) (Same7 file v) (λ u. types_and_unit u.head.doppler u.head.listed) (drop (length o) text) v
read_flagged text file v o place flag read u [] rest more h ok e t =
    record { rest = types_and_unit v.head.doppler v.head.listed; begins = refl; whole = λ none. absurd (some_types u.head.doppler u.head.listed (e ∙ none)) }
read_flagged text file v o place flag read u (l ∷ ls) rest more h ok e t =
    let list : IsListOf file u.head.listed = record { list = h.0.0.0.0.0.heading.listed; letter = h.0.0.0.0.1 } in
    let shown : u.head.doppler ≡ v.head.doppler =
    sym (flag_read u.head.doppler (types_and_unit u.head.doppler u.head.listed) l ls more rest (types_flag u.head.doppler file u.head.listed place list) ok e) ∙ ap shows_doppler (sym t) ∙ sym flag in
    let r = read u.head.listed (l ∷ ls) rest more list ok (ap (λ (d : Bool). types_and_unit d u.head.listed) (sym shown) ∙ e) t in
    record { rest = r.rest; begins = r.begins; whole = λ none. ((r.whole none).0, (h, (shown, (r.whole none).1))) }

read_types : (text : List ℕ) (file : ℕ) (v : MixedValues) (o p : List ℕ) → HaveOnePlace → p ≡ o ++ types_and_unit v.head.doppler v.head.listed
    → v.head.doppler ≡ shows_doppler (drop (length o) text)
    → Reads {V = List AnyCode} (IsListOf file) (λ ds. ds ≡ v.head.listed) (types_and_unit v.head.doppler) (drop (length o) text) v.head.listed
    → Reads (Same7 file v) (λ u. u ≡ v) from_first (drop (length p) text) v → Reads (Same6 file v) (λ u. u ≡ v) from_types (drop (length o) text) v
read_types text file v o p place put flag read next =
    let list : (u : MixedValues) → Same6 file v u → IsListOf file u.head.listed = λ u h. record { list = h.0.0.0.0.0.heading.listed; letter = h.0.0.0.0.1 } in
    reads_then (Same6 file v) (Same7 file v) (λ u. u ≡ v) (λ u. types_and_unit u.head.doppler u.head.listed) from_first text o p v
    (λ u h. whole_types u.head.doppler file u.head.listed place (list u h)) put (read_flagged text file v o place flag read) next

read_height : (text : List ℕ) (file : ℕ) (v : MixedValues) (o p : List ℕ) → p ≡ o ++ height_line v.site.height
    → ((h : ℕ) → h < 65_536 → StartsWith (height_line h) (drop (length o) text) → v.site.height ≡ h)
    → Reads (Same6 file v) (λ u. u ≡ v) from_types (drop (length p) text) v → Reads (Same5 file v) (λ u. u ≡ v) from_height (drop (length o) text) v
read_height text file v o p put read next =
    let content : MixedValues → List ℕ = λ u. fixed 4 14 (pos u.site.height) ++ codes "        0.0000        0.0000" in
    reads_then (Same5 file v) (Same6 file v) (λ u. u ≡ v) (λ u. height_line u.site.height) from_types text o p v
    (λ u h. whole_line (content u) (codes "ANTENNA: DELTA H/E/N") (of_height u.site.height h.0.0.0.0.site.3)) put
    (reads_line (Same5 file v) (Same6 file v) content (λ u. codes "ANTENNA: DELTA H/E/N") (drop (length o) text) v (λ u h. of_height u.site.height h.0.0.0.0.site.3)
    (λ u h starts. let is = read u.site.height h.0.0.0.0.site.3 starts in (ap height_line is, (h, is)))) next

read_place : (text : List ℕ) (file : ℕ) (v : MixedValues) (o p : List ℕ) → p ≡ o ++ place_line v.site
    → ((s : PositionView) → IsPositionView s → StartsWith (place_line s) (drop (length o) text) → (v.site.x ≡ s.x) × ((v.site.y ≡ s.y) × (v.site.z ≡ s.z)))
    → Reads (Same5 file v) (λ u. u ≡ v) from_height (drop (length p) text) v → Reads (Same3 file v) (λ u. u ≡ v) from_place (drop (length o) text) v
read_place text file v o p put read next =
    let content : MixedValues → List ℕ = λ u. fixed 4 14 u.site.x ++ fixed 4 14 u.site.y ++ fixed 4 14 u.site.z in
    reads_then (Same3 file v) (Same5 file v) (λ u. u ≡ v) (λ u. place_line u.site) from_height text o p v
    (λ u h. whole_line (content u) (codes "APPROX POSITION XYZ") (of_place u.site h.0.0.0.site)) put
    (reads_line (Same3 file v) (Same5 file v) content (λ u. codes "APPROX POSITION XYZ") (drop (length o) text) v (λ u h. of_place u.site h.0.0.0.site)
    (λ u h starts. let is = read u.site h.0.0.0.site starts in (same_place v.site u.site is.0 is.1.0 is.1.1, (h, is)))) next

read_unknown : (text : List ℕ) (file : ℕ) (v : MixedValues) (o p : List ℕ) → p ≡ o ++ unknown_lines
    → Reads (Same3 file v) (λ u. u ≡ v) from_place (drop (length p) text) v → Reads (Same3 file v) (λ u. u ≡ v) from_unknown (drop (length o) text) v
read_unknown text file v o p put next =
    reads_then (Same3 file v) (Same3 file v) (λ u. u ≡ v) (λ u. unknown_lines) from_place text o p v (λ u h. whole_unknown) put (reads_fixed (Same3 file v) unknown_lines (drop (length o) text) v) next

read_marker : (text : List ℕ) (file : ℕ) (v : MixedValues) (o p : List ℕ) → p ≡ o ++ marker_line v.head.marker
    → ((m : List ℕ) → IsMarker m → StartsWith (marker_line m) (drop (length o) text) → v.head.marker ≡ m)
    → Reads (Same3 file v) (λ u. u ≡ v) from_unknown (drop (length p) text) v → Reads (Same2 file v) (λ u. u ≡ v) from_marker (drop (length o) text) v
read_marker text file v o p put read next =
    reads_then (Same2 file v) (Same3 file v) (λ u. u ≡ v) (λ u. marker_line u.head.marker) from_unknown text o p v
    (λ u h. whole_line u.head.marker (codes "MARKER NAME") (of_marker u.head.marker h.0.0.heading.marker)) put
    (reads_line (Same2 file v) (Same3 file v) (λ u. u.head.marker) (λ u. codes "MARKER NAME") (drop (length o) text) v (λ u h. of_marker u.head.marker h.0.0.heading.marker)
    (λ u h starts. let is = read u.head.marker h.0.0.heading.marker starts in (ap marker_line is, (h, is)))) next

read_made : (text : List ℕ) (file : ℕ) (v : MixedValues) (o p : List ℕ) → p ≡ o ++ made_line (reading_of v.head.made)
    → ((t : ℕ) → IsMoment t → t % 1000 ≡ 0 → StartsWith (made_line (reading_of t)) (drop (length o) text) → v.head.made ≡ t)
    → Reads (Same2 file v) (λ u. u ≡ v) from_marker (drop (length p) text) v → Reads (Same1 file) (λ u. u ≡ v) from_made (drop (length o) text) v
read_made text file v o p put read next =
    let content : MixedValues → List ℕ = λ u. codes "rtcm2rinex                              " ++ made_text (reading_of u.head.made) in
    reads_then (Same1 file) (Same2 file v) (λ u. u ≡ v) (λ u. made_line (reading_of u.head.made)) from_marker text o p v
    (λ u h. whole_line (content u) (codes "PGM / RUN BY / DATE") (of_made u.head.made)) put
    (reads_line (Same1 file) (Same2 file v) content (λ u. codes "PGM / RUN BY / DATE") (drop (length o) text) v (λ u h. of_made u.head.made)
    (λ u h starts. let is = read u.head.made h.0.heading.made h.0.heading.whole_second starts in (ap (λ (t : ℕ). made_line (reading_of t)) is, (h, is)))) next

read_version : (text : List ℕ) (file : ℕ) (v : MixedValues) (p : List ℕ) → version_letter v.head.listed ≡ file → p ≡ [] ++ mixed_version_line (version_letter v.head.listed)
    → ((l : ℕ) → IsFileLetter l → StartsWith (mixed_version_line l) text → file ≡ l)
    → Reads (Same1 file) (λ u. u ≡ v) from_made (drop (length p) text) v → Reads IsGoodMixed (λ u. u ≡ v) all_mixed text v
read_version text file v p own put read next =
    let content : MixedValues → List ℕ = λ u. codes "     3.05           OBSERVATION DATA    " ++ version_letter u.head.listed ∷ [] in
    reads_then IsGoodMixed (Same1 file) (λ u. u ≡ v) (λ u. mixed_version_line (version_letter u.head.listed)) from_made text [] p v
    (λ u h. whole_line (content u) (codes "RINEX VERSION / TYPE") (of_version (version_letter u.head.listed) (file_letter u.head.listed))) put
    (reads_line IsGoodMixed (Same1 file) content (λ u. codes "RINEX VERSION / TYPE") text v (λ u h. of_version (version_letter u.head.listed) (file_letter u.head.listed))
    (λ u h starts. let is = read (version_letter u.head.listed) (file_letter u.head.listed) starts in (ap mixed_version_line (own ∙ is), (h, sym is)))) next

pub mixed_read : (text : List ℕ) (file : ℕ) (v : MixedValues) (o1 o2 o3 o4 o5 o6 o7 o8 o9 o10 o11 : List ℕ) → HaveOnePlace → MixedSteps text file v o1 o2 o3 o4 o5 o6 o7 o8 o9 o10 o11
    → Reads IsGoodMixed (λ u. u ≡ v) mixed_text text v
mixed_read text file v o1 o2 o3 o4 o5 o6 o7 o8 o9 o10 o11 place s u lines rest more h ok e t =
    let read =
    read_version text file v o1 s.letter s.put1 s.read1
    (read_made text file v o1 o2 s.put2 s.read2
    (read_marker text file v o2 o3 s.put3 s.read3
    (read_unknown text file v o3 o4 s.put4
    (read_place text file v o4 o5 s.put5 s.read5
    (read_height text file v o5 o6 s.put6 s.read6
    (read_types text file v o6 o7 place s.put7 s.flag s.read7
    (read_first text file v o7 o8 s.put8 s.read8
    (read_shift text file v o8 o9 s.put9
    (read_glonass text file v o9 o10 s.put10 s.read10))))))))) in
    let r = read u lines rest more h ok (all_is u ∙ e) t in
    record { rest = r.rest; begins = sym (all_is v) ∙ r.begins; whole = r.whole }

in_row : (v m k n p q t f s g z : List ℕ)
    → (((((((((v ++ m) ++ k) ++ n) ++ p) ++ q) ++ t) ++ f) ++ s) ++ g) ++ z ≡ v ++ (m ++ (k ++ (n ++ (p ++ (q ++ (t ++ (f ++ (s ++ (g ++ z)))))))))
in_row v m k n p q t f s g z = simp append_assoc

pub mixed_written : (text : List ℕ) (file : ℕ) (v : MixedValues) (o1 o2 o3 o4 o5 o6 o7 o8 o9 o10 o11 : List ℕ) → MixedSteps text file v o1 o2 o3 o4 o5 o6 o7 o8 o9 o10 o11 → o11 ≡ mixed_text v
mixed_written text file v o1 o2 o3 o4 o5 o6 o7 o8 o9 o10 o11 s =
    s.put11 ∙ ap (λ (x : List ℕ). x ++ end_line) (s.put10 ∙ ap (λ (x : List ℕ). x ++ glonass_lines v.head.glonass) (s.put9 ∙ ap (λ (x : List ℕ). x ++ by_system phase_shift_line v.head.listed)
    (s.put8 ∙ ap (λ (x : List ℕ). x ++ first_line (reading_of v.first)) (s.put7 ∙ ap (λ (x : List ℕ). x ++ types_and_unit v.head.doppler v.head.listed) (s.put6 ∙ ap (λ (x : List ℕ). x ++ height_line v.site.height)
    (s.put5 ∙ ap (λ (x : List ℕ). x ++ place_line v.site) (s.put4 ∙ ap (λ (x : List ℕ). x ++ unknown_lines) (s.put3 ∙ ap (λ (x : List ℕ). x ++ marker_line v.head.marker)
    (s.put2 ∙ ap (λ (x : List ℕ). x ++ made_line (reading_of v.head.made)) s.put1)))))))))
    ∙ in_row (mixed_version_line (version_letter v.head.listed)) (made_line (reading_of v.head.made)) (marker_line v.head.marker) unknown_lines (place_line v.site) (height_line v.site.height)
    (types_and_unit v.head.doppler v.head.listed) (first_line (reading_of v.first)) (by_system phase_shift_line v.head.listed) (glonass_lines v.head.glonass) end_line
    ∙ all_is v
