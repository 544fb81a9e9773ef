use Rattle.std.proofs.Common.{◌≡◌, ◌∙◌, ◌++◌, ℕ, Bool, List, [], length, drop, codes, ap, sym, subst, arith, Option, append_assoc}
use Rattle.rtk_obs.specs.declared.any_code.AnyCode.{AnyCode}
use Rattle.rtk_obs.specs.declared.time.Civil.{Civil}
use Rattle.rtk_rinex.specs.Header.{position_view, header_line, made_line, marker_line, place_line, height_line, first_line}
use Rattle.rtk_rinex.specs.MixedHead.{MixedHeadView, GlonassView, IsMixedHead, TellsGlonass}
use Rattle.rtk_rinex.specs.MixedHeader.{version_letter, mixed_version_line, phase_shift_line, by_system, glonass_lines, unknown_lines}
use Rattle.rtk_obs.specs.Reading.{reading_of}
use Rattle.rtk_rinex.specs.Steps.MixedHeaderRead.{Reads, shows_doppler, types_and_unit, IsListOf}
use Rattle.rtk_rinex.proofs.HeaderShownLemmas.{shown_or, some_or}
use Rattle.rtk_rinex.proofs.MixedPartsLemmas.{MixedValues, IsGoodMixed, mixed_values, mixed_text, whole_mixed}
use Rattle.rtk_rinex.proofs.MixedReadLemmas.{MixedSteps, mixed_read, mixed_written}
use Rattle.rtk_rinex.proofs.MixedVerdictLemmas.{ReadsMixed, shows_mixed, only_mixed}
use Rattle.rtk_obs.proofs.PublicLaws.{reading_is}
use Rattle.rtk_rinex.proofs.mixed_header_check.read_mixed_header.Goals as goal

-- ---- the parts that are read

abbrev values : (c : goal.After-with_height) → MixedValues
values c = mixed_values c.head_of.result (position_view c.with_height.result) c.unwrap_or-first.result

-- the head of what was read
head_is : (c : goal.After-with_height) → c.head_of.result ≡ record { marker = c.unwrap_or-marker.result; listed = c.as_slice-3.result.now; glonass = c.read_glonass-glonass.result; made = c.unwrap_or-made.result; doppler = c.shows_doppler-doppler.result }
head_is c = c.head_of.ensures ∙ ap (λ (h : MixedHeadView). record { marker = h.marker; listed = h.listed; glonass = h.glonass; made = h.made; doppler = c.shows_doppler-doppler.result }) c.in-Ok.ensures.head

heading : (c : goal.After-with_height) → IsMixedHead c.head_of.result
heading c =
    let g = c.in-Ok.ensures.good in
    subst IsMixedHead (sym c.head_of.ensures) (record { marker = g.marker; listed = g.listed; glonass = g.glonass; made = g.made; whole_second = g.whole_second })

doppler_is : (c : goal.After-with_height) → c.head_of.result.doppler ≡ c.shows_doppler-doppler.result
doppler_is c = ap (λ (h : MixedHeadView). h.doppler) (head_is c)

good : (c : goal.After-with_height) → IsGoodMixed (values c)
good c =
    let p = c.with_height.result in
    record { heading = heading c; site = (p.x_fits, p.y_fits, p.z_fits, omega arith); first = omega arith }

listed_is : (c : goal.After-with_height) → c.head_of.result.listed ≡ c.read_types-listed.result.items
listed_is c = ap (λ (h : MixedHeadView). h.listed) (head_is c) ∙ c.as_slice-3.ensures.value

glonass_is : (c : goal.After-with_height) → c.head_of.result.glonass ≡ c.read_glonass-glonass.result
glonass_is c = ap (λ (h : MixedHeadView). h.glonass) (head_is c)

letter_is : (c : goal.After-with_height) → version_letter c.head_of.result.listed ≡ c.read_file_letter-file.result
letter_is c = ap version_letter (listed_is c) ∙ c.read_types-listed.ensures.good.letter

-- ---- each part as it is put

version_put : (c : goal.After-with_height) → c.put_mixed_version_line.new.out.items ≡ [] ++ mixed_version_line (version_letter c.head_of.result.listed)
version_put c =
    c.put_mixed_version_line.ensures.items ∙ ap (λ (o : List ℕ). o ++ mixed_version_line c.read_file_letter-file.result) c.requires.empty
    ∙ ap (λ (l : ℕ). [] ++ mixed_version_line l) (sym (letter_is c))

made_put : (c : goal.After-with_height) → c.put_made_line.new.out.items ≡ c.put_mixed_version_line.new.out.items ++ made_line (reading_of c.head_of.result.made)
made_put c =
    let made : c.civil.result ≡ reading_of c.head_of.result.made =
    reading_is c.moment.result c.civil.result c.civil.ensures.reading ∙ ap reading_of (c.moment.ensures.value ∙ sym (ap (λ (h : MixedHeadView). h.made) (head_is c))) in
    c.put_made_line.ensures.items ∙ ap (λ (d : Civil). c.put_mixed_version_line.new.out.items ++ made_line d) made

marker_put : (c : goal.After-with_height) → c.put_marker_line.new.out.items ≡ c.put_made_line.new.out.items ++ marker_line c.head_of.result.marker
marker_put c =
    c.put_marker_line.ensures.items ∙ ap (λ (m : List ℕ). c.put_made_line.new.out.items ++ marker_line m) (c.as_bytes.ensures.value ∙ sym (ap (λ (h : MixedHeadView). h.marker) (head_is c)))

four : (out a b d e : List ℕ) → (((out ++ a) ++ b) ++ d) ++ e ≡ out ++ (((a ++ b) ++ d) ++ e)
four out a b d e = simp append_assoc

unknown_put : (c : goal.After-with_height) → c.put_unknown_lines.new.out.items ≡ c.put_marker_line.new.out.items ++ unknown_lines
unknown_put c =
    c.put_unknown_lines.ensures.items
    ∙ four c.put_marker_line.new.out.items (header_line (codes "GEODETIC") (codes "MARKER TYPE")) (header_line [] (codes "OBSERVER / AGENCY")) (header_line [] (codes "REC # / TYPE / VERS"))
    (header_line [] (codes "ANT # / TYPE"))

place_put : (c : goal.After-with_height) → c.put_place_line.new.out.items ≡ c.put_unknown_lines.new.out.items ++ place_line (position_view c.with_height.result)
place_put c = let same = c.with_height.ensures in rw (same.0, same.1, same.2) c.put_place_line.ensures.items

height_put : (c : goal.After-with_height) → c.put_height_line.new.out.items ≡ c.put_place_line.new.out.items ++ height_line c.with_height.result.height
height_put c = rw c.with_height.ensures.3 c.put_height_line.ensures.items

types_put : (c : goal.After-with_height) → c.read_types-listed.new.out.items ≡ c.put_height_line.new.out.items ++ types_and_unit c.head_of.result.doppler c.head_of.result.listed
types_put c =
    c.read_types-listed.ensures.written ∙ ap (λ (cs : List AnyCode). c.put_height_line.new.out.items ++ types_and_unit c.shows_doppler-doppler.result cs) (sym (listed_is c))
    ∙ ap (λ (d : Bool). c.put_height_line.new.out.items ++ types_and_unit d c.head_of.result.listed) (sym (doppler_is c))

first_put : (c : goal.After-with_height) → c.put_first_line.new.out.items ≡ c.read_types-listed.new.out.items ++ first_line (reading_of c.unwrap_or-first.result)
first_put c =
    c.put_first_line.ensures.items ∙ ap (λ (d : Civil). c.read_types-listed.new.out.items ++ first_line d) (reading_is c.unwrap_or-first.result c.civil-2.result c.civil-2.ensures.reading)

shift_put : (c : goal.After-with_height) → c.put_phase_shift_lines.new.out.items ≡ c.put_first_line.new.out.items ++ by_system phase_shift_line c.head_of.result.listed
shift_put c =
    c.put_phase_shift_lines.ensures.items ∙ ap (λ (cs : List AnyCode). c.put_first_line.new.out.items ++ by_system phase_shift_line cs) (c.as_slice.ensures.value ∙ sym (listed_is c))

glonass_put : (c : goal.After-with_height) → c.read_glonass-glonass.new.out.items ≡ c.put_phase_shift_lines.new.out.items ++ glonass_lines c.head_of.result.glonass
glonass_put c = c.read_glonass-glonass.ensures.written ∙ ap (λ (g : Option GlonassView). c.put_phase_shift_lines.new.out.items ++ glonass_lines g) (sym (glonass_is c))

-- ---- each part as it is read

place_at : (text out read : List ℕ) (n : ℕ) → read ≡ drop n text → n ≡ length out → read ≡ drop (length out) text
place_at text out read n e f = e ∙ ap (λ (k : ℕ). drop k text) f

types_read : (c : goal.After-with_height)
    → Reads {V = List AnyCode} (IsListOf c.read_file_letter-file.result) (λ ds. ds ≡ c.head_of.result.listed) (types_and_unit c.head_of.result.doppler) (drop (length c.put_height_line.new.out.items) c.args.text.now) c.head_of.result.listed
types_read c =
    let rest : List ℕ = drop (length c.put_height_line.new.out.items) c.args.text.now in
    subst (λ (d : Bool). Reads {V = List AnyCode} (IsListOf c.read_file_letter-file.result) (λ ds. ds ≡ c.head_of.result.listed) (types_and_unit d) rest c.head_of.result.listed) (sym (doppler_is c))
    (subst (λ (cs : List AnyCode). Reads {V = List AnyCode} (IsListOf c.read_file_letter-file.result) (λ ds. ds ≡ cs) (types_and_unit c.shows_doppler-doppler.result) rest cs)
    (sym (listed_is c)) c.read_types-listed.ensures.shown)

flag_read : (c : goal.After-with_height) → c.head_of.result.doppler ≡ shows_doppler (drop (length c.put_height_line.new.out.items) c.args.text.now)
flag_read c = doppler_is c ∙ c.shows_doppler-doppler.ensures ∙ ap shows_doppler (place_at c.args.text.now _ _ _ c.after-5.ensures c.len-5.ensures.value)

glonass_read : (c : goal.After-with_height)
    → Reads {V = Option GlonassView} (TellsGlonass c.head_of.result.listed) (λ g. g ≡ c.head_of.result.glonass) glonass_lines (drop (length c.put_phase_shift_lines.new.out.items) c.args.text.now) c.head_of.result.glonass
glonass_read c =
    let rest : List ℕ = drop (length c.put_phase_shift_lines.new.out.items) c.args.text.now in
    subst (λ (t : Option GlonassView). Reads {V = Option GlonassView} (TellsGlonass c.head_of.result.listed) (λ g. g ≡ t) glonass_lines rest t) (sym (glonass_is c))
    (subst (λ (cs : List AnyCode). Reads {V = Option GlonassView} (TellsGlonass cs) (λ g. g ≡ c.read_glonass-glonass.result) glonass_lines rest c.read_glonass-glonass.result)
    (c.as_slice-2.ensures.value ∙ sym (listed_is c)) c.read_glonass-glonass.ensures.shown)

steps : (c : goal.After-with_height) → MixedSteps c.args.text.now c.read_file_letter-file.result (values c)
    c.put_mixed_version_line.new.out.items c.put_made_line.new.out.items c.put_marker_line.new.out.items c.put_unknown_lines.new.out.items c.put_place_line.new.out.items c.put_height_line.new.out.items
    c.read_types-listed.new.out.items c.put_first_line.new.out.items c.put_phase_shift_lines.new.out.items c.read_glonass-glonass.new.out.items c.put_end_line.new.out.items
steps c =
    let text : List ℕ = c.args.text.now in
    let head = head_is c in
    let same = c.with_height.ensures in
    record {
      good = good c;
      letter = letter_is c;
      put1 = version_put c;
      put2 = made_put c;
      put3 = marker_put c;
      put4 = unknown_put c;
      put5 = place_put c;
      put6 = height_put c;
      put7 = types_put c;
      put8 = first_put c;
      put9 = shift_put c;
      put10 = glonass_put c;
      put11 = c.put_end_line.ensures.items;
      read1 = λ l letter line. c.read_file_letter-file.ensures.shown l letter line;
      read2 = λ t moment whole line.
          ap (λ (h : MixedHeadView). h.made) head ∙ shown_or c.read_made.result _ c.unwrap_or-made.result t c.unwrap_or-made.ensures
          (c.read_made.ensures t moment whole (line.0, place_at text _ _ _ c.after.ensures c.len.ensures.value ∙ line.1));
      read3 = λ m marker line.
          ap (λ (h : MixedHeadView). h.marker) head ∙ shown_or c.read_marker.result _ c.unwrap_or-marker.result m c.unwrap_or-marker.ensures
          (c.read_marker.ensures m marker (line.0, place_at text _ _ _ c.after-2.ensures c.len-2.ensures.value ∙ line.1));
      read5 = λ s site line.
          let shown = some_or _ c.read_place.result _ c.unwrap_or-place.result c.unwrap_or-place.ensures
          (c.read_place.ensures s site (line.0, place_at text _ _ _ c.after-3.ensures c.len-3.ensures.value ∙ line.1)) in
          (same.0 ∙ shown.0, (same.1 ∙ shown.1, same.2 ∙ shown.2));
      read6 = λ h small line.
          same.3 ∙ shown_or c.read_height.result _ c.unwrap_or-height.result h c.unwrap_or-height.ensures
          (c.read_height.ensures h small (line.0, place_at text _ _ _ c.after-4.ensures c.len-4.ensures.value ∙ line.1));
      flag = flag_read c;
      read7 = types_read c;
      read8 = λ t moment line.
          shown_or c.read_first.result _ c.unwrap_or-first.result t c.unwrap_or-first.ensures
          (c.read_first.ensures t moment (line.0, place_at text _ _ _ c.after-6.ensures c.len-6.ensures.value ∙ line.1));
      read10 = glonass_read c;
    }

written : (c : goal.After-with_height) → c.put_end_line.new.out.items ≡ mixed_text (values c)
written c =
    mixed_written c.args.text.now c.read_file_letter-file.result (values c)
    c.put_mixed_version_line.new.out.items c.put_made_line.new.out.items c.put_marker_line.new.out.items c.put_unknown_lines.new.out.items c.put_place_line.new.out.items c.put_height_line.new.out.items
    c.read_types-listed.new.out.items c.put_first_line.new.out.items c.put_phase_shift_lines.new.out.items c.read_glonass-glonass.new.out.items c.put_end_line.new.out.items (steps c)

reads : (c : goal.After-with_height) → ReadsMixed c.args.text.now (values c)
reads c =
    mixed_read c.args.text.now c.read_file_letter-file.result (values c)
    c.put_mixed_version_line.new.out.items c.put_made_line.new.out.items c.put_marker_line.new.out.items c.put_unknown_lines.new.out.items c.put_place_line.new.out.items c.put_height_line.new.out.items
    c.read_types-listed.new.out.items c.put_first_line.new.out.items c.put_phase_shift_lines.new.out.items c.read_glonass-glonass.new.out.items c.put_end_line.new.out.items
    c.any_code_laws.ensures.places (steps c)

pub returns-clause-written : goal.returns-clause-written
returns-clause-written c = written c

pub returns-clause-shown : goal.returns-clause-shown
returns-clause-shown c = shows_mixed c.args.text.now c.put_end_line.new.out.items (values c) (written c) (reads c)

pub returns-clause-only : goal.returns-clause-only
returns-clause-only c = only_mixed c.args.text.now (values c) (λ u g. whole_mixed u c.any_code_laws.ensures.places g) (reads c)
