use Rattle.std.proofs.Common.{ℕ, Bool, ◌≤◌, ◌∙◌, length, ap, subst, arith, if◌then◌else◌}
use Rattle.rtk_rinex.specs.Header.{made_line, marker_line, position_view, place_line, height_line, unit_line, first_line}
use Rattle.rtk_rinex.specs.MixedHeader.{version_letter, mixed_version_line, by_system, system_types_lines, phase_shift_line, glonass_lines, mixed_header_text}
use Rattle.rtk_obs.specs.Reading.{reading_of}
use Rattle.rtk_rinex.proofs.MixedRoomLemmas.{mixed-in_row, whole_room}
use Rattle.rtk_obs.proofs.PublicLaws.{reading_is}
use Rattle.rtk_rinex.proofs.mixed_header_text.mixed_header_lines.Goals as goal

pub returns-clause-value : goal.returns-clause-value
unfolding mixed_header_text
returns-clause-value c =
    let head = c.args.head.now in
    let site = position_view c.args.position.now in
    rw (c.put_end_line.ensures.items, c.put_glonass_lines.ensures.items, c.glonass.ensures.value, c.put_phase_shift_lines.ensures.items, c.codes-3.ensures.value, c.put_first_line.ensures.items, c.put_unit_line.ensures.items, c.put_all_types_lines.ensures.items, c.has_doppler.ensures, c.codes-2.ensures.value, c.put_height_line.ensures.items, c.put_place_line.ensures.items, c.put_unknown_lines.ensures.items, c.put_marker_line.ensures.items, c.put_made_line.ensures.items, c.put_mixed_version_line.ensures.items, c.version_letter.ensures, c.codes.ensures.value, c.new-out.ensures, c.marker.ensures.value, reading_is c.made.result c.civil.result c.civil.ensures.reading, c.made.ensures.value, reading_is c.args.first c.civil-2.result c.civil-2.ensures.reading)
    (mixed-in_row (mixed_version_line (version_letter head.listed)) (made_line (reading_of head.made)) (marker_line head.marker) _ _ _ _ (place_line site) (height_line site.height) (by_system (system_types_lines head.doppler) head.listed) unit_line (first_line (reading_of c.args.first)) (by_system phase_shift_line head.listed) (glonass_lines head.glonass) _)

pub returns-clause-few : goal.returns-clause-few
returns-clause-few c =
    let none = ap length c.new-out.ensures in
    subst (λ (m : ℕ). length c.put_end_line.new.out.items ≤ m) (whole_room c.has_doppler.result ∙ ap (λ (b : Bool). if b then 3969 else 3483) c.has_doppler.ensures)
    (omega (arith, none, c.put_mixed_version_line.ensures.len, c.put_made_line.ensures.len, c.put_marker_line.ensures.len, c.put_unknown_lines.ensures.len, c.put_place_line.ensures.len, c.put_height_line.ensures.len, c.put_all_types_lines.ensures.len, c.put_unit_line.ensures.len, c.put_first_line.ensures.len, c.put_phase_shift_lines.ensures.len, c.put_glonass_lines.ensures.len, c.put_end_line.ensures.len))
