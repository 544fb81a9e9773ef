use Rattle.rtk_rinex.specs.Header.{version_line, made_line, marker_line, position_view, place_line, height_line, types_lines, unit_line, first_line, header_text}
use Rattle.rtk_obs.specs.Reading.{reading_of}
use Rattle.rtk_rinex.proofs.HeaderLemmas.{parts-in_row}
use Rattle.rtk_obs.proofs.PublicLaws.{reading_is}
use Rattle.rtk_rinex.proofs.header_text.header_lines.Goals as goal

pub returns : goal.returns
unfolding header_text
returns c =
    let head = c.args.head.now in
    let site = position_view c.args.position.now in
    rw (c.put_end_lines.ensures.items, c.put_first_line.ensures.items, c.put_unit_line.ensures.items, c.put_types_lines.ensures.items, c.put_height_line.ensures.items, c.put_place_line.ensures.items, c.put_unknown_lines.ensures.items, c.put_marker_line.ensures.items, c.put_made_line.ensures.items, c.put_version_line.ensures.items, c.new-out.ensures, c.marker.ensures.value, reading_is c.made.result c.civil.result c.civil.ensures.reading, c.made.ensures.value, c.codes.ensures.value, reading_is c.args.first c.civil-2.result c.civil-2.ensures.reading)
    (parts-in_row version_line (made_line (reading_of head.made)) (marker_line head.marker) _ _ _ _ (place_line site) (height_line site.height) (types_lines head.listed) unit_line (first_line (reading_of c.args.first)) _ _)
