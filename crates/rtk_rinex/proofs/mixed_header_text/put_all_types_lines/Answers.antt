use Rattle.std.proofs.Common.{arith}
use Rattle.rtk_rinex.proofs.MixedListLemmas.{most_codes}
use Rattle.rtk_rinex.proofs.MixedRoomLemmas.{seven_rooms}
use Rattle.rtk_rinex.proofs.mixed_header_text.put_all_types_lines.Goals as goal

pub returns-clause-len : goal.returns-clause-len
returns-clause-len c =
    let one = c.any_code_laws.ensures.places in
    let order = c.requires.listed.order in
    let room = seven_rooms c.args.doppler _ _ _ _ _ _ _ (most_codes 71 c.args.listed.now one order) (most_codes 82 c.args.listed.now one order) (most_codes 69 c.args.listed.now one order)
    (most_codes 67 c.args.listed.now one order) (most_codes 74 c.args.listed.now one order) (most_codes 83 c.args.listed.now one order) (most_codes 73 c.args.listed.now one order) in
    omega (arith, room, c.put_system_types_lines.ensures.lines, c.put_system_types_lines-2.ensures.lines, c.put_system_types_lines-3.ensures.lines, c.put_system_types_lines-4.ensures.lines, c.put_system_types_lines-5.ensures.lines, c.put_system_types_lines-6.ensures.lines, c.put_system_types_lines-7.ensures.lines)
