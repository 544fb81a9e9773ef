use Rattle.std.proofs.Common.{refl, arith}
use Rattle.rtk_rinex.proofs.MixedRoomLemmas.{seven_rooms, all_room}
use Rattle.rtk_rinex.proofs.SystemsReadLemmas.{systems_read, SystemsRead}
use Rattle.rtk_rinex.proofs.mixed_types_read.read_types.Goals as goal

pub read_system-requires-3-clause-letter : goal.read_system-requires-3-clause-letter
read_system-requires-3-clause-letter c = (2, omega arith, refl)

pub read_system-requires-4-clause-letter : goal.read_system-requires-4-clause-letter
read_system-requires-4-clause-letter c = (3, omega arith, refl)

pub read_system-requires-5-clause-letter : goal.read_system-requires-5-clause-letter
read_system-requires-5-clause-letter c = (4, omega arith, refl)

pub read_system-requires-6-clause-letter : goal.read_system-requires-6-clause-letter
read_system-requires-6-clause-letter c = (5, omega arith, refl)

pub read_system-requires-7-clause-letter : goal.read_system-requires-7-clause-letter
read_system-requires-7-clause-letter c = (6, omega arith, refl)

read : (c : goal.After-put_unit_line) → SystemsRead c.args.doppler c.args.text.now c.args.file c.args.out.now.items c.put_unit_line.new.out.items c.read_system-7.new.listed.items
read c =
    systems_read c.args.doppler c.args.text.now c.args.file c.new-listed.result.items c.read_system.new.listed.items c.read_system-2.new.listed.items c.read_system-3.new.listed.items c.read_system-4.new.listed.items c.read_system-5.new.listed.items c.read_system-6.new.listed.items c.read_system-7.new.listed.items
    c.args.out.now.items c.read_system.new.out.items c.read_system-2.new.out.items c.read_system-3.new.out.items c.read_system-4.new.out.items c.read_system-5.new.out.items c.read_system-6.new.out.items c.read_system-7.new.out.items c.put_unit_line.new.out.items
    c.requires.file c.any_code_laws.ensures.places c.new-listed.ensures
    c.read_system.ensures.reads c.read_system-2.ensures.reads c.read_system-3.ensures.reads c.read_system-4.ensures.reads c.read_system-5.ensures.reads c.read_system-6.ensures.reads c.read_system-7.ensures.reads
    (let few = c.read_system-7.ensures.few in omega (arith, few)) c.put_unit_line.ensures.items

pub returns-clause-good : goal.returns-clause-good
returns-clause-good c = (read c).good

pub returns-clause-written : goal.returns-clause-written
returns-clause-written c = (read c).put

pub returns-clause-shown : goal.returns-clause-shown
returns-clause-shown c = (read c).shown

pub returns-clause-len : goal.returns-clause-len
returns-clause-len c =
    let room = seven_rooms c.args.doppler 16 4 15 16 13 4 1 (omega arith) (omega arith) (omega arith) (omega arith) (omega arith) (omega arith) (omega arith) in
    let most = all_room c.args.doppler in
    omega (arith, room, most, c.read_system.ensures.lines, c.read_system-2.ensures.lines, c.read_system-3.ensures.lines, c.read_system-4.ensures.lines, c.read_system-5.ensures.lines, c.read_system-6.ensures.lines, c.read_system-7.ensures.lines, c.put_unit_line.ensures.len)
