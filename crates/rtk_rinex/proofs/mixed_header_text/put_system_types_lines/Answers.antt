use Rattle.std.proofs.Common.{◌≡◌, ◌≤◌, ◌∙◌, ◌++◌, List, length, ap, arith, length-append}
use Rattle.rtk_obs.specs.declared.any_code.AnyCode.{AnyCode}
use Rattle.rtk_rinex.specs.MixedHeader.{codes_of, system_types_lines}
use Rattle.rtk_rinex.proofs.MixedListLemmas.{few_codes}
use Rattle.rtk_rinex.proofs.MixedRoomLemmas.{types_room, one_room}
use Rattle.rtk_rinex.proofs.mixed_header_text.put_system_types_lines.Goals as goal

few : (c : goal.After-as_slice) → length (codes_of c.args.system c.args.listed.now) ≤ 16
few c = few_codes c.args.system 16 c.args.listed.now c.any_code_laws.ensures.places (λ d e. c.any_code_laws.ensures.bound d) c.requires.listed.order

pub put_types_of-requires-clause-few : goal.put_types_of-requires-clause-few
put_types_of-requires-clause-few c = rw (c.as_slice.ensures.value, c.codes_of.ensures.value) (few c)

pub returns-clause-lines : goal.returns-clause-lines
returns-clause-lines c =
    let cs : List AnyCode = codes_of c.args.system c.args.listed.now in
    let put : c.put_types_of.new.out.items ≡ c.args.out.now.items ++ system_types_lines c.args.doppler c.args.system cs =
    rw (c.as_slice.ensures.value, c.codes_of.ensures.value) at c.put_types_of.ensures.items in
    let room = types_room c.args.doppler c.args.system cs (few_codes c.args.system 16 c.args.listed.now c.any_code_laws.ensures.places (λ d e. c.any_code_laws.ensures.bound d) c.requires.listed.order) in
    let size = ap length put ∙ length-append c.args.out.now.items (system_types_lines c.args.doppler c.args.system cs) in
    omega (arith, size, room)

pub returns-clause-few : goal.returns-clause-few
returns-clause-few c = few_codes c.args.system 16 c.args.listed.now c.any_code_laws.ensures.places (λ d e. c.any_code_laws.ensures.bound d) c.requires.listed.order

pub returns-clause-room : goal.returns-clause-room
returns-clause-room c =
    let cs : List AnyCode = codes_of c.args.system c.args.listed.now in
    let put : c.put_types_of.new.out.items ≡ c.args.out.now.items ++ system_types_lines c.args.doppler c.args.system cs =
    rw (c.as_slice.ensures.value, c.codes_of.ensures.value) at c.put_types_of.ensures.items in
    let short = few_codes c.args.system 16 c.args.listed.now c.any_code_laws.ensures.places (λ d e. c.any_code_laws.ensures.bound d) c.requires.listed.order in
    let room = types_room c.args.doppler c.args.system cs short in
    let lines = one_room c.args.doppler (length cs) short in
    let size = ap length put ∙ length-append c.args.out.now.items (system_types_lines c.args.doppler c.args.system cs) in
    omega (arith, size, room, lines)
