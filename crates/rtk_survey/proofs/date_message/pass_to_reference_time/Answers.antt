use Rattle.std.proofs.Common.{Bool, List, arith}
use Rattle.rtk_survey.proofs.BitLemmas.{left_long, left_twice}
use Rattle.rtk_survey.proofs.date_message.pass_to_reference_time.Goals as goal

pub next_u-passed-requires-2-clause-enough : goal.next_u-passed-requires-2-clause-enough
next_u-passed-requires-2-clause-enough c = left_long c.args.reader.now c.next_u-passed.new.self 64 64 c.next_u-passed.ensures.rest (omega (arith, c.requires))

pub next_u-passed-requires-3-clause-enough : goal.next_u-passed-requires-3-clause-enough
next_u-passed-requires-3-clause-enough c =
    let bs : List Bool = c.args.reader.now in
    let second = left_twice bs c.next_u-passed.new.self c.next_u-passed-2.new.self 64 64 c.next_u-passed.ensures.rest c.next_u-passed-2.ensures.rest in
    left_long bs c.next_u-passed-2.new.self 128 64 second (omega (arith, c.requires))

pub next_u-passed-requires-4-clause-enough : goal.next_u-passed-requires-4-clause-enough
next_u-passed-requires-4-clause-enough c =
    let bs : List Bool = c.args.reader.now in
    let second = left_twice bs c.next_u-passed.new.self c.next_u-passed-2.new.self 64 64 c.next_u-passed.ensures.rest c.next_u-passed-2.ensures.rest in
    let third = left_twice bs c.next_u-passed-2.new.self c.next_u-passed-3.new.self 128 64 second c.next_u-passed-3.ensures.rest in
    left_long bs c.next_u-passed-3.new.self 192 64 third (omega (arith, c.requires))

pub next_u-passed-requires-5-clause-enough : goal.next_u-passed-requires-5-clause-enough
next_u-passed-requires-5-clause-enough c =
    let bs : List Bool = c.args.reader.now in
    let second = left_twice bs c.next_u-passed.new.self c.next_u-passed-2.new.self 64 64 c.next_u-passed.ensures.rest c.next_u-passed-2.ensures.rest in
    let third = left_twice bs c.next_u-passed-2.new.self c.next_u-passed-3.new.self 128 64 second c.next_u-passed-3.ensures.rest in
    let fourth = left_twice bs c.next_u-passed-3.new.self c.next_u-passed-4.new.self 192 64 third c.next_u-passed-4.ensures.rest in
    left_long bs c.next_u-passed-4.new.self 256 4 fourth (omega (arith, c.requires))

pub returns : goal.returns
returns c =
    let bs : List Bool = c.args.reader.now in
    let second = left_twice bs c.next_u-passed.new.self c.next_u-passed-2.new.self 64 64 c.next_u-passed.ensures.rest c.next_u-passed-2.ensures.rest in
    let third = left_twice bs c.next_u-passed-2.new.self c.next_u-passed-3.new.self 128 64 second c.next_u-passed-3.ensures.rest in
    let fourth = left_twice bs c.next_u-passed-3.new.self c.next_u-passed-4.new.self 192 64 third c.next_u-passed-4.ensures.rest in
    left_twice bs c.next_u-passed-4.new.self c.next_u-passed-5.new.self 256 4 fourth c.next_u-passed-5.ensures.rest
