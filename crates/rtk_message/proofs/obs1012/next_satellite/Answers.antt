use Rattle.std.proofs.Common.{arith, w16, w32}
use Rattle.std.proofs.lemmas.Int.{to_z-of_z}
use mir.Val.{SFits}
use Rattle.rtk_message.proofs.FieldLemmas.{took, took_none, took_both, took_word}
use Rattle.rtk_message.proofs.obs1012.next_satellite.Goals as goal

pub returns-clause-fields : goal.returns-clause-fields
returns-clause-fields c =
    let first = took_word (took c.next_u8.ensures.taken (took c.next_flag.ensures.taken (took c.next_u8-2.ensures.taken (took c.next_u32.ensures.taken (took c.next_i32.ensures.taken took_none)))))
    (omega (arith, c.next_word-first.ensures.width, c.next_u8.ensures.left, c.next_flag.ensures.left, c.next_u8-2.ensures.left, c.next_u32.ensures.left, c.next_i32.ensures.left)) c.next_word-first.ensures.bits in
    let second = took_word (took c.next_u8-3.ensures.taken (took c.next_u8-4.ensures.taken (took c.next_u8-5.ensures.taken (took c.next_u8-6.ensures.taken (took c.next_i16.ensures.taken took_none)))))
    (omega (arith, c.next_word-second.ensures.width, c.next_u8-3.ensures.left, c.next_u8-4.ensures.left, c.next_u8-5.ensures.left, c.next_u8-6.ensures.left, c.next_i16.ensures.left)) c.next_word-second.ensures.bits in
    let third = took_word (took c.next_i32-2.ensures.taken (took c.next_u8-7.ensures.taken (took c.next_u8-8.ensures.taken took_none)))
    (omega (arith, c.next_word-third.ensures.width, c.next_i32-2.ensures.left, c.next_u8-7.ensures.left, c.next_u8-8.ensures.left)) c.next_word-third.ensures.bits in
    let all = took_both first (took_both second third) in
    let s1 : SFits w32 c.next_i32.result = record { sfits = c.next_i32.type_inv } in
    let s2 : SFits w16 c.next_i16.result = record { sfits = c.next_i16.type_inv } in
    let s3 : SFits w32 c.next_i32-2.result = record { sfits = c.next_i32-2.type_inv } in
    simp (to_z-of_z w32 c.next_i32.result s1, to_z-of_z w16 c.next_i16.result s2, to_z-of_z w32 c.next_i32-2.result s3) all
