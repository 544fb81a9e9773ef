use Rattle.std.proofs.Common.{◌≡◌, ◌≤◌, ◌+◌, ◌∙◌, ℕ, List, ap, sym, subst, arith, length, take}
use Rattle.std.proofs.lemmas.List.{take_all}
use Rattle.rtk_rinex.specs.MixedHeader.{types_text}
use Rattle.rtk_rinex.proofs.MixedRoomLemmas.{length-types_text, room_for_types}
use Rattle.rtk_rinex.proofs.mixed_header_text.types_text.Goals as goal

pub put_code_types-requires : goal.put_code_types-requires
put_code_types-requires c =
    subst (λ (xs : List ℕ). length xs + 16 ≤ 256) (sym c.loop-code.invariant) (room_for_types c.args.doppler c.loop-code.code-index c.args.codes.now (omega arith) c.requires)

pub returns-clause-len : goal.returns-clause-len
returns-clause-len c =
    let whole : take c.loop-code.code-index c.args.codes.now ≡ c.args.codes.now = take_all c.loop-code.code-index c.args.codes.now (omega arith) in
    ap length (c.loop-code.invariant ∙ ap (types_text c.args.doppler) whole) ∙ length-types_text c.args.doppler c.args.codes.now
