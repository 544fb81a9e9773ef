use Rattle.std.proofs.Common.{◌≡◌, ◌*◌, ◌%◌, ◌^◌, [], ◌∷◌, ap, ◌∙◌, arith}
use Rattle.rtk_frame.specs.Steps.Remainder.{remainder}
use Rattle.rtk_frame.proofs.Parts.{crc_with}
use Rattle.rtk_frame.proofs.checksum.checksum_with.Goals as goal

pub returns-clause-value : goal.returns-clause-value
returns-clause-value c = λ text e.
    let s : c.args.checksum * 2 ^ 8 % 2 ^ 32 ≡ c.args.checksum * 2 ^ 8 = omega arith in
    crc_with text c.args.checksum c.args.byte c.after_byte.result e (omega (arith, c.after_byte.type_inv)) (c.after_byte.ensures [] ∙ ap (λ z. remainder z (c.args.byte ∷ [])) s)
