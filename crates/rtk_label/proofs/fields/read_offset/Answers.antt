use Rattle.std.proofs.Common.{◌∙◌, arith}
use Rattle.rtk_label.proofs.ChoiceLemmas.{clash}
use Rattle.rtk_label.proofs.OffsetLemmas.{offset-none, offset-some}
use Rattle.rtk_label.proofs.fields.read_offset.Goals as goal

pub returns-then-not-is_offset : goal.returns-then-not-is_offset
returns-then-not-is_offset c =
    let n = c.blank_count in
    rw c.new.ensures (offset-none c.args.columns.now n.result c.requires (omega (arith, n.ensures.within, c.requires)) n.ensures.blanks n.ensures.most
    (λ is. clash c.is_offset.result c.if-not-is_offset.true (c.is_offset.ensures.1 (rw c.split_at.ensures.back is))))

pub returns : goal.returns
returns c =
    let n = c.blank_count in
    offset-some c.args.columns.now c.field_of.result.items n.result c.requires (omega (arith, n.ensures.within, c.requires)) n.ensures.blanks n.ensures.most
    (c.field_of.ensures ∙ c.split_at.ensures.back) (rw c.split_at.ensures.back at (c.is_offset.ensures.0 c.if-not-is_offset.false))
