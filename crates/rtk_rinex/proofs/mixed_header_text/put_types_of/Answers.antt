use Rattle.std.proofs.Common.{arith, sym, ◌∙◌, ap, ◌++◌, List, ℕ}
use Rattle.rtk_rinex.proofs.HeaderLemmas.{append-five}
use Rattle.rtk_rinex.proofs.MixedRoomLemmas.{types_lines-some}
use Rattle.rtk_rinex.proofs.mixed_header_text.put_types_of.Goals as goal

pub returns : goal.returns
returns c = record {
  items = rw (c.put_continuation_line-4.ensures.items, c.after-4.ensures, c.put_continuation_line-3.ensures.items, c.after-3.ensures, c.put_continuation_line-2.ensures.items, c.after-2.ensures, c.put_continuation_line.ensures.items, c.after.ensures, c.put_header_line.ensures.items, c.as_slice.ensures.value, c.types_content.ensures.value, c.count_of_types-count.ensures.value, c.front.ensures.value, c.as_slice-text.ensures.value, c.types_text-types.ensures.value)
      (append-five c.args.out.now.items _ _ _ _ _) ∙ ap (λ (x : List ℕ). c.args.out.now.items ++ x) (sym (types_lines-some c.args.doppler c.args.system c.args.codes.now (omega arith)));
}
