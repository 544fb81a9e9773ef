use Rattle.std.proofs.Common.{◌≡◌, ◌/◌, length, arith, is_some}
use Rattle.std.specs.List.{count_by}
use Rattle.rtk_rinex.proofs.HeaderLemmas.{append-four}
use Rattle.rtk_rinex.proofs.mixed_header_text.put_slots_lines.Goals as goal

pub returns-clause-items : goal.returns-clause-items
returns-clause-items c =
    let size = c.slots_text-slots.ensures.len in
    let n : length c.slots_text-slots.result.items / 7 ≡ count_by is_some c.args.channels = omega arith in
    rw (c.put_further_slots_line-3.ensures.items, c.after-3.ensures, c.put_further_slots_line-2.ensures.items, c.after-2.ensures, c.put_further_slots_line.ensures.items, c.after.ensures, c.put_header_line.ensures.items, c.as_slice.ensures.value, c.slots_content.ensures.value, c.front.ensures.value, c.as_slice-text.ensures.value, n, c.slots_text-slots.ensures.value) (append-four c.args.out.now.items _ _ _ _)
