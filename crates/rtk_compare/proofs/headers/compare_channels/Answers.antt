use Rattle.std.proofs.Common.{◌≡◌, ◌+◌, ◌-◌, ◌≤◌, ℕ, suc, ap, arith}
use Rattle.std.specs.Prelude.{flat_map}
use Rattle.std.specs.List.{range_with_len}
use Rattle.rtk_compare.specs.Headers.{slot_lines}
use Rattle.rtk_compare.proofs.FindingLemmas.{adds-as}
use Rattle.rtk_compare.proofs.HeaderLemmas.{adds-next}
use Rattle.rtk_compare.proofs.headers.compare_channels.Goals as goal

pub loop-slot-preserved : goal.loop-slot-preserved
loop-slot-preserved c =
    let l = c.loop-slot in
    let from : 1 ≤ l.slot = l.auto.slot in
    let at : l.slot ≡ 1 + (l.slot - 1) = omega arith in
    let next : (l.slot + 1) - 1 ≡ suc (l.slot - 1) = omega arith in
    adds-next (slot_lines c.args.old.now c.args.new.now) l.slot (l.slot - 1) ((l.slot + 1) - 1) c.args.findings.now l.findings c.compare_slots.new.findings at next l.invariant c.compare_slots.ensures

pub returns : goal.returns
returns c =
    let l = c.loop-slot in
    let end : l.slot - 1 ≡ 27 = omega (arith, l.auto.slot-end, c.loop-slot-test.false) in
    adds-as (ap (λ (n : ℕ). flat_map (slot_lines c.args.old.now c.args.new.now) (range_with_len 1 n)) end) l.invariant
