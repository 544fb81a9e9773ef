use Rattle.std.proofs.Common.{◌≡◌, ◌++◌}
use Rattle.std.specs.Prelude.{flat_map}
use Rattle.rtk_plan.specs.LeftOut.{dayless_line, dayless_among}
use Rattle.rtk_plan.proofs.left_out.put_dayless_among.Given as goal

-- the lines so far and those of the numbers that are left are those of all
abbrev pub invariant-loop-number : goal.invariant-loop-number
invariant-loop-number l =
    l.lines.items ++ flat_map (λ e. dayless_line l.taken l.name e.0 e.1) l.number-iterator ≡ l.fn.lines.items ++ dayless_among l.taken l.name l.counts
