use Rattle.std.proofs.Common.{◌≡◌, ◌++◌}
use Rattle.std.specs.Prelude.{flat_map}
use Rattle.rtk_plan.specs.LeftOut.{refused_number_line, refused_among}
use Rattle.rtk_plan.proofs.left_out.put_refused_among.Given as goal

-- the lines so far and those of the numbers that are left are those of all
abbrev pub invariant-loop-number : goal.invariant-loop-number
invariant-loop-number l =
    l.lines.items ++ flat_map (λ e. refused_number_line l.words l.name e.0 e.1) l.number-iterator ≡ l.fn.lines.items ++ refused_among l.words l.name l.counts
