use Rattle.std.proofs.Common.{◌≡◌, ◌++◌, take}
use Rattle.std.specs.Prelude.{flat_map}
use Rattle.rtk_captures.specs.Lists.{date_line}
use Rattle.rtk_captures.proofs.captures.put_dates.Given as goal

abbrev pub invariant-loop-date : goal.invariant-loop-date
invariant-loop-date l =
    l.lines.items ≡ l.fn.lines.items ++ flat_map (λ t. date_line t l.name) (take l.date-index l.dates)
