use Rattle.std.proofs.Common.{ℕ, ◌++◌, List, Option, sym, ap, ◌∙◌}
use Rattle.std.proofs.lemmas.List.{append-nil}
use Rattle.rtk_label.specs.TimeLines.{interval_line}
use Rattle.rtk_label.proofs.ToldLemmas.{interval-shown, interval-hidden}
use Rattle.rtk_label.proofs.time_lines.put_interval_line.Goals as goal

pub returns-in_default-clause-items : goal.returns-in_default-clause-items
returns-in_default-clause-items c =
    let out : List ℕ = c.args.out.now.items in
    sym (append-nil out) ∙ ap (λ (o : Option ℕ). out ++ interval_line o) (sym c.in_default.is)

pub returns-then-ms-lt-TOO_LONG_MS-clause-items : goal.returns-then-ms-lt-TOO_LONG_MS-clause-items
returns-then-ms-lt-TOO_LONG_MS-clause-items c =
    rw (c.put_line.ensures.items, c.as_slice.ensures.value, c.interval_columns.ensures.value)
    (interval-shown c.args.out.now.items c.args.interval_ms c.in-Some.ms c.in-Some.is c.if-ms-lt-TOO_LONG_MS.true)

pub returns-else-ms-lt-TOO_LONG_MS-clause-items : goal.returns-else-ms-lt-TOO_LONG_MS-clause-items
returns-else-ms-lt-TOO_LONG_MS-clause-items c =
    interval-hidden c.args.out.now.items c.args.interval_ms c.in-Some.ms c.in-Some.is c.if-ms-lt-TOO_LONG_MS.false
