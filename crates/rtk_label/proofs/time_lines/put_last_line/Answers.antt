use Rattle.std.proofs.Common.{ℕ, ◌++◌, List, Option, sym, ap, ◌∙◌}
use Rattle.std.proofs.lemmas.List.{append-nil}
use Rattle.rtk_obs.proofs.PublicLaws.{reading_is}
use Rattle.rtk_label.specs.TimeLines.{last_time_line}
use Rattle.rtk_label.proofs.time_lines.put_last_line.Goals as goal

pub returns-in_default-clause-items : goal.returns-in_default-clause-items
returns-in_default-clause-items c =
    let out : List ℕ = c.args.out.now.items in
    sym (append-nil out) ∙ ap (λ (o : Option ℕ). out ++ last_time_line o) (sym c.in_default.is)

pub returns-clause-items : goal.returns-clause-items
returns-clause-items c =
    let out : List ℕ = c.args.out.now.items in
    rw (c.put_line.ensures.items, c.as_slice.ensures.value, c.moment_columns.ensures.value, reading_is c.in-Some.time c.civil.result c.civil.ensures.reading)
    (ap (λ (o : Option ℕ). out ++ last_time_line o) (sym c.in-Some.is))
