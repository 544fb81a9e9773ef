use Rattle.std.proofs.Common.{ap, ◌∙◌}
use Rattle.rtk_systems.specs.FoundSeconds.{seconds_found_if}
use Rattle.rtk_systems.proofs.found_seconds.seconds_in_captures.Goals as goal

pub returns : goal.returns
returns c =
    let table = c.leap_seconds_at-table.result in
    let first = c.leap_seconds_at-first.result in
    let last = c.leap_seconds_at-last.result in (
      table,
      c.leap_seconds_at-table.ensures,
      (
        first,
        c.leap_seconds_at-first.ensures,
        (
          last,
          c.leap_seconds_at-last.ensures,
          c.in_ok-seconds.ensures
              ∙ ap (λ days. seconds_found_if c.args.asked c.args.surveys.now c.args.station days table first last) c.table_seconds-days.ensures,
        ),
      ),
    )
