use Rattle.std.proofs.Common.{sym, ◌∙◌}
use Rattle.rtk_chart.proofs.GridLemmas.{pass-unseen}
use Rattle.rtk_chart.proofs.grid.note_pass.Goals as goal

pub returns-then-is_seen : goal.returns-then-is_seen
returns-then-is_seen c = λ before stands last. c.note.ensures before stands last

pub returns-else-is_seen : goal.returns-else-is_seen
returns-else-is_seen c = λ before stands last.
    pass-unseen c.args.pass.now c.args.interval before c.args.time_ms c.args.observed.now (sym c.is_seen.ensures ∙ c.if-is_seen.false) stands
