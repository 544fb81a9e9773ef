use Rattle.std.proofs.Common.{refl, sym, ◌∙◌}
use Rattle.rtk_chart.proofs.GridLemmas.{codes-called, unseen-called}
use Rattle.rtk_chart.proofs.tracking.Tracking.of_epoch.Goals as goal

pub returns-then-not-is_seen : goal.returns-then-not-is_seen
returns-then-not-is_seen c = λ before stands last.
    c.new.ensures ∙ unseen-called c.args.interval before c.args.time_ms c.args.observed.now (sym c.is_seen.ensures ∙ c.if-not-is_seen.true)

pub returns : goal.returns
returns c = λ before stands last.
    codes-called c.args.interval before (record { time = c.args.time_ms; observed = c.args.observed.now }) c.args.observed.now c.known-known.result.had c.known-known.result.kept c.of.result
    refl ((c.known-known.ensures before stands last).had) ((c.known-known.ensures before stands last).kept) c.of.ensures.codes c.of.ensures.seen
