use Rattle.std.proofs.Common.{◌≡◌, ℕ, List, Some, sym, ap, subst, ◌∙◌, Option}
use Rattle.rtk_rinex.specs.Record.{EpochTableView}
use Rattle.rtk_tracking.specs.Epochs.{newest_moment}
use Rattle.rtk_tracking.specs.Passes.{is_slip, is_rise, is_return}
use Rattle.rtk_tracking.specs.declared.passes.Pass.{Pass}
use Rattle.rtk_chart.specs.Epochs.{times_in, times_in_epoch}
use Rattle.rtk_chart.specs.Steps.Standing.{StandForPasses}
use Rattle.rtk_chart.specs.Steps.Shown.{bin_of}
use Rattle.rtk_chart.proofs.GridLemmas.{slips-called, returns-called, rises-called, capped-more}
use Rattle.rtk_chart.proofs.grid.Grid.place_record.Goals as goal

pub returns-clause-grid : goal.returns-clause-grid
returns-clause-grid c = λ es stands.
    let s = c.args.scale.now in
    let e : EpochTableView = c.args.epoch.now in
    let interval : Option ℕ = s.interval in
    let record_is : c.ms_of-record_ms.result ≡ newest_moment es = c.ms_of-record_ms.ensures ∙ stands.last in
    let t = c.count_missing.ensures in
    let missing = t.missing es stands.last (record { gaps = stands.missing.gaps; count = stands.missing.count }) in
    let called : c.call_for.new.self ≡ bin_of interval es e = c.call_for.ensures es stands.passes record_is in
    record {
      bins = c.note_in_bin.ensures.noted e es (c.ms.ensures.value ∙ c.time.ensures) (t.called ∙ called) (ap (λ v. v.items) t.bins ∙ stands.bins);
      missing = record { gaps = missing.gaps; count = missing.count };
      last = ap Some c.time-3.ensures;
      outages = c.note_outages.ensures.noted es (subst (λ (ps : List Pass). StandForPasses ps interval es) (sym t.passes) stands.passes) record_is
          (ap (λ v. v.items) t.outages ∙ stands.outages);
      passes = c.note_passes.ensures es (subst (λ (ps : List Pass). StandForPasses ps interval es) (sym t.passes) stands.passes) record_is;
      recorded = c.note_record.ensures e es (c.ms-2.ensures.value ∙ c.time-2.ensures) (ap (λ v. v.items) t.recorded ∙ stands.recorded);
      strengths = c.note_strengths.ensures es (ap (λ v. v.items) t.strengths ∙ stands.strengths);
      slips = capped-more c.saturating_add-self.result c.count_missing.new.self.slips c.counts-counts.result.slips (times_in (is_slip interval) es) (times_in_epoch (is_slip interval) es e)
          c.saturating_add-self.ensures (t.slips ∙ stands.slips) (c.counts-counts.ensures.slips ∙ slips-called interval es e c.call_for.new.self called);
      returns = capped-more c.saturating_add-self-2.result c.count_missing.new.self.returns c.counts-counts.result.returns (times_in (is_return interval) es) (times_in_epoch (is_return interval) es e)
          c.saturating_add-self-2.ensures (t.returns ∙ stands.returns) (c.counts-counts.ensures.returns ∙ returns-called interval es e c.call_for.new.self called);
      rises = capped-more c.saturating_add-self-3.result c.count_missing.new.self.rises c.counts-counts.result.rises (times_in (is_rise interval) es) (times_in_epoch (is_rise interval) es e)
          c.saturating_add-self-3.ensures (t.rises ∙ stands.rises) (c.counts-counts.ensures.rises ∙ rises-called interval es e c.call_for.new.self called);
    }
