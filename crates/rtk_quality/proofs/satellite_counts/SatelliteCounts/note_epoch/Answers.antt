use Rattle.std.proofs.Common.{ℕ, sym, ap, ◌∙◌}
use Rattle.rtk_quality.specs.Counts.{plus}
use Rattle.rtk_quality.proofs.CountLemmas.{same-codes}
use Rattle.rtk_quality.proofs.satellite_counts.SatelliteCounts.note_epoch.Goals as goal

pub returns : goal.returns
returns c = λ interval before time stands. record {
  pass = record { last = stands.pass.last; had = stands.pass.had; kept = stands.pass.kept };
  codes = stands.codes ∙ sym (same-codes interval time before);
  in_passes = stands.in_passes;
  since_phase = c.saturating_add-self.ensures ∙ ap (λ (n : ℕ). plus n 1) stands.since_phase;
  last = stands.last;
  sums = stands.sums;
  run = stands.run;
  hour = stands.hour;
}
