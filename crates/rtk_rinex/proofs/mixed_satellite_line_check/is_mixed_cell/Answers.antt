use Rattle.std.proofs.Common.{◌≡◌, subst, sym}
use Rattle.rtk_rinex.specs.declared.epoch_table.Observed.{Observed}
use Rattle.rtk_rinex.specs.MixedTable.{HasNoPhase}
use Rattle.rtk_rinex.proofs.MixedRowLemmas.{one-cell}
use Rattle.rtk_rinex.proofs.mixed_satellite_line_check.is_mixed_cell.Goals as goal

pub returns-else-phases : goal.returns-else-phases
returns-else-phases c =
    let shown = c.in-Some.shown in
    let is = c.in-Some.ensures in (
      λ none. (shown, is.0, is.1, λ p. c.has_no_phase.ensures.0 none),
      λ cell.
          let one : shown ≡ cell.0 = one-cell c.args.doppler c.args.columns.now shown cell.0 is.0 cell.1 is.1 cell.2 in
          c.has_no_phase.ensures.1 (subst (λ (o : Observed). HasNoPhase o) (sym one) (cell.3 c.if-phases.false)),
    )
