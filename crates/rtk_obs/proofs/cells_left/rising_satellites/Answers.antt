use Rattle.std.proofs.Common.{refl, subst, sym}
use Rattle.std.specs.List.{All}
use Rattle.rtk_obs.specs.CellsLeft.{HasLegacyWidths}
use Rattle.rtk_obs.proofs.LegacyLemmas.{fields_of_valid, cells_in_range-1004}
use Rattle.rtk_obs.proofs.CellsLeftLemmas.{cells-some, cells-rise, cells-legacy}
use Rattle.rtk_obs.proofs.cells_left.rising_satellites.Goals as goal

pub returns-then-are_rising-clause-rise : goal.returns-then-are_rising-clause-rise
returns-then-are_rising-clause-rise c = record {
  few = c.as_slice-satellites.ensures.few;
  rise = c.if-are_rising.ensures.rise refl;
  widths = subst (All HasLegacyWidths) (sym c.as_slice-satellites.ensures.value) (fields_of_valid c.args.message.now c.requires);
}

pub returns-then-are_rising-clause-some : goal.returns-then-are_rising-clause-some
returns-then-are_rising-clause-some c = cells-some c.as_slice-satellites.result.now (c.if-are_rising.ensures.rise refl) (c.if-are_rising.ensures.some refl)

pub returns-then-are_rising-clause-cells_rise : goal.returns-then-are_rising-clause-cells_rise
returns-then-are_rising-clause-cells_rise c = cells-rise c.as_slice-satellites.result.now (c.if-are_rising.ensures.rise refl)

pub returns-then-are_rising-clause-range : goal.returns-then-are_rising-clause-range
returns-then-are_rising-clause-range c = rw c.as_slice-satellites.ensures.value (cells_in_range-1004 c.args.message.now.satellites (fields_of_valid c.args.message.now c.requires))

pub returns-then-are_rising-clause-kind : goal.returns-then-are_rising-clause-kind
returns-then-are_rising-clause-kind c = cells-legacy c.as_slice-satellites.result.now
