use Rattle.std.proofs.Common.{◌≡◌, ◌∙◌, sym, ap, subst, true, false}
use Rattle.rtk_rinex.specs.declared.epoch_table.SatelliteRow.{SatelliteRow}
use Rattle.rtk_rinex.specs.MixedRecords.{MixedRowsView, AreRowsLeft}
use Rattle.rtk_rinex.specs.SystemFlags.{flag_of}
use Rattle.rtk_cut.specs.KeptSystems.{keeps_row}
use Rattle.rtk_cut.proofs.KeptFileLemmas.{sought-none, sought-found, sought-more, sought-all}
use Rattle.rtk_cut.proofs.kept_file.keeps_some.Goals as goal

pub loop-satellite-init : goal.loop-satellite-init
loop-satellite-init c = λ e is.
    sought-none c.args.kept e.rows c.again-rows.result (subst (λ (r : MixedRowsView). AreRowsLeft r e.rows) (sym c.again-rows.ensures.value) is.0.rows)

pub loop-satellite-preserved : goal.loop-satellite-preserved
loop-satellite-preserved c = λ e is.
    let row : SatelliteRow = record { satellite = c.in-Some.satellite; observed = c.next_row.new.observed } in
    let off : keeps_row c.args.kept row ≡ false = sym (c.has.ensures ∙ ap (flag_of c.args.kept) c.system.ensures) ∙ c.if-has.false in
    sought-more c.args.kept e.rows c.loop-satellite.rows c.next_row.new.self row (c.loop-satellite.invariant e is) c.in-Some.ensures.next off

pub returns-then-has : goal.returns-then-has
returns-then-has c = λ e is.
    let row : SatelliteRow = record { satellite = c.in-Some.satellite; observed = c.next_row.new.observed } in
    let on : keeps_row c.args.kept row ≡ true = sym (c.has.ensures ∙ ap (flag_of c.args.kept) c.system.ensures) ∙ c.if-has.true in
    sought-found c.args.kept e.rows c.loop-satellite.rows c.next_row.new.self row (c.loop-satellite.invariant e is) c.in-Some.ensures.next on

pub returns : goal.returns
returns c = λ e is. sought-all c.args.kept e.rows c.loop-satellite.rows (c.loop-satellite.invariant e is) c.in_default.ensures.next
