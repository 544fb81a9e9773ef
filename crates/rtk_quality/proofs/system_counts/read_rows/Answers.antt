use Rattle.std.proofs.Common.{◌≡◌, ◌==◌, ◌++◌, ◌∷◌, [], ℕ, List, true, false, sym, ap, subst, ◌∙◌, arith}
use Rattle.rtk_obs.specs.SatelliteIndex.{system_at, letter_of}
use Rattle.rtk_rinex.specs.declared.epoch_table.SatelliteRow.{SatelliteRow}
use Rattle.rtk_rinex.specs.MixedRecords.{AreRowsLeft, IsNextRowOf}
use Rattle.rtk_quality.specs.SystemParts.{is_row_of}
use Rattle.rtk_quality.proofs.SystemLemmas.{own-none, own-more, own-past, own-all}
use Rattle.rtk_quality.proofs.system_counts.read_rows.Goals as goal

pub loop-satellite-init : goal.loop-satellite-init
loop-satellite-init c = own-none c.args.system c.args.read.now c.again-rows.result _ c.clear.ensures.items c.again-rows.ensures.value c.again-rows.ensures.few

pub loop-satellite-preserved : goal.loop-satellite-preserved
loop-satellite-preserved c =
    let l = c.loop-satellite in
    let row : SatelliteRow = record { satellite = c.index.result; observed = c.next_row.new.observed } in
    let next : (xs : List SatelliteRow) → AreRowsLeft l.rows xs → IsNextRowOf xs row c.next_row.new.self =
    λ xs left. subst (λ (k : ℕ). IsNextRowOf xs (record { satellite = k; observed = c.next_row.new.observed }) c.next_row.new.self) (sym c.index.ensures.value) (c.in-Some.ensures.next xs left) in
    let off : is_row_of c.args.system row ≡ false =
    ap (λ (k : ℕ). letter_of (system_at k) == letter_of c.args.system) c.index.ensures.value ∙ sym c.is_of_system.ensures ∙ c.if-is_of_system.false in
    own-past c.args.system c.args.read.now l.rows c.next_row.new.self l.own.items row l.invariant next c.in-Some.ensures.end.count off

pub loop-satellite-preserved-in-Continue-1 : goal.loop-satellite-preserved-in-Continue-1
loop-satellite-preserved-in-Continue-1 c =
    let l = c.loop-satellite in
    let row : SatelliteRow = record { satellite = c.index.result; observed = c.next_row.new.observed } in
    let next : (xs : List SatelliteRow) → AreRowsLeft l.rows xs → IsNextRowOf xs row c.next_row.new.self =
    λ xs left. subst (λ (k : ℕ). IsNextRowOf xs (record { satellite = k; observed = c.next_row.new.observed }) c.next_row.new.self) (sym c.index.ensures.value) (c.in-Some.ensures.next xs left) in
    let on : is_row_of c.args.system row ≡ true =
    ap (λ (k : ℕ). letter_of (system_at k) == letter_of c.args.system) c.index.ensures.value ∙ sym c.is_of_system.ensures ∙ c.if-is_of_system.true in
    let pushed : c.push.new.self.items ≡ l.own.items ++ row ∷ [] =
    c.in_ok-push.ensures.items ∙ ap (λ (r : SatelliteRow). l.own.items ++ r ∷ []) c.replace.ensures.value in
    own-more c.args.system c.args.read.now l.rows c.next_row.new.self l.own.items c.push.new.self.items row l.invariant next c.in-Some.ensures.end.count c.index.ensures.bound on pushed

pub returns-clause-rows : goal.returns-clause-rows
returns-clause-rows c = λ e of.
    own-all c.args.system e.rows c.loop-satellite.own.items c.loop-satellite.rows (c.loop-satellite.invariant.so_far e of) c.in_default.ensures.next

pub returns-clause-satellites : goal.returns-clause-satellites
returns-clause-satellites c = c.loop-satellite.invariant.satellites

pub returns-clause-few : goal.returns-clause-few
returns-clause-few c = let room = c.loop-satellite.invariant.room in omega (arith, room)
