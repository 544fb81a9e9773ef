use Rattle.std.proofs.Common.{◌≡◌, ◌==◌, true, false, List, length, sym, ap, ◌∙◌, arith}
use Rattle.rtk_message.specs.AnyDecoded.{station_of}
use Rattle.rtk_obs.specs.declared.signal_cells.SignalEntry.{SignalEntry}
use Rattle.rtk_survey.specs.BesideGps.{cells_beside_gps}
use Rattle.std.specs.Option.{unwrap_or}
use Rattle.rtk_survey.proofs.ResultLemmas.{on-ok}
use Rattle.rtk_survey.proofs.SystemPhaseLemmas.{phases-bare, phases-own, phases-other}
use Rattle.rtk_survey.proofs.system_phases.SystemPhases.count_phases.Goals as goal

pub returns-then-is_empty : goal.returns-then-is_empty
returns-then-is_empty c = λ named ms is.
    let m = c.args.message.now in
    let none : (length (cells_beside_gps m) == 0) ≡ true = sym (ap (λ (es : List SignalEntry). length es == 0) c.requires) ∙ sym c.is_empty.ensures ∙ c.if-is_empty.true in
    phases-bare c.args.self.now named m ms none is

pub returns-then-known-station : goal.returns-then-known-station
returns-then-known-station c =
    let m = c.args.message.now in
    let p = c.args.self.now in
    let some : (length (cells_beside_gps m) == 0) ≡ false = sym (ap (λ (es : List SignalEntry). length es == 0) c.requires) ∙ sym c.is_empty.ensures ∙ c.if-is_empty.false in
    let known : c.unwrap_or-known.result ≡ unwrap_or p.station (station_of m) = c.unwrap_or-known.ensures ∙ ap (λ n. unwrap_or p.station n) c.station-station.ensures in
    let same : c.unwrap_or-known.result ≡ station_of m = omega (arith, c.if-known-station.true, c.station-station.ensures) in
    on-ok c.take_numbered.result (λ took named ms is. phases-own p c.take_numbered.new.tables named m ms c.unwrap_or-known.result some known same took is) c.take_numbered.ensures

pub returns : goal.returns
returns c = λ named ms is.
    let m = c.args.message.now in
    let p = c.args.self.now in
    let some : (length (cells_beside_gps m) == 0) ≡ false = sym (ap (λ (es : List SignalEntry). length es == 0) c.requires) ∙ sym c.is_empty.ensures ∙ c.if-is_empty.false in
    let known : c.unwrap_or-known.result ≡ unwrap_or p.station (station_of m) = c.unwrap_or-known.ensures ∙ ap (λ n. unwrap_or p.station n) c.station-station.ensures in
    phases-other p named m ms c.unwrap_or-known.result some known (λ same. omega (arith, same, c.if-known-station.false, c.station-station.ensures)) is
