use Rattle.std.proofs.Common.{◌≡◌, ◌∷◌, ℕ, Bool, true, false, cond, not, ◌&&◌, Option, Some, None, refl, sym, ap, subst, ◌∙◌}
use Rattle.rtk_obs.specs.declared.time.Civil.{Civil}
use Rattle.rtk_obs.specs.Reading.{reading_of}
use Rattle.rtk_tracking.specs.Passes.{Sighting, has_phase, last_phase, is_away, begins_pass, outage_before}
use Rattle.rtk_tracking.specs.Standing.{AreKnown, StandsForPass}
use Rattle.rtk_tracking.specs.declared.passes.Pass.{Pass}
use Rattle.rtk_quality.specs.Counts.{plus}
use Rattle.rtk_quality.specs.SatellitePasses.{phases_in, slips_at, sums_of, sums_at, sums_plus, sums_in, passes_of, epochs_since_phase, epochs_in_passes}
use Rattle.rtk_quality.specs.Hours.{returns_at}
use Rattle.rtk_quality.specs.Runs.{has_half}
use Rattle.rtk_quality.specs.Steps.Noted.{no_locks}
use Rattle.rtk_quality.specs.Standing.{newest_pass, with_epoch}
use Rattle.rtk_quality.specs.declared.hours.Locks.{Locks}
use Rattle.rtk_quality.specs.declared.pass_sums.PassSums.{PassSums}
use Rattle.rtk_quality.specs.declared.satellite_counts.PassCounts.{PassCounts}
use Rattle.rtk_quality.proofs.EventLemmas.{absence-is, no-absence}
use Rattle.rtk_quality.proofs.RunLemmas.{run-more, run-same, run-ends, no-run-ends, hour-more, hour-same, hour-ends, no-hour-ends}
use Rattle.rtk_quality.proofs.CountLemmas.{before-row, same-passes, last-more, within-more}
use Rattle.rtk_quality.proofs.satellite_counts.SatelliteCounts.note_row.Goals as goal

pub returns-then-not-has_phase-clause-stands : goal.returns-then-not-has_phase-clause-stands
returns-then-not-has_phase-clause-stands c = λ before absent last.
    let stands = before-row c.args.self.now c.args.interval c.args.time before absent in
    let interval : Option ℕ = c.args.interval in
    let at : c.ms-time_ms.result ≡ c.args.time = c.ms-time_ms.ensures.value in
    let s : Sighting = record { time = c.args.time; observed = c.args.observed.now } in
    let none : has_phase s.observed ≡ false = sym c.has_phase.ensures ∙ c.if-not-has_phase.true in
    let marked : AreKnown c.known-known.result interval before s =
    subst (λ (t : ℕ). AreKnown c.known-known.result interval before (record { time = t; observed = c.args.observed.now })) at (c.known-known.ensures before stands.pass last) in
    record {
      pass = subst (λ (t : ℕ). StandsForPass c.note.new.self interval (record { time = t; observed = c.args.observed.now } ∷ before)) at (c.note.ensures before stands.pass last);
      codes = c.note_codes.ensures interval before s refl marked stands.codes;
      in_passes = stands.in_passes ∙ sym (ap (λ (b : Bool). cond (not b) (epochs_in_passes interval before)
          (cond (begins_pass interval before s) (plus (epochs_in_passes interval before) 1) (plus (epochs_in_passes interval before) (plus (epochs_since_phase before) 1)))) none);
      since_phase = stands.since_phase
          ∙ sym (ap (λ (b : Bool). cond b 0 (plus (epochs_since_phase before) 1)) none);
      last = stands.last ∙ sym (ap newest_pass (same-passes interval before s none));
      sums = stands.sums ∙ sym (ap (λ (b : Bool). cond b (sums_plus (sums_in interval before) (sums_at interval before s)) (sums_in interval before)) none);
      run = stands.run ∙ sym (run-same has_half interval before s none);
      hour = stands.hour ∙ sym (hour-same interval before s none);
    }

pub returns-then-not-has_phase-clause-ended : goal.returns-then-not-has_phase-clause-ended
returns-then-not-has_phase-clause-ended c = λ before absent last.
    let stands = before-row c.args.self.now c.args.interval c.args.time before absent in
    let s : Sighting = record { time = c.args.time; observed = c.args.observed.now } in
    let none : has_phase s.observed ≡ false = sym c.has_phase.ensures ∙ c.if-not-has_phase.true in
    sym (ap (λ (b : Bool). cond (b && is_away c.args.interval (last_phase before) s.time) (newest_pass (passes_of c.args.interval before)) None) none)

pub returns-clause-stands : goal.returns-clause-stands
returns-clause-stands c = λ before absent last.
    let stands = before-row c.args.self.now c.args.interval c.args.time before absent in
    let interval : Option ℕ = c.args.interval in
    let at : c.ms-time_ms.result ≡ c.args.time = c.ms-time_ms.ensures.value in
    let s : Sighting = record { time = c.args.time; observed = c.args.observed.now } in
    let has : has_phase s.observed ≡ true = sym c.has_phase.ensures ∙ c.if-not-has_phase.false in
    let marked : AreKnown c.known-known.result interval before s =
    subst (λ (t : ℕ). AreKnown c.known-known.result interval before (record { time = t; observed = c.args.observed.now })) at (c.known-known.ensures before stands.pass last) in
    let begins : c.begins-begins.result ≡ begins_pass interval before s =
    c.begins-begins.ensures before stands.pass ∙ ap (λ (t : ℕ). begins_pass interval before (record { time = t; observed = c.args.observed.now })) at in
    let slips : c.slips_in-slips.result ≡ slips_at interval before s = c.slips_in-slips.ensures interval before s refl marked.kept in
    let outage : c.outage_ms-outage_ms.result ≡ outage_before interval before s =
    c.outage_ms-outage_ms.ensures before stands.pass last ∙ ap (λ (t : ℕ). outage_before interval before (record { time = t; observed = c.args.observed.now })) at in
    let sums : c.of-sums.result ≡ sums_at interval before s =
    c.of-sums.ensures
    ∙ ap (λ (k : ℕ). sums_of k c.slips_in-slips.result c.outage_ms-outage_ms.result) c.phases_in.ensures
    ∙ ap (λ (k : ℕ). sums_of (phases_in s.observed) k c.outage_ms-outage_ms.result) slips
    ∙ ap (λ (o : Option ℕ). sums_of (phases_in s.observed) (slips_at interval before s) o) outage in
    let n = c.note_phases-ended.ensures in
    record {
      pass = subst (λ (p : Pass). StandsForPass p interval (s ∷ before)) (sym n.pass)
          (subst (λ (t : ℕ). StandsForPass c.note.new.self interval (record { time = t; observed = c.args.observed.now } ∷ before)) at (c.note.ensures before stands.pass last));
      codes = n.codes ∙ c.note_codes.ensures interval before s refl marked stands.codes;
      in_passes = n.in_passes
          ∙ ap (λ (k : ℕ). plus k (cond c.begins-begins.result 1 c.args.self.now.since_phase)) stands.in_passes
          ∙ ap (λ (k : ℕ). plus (epochs_in_passes interval before) (cond c.begins-begins.result 1 k)) stands.since_phase
          ∙ ap (λ (b : Bool). plus (epochs_in_passes interval before) (cond b 1 (plus (epochs_since_phase before) 1))) begins
          ∙ sym (within-more interval before s has);
      since_phase = n.since_phase ∙ sym (ap (λ (b : Bool). cond b 0 (plus (epochs_since_phase before) 1)) has);
      last = n.last
          ∙ ap (λ (r : Civil). Some (with_epoch c.args.self.now.last c.begins-begins.result r c.of-sums.result)) c.requires
          ∙ ap (λ (b : Bool). Some (with_epoch c.args.self.now.last b (reading_of s.time) c.of-sums.result)) begins
          ∙ ap (λ (k : PassSums). Some (with_epoch c.args.self.now.last (begins_pass interval before s) (reading_of s.time) k)) sums
          ∙ last-more interval before s c.args.self.now.last stands.last has;
      sums = n.sums
          ∙ ap (λ (k : PassSums). sums_plus k c.of-sums.result) stands.sums
          ∙ ap (λ (k : PassSums). sums_plus (sums_in interval before) k) sums
          ∙ sym (ap (λ (b : Bool). cond b (sums_plus (sums_in interval before) (sums_at interval before s)) (sums_in interval before)) has);
      run = run-more has_half interval before s c.args.self.now.run c.next_run-run.result.newest c.begins-begins.result c.has_half.result c.args.reading stands.run begins c.has_half.ensures
          c.requires has c.next_run-run.ensures.newest;
      hour = hour-more interval before s c.args.self.now.hour c.next_hour-hour.result.last c.slips_in-slips.result c.hour_at.result stands.hour slips c.hour_at.ensures
          has c.next_hour-hour.ensures.last;
    }

pub returns-clause-ended : goal.returns-clause-ended
returns-clause-ended c = λ before absent last.
    let stands = before-row c.args.self.now c.args.interval c.args.time before absent in
    let s : Sighting = record { time = c.args.time; observed = c.args.observed.now } in
    let begins : c.begins-begins.result ≡ begins_pass c.args.interval before s =
    c.begins-begins.ensures before stands.pass ∙ ap (λ (t : ℕ). begins_pass c.args.interval before (record { time = t; observed = c.args.observed.now })) c.ms-time_ms.ensures.value in
    c.note_phases-ended.ensures.ended
    ∙ ap (λ (b : Bool). cond b c.args.self.now.last None) begins
    ∙ ap (λ (o : Option PassCounts). cond (begins_pass c.args.interval before s) o None) stands.last

pub returns-then-not-has_phase-clause-locks : goal.returns-then-not-has_phase-clause-locks
returns-then-not-has_phase-clause-locks c = λ before absent last.
    let s : Sighting = record { time = c.args.time; observed = c.args.observed.now } in
    let none : has_phase s.observed ≡ false = sym c.has_phase.ensures ∙ c.if-not-has_phase.true in
    c.none-locks.ensures ∙ sym (ap (λ (b : Bool). cond b (record { slips = slips_at c.args.interval before s; returns = returns_at c.args.interval before s }) no_locks) none)

pub returns-clause-locks : goal.returns-clause-locks
returns-clause-locks c = λ before absent last.
    let stands = before-row c.args.self.now c.args.interval c.args.time before absent in
    let interval : Option ℕ = c.args.interval in
    let at : c.ms-time_ms.result ≡ c.args.time = c.ms-time_ms.ensures.value in
    let s : Sighting = record { time = c.args.time; observed = c.args.observed.now } in
    let has : has_phase s.observed ≡ true = sym c.has_phase.ensures ∙ c.if-not-has_phase.false in
    let marked : AreKnown c.known-known.result interval before s =
    subst (λ (t : ℕ). AreKnown c.known-known.result interval before (record { time = t; observed = c.args.observed.now })) at (c.known-known.ensures before stands.pass last) in
    ap (λ (n : ℕ). locks n c.returns_in-returns.result) (c.slips_in-slips.ensures interval before s refl marked.kept)
    ∙ ap (λ (n : ℕ). locks (slips_at interval before s) n) (c.returns_in-returns.ensures interval before s refl marked)
    ∙ sym (ap (λ (b : Bool). cond b (record { slips = slips_at interval before s; returns = returns_at interval before s }) no_locks) has)
  where
    locks : ℕ → ℕ → Locks
    locks slips returns = record { slips = slips; returns = returns }

pub returns-then-not-has_phase-clause-absence : goal.returns-then-not-has_phase-clause-absence
returns-then-not-has_phase-clause-absence c = λ before absent last.
    let s : Sighting = record { time = c.args.time; observed = c.args.observed.now } in
    no-absence c.args.interval before s (sym c.has_phase.ensures ∙ c.if-not-has_phase.true)

pub returns-clause-absence : goal.returns-clause-absence
returns-clause-absence c = λ before absent last.
    let stands = before-row c.args.self.now c.args.interval c.args.time before absent in
    let interval : Option ℕ = c.args.interval in
    let s : Sighting = record { time = c.args.time; observed = c.args.observed.now } in
    let outage : c.outage_ms-outage_ms.result ≡ outage_before interval before s =
    c.outage_ms-outage_ms.ensures before stands.pass last ∙ ap (λ (t : ℕ). outage_before interval before (record { time = t; observed = c.args.observed.now })) c.ms-time_ms.ensures.value in
    c.absence_after-absence.ensures ∙ absence-is interval before s c.args.self.now.last c.args.reading c.outage_ms-outage_ms.result stands.last c.requires outage

pub returns-then-not-has_phase-clause-run : goal.returns-then-not-has_phase-clause-run
returns-then-not-has_phase-clause-run c = λ before absent last.
    let s : Sighting = record { time = c.args.time; observed = c.args.observed.now } in
    no-run-ends has_half c.args.interval before s (sym c.has_phase.ensures ∙ c.if-not-has_phase.true)

pub returns-then-not-has_phase-clause-hour : goal.returns-then-not-has_phase-clause-hour
returns-then-not-has_phase-clause-hour c = λ before absent last.
    let s : Sighting = record { time = c.args.time; observed = c.args.observed.now } in
    no-hour-ends c.args.interval before s (sym c.has_phase.ensures ∙ c.if-not-has_phase.true)

pub returns-clause-run : goal.returns-clause-run
returns-clause-run c = λ before absent last.
    let stands = before-row c.args.self.now c.args.interval c.args.time before absent in
    let interval : Option ℕ = c.args.interval in
    let s : Sighting = record { time = c.args.time; observed = c.args.observed.now } in
    let has : has_phase s.observed ≡ true = sym c.has_phase.ensures ∙ c.if-not-has_phase.false in
    let begins : c.begins-begins.result ≡ begins_pass interval before s =
    c.begins-begins.ensures before stands.pass ∙ ap (λ (t : ℕ). begins_pass interval before (record { time = t; observed = c.args.observed.now })) c.ms-time_ms.ensures.value in
    run-ends has_half interval before s c.args.self.now.run c.next_run-run.result.ended c.begins-begins.result c.has_half.result stands.run begins c.has_half.ensures has c.next_run-run.ensures.ended

pub returns-clause-hour : goal.returns-clause-hour
returns-clause-hour c = λ before absent last.
    let stands = before-row c.args.self.now c.args.interval c.args.time before absent in
    let interval : Option ℕ = c.args.interval in
    let at : c.ms-time_ms.result ≡ c.args.time = c.ms-time_ms.ensures.value in
    let s : Sighting = record { time = c.args.time; observed = c.args.observed.now } in
    let has : has_phase s.observed ≡ true = sym c.has_phase.ensures ∙ c.if-not-has_phase.false in
    let marked : AreKnown c.known-known.result interval before s =
    subst (λ (t : ℕ). AreKnown c.known-known.result interval before (record { time = t; observed = c.args.observed.now })) at (c.known-known.ensures before stands.pass last) in
    hour-ends interval before s c.args.self.now.hour c.next_hour-hour.result.ended c.slips_in-slips.result c.hour_at.result stands.hour
    (c.slips_in-slips.ensures interval before s refl marked.kept) c.hour_at.ensures has c.next_hour-hour.ensures.ended

pub returns-then-not-has_phase-clause-begins : goal.returns-then-not-has_phase-clause-begins
returns-then-not-has_phase-clause-begins c = λ before absent.
    let s : Sighting = record { time = c.args.time; observed = c.args.observed.now } in
    let none : has_phase s.observed ≡ false = sym c.has_phase.ensures ∙ c.if-not-has_phase.true in
    sym (ap (λ (b : Bool). b && is_away c.args.interval (last_phase before) s.time) none)

pub returns-clause-begins : goal.returns-clause-begins
returns-clause-begins c = λ before absent.
    let stands = before-row c.args.self.now c.args.interval c.args.time before absent in
    c.begins-begins.ensures before stands.pass ∙ ap (λ (t : ℕ). begins_pass c.args.interval before (record { time = t; observed = c.args.observed.now })) c.ms-time_ms.ensures.value
