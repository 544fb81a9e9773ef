use Rattle.std.proofs.Common.{◌≡◌, ◌<◌, ◌≤◌, ◌∙◌, ℕ, Bool, true, not, List, length, length-set, refl, sym, ap, subst, arith}
use Rattle.rtk_rinex.specs.declared.epoch_table.Observed.{Observed}
use Rattle.rtk_quality.specs.Missing.{lacks}
use Rattle.rtk_tracking.specs.Passes.{has_phase}
use Rattle.rtk_quality.specs.Standing.{StandsForMissing}
use Rattle.rtk_quality.specs.declared.missing.MissingRuns.{MissingRuns}
use Rattle.rtk_quality.proofs.MissingCodeLemmas.{missing-more, codes-same, no-code-yet, all-codes, code-more}
use Rattle.rtk_quality.proofs.missing.MissingCodes.note_codes.Goals as goal

pub returns-then-not-is_tracked : goal.returns-then-not-is_tracked
returns-then-not-is_tracked c = λ count before s shown at starts are.
    codes-same c.args.interval count before s c.args.self.now.codes.items (ap (λ (os : List Observed). has_phase os) shown ∙ sym c.requires ∙ c.if-not-is_tracked.true) are

pub loop-place-init : goal.loop-place-init
loop-place-init c = record {
  size = refl;
  codes = λ count before s shown at starts are. no-code-yet c.args.self.now.codes.items count c.args.interval s before are;
}

pub loop-place-preserved : goal.loop-place-preserved
loop-place-preserved c =
    let i : ℕ = c.loop-place.place in
    let codes : List MissingRuns = c.loop-place.self.codes.items in
    let new : MissingRuns = c.note.new.self in
    record {
      size = length-set codes i new ∙ c.loop-place.invariant.size;
      codes = λ count before s shown at starts are.
          let was = c.loop-place.invariant.codes count before s shown at starts are in
          let within : i < length codes = omega (arith, c.loop-place-test.true, c.len-place-end.ensures, c.loop-place.invariant.size) in
          let inside : i < count = let size = was.size in omega (arith, within, size) in
          let here : i ≤ i = omega arith in
          let has : has_phase s.observed ≡ true = ap (λ (os : List Observed). has_phase os) shown ∙ sym c.requires ∙ c.if-not-is_tracked.false in
          let none : not c.shows_phase-lacks.result ≡ lacks i s.observed =
          ap (λ (b : Bool). not b) c.shows_phase-lacks.ensures ∙ ap (λ (os : List Observed). lacks i os) (sym shown) in
          code-more i codes new count c.args.interval s before within was
          (missing-more c.args.interval i before s c.index_mut.result.now new c.args.begins _ c.args.reading
          (subst (λ (m : MissingRuns). StandsForMissing m c.args.interval i before) (sym c.index_mut.ensures.value) (was.old i _ here inside))
          starts none at has c.in_ok-note.ensures.newest c.in_ok-note.ensures.ended);
    }

pub returns : goal.returns
returns c = λ count before s shown at starts are.
    let end : length c.loop-place.self.codes.items ≤ c.loop-place.place =
    omega (arith, c.loop-place-test.false, c.len-place-end.ensures, c.loop-place.invariant.size) in
    all-codes c.loop-place.place c.loop-place.self.codes.items count c.args.interval s before end (c.loop-place.invariant.codes count before s shown at starts are)
