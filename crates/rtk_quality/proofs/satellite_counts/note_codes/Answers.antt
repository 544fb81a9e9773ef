use Rattle.std.proofs.Common.{◌<◌, ◌≤◌, ◌∷◌, [], ℕ, List, length, refl, sym, subst, arith}
use Rattle.std.proofs.lemmas.List.{get_or_default}
use Rattle.rtk_rinex.specs.declared.epoch_table.Observed.{Observed}
use Rattle.rtk_rinex.specs.Record.{no_observation}
use Rattle.rtk_quality.specs.Counts.{noted_of, counts_of, code_counts_of}
use Rattle.rtk_quality.specs.declared.code_counts.CodeCounts.{CodeCounts}
use Rattle.rtk_quality.proofs.ListLemmas.{up_to-none, up_to-rest, up_to-here, up_to-more}
use Rattle.rtk_quality.proofs.CountLemmas.{code-more, code-rest}
use Rattle.rtk_quality.proofs.satellite_counts.note_codes.Goals as goal

pub loop-place-init : goal.loop-place-init
unfolding code_counts_of
loop-place-init c = λ interval before s same marked are.
    up_to-none (λ (place : ℕ). counts_of (noted_of interval place (s ∷ before))) (λ (place : ℕ). counts_of (noted_of interval place before)) c.args.codes.now 16 (counts_of []) are

pub loop-place-preserved : goal.loop-place-preserved
unfolding code_counts_of
loop-place-preserved c = λ interval before s same marked are.
    let so_far = c.loop-place.invariant interval before s same marked are in
    let new : ℕ → CodeCounts = λ place. counts_of (noted_of interval place (s ∷ before)) in
    let old : ℕ → CodeCounts = λ place. counts_of (noted_of interval place before) in
    let few : c.loop-place.place < 16 = omega (arith, c.loop-place-test.true) in
    let inside : c.loop-place.place < length c.args.observed.now = omega (arith, c.loop-place-test.true) in
    up_to-more new old c.loop-place.codes 16 c.loop-place.place c.loop-place.place c.note.new.self (counts_of []) refl few so_far
    (code-more interval c.loop-place.place before s c.args.observed.now _ _ _ _ c.note.new.self same (get_or_default c.args.observed.now c.loop-place.place _ no_observation inside) (marked.had c.loop-place.place few) (marked.kept c.loop-place.place few)
    (up_to-here new old c.loop-place.codes 16 c.loop-place.place c.loop-place.place _ refl few so_far) c.note.ensures)

pub returns : goal.returns
unfolding code_counts_of
returns c = λ interval before s same marked are.
    let new : ℕ → CodeCounts = λ place. counts_of (noted_of interval place (s ∷ before)) in
    let old : ℕ → CodeCounts = λ place. counts_of (noted_of interval place before) in
    up_to-rest new old c.loop-place.codes 16 c.loop-place.place (counts_of []) (c.loop-place.invariant interval before s same marked are) (λ k above within.
    let past : length c.args.observed.now ≤ k = omega (arith, above, within, c.loop-place-test.false) in
    sym (code-rest interval k before s (subst (λ (os : List Observed). length os ≤ k) same past)))
