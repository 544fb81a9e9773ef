use Rattle.std.proofs.Common.{◌≡◌, ◌<◌, ◌+◌, ◌∙◌, ℕ, true, inl, inr, sym, ap, subst, arith}
use Rattle.std.proofs.lemmas.Bool.{cases_eq}
use Rattle.rtk_survey.specs.Channels.{tells_field, count_of_field}
use Rattle.rtk_survey.specs.Counting.{shown_count}
use Rattle.rtk_survey.proofs.channels.take_slots.Goals as goal

pub loop-slot-preserved : goal.loop-slot-preserved
loop-slot-preserved c =
    let i = c.loop-slot.invariant in
    let slot : ℕ = c.loop-slot.slot in
    let m = c.args.message.now in
    let t = c.in_ok-take_slot.ensures in
    record {
      told = λ s f before from few tells. elim (cases_eq s slot) [
        | inl same ↦
            let here = subst (λ (k : ℕ). tells_field k f m ≡ true) same tells in
            ap (λ (k : ℕ). count_of_field c.take_slot.new.counts k f) same ∙ t.own f few here
            ∙ ap (λ (n : ℕ). shown_count (n + 1)) (i.others slot f few (λ lt. absurd (omega (arith, lt))))
            ∙ ap (λ (k : ℕ). shown_count (count_of_field c.args.counts.now k f + 1)) (sym same)
        | inr other ↦
            let earlier : s < slot = omega (arith, before, other) in
            t.others s f few (λ same. absurd (other same)) ∙ i.told s f earlier from few tells
      ];
      others = λ s f few none.
          t.others s f few (λ same. none (omega (arith, same))) ∙ i.others s f few (λ lt. none (omega (arith, lt)));
    }

pub returns : goal.returns
returns c =
    let i = c.loop-slot.invariant in
    record {
      told = λ s f is tells. i.told s f (let past = is.last in omega (arith, past, c.loop-slot-test.false)) is.first is.few tells;
      others = λ s f is none. i.others s f is.few (λ lt. none);
    }
