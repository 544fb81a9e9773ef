use Rattle.std.proofs.Common.{◌≡◌, ◌+◌, ◌&&◌, ℕ, true, false, sym, ap, ◌∙◌}
use Rattle.rtk_rinex.specs.Record.{EpochTableView}
use Rattle.rtk_cut.specs.Cut.{step_of, is_near_step, is_on_step, is_at_or_after, is_earlier_than, is_chosen, cut_epoch}
use Rattle.rtk_cut.proofs.WholeLemmas.{on_ok-map}
use Rattle.rtk_cut.proofs.ExtentLemmas.{kept-off, kept-outside, noted-without, noted-with}
use Rattle.rtk_cut.proofs.extent.note_if_chosen.Goals as goal

pub returns-then-not-has : goal.returns-then-not-has
returns-then-not-has c = λ earlier left all e at noted.
    let choice = c.args.choice.now in
    let off : is_on_step (step_of choice) e ≡ false =
    ap (λ (n : ℕ). is_near_step choice.near_ms choice.every n) at ∙ sym c.has.ensures ∙ c.if-not-has.true in
    noted-without c.args.steps.now choice earlier left all e (kept-off choice earlier e left off) noted

pub returns-then-not-spans : goal.returns-then-not-spans
returns-then-not-spans c = λ earlier left all e at noted.
    let choice = c.args.choice.now in
    let on : is_on_step (step_of choice) e ≡ true =
    ap (λ (n : ℕ). is_near_step choice.near_ms choice.every n) at ∙ sym c.has.ensures ∙ c.if-not-has.false in
    let outside : is_chosen choice e ≡ false =
    ap (λ (n : ℕ). is_at_or_after choice.from (n + choice.near_ms) && is_earlier_than choice.until (n + choice.near_ms)) at ∙ sym c.spans.ensures ∙ c.if-not-spans.true in
    noted-without c.args.steps.now choice earlier left all e (kept-outside choice earlier e left on outside) noted

pub returns : goal.returns
returns c =
    on_ok-map c.note_time.result (λ notes earlier left all e at noted.
    let choice = c.args.choice.now in
    let on : is_on_step (step_of choice) e ≡ true =
    ap (λ (n : ℕ). is_near_step choice.near_ms choice.every n) at ∙ sym c.has.ensures ∙ c.if-not-has.false in
    let inside : is_chosen choice e ≡ true =
    ap (λ (n : ℕ). is_at_or_after choice.from (n + choice.near_ms) && is_earlier_than choice.until (n + choice.near_ms)) at ∙ sym c.spans.ensures ∙ c.if-not-spans.false in
    noted-with c.args.steps.now c.note_time.new.self choice earlier left all e on inside (λ es stands. notes es (cut_epoch (step_of choice) earlier e) at stands) noted)
    c.note_time.ensures
