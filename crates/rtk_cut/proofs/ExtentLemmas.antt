-- The records of a part that are noted one after the other, and how far they extend.
use Rattle.std.proofs.Common.{◌≡◌, ℕ, Bool, true, false, cond, List, [], ◌∷◌, Option, refl, sym, ap, subst, ◌∙◌}
use Rattle.std.specs.List.{filter}
use Rattle.rtk_rinex.specs.Record.{EpochTableView}
use Rattle.rtk_tracking.specs.Epochs.{epochs_onto, newest_first, newest_moment}
use Rattle.rtk_tracking.specs.Interval.{steps_in, interval_of}
use Rattle.rtk_tracking.specs.Standing.{StandsForStepsBetween}
use Rattle.rtk_tracking.specs.declared.steps.StepCounts.{StepCounts}
use Rattle.rtk_cut.specs.declared.extent.Extent.{Extent}
use Rattle.rtk_cut.specs.declared.part.Choice.{Choice}
use Rattle.rtk_cut.specs.Cut.{step_of, is_on_step, is_chosen, cut_epoch, kept_after}
use Rattle.rtk_cut.specs.Extent.{extent_of}
use Rattle.rtk_cut.specs.Steps.FileTexts.{IsNextIn}
use Rattle.rtk_cut.specs.Steps.Noted.{HasNoted}
use Rattle.rtk_cut.proofs.ThinnedLemmas.{thinned-off}
use Rattle.rtk_cut.proofs.PartFileLemmas.{kept-on, kept-in}
use Rattle.rtk_cut.proofs.WholeLemmas.{next-is}

-- ---- an epoch that the part does not have, and one that it has

pub kept-off : (choice : Choice) (earlier : List EpochTableView) (e : EpochTableView) (left : List EpochTableView) → is_on_step (step_of choice) e ≡ false
    → kept_after choice earlier (e ∷ left) ≡ kept_after choice (e ∷ earlier) left
kept-off choice earlier e left off = ap (λ (es : List EpochTableView). filter (is_chosen choice) es) (thinned-off (step_of choice) earlier e left off)

pub kept-outside : (choice : Choice) (earlier : List EpochTableView) (e : EpochTableView) (left : List EpochTableView) → is_on_step (step_of choice) e ≡ true
    → is_chosen choice e ≡ false → kept_after choice earlier (e ∷ left) ≡ kept_after choice (e ∷ earlier) left
kept-outside choice earlier e left on outside =
    kept-on choice earlier e left on
    ∙ ap (λ (b : Bool). cond b (cut_epoch (step_of choice) earlier e ∷ kept_after choice (e ∷ earlier) left) (kept_after choice (e ∷ earlier) left)) outside

pub noted-without : (steps : StepCounts) (choice : Choice) (earlier left all : List EpochTableView) (e : EpochTableView)
    → kept_after choice earlier (e ∷ left) ≡ kept_after choice (e ∷ earlier) left → HasNoted steps choice earlier (e ∷ left) all
    → HasNoted steps choice (e ∷ earlier) left all
noted-without steps choice earlier left all e same noted = record {
  kept = noted.kept;
  others = sym (ap (λ (es : List EpochTableView). epochs_onto es noted.kept) same) ∙ noted.others;
  stands = noted.stands;
}

pub noted-with : (steps steps' : StepCounts) (choice : Choice) (earlier left all : List EpochTableView) (e : EpochTableView)
    → is_on_step (step_of choice) e ≡ true → is_chosen choice e ≡ true
    → ((es : List EpochTableView) → StandsForStepsBetween steps es → StandsForStepsBetween steps' (cut_epoch (step_of choice) earlier e ∷ es))
    → HasNoted steps choice earlier (e ∷ left) all → HasNoted steps' choice (e ∷ earlier) left all
noted-with steps steps' choice earlier left all e on inside takes noted = record {
  kept = cut_epoch (step_of choice) earlier e ∷ noted.kept;
  others = sym (ap (λ (es : List EpochTableView). epochs_onto es noted.kept) (kept-in choice earlier e left on inside)) ∙ noted.others;
  stands = takes noted.kept noted.stands;
}

-- ---- the records of a file, one after another

-- the epochs that came and those that are left
abbrev pub HasNotedIn : (List EpochTableView → Type 0) → StepCounts → Choice → List EpochTableView → Type 0
HasNotedIn Left steps choice all = (earlier : List EpochTableView) × (left : List EpochTableView) × Left left × HasNoted steps choice earlier left all

pub noted-none : (Left : List EpochTableView → Type 0) (steps : StepCounts) (choice : Choice) (epochs : List EpochTableView) → Left epochs
    → StandsForStepsBetween steps [] → HasNotedIn Left steps choice (kept_after choice [] epochs)
noted-none Left steps choice epochs left stands = ([], epochs, left, record { kept = []; others = refl; stands = stands })

pub noted-more : (Left Left_1 : List EpochTableView → Type 0) (IsOf : EpochTableView → Type 0) (steps steps' : StepCounts) (choice : Choice) (all : List EpochTableView)
    → HasNotedIn Left steps choice all → ((es : List EpochTableView) → Left es → IsNextIn Left_1 IsOf es)
    → ((earlier left : List EpochTableView) (e : EpochTableView) → IsOf e → HasNoted steps choice earlier (e ∷ left) all → HasNoted steps' choice (e ∷ earlier) left all)
    → HasNotedIn Left_1 steps' choice all
noted-more Left Left_1 IsOf steps steps' choice all so_far next takes =
    let n = next-is Left_1 IsOf so_far.1 (next so_far.1 so_far.2) in
    let here : HasNoted steps choice so_far.0 (n.0 ∷ n.1) all = subst (λ (es : List EpochTableView). HasNoted steps choice so_far.0 es all) n.2 so_far.3 in
    (n.0 ∷ so_far.0, n.1, n.4, takes so_far.0 n.1 n.0 n.3 here)

pub noted-all : (Left : List EpochTableView → Type 0) (steps : StepCounts) (choice : Choice) (all : List EpochTableView) → HasNotedIn Left steps choice all
    → ((es : List EpochTableView) → Left es → es ≡ []) → StandsForStepsBetween steps (newest_first all)
noted-all Left steps choice all so_far none =
    let end : so_far.1 ≡ [] = none so_far.1 so_far.2 in
    let same : so_far.3.kept ≡ newest_first all =
    sym (ap (λ (es : List EpochTableView). epochs_onto (kept_after choice so_far.0 es) so_far.3.kept) end) ∙ so_far.3.others in
    subst (λ (es : List EpochTableView). StandsForStepsBetween steps es) same so_far.3.stands

-- ---- the interval and the last moment

abbrev pub extent_with : Option ℕ → Option ℕ → Extent
extent_with interval last = record { interval_ms = interval; last = last }

pub extent-is : (interval last : Option ℕ) (all : List EpochTableView) → interval ≡ interval_of (steps_in (newest_first all)) → last ≡ newest_moment (newest_first all)
    → extent_with interval last ≡ extent_of all
extent-is interval last all same also = λ k. record { interval_ms = same k; last = also k }
