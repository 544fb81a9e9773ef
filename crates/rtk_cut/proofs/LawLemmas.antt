-- The laws of src/laws.rt on whole files, and on epochs in a span.
use Rattle.std.proofs.Common.{◌≡◌, ◌<◌, ℕ, Option, Some, None, List, [], ◌∷◌, length, refl, ap, ◌∙◌}
use Rattle.std.specs.Prelude.{All, unwrap_or}
use Rattle.std.specs.List.{filter}
use Rattle.std.proofs.lemmas.List.Elements.{All-nil, All-filter, All-head, All-weaker}
use Rattle.std.proofs.lemmas.List.Kept.{AllPairs-filter}
use Rattle.rtk_obs.specs.Reading.{IsMoment}
use Rattle.rtk_rinex.specs.Record.{EpochTableView}
use Rattle.rtk_rinex.specs.Table.{WellFormedTable, IsWellFormedTable, IsTableEpoch, StartsAt}
use Rattle.rtk_rinex.specs.MixedForm.{FormView, form_of_head}
use Rattle.rtk_rinex.specs.MixedTable.{MixedTable, IsMixedTable, IsMixedEpoch}
use Rattle.rtk_cut.specs.declared.part.Part.{Part}
use Rattle.rtk_cut.specs.declared.part.Choice.{Choice}
use Rattle.rtk_cut.specs.Cut.{near_of, choice_of, is_in_span, is_chosen, Step, step_of, cut_epoch, thinned_after, kept_after, cut_of_epochs, first_of_part, cut_of, mixed_cut_of}
use Rattle.rtk_cut.specs.CutLaws.{IsFileEpoch, AreFileEpochs, EpochsAreOfFiles, AreOnStep, IsMomentOrNone, part_of, PartsAreTables, RecordsAreOwn, SpansJoin, OwnStepGivesFile}
use Rattle.rtk_cut.proofs.GpsFileLemmas.{gps-epoch}
use Rattle.rtk_cut.proofs.MixedFileLemmas.{mixed-epoch}
use Rattle.rtk_cut.proofs.SpanLemmas.{TimesRise, filters-join}
use Rattle.rtk_cut.proofs.ThinnedLemmas.{IsOn, cut-good, cut-good_mixed, thinned-all, thinned-rise, thinned-own}

-- ---- the epochs of files

pub gps-epochs : (t : WellFormedTable) → IsWellFormedTable t → AreFileEpochs t.epochs
gps-epochs t good =
    let n : ℕ = length t.head.listed in
    record { all = All-weaker (IsTableEpoch n) IsFileEpoch (gps-epoch n) t.epochs good.epochs; rise = good.rise }

pub mixed-epochs : (t : MixedTable) → IsMixedTable t → AreFileEpochs t.epochs
mixed-epochs t good =
    let form : FormView = form_of_head t.head in
    record { all = All-weaker (IsMixedEpoch form) IsFileEpoch (mixed-epoch form) t.epochs good.epochs; rise = good.rise }

pub epochs-are_of_files : EpochsAreOfFiles
epochs-are_of_files = record { gps = gps-epochs; mixed = mixed-epochs }

-- ---- the epochs of a part; Is says which epochs a file of its kind has

pub first-starts : (from : Option ℕ) (first : ℕ) (es : List EpochTableView) → StartsAt (first_of_part from first es) es
first-starts from first [] = tt
first-starts from first (e ∷ es) = refl

from-good : (from : Option ℕ) (first : ℕ) → IsMomentOrNone from → IsMoment first → IsMoment (unwrap_or from first)
from-good None first good own = own
from-good (Some from) first good own = good

pub first-good : (from : Option ℕ) (first : ℕ) (es : List EpochTableView) → IsMomentOrNone from → IsMoment first → All (λ e. IsMoment e.time) es → IsMoment (first_of_part from first es)
first-good from first [] good own all = from-good from first good own
first-good from first (e ∷ es) good own all = All-head (λ (x : EpochTableView). IsMoment x.time) e es all

kept-good : (Is : EpochTableView → Type 0) (choice : Choice) (es : List EpochTableView) → ((step : Step) (earlier : List EpochTableView) (e : EpochTableView) → Is e → Is (cut_epoch step earlier e))
    → All Is es → All Is (kept_after choice [] es)
kept-good Is choice es stays good =
    All-filter (is_chosen choice) Is (thinned_after (step_of choice) [] es) (thinned-all Is Is (step_of choice) (stays (step_of choice)) [] es good)

kept-rise : (choice : Choice) (es : List EpochTableView) → TimesRise es → TimesRise (kept_after choice [] es)
kept-rise choice es rise =
    AllPairs-filter (λ (a : EpochTableView) (b : EpochTableView). a.time < b.time) (is_chosen choice) (thinned_after (step_of choice) [] es) (thinned-rise (step_of choice) [] es rise)

gps-table : (asked : Part) (t : WellFormedTable) → IsMomentOrNone asked.from → IsWellFormedTable t → IsWellFormedTable (cut_of asked t)
gps-table asked t moment good =
    let n : ℕ = length t.head.listed in
    let choice : Choice = choice_of asked (near_of t.epochs) in
    let es : List EpochTableView = kept_after choice [] t.epochs in
    let all : All (IsTableEpoch n) es = kept-good (IsTableEpoch n) choice t.epochs (λ step earlier e is. cut-good n step earlier e is) good.epochs in
    record {
      head = good.head;
      site = good.site;
      first = first-good asked.from t.first es moment good.first (All-weaker (IsTableEpoch n) (λ (e : EpochTableView). IsMoment e.time) (λ e is. is.time) es all);
      starts = first-starts asked.from t.first es;
      epochs = all;
      rise = kept-rise choice t.epochs good.rise;
    }

mixed-table : (asked : Part) (t : MixedTable) → IsMomentOrNone asked.from → IsMixedTable t → IsMixedTable (mixed_cut_of asked t)
mixed-table asked t moment good =
    let form : FormView = form_of_head t.head in
    let choice : Choice = choice_of asked (near_of t.epochs) in
    let es : List EpochTableView = kept_after choice [] t.epochs in
    let all : All (IsMixedEpoch form) es = kept-good (IsMixedEpoch form) choice t.epochs (λ step earlier e is. cut-good_mixed form step earlier e is) good.epochs in
    record {
      head = good.head;
      site = good.site;
      first = first-good asked.from t.first es moment good.first (All-weaker (IsMixedEpoch form) (λ (e : EpochTableView). IsMoment e.time) (λ e is. is.time) es all);
      starts = first-starts asked.from t.first es;
      epochs = all;
      rise = kept-rise choice t.epochs good.rise;
    }

pub parts-are_tables : PartsAreTables
parts-are_tables = record { gps = gps-table; mixed = mixed-table }

-- the whole file on a step on which all its records are
own-epochs : (step : Step) (es : List EpochTableView) → All IsFileEpoch es → All (IsOn step) es → thinned_after step [] es ≡ es
own-epochs step es good on = thinned-own step [] es good on (All-nil IsFileEpoch) (All-nil (IsOn step))

pub records-are_own : RecordsAreOwn
records-are_own from until es good =
    ap (λ xs. filter (is_in_span (near_of es) from until) xs) (own-epochs (record { every = None; near = near_of es }) es good.all (λ k d lt. refl))

pub spans-join : SpansJoin
spans-join from until every meet es good before after =
    let step : Step = record { every = every; near = near_of es } in
    filters-join (near_of es) from until meet (thinned_after step [] es) before after (thinned-rise step [] es good.rise)

all-spanned : (near : ℕ) (es : List EpochTableView) → filter (is_in_span near None None) es ≡ es
all-spanned near [] = refl
all-spanned near (e ∷ es) = ap (λ xs. e ∷ xs) (all-spanned near es)

own-first : (first : ℕ) (es : List EpochTableView) → StartsAt first es → first_of_part None first es ≡ first
own-first first [] starts = refl
own-first first (e ∷ es) starts = starts

own-kept : (every : Option ℕ) (es : List EpochTableView) → AreFileEpochs es → AreOnStep every es → cut_of_epochs (part_of None None every) es ≡ es
own-kept every es good on =
    let step : Step = record { every = every; near = near_of es } in
    all-spanned (near_of es) (thinned_after step [] es) ∙ own-epochs step es good.all on

gps-own : (every : Option ℕ) (t : WellFormedTable) → IsWellFormedTable t → AreOnStep every t.epochs → cut_of (part_of None None every) t ≡ t
gps-own every t good on =
    ap (λ (es : List EpochTableView). record { head = t.head; site = t.site; first = first_of_part None t.first es; epochs = es }) (own-kept every t.epochs (gps-epochs t good) on)
    ∙ ap (λ (first : ℕ). record { head = t.head; site = t.site; first = first; epochs = t.epochs }) (own-first t.first t.epochs good.starts)

mixed-own : (every : Option ℕ) (t : MixedTable) → IsMixedTable t → AreOnStep every t.epochs → mixed_cut_of (part_of None None every) t ≡ t
mixed-own every t good on =
    ap (λ (es : List EpochTableView). record { head = t.head; site = t.site; first = first_of_part None t.first es; epochs = es }) (own-kept every t.epochs (mixed-epochs t good) on)
    ∙ ap (λ (first : ℕ). record { head = t.head; site = t.site; first = first; epochs = t.epochs }) (own-first t.first t.epochs good.starts)

pub own-step_gives_file : OwnStepGivesFile
own-step_gives_file = record { gps = gps-own; mixed = mixed-own }
