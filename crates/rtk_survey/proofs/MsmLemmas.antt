-- What a station has of each MSM.
use Rattle.std.proofs.Common.{◌≡◌, ◌+◌, ◌∙◌, ◌++◌, ℕ, Bool, true, false, cond, List, ◌∷◌, ap, sym, get_or, arith}
use Rattle.std.specs.Prelude.{count_by, filter}
use Rattle.std.proofs.Math.Path.{fun_ext}
use Rattle.std.proofs.lemmas.List.Sums.{sum_by-cons}
use Rattle.rtk_message.specs.declared.any_message.AnyMessage.{AnyMessage}
use Rattle.rtk_message.specs.declared.msm_kind.MsmKind.{MsmKind}
use Rattle.rtk_message.specs.declared.msm_kind.MsmKind.TheVariants.{Msm4, Msm5, Msm6, Msm7}
use Rattle.rtk_obs.specs.declared.cell.CellEntry.{CellEntry}
use Rattle.rtk_obs.specs.declared.code.Code.{Code}
use Rattle.rtk_obs.specs.Code.{place_of}
use Rattle.rtk_obs.proofs.PublicLaws.{place_bound}
use Rattle.rtk_survey.specs.Counting.{shown_count, count_of}
use Rattle.rtk_survey.specs.Proposal.{epochs_with_value, entries_with, gives_value, times_with_value, is_taken_with}
use Rattle.rtk_survey.specs.Tracing.{has_code, times_of_week, entries_of_message, entries_in}
use Rattle.rtk_survey.specs.Contents.{one_if, HasCodes, HasMsm, HasMsms, msm_part, epochs_held, codes_held}
use Rattle.rtk_survey.specs.declared.epochs.Epochs.{Epochs}
use Rattle.rtk_survey.specs.declared.msm_parts.MsmParts.{MsmParts}
use Rattle.rtk_survey.specs.declared.signals.Codes.{Codes}

-- a count of one message more
pub counted : (test : AnyMessage → Bool) (m : AnyMessage) (ms : List AnyMessage) (old new : ℕ) → old ≡ count_of test ms
    → new ≡ shown_count (old + one_if (test m)) → new ≡ count_of test (m ∷ ms)
counted test m ms old new was is =
    let n : ℕ = cond (test m) 1 0 in
    let k : ℕ = count_by test ms in
    let shown : shown_count (shown_count k + n) ≡ shown_count (n + k) = omega arith in
    is ∙ ap (λ (a : ℕ). shown_count (a + n)) was ∙ shown ∙ ap shown_count (sym (sum_by-cons (λ (x : AnyMessage). cond (test x) 1 0) m ms))

-- the times of a message more, by whether it gives a value
pub times-with : (kind : MsmKind) (m : AnyMessage) (ms : List AnyMessage) → gives_value kind m ≡ true
    → times_with_value kind (m ∷ ms) ≡ times_of_week (m ∷ filter (gives_value kind) ms)
times-with kind m ms passes =
    let others = filter (gives_value kind) ms in
    ap (λ (b : Bool). times_of_week (cond b (m ∷ others) others)) passes

pub times-without : (kind : MsmKind) (m : AnyMessage) (ms : List AnyMessage) → gives_value kind m ≡ false
    → times_with_value kind (m ∷ ms) ≡ times_with_value kind ms
times-without kind m ms fails =
    let others = filter (gives_value kind) ms in
    ap (λ (b : Bool). times_of_week (cond b (m ∷ others) others)) fails

-- the cells of a message more, by whether it is taken
pub entries-taken : (kind : MsmKind) (m : AnyMessage) (ms : List AnyMessage) → is_taken_with kind m ≡ true
    → entries_with kind (m ∷ ms) ≡ entries_of_message m ++ entries_with kind ms
entries-taken kind m ms passes =
    let others = filter (is_taken_with kind) ms in
    ap (λ (b : Bool). entries_in (cond b (m ∷ others) others)) passes

pub entries-left : (kind : MsmKind) (m : AnyMessage) (ms : List AnyMessage) → is_taken_with kind m ≡ false
    → entries_with kind (m ∷ ms) ≡ entries_with kind ms
entries-left kind m ms fails =
    let others = filter (is_taken_with kind) ms in
    ap (λ (b : Bool). entries_in (cond b (m ∷ others) others)) fails

-- ---- what is held

pub stands-of : (p : MsmParts) (ms : List AnyMessage) (kind : MsmKind) → HasMsms p ms → HasMsm kind (msm_part p kind) ms
stands-of p ms Msm4 stand = stand.msm4
stands-of p ms Msm5 stand = stand.msm5
stands-of p ms Msm6 stand = stand.msm6
stands-of p ms Msm7 stand = stand.msm7

pub codes-marked : (c : Codes) (es : List CellEntry) → HasCodes c es → (λ (code : Code). get_or c.marks (place_of code) false) ≡ has_code es
codes-marked c es stands = fun_ext (λ code.
    stands.marks (place_of code) (let bound = place_bound code in let size = stands.size in omega (arith, bound, size)))

pub epochs-are : (p : MsmParts) (ms : List AnyMessage) → HasMsms p ms → epochs_held p ≡ (λ (kind : MsmKind). epochs_with_value kind ms)
epochs-are p ms stand = fun_ext (λ kind. ap (λ (e : Epochs). e.count) (stands-of p ms kind stand).epochs)

pub codes-held-are : (p : MsmParts) (ms : List AnyMessage) → HasMsms p ms → codes_held p ≡ (λ (kind : MsmKind). has_code (entries_with kind ms))
codes-held-are p ms stand = fun_ext (λ kind. codes-marked (msm_part p kind).codes (entries_with kind ms) (stands-of p ms kind stand).codes)
