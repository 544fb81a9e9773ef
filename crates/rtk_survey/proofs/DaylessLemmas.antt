-- MSM of GLONASS without a day, one after another.
use Rattle.std.proofs.Common.{◌≡◌, ◌≢◌, ◌+◌, ◌==◌, ◌&&◌, ◌∙◌, ℕ, Bool, true, false, List, ◌∷◌, sym, ap}
use Rattle.std.specs.BTreeMap.{BTreeMap}
use Rattle.rtk_message.specs.declared.any_message.AnyMessage.{AnyMessage}
use Rattle.rtk_message.specs.AnyDecoded.{number_of}
use Rattle.rtk_survey.specs.Contents.{count_at, CountsDayless}
use Rattle.rtk_survey.specs.Counting.{shown_count}
use Rattle.rtk_survey.specs.Dayless.{is_dayless, is_dayless_numbered}
use Rattle.rtk_survey.specs.Tracing.{is_numbered}
use Rattle.rtk_survey.proofs.TallyLemmas.{tally-more, tally-same}

-- such a message more, by its number
pub dayless-counted : (old new : BTreeMap ℕ ℕ) (k : ℕ) (m : AnyMessage) (ms : List AnyMessage) → k ≡ number_of m → is_dayless m ≡ true
    → count_at new k ≡ shown_count (count_at old k + 1) → ((n : ℕ) → n ≢ k → count_at new n ≡ count_at old n) → CountsDayless old ms → CountsDayless new (m ∷ ms)
dayless-counted old new k m ms is none own others counts =
    tally-more (λ n x. is_dayless_numbered n x) m ms old new k
    (λ n. ap (λ (b : Bool). b && is_numbered n m) none ∙ ap (λ (j : ℕ). j == n) (sym is)) own others counts

-- and another one
pub dayless-passed : (counts : BTreeMap ℕ ℕ) (m : AnyMessage) (ms : List AnyMessage) → is_dayless m ≡ false → CountsDayless counts ms → CountsDayless counts (m ∷ ms)
dayless-passed counts m ms some stand = tally-same (λ n x. is_dayless_numbered n x) m ms counts (λ n. ap (λ (b : Bool). b && is_numbered n m) some) stand
