-- Messages with cells without a name, one after another.
use Rattle.std.proofs.Common.{◌≡◌, ◌≢◌, ◌+◌, ◌==◌, ◌&&◌, ◌∙◌, ℕ, Bool, true, false, List, ◌∷◌, sym, ap}
use Rattle.std.specs.BTreeMap.{BTreeMap}
use Rattle.rtk_message.specs.declared.any_message.AnyMessage.{AnyMessage}
use Rattle.rtk_message.specs.AnyDecoded.{number_of}
use Rattle.rtk_survey.specs.Contents.{count_at, CountsNameless}
use Rattle.rtk_survey.specs.Counting.{shown_count}
use Rattle.rtk_survey.specs.Nameless.{has_nameless, is_nameless_numbered}
use Rattle.rtk_survey.specs.Tracing.{is_numbered}
use Rattle.rtk_survey.proofs.TallyLemmas.{tally-more, tally-same}

-- a message with such cells more, by its number
pub nameless-counted : (old new : BTreeMap ℕ ℕ) (k : ℕ) (m : AnyMessage) (ms : List AnyMessage) → k ≡ number_of m → has_nameless m ≡ true
    → count_at new k ≡ shown_count (count_at old k + 1) → ((n : ℕ) → n ≢ k → count_at new n ≡ count_at old n) → CountsNameless old ms → CountsNameless new (m ∷ ms)
nameless-counted old new k m ms is has own others counts =
    tally-more (λ n x. is_nameless_numbered n x) m ms old new k
    (λ n. ap (λ (b : Bool). b && is_numbered n m) has ∙ ap (λ (j : ℕ). j == n) (sym is)) own others counts

-- and one without
pub nameless-passed : (counts : BTreeMap ℕ ℕ) (m : AnyMessage) (ms : List AnyMessage) → has_nameless m ≡ false → CountsNameless counts ms → CountsNameless counts (m ∷ ms)
nameless-passed counts m ms none stand = tally-same (λ n x. is_nameless_numbered n x) m ms counts (λ n. ap (λ (b : Bool). b && is_numbered n m) none) stand
