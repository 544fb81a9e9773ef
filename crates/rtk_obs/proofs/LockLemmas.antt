-- The tables of lock times hold what their definitions say, by a test of each entry; and a shift
-- keeps all bits of a lock time.
use Rattle.std.proofs.Common.{◌≡◌, ℕ, zero, suc, ◌+◌, ◌-◌, ◌*◌, ◌/◌, ◌%◌, ◌^◌, ◌<◌, ◌≤◌, Bool, true, false, ◌&&◌, List, [], ◌∷◌, length, get_or, nat_eq, refl, arith}
use Rattle.std.specs.Prelude.{nat_le}
use Rattle.std.proofs.lemmas.Bool.Decides.{nat_tests}
use Rattle.std.proofs.lemmas.Nat.{shl_whole}
use Rattle.rtk_obs.specs.LockTime.{least_lock_of_legacy, least_lock_of_msm, least_lock_of_extended}
use Rattle.rtk_obs.specs.declared.lock_time.TheConstants.{LEAST_LOCKS, LEAST_LOCKS_MSM}

holds_from : (ℕ → ℕ) → ℕ → List ℕ → Bool
holds_from f i [] = true
holds_from f i (t ∷ ts) = nat_eq t (f i) && holds_from f (suc i) ts

both : (a b : Bool) → (a && b) ≡ true → (a ≡ true) × (b ≡ true)
both true b h = (refl, h)
both false b h = absurd (cc)

same : (m n : ℕ) → nat_eq m n ≡ true → m ≡ n
same m n h = grind (arith, nat_tests)

entry_at : (f : ℕ → ℕ) (k : ℕ) (ts : List ℕ) (i : ℕ) → holds_from f k ts ≡ true → i < length ts → get_or ts i 0 ≡ f (k + i)
unfolding holds_from
entry_at f k [] i h inside = absurd (omega arith)
entry_at f k (t ∷ ts) zero h inside =
    let p = both (nat_eq t (f k)) (holds_from f (suc k) ts) h in
    let e : k + 0 ≡ k = omega arith in
    rw e (same t (f k) p.0)
entry_at f k (t ∷ ts) (suc i) h inside =
    let p = both (nat_eq t (f k)) (holds_from f (suc k) ts) h in
    let e : k + suc i ≡ suc k + i = omega arith in
    rw e (entry_at f (suc k) ts i p.1 (omega arith))

legacy_holds : holds_from least_lock_of_legacy 0 LEAST_LOCKS ≡ true
unfolding holds_from
legacy_holds = refl

msm_holds : holds_from least_lock_of_msm 0 LEAST_LOCKS_MSM ≡ true
unfolding holds_from
msm_holds = refl

pub least_lock-legacy : (i : ℕ) → i < 128 → get_or LEAST_LOCKS i 0 ≡ least_lock_of_legacy i
least_lock-legacy i inside =
    let e : 0 + i ≡ i = omega arith in
    rw e at (entry_at least_lock_of_legacy 0 LEAST_LOCKS i legacy_holds inside)

pub least_lock-msm : (i : ℕ) → i < 16 → get_or LEAST_LOCKS_MSM i 0 ≡ least_lock_of_msm i
least_lock-msm i inside =
    let e : 0 + i ≡ i = omega arith in
    rw e at (entry_at least_lock_of_msm 0 LEAST_LOCKS_MSM i msm_holds inside)

-- a step of the indicator is below 2^7, and it is doubled 21 times at most
pub least_lock-doubled : (i step : ℕ) → 64 ≤ i → i ≤ 704 → step ≡ i - 32 * (i / 32 - 1) → step * 2 ^ (i / 32 - 1) % 2 ^ 32 ≡ least_lock_of_extended i
least_lock-doubled i step low high is =
    let above : nat_le i 63 ≡ false = grind (arith, nat_tests) in
    let within : nat_le i 704 ≡ true = grind (arith, nat_tests) in
    rw (above, within, is) (shl_whole (i - 32 * (i / 32 - 1)) 7 (i / 32 - 1) 32 (omega arith) (omega arith))
