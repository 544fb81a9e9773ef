-- The days of the table of leap seconds, and its last row that has begun.
use Rattle.std.proofs.Common.{◌≡◌, ℕ, suc, ◌+◌, ◌-◌, ◌*◌, ◌<◌, ◌≤◌, List, ◌∷◌, map, get_or, refl, sym, subst, inl, inr, arith, pos, ◌+ℤ◌}
use Rattle.std.proofs.lemmas.Bool.{cases_order}
use Rattle.jiff_core.specs.Calendar.{day_count}
use Rattle.jiff_core.specs.March.{march_days, march_months}
use Rattle.jiff_core.proofs.MarchLemmas.{day_count-early, day_count-late}
use Rattle.rtk_obs.specs.declared.leap_seconds.TheConstants.{LEAP_DAYS}
use Rattle.rtk_obs.specs.LeapSeconds.{leap_dates, gps_day, leap_start, IsLastRow}

-- ---- the days

epoch : day_count (pos 1980) 1 6 ≡ 4_375_610
epoch = day_count-early (pos 1980) 11979 1 6 refl (omega arith) (omega arith) (omega arith)

july : (y n v : ℕ) → pos y +ℤ pos 10000 ≡ pos n → march_days n + march_months 7 + 1 + 59 ≡ v + 4_375_610 → gps_day (y, 7, 1) ≡ v
july y n v e s = omega (arith, day_count-late (pos y) n 7 1 e (omega arith) (omega arith) (omega arith), epoch, s)

january : (y n v : ℕ) → pos y +ℤ pos 10000 ≡ pos (suc n) → march_days n + march_months 13 + 1 + 59 ≡ v + 4_375_610 → gps_day (y, 1, 1) ≡ v
january y n v e s = omega (arith, day_count-early (pos y) n 1 1 e (omega arith) (omega arith) (omega arith), epoch, s)

join : (x y : ℕ) (xs ys : List ℕ) → x ≡ y → xs ≡ ys → x ∷ xs ≡ y ∷ ys
join x y xs ys e f = rw (e, f) refl

-- the table of days is that of the dates
table-holds : map gps_day leap_dates ≡ LEAP_DAYS
table-holds =
    join _ _ _ _ (july 1981 11981 542 refl refl) (
    join _ _ _ _ (july 1982 11982 907 refl refl) (
    join _ _ _ _ (july 1983 11983 1272 refl refl) (
    join _ _ _ _ (july 1985 11985 2003 refl refl) (
    join _ _ _ _ (january 1988 11987 2917 refl refl) (
    join _ _ _ _ (january 1990 11989 3648 refl refl) (
    join _ _ _ _ (january 1991 11990 4013 refl refl) (
    join _ _ _ _ (july 1992 11992 4560 refl refl) (
    join _ _ _ _ (july 1993 11993 4925 refl refl) (
    join _ _ _ _ (july 1994 11994 5290 refl refl) (
    join _ _ _ _ (january 1996 11995 5839 refl refl) (
    join _ _ _ _ (july 1997 11997 6386 refl refl) (
    join _ _ _ _ (january 1999 11998 6935 refl refl) (
    join _ _ _ _ (january 2006 12005 9492 refl refl) (
    join _ _ _ _ (january 2009 12008 10588 refl refl) (
    join _ _ _ _ (july 2012 12012 11865 refl refl) (
    join _ _ _ _ (july 2015 12015 12960 refl refl) (
    join _ _ _ _ (january 2017 12016 13510 refl refl) (
    refl))))))))))))))))))

pub start : (n : ℕ) → 86_400_000 * get_or LEAP_DAYS (n - 1) 0 + 1000 * n ≡ leap_start n
start n = subst (λ (days : List ℕ). 86_400_000 * get_or days (n - 1) 0 + 1000 * n ≡ leap_start n) table-holds refl

-- ---- the last row that has begun

module _ (H : ℕ → Type 0) where
  pub last_row : (n : ℕ) → n ≤ 18 → H n → ((k : ℕ) → n < k → k ≤ 18 → ¬ (H k)) → IsLastRow H n
  last_row n known h last = record { known = known; begun = λ _. h; last = last }

  pub no_row : (n : ℕ) → n ≤ 0 → ((k : ℕ) → n < k → k ≤ 18 → ¬ (H k)) → IsLastRow H 0
  no_row n none last = record {
    known = omega arith;
    begun = λ some. absurd (omega (arith, some));
    last = λ k some known. last k (omega (arith, none, some)) known;
  }

  -- none of the later rows has begun, nor has this one
  pub next_row : (n : ℕ) → 1 ≤ n → ¬ (H n) → ((k : ℕ) → n < k → k ≤ 18 → ¬ (H k)) → (k : ℕ) → n - 1 < k → k ≤ 18 → ¬ (H k)
  next_row n some not last k above known h = elim (cases_order n k) [
    | inl e ↦ not (subst H (sym e) h)
    | inr (inl lt) ↦ last k lt known h
    | inr (inr gt) ↦ absurd (omega (arith, above, gt))
  ]

  pub one_row : (m n : ℕ) → IsLastRow H m → IsLastRow H n → m ≡ n
  one_row m n p q = elim (cases_order m n) [
    | inl e ↦ e
    | inr (inl lt) ↦ absurd (p.last n lt q.known (q.begun (omega (arith, lt))))
    | inr (inr gt) ↦ absurd (q.last m gt p.known (p.begun (omega (arith, gt))))
  ]
