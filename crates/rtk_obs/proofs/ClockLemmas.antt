-- A clock has one moment near a reference, and a message one number of leap seconds.
use Rattle.std.proofs.Common.{◌≡◌, ℕ, ◌+◌, ◌-◌, ◌*◌, ◌/◌, ◌%◌, ◌^◌, ◌<◌, ◌≤◌, Bool, true, false, Option, Some, None, sym, ap, subst, ◌∙◌, inl, inr, arith}
use Rattle.std.specs.Bool.{Decides}
use Rattle.std.specs.Prelude.{nat_le, nat_lt, ◌&&◌, ◌||◌}
use Rattle.std.proofs.lemmas.Bool.Decides.{leb_tells, nat_tests}
use Rattle.rtk_message.specs.Fields.{longest_day_ms}
use Rattle.rtk_message.specs.Obs1012.{IsValid, clock_of}
use Rattle.rtk_message.specs.Systems.{tells_time}
use Rattle.rtk_message.specs.declared.obs1012.Obs1012.{Obs1012}
use Rattle.rtk_message.specs.declared.system.System.{System}
use Rattle.rtk_message.specs.declared.system.System.TheVariants.{Gps, Glonass, Galileo, Beidou, Qzss, Sbas, Navic}
use Rattle.rtk_obs.specs.declared.glonass_time.GlonassTime.{GlonassTime}
use Rattle.rtk_obs.specs.Dating.{IsDated}
use Rattle.rtk_obs.specs.LeapSeconds.{leap_start, IsLeapSecondsAt}
use Rattle.rtk_obs.specs.GlonassTime.{glonass_time_of, glonass_tow, glonass_tod, known_day, IsDatedInDay, IsMoscowMoment, IsMomentWith, HasBegunBy, IsNumberOf, IsGlonassMoment}
use Rattle.rtk_obs.specs.Clocks.{IsClock, beidou_tow, IsClockMoment}
use Rattle.rtk_obs.proofs.LeapLemmas.{one_row}

one_date : (near tow s t : ℕ) → IsDated near tow s → IsDated near tow t → s ≡ t
one_date near tow s t p q = omega (arith, p.time_of_week, p.from, p.before, q.time_of_week, q.from, q.before)

pub one_date-day : (near tod s t : ℕ) → IsDatedInDay near tod s → IsDatedInDay near tod t → s ≡ t
one_date-day near tod s t p q = omega (arith, p.time_of_day, p.from, p.before, q.time_of_day, q.from, q.before)

one_moscow : (near : ℕ) (day : Option ℕ) (ms n s t : ℕ) → IsMoscowMoment near day ms n s → IsMoscowMoment near day ms n t → s ≡ t
one_moscow near None ms n s t p q = one_date-day near _ s t p q
one_moscow near (Some day) ms n s t p q = one_date near _ s t p q

pub one_moment_with : (near : ℕ) (g : GlonassTime) (n s t : ℕ) → IsMomentWith near g n s → IsMomentWith near g n t → s ≡ t
one_moment_with near g n s t p q = one_moscow near g.day g.time_of_day_ms n s t p q

-- ---- the number of leap seconds

-- whether a row has begun is told by the moment that its number gives
pub begun_by : (near : ℕ) (g : GlonassTime) (n start m t : ℕ) → start ≡ leap_start n → m ≡ t → IsMomentWith near g n t → Decides (nat_le start m) (HasBegunBy near g n)
begun_by near g n start m t e f p = elim (leb_tells start m) [
  | inl h ↦ (λ _. record { moment = t; is_moment = p; begun = subst (λ (k : ℕ). k ≤ t) e (subst (λ (k : ℕ). start ≤ k) f h.1) }, λ _. h.0)
  | inr h ↦ (
    λ is. absurd (cc (is, h.0)),
    λ b.
        let same = one_moment_with near g n b.moment t b.is_moment p in
        absurd (omega (arith, h.1, b.begun, same, e, f)),
  )
]

pub one_number : (near : ℕ) (g : GlonassTime) (given : Option ℕ) (m n : ℕ) → IsNumberOf near g given m → IsNumberOf near g given n → m ≡ n
one_number near g None m n p q = one_row (HasBegunBy near g) m n p q
one_number near g (Some k) m n p q = p ∙ sym q

one_glonass : (near : ℕ) (g : GlonassTime) (given : Option ℕ) (s t : ℕ) → IsGlonassMoment near g given s → IsGlonassMoment near g given t → s ≡ t
one_glonass near g given s t p q =
    let n = one_number near g given p.leap_seconds q.leap_seconds p.number q.number in
    one_moment_with near g q.leap_seconds s t (subst (λ (k : ℕ). IsMomentWith near g k s) n p.moment) q.moment

-- the moment with more leap seconds is later by these, short of half a week after the reference
shifted : (near day ms n k t : ℕ) → n < k → k ≤ 18 → IsDated near (glonass_tow day ms n) t → t + 18_000 < near + 302_400_000
    → IsDated near (glonass_tow day ms k) (t + 1000 * (k - n))
shifted near day ms n k t a b p e = record {
  time_of_week = omega (arith, p.time_of_week, a);
  from = omega (arith, p.from);
  before = omega (arith, e, a, b);
}

begun_at : (near day ms n t : ℕ) → HasBegunBy near (record { day = Some day; time_of_day_ms = ms }) n → IsDated near (glonass_tow day ms n) t → leap_start n ≤ t
begun_at near day ms n t h d =
    let same = one_date near (glonass_tow day ms n) h.moment t h.is_moment d in
    omega (arith, h.begun, same)

-- the number of a message is that of its moment
pub at_moment : (near day ms n t : ℕ) → IsNumberOf near (record { day = Some day; time_of_day_ms = ms }) None n → IsDated near (glonass_tow day ms n) t
    → t + 18_000 < near + 302_400_000 → IsLeapSecondsAt t n
at_moment near day ms n t p d e = record {
  known = p.known;
  begun = λ some. (let h = p.begun some in begun_at near day ms n t h d);
  last = λ k above known h. p.last k above known (record { moment = t + 1000 * (k - n); is_moment = shifted near day ms n k t above known d e; begun = omega (arith, h) });
}

-- without a day the moment with more leap seconds is later by these, short of half a day after the reference
shifted-day : (near ms n k t : ℕ) → n < k → k ≤ 18 → IsDatedInDay near (glonass_tod ms n) t → t + 18_000 < near + 43_200_000
    → IsDatedInDay near (glonass_tod ms k) (t + 1000 * (k - n))
shifted-day near ms n k t a b p e = record {
  time_of_day = omega (arith, p.time_of_day, a);
  from = omega (arith, p.from);
  before = omega (arith, e, a, b);
}

begun_at-day : (near ms n t : ℕ) → HasBegunBy near (record { day = None; time_of_day_ms = ms }) n → IsDatedInDay near (glonass_tod ms n) t → leap_start n ≤ t
begun_at-day near ms n t h d =
    let same = one_date-day near (glonass_tod ms n) h.moment t h.is_moment d in
    omega (arith, h.begun, same)

-- the number of a message without a day is that of its moment
pub at_time_of_day : (near ms n t : ℕ) → IsNumberOf near (record { day = None; time_of_day_ms = ms }) None n → IsDatedInDay near (glonass_tod ms n) t
    → t + 18_000 < near + 43_200_000 → IsLeapSecondsAt t n
at_time_of_day near ms n t p d e = record {
  known = p.known;
  begun = λ some. (let h = p.begun some in begun_at-day near ms n t h d);
  last = λ k above known h. p.last k above known (record { moment = t + 1000 * (k - n); is_moment = shifted-day near ms n k t above known d e; begun = omega (arith, h) });
}

-- ---- clocks

pub one_clock : (s : System) (near c : ℕ) (given : Option ℕ) (m t : ℕ) → IsClockMoment s near c given m → IsClockMoment s near c given t → m ≡ t
one_clock Gps near c given m t p q = one_date near c m t p q
one_clock Glonass near c given m t p q = one_glonass near (glonass_time_of c) given m t p q
one_clock Galileo near c given m t p q = one_date near c m t p q
one_clock Beidou near c given m t p q = one_date near (beidou_tow c) m t p q
one_clock Qzss near c given m t p q = one_date near c m t p q
one_clock Sbas near c given m t p q = one_date near c m t p q
one_clock Navic near c given m t p q = one_date near c m t p q

below : (a b : ℕ) → nat_lt a b ≡ true → a < b
below a b h = grind (arith, nat_tests)

second : (a b : Bool) → (a && b) ≡ true → b ≡ true
second true b h = h
second false b h = absurd cc

-- a clock that tells a time is one of its system
pub is_clock : (any_day : Bool) (s : System) (c : ℕ) → tells_time any_day s c ≡ true → IsClock s c
is_clock any_day Gps c h = below c _ h
is_clock any_day Glonass c h = below (c % 2 ^ 27) longest_day_ms (second (any_day || nat_lt (c / 2 ^ 27) 7) _ h)
is_clock any_day Galileo c h = below c _ h
is_clock any_day Beidou c h = below c _ h
is_clock any_day Qzss c h = below c _ h
is_clock any_day Sbas c h = below c _ h
is_clock any_day Navic c h = below c _ h

-- ---- the clock of a 1012

time-is : (ms : ℕ) → ms < longest_day_ms → (7 * 2 ^ 27 + ms % 2 ^ 27) % 2 ^ 27 ≡ ms
time-is ms h = omega (arith, h)

day-is : (ms : ℕ) → (7 * 2 ^ 27 + ms % 2 ^ 27) / 2 ^ 27 ≡ 7
day-is ms = omega arith

pub clock-of-1012 : (m : Obs1012) → IsValid m → IsClock Glonass (clock_of m)
clock-of-1012 m valid = (let time = time-is m.time_of_day_ms valid.time_in_day in omega (arith, time, valid.time_in_day))

pub no-day : (m : Obs1012) → IsValid m → glonass_time_of (clock_of m) ≡ record { day = None; time_of_day_ms = m.time_of_day_ms }
no-day m valid = λ i. record { day = ap known_day (day-is m.time_of_day_ms) i; time_of_day_ms = time-is m.time_of_day_ms valid.time_in_day i }
