-- The leap seconds of a file, and the head that tells them.
use Rattle.std.proofs.Common.{◌≡◌, ◌∙◌, ◌<◌, ◌≤◌, ℕ, zero, suc, Bool, true, false, List, Option, None, Some, Decides, refl, sym, ap, inl, inr, arith}
use Rattle.std.specs.Prelude.{IfSome, nat_le, option_map, unwrap_or, if◌then◌else◌}
use Rattle.std.specs.Option.{SomeIff}
use Rattle.std.proofs.lemmas.Bool.{cases_Bool, cases_order, both_ways}
use Rattle.std.proofs.lemmas.Bool.Decides.{nat_tests}
use Rattle.std.proofs.lemmas.List.Elements.{All-weaker}
use Rattle.rtk_obs.specs.declared.any_code.AnyCode.{AnyCode}
use Rattle.rtk_obs.specs.LeapSeconds.{leap_start, IsLeapSecondsAt}
use Rattle.rtk_obs.specs.SatelliteIndex.{bit_at}
use Rattle.rtk_rinex.specs.declared.epoch_table.SatelliteRow.{SatelliteRow}
use Rattle.rtk_rinex.specs.Header.{PositionView}
use Rattle.rtk_rinex.specs.MixedForm.{has_channel}
use Rattle.rtk_rinex.specs.MixedHead.{GlonassView, IsMixedHead, TellsGlonass, has_glonass}
use Rattle.rtk_rinex.specs.MixedHeader.{mixed_header_text}
use Rattle.rtk_rinex.specs.MixedTable.{IsEpochOfHead, IsRowOfHead}
use Rattle.rtk_rinex.specs.Record.{EpochTableView}
use Rattle.rtk_convert.specs.File.{begun_row, file_leap_seconds, told_with, head_at, header_at}
use Rattle.rtk_setup.specs.Setup.{SetupView, IsSetupView, IsLeapSeconds}

-- ---- the table of leap seconds

decides-le : (a b : ℕ) → Decides (nat_le a b) (a ≤ b)
decides-le a b = (λ e. grind (arith, nat_tests), λ h. grind (arith, nat_tests))

module _ (Begun : ℕ → Type 0) (has_begun : ℕ → Bool) (tells : (n : ℕ) → Decides (has_begun n) (Begun n)) where
  -- the row that has begun and no later one
  row-is : (n m : ℕ) → n ≤ m → (1 ≤ n → Begun n) → ((k : ℕ) → n < k → k ≤ m → ¬ (Begun k)) → begun_row has_begun m ≡ n
  unfolding begun_row
  row-is n zero few begun last = omega arith
  row-is n (suc m) few begun last = elim (cases_Bool (has_begun (suc m))) [
    | inl set ↦ rw set (elim (cases_order n (suc m)) [
      | inl e ↦ sym e
      | inr (inl lt) ↦ absurd (last (suc m) lt (omega arith) ((tells (suc m)).0 set))
      | inr (inr gt) ↦ absurd (omega arith)
    ])
    | inr unset ↦ rw unset (elim (cases_order n (suc m)) [
      | inl e ↦ absurd (both_ways (has_begun (suc m)) unset ((tells (suc m)).1 (rw (← e) (begun (omega arith)))))
      | inr (inl lt) ↦ row-is n m (omega arith) begun (λ k above within. last k above (omega arith))
      | inr (inr gt) ↦ absurd (omega arith)
    ])
  ]

-- the leap seconds of the table at a moment
pub leap-is : (t n : ℕ) → IsLeapSecondsAt t n → begun_row (λ k. nat_le (leap_start k) t) 18 ≡ n
leap-is t n h = row-is (λ k. leap_start k ≤ t) (λ k. nat_le (leap_start k) t) (λ k. decides-le (leap_start k) t) n 18 h.known h.begun h.last

row-if : (b : Bool) (m n : ℕ) → n ≤ m → (if b then suc m else n) ≤ suc m
row-if true m n h = omega arith
row-if false m n h = omega arith

row-known : (has_begun : ℕ → Bool) (m : ℕ) → begun_row has_begun m ≤ m
unfolding begun_row
row-known has_begun zero = omega arith
row-known has_begun (suc m) = row-if (has_begun (suc m)) m (begun_row has_begun m) (row-known has_begun m)

-- ---- the leap seconds of a file

leap-few : (o : Option ℕ) (n : ℕ) → IfSome o IsLeapSeconds → n ≤ 18 → unwrap_or o n ≤ 99
leap-few None n good h = omega arith
leap-few (Some given) n good h = good

pub leap-bound : (s : SetupView) (first : ℕ) → IfSome s.leap_seconds IsLeapSeconds → file_leap_seconds s first ≤ 99
leap-bound s first good = leap-few s.leap_seconds (begun_row (λ k. nat_le (leap_start k) first) 18) good (row-known (λ k. nat_le (leap_start k) first) 18)

-- those that were given
pub leap-given : (s : SetupView) (first n : ℕ) → s.leap_seconds ≡ Some n → n ≡ file_leap_seconds s first
leap-given s first n is = ap (λ (o : Option ℕ). unwrap_or o (begun_row (λ k. nat_le (leap_start k) first) 18)) (sym is)

-- those of the table
pub leap-of-table : (s : SetupView) (first n : ℕ) → s.leap_seconds ≡ None → IsLeapSecondsAt first n → n ≡ file_leap_seconds s first
leap-of-table s first n is h =
    sym (leap-is first n h) ∙ ap (λ (o : Option ℕ). unwrap_or o (begun_row (λ k. nat_le (leap_start k) first) 18)) (sym is)

-- ---- the head that tells them

-- what was made of good parts
pub some-is : (o : Option GlonassView) (n : ℕ) (v : GlonassView) → SomeIff o (n ≤ 99) v → n ≤ 99 → o ≡ Some v
some-is None n v made few = absurd (made few)
some-is (Some x) n v made few = ap Some made.1

none-told : (g : Option GlonassView) (n : ℕ) → option_map (told_with n) g ≡ None → g ≡ None
none-told None n h = refl
none-told (Some g) n h = absurd cc

some-told : (listed : List AnyCode) (g : Option GlonassView) (n : ℕ) (told : GlonassView) → Some told ≡ option_map (told_with n) g → TellsGlonass listed g → has_glonass listed ≡ true
some-told listed None n told is good = absurd cc
some-told listed (Some g) n told is good = good.0

-- a head that tells of GLONASS lists a code of it
pub told-listed : (s : SetupView) (first : ℕ) (told : GlonassView) → Some told ≡ (head_at s first).glonass → IsMixedHead s.head → has_glonass s.head.listed ≡ true
told-listed s first told is good = some-told s.head.listed s.head.glonass (file_leap_seconds s first) told is good.glonass

-- the header, if the head tells of GLONASS, and if it does not
pub header-some : (s : SetupView) (site : PositionView) (first : ℕ) (told : GlonassView) → Some told ≡ (head_at s first).glonass
    → mixed_header_text (record s.head { glonass = Some told }) site first ≡ header_at s site first
header-some s site first told is = ap (λ (g : Option GlonassView). mixed_header_text (record s.head { glonass = g }) site first) is

pub header-none : (s : SetupView) (site : PositionView) (first : ℕ) → (head_at s first).glonass ≡ None → mixed_header_text s.head site first ≡ header_at s site first
header-none s site first none =
    ap (λ (g : Option GlonassView). mixed_header_text (record s.head { glonass = g }) site first) (none-told s.head.glonass (file_leap_seconds s first) none ∙ sym none)

told-good : (listed : List AnyCode) (g : Option GlonassView) (n : ℕ) → n ≤ 99 → TellsGlonass listed g → TellsGlonass listed (option_map (told_with n) g)
told-good listed None n few told = told
told-good listed (Some g) n few told = (told.0, record { channels = told.1.channels; leap_seconds = few })

pub head-good : (s : SetupView) (first : ℕ) → IsSetupView s → IsMixedHead (head_at s first)
head-good s first good =
    let h = good.2 in
    record {
      marker = h.marker;
      listed = h.listed;
      glonass = told-good s.head.listed s.head.glonass (file_leap_seconds s first) (leap-bound s first good.4) h.glonass;
      made = h.made;
      whole_second = h.whole_second;
    }

told-channel : (g : Option GlonassView) (n slot : ℕ) → has_channel (option_map (told_with n) g) slot ≡ has_channel g slot
told-channel None n slot = refl
told-channel (Some g) n slot = refl

row-of-head : (s : SetupView) (first : ℕ) (r : SatelliteRow) → IsRowOfHead s.head r → IsRowOfHead (head_at s first) r
row-of-head s first r h = record {
  satellite = h.satellite;
  width = h.width;
  strengths = h.strengths;
  phases = λ is none. h.phases is (sym (told-channel s.head.glonass (file_leap_seconds s first) (bit_at r.satellite)) ∙ none);
}

-- an epoch of a file of the setup's head is one of the head that tells the leap seconds
pub epoch-of-head : (s : SetupView) (first : ℕ) (e : EpochTableView) → IsEpochOfHead s.head e → IsEpochOfHead (head_at s first) e
epoch-of-head s first e h = record {
  time = h.time;
  rows = All-weaker (IsRowOfHead s.head) (IsRowOfHead (head_at s first)) (row-of-head s first) e.rows h.rows;
  rise = h.rise;
}
