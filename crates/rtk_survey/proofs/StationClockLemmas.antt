-- The clocks of stations that give no epoch, one message after another.
use Rattle.std.proofs.Common.{◌≡◌, ◌≢◌, ◌==◌, ◌∙◌, ℕ, Bool, true, false, cond, List, [], Option, Some, inl, inr, sym, ap, ne_eqb}
use Rattle.std.proofs.lemmas.Bool.{cases_eq, eq-eqb}
use Rattle.std.specs.BTreeMap.{BTreeMap, is_at, Updates}
use Rattle.std.specs.Map.{lookup}
use Rattle.std.specs.Option.{unwrap_or}
use Rattle.std.specs.Ordering.{nat_cmp}
use Rattle.rtk_survey.specs.StationClocks.{no_station_clocks, with_followed_time, clocks_by_station, with_time_for}
use Rattle.rtk_survey.specs.declared.clock_marks.ClockMarks.{ClockMarks}
use Rattle.rtk_survey.specs.declared.clock_spans.FollowedTime.{FollowedTime}
use Rattle.rtk_survey.specs.declared.station_clocks.StationClocks.{StationClocks}
use Rattle.rtk_survey.proofs.MapLemmas.{other-key}

pub nothing-followed : (m : BTreeMap ℕ StationClocks) → m.entries ≡ [] → (n : ℕ) → clocks_by_station m n ≡ no_station_clocks
nothing-followed m empty n = ap (λ (entries : List (ℕ × StationClocks)). unwrap_or (lookup (is_at (nat_cmp n)) entries) no_station_clocks) empty

-- the clocks of a station were put
pub put-clocks : (old new : BTreeMap ℕ StationClocks) (k : ℕ) (s : StationClocks) → Updates nat_cmp old new k (Some s) → clocks_by_station new k ≡ s
put-clocks old new k s puts = ap (λ (o : Option StationClocks). unwrap_or o no_station_clocks) puts.1

pub other-clocks : (old new : BTreeMap ℕ StationClocks) (k : ℕ) (s : StationClocks) → Updates nat_cmp old new k (Some s) → (n : ℕ) → n ≢ k
    → clocks_by_station new n ≡ clocks_by_station old n
other-clocks old new k s puts n other = ap (λ (o : Option StationClocks). unwrap_or o no_station_clocks) (puts.2 n (other-key k n other))

-- a time more of one station
pub time-more : (old new : BTreeMap ℕ StationClocks) (k : ℕ) (e : Option ClockMarks) (told : FollowedTime)
    → clocks_by_station new k ≡ with_followed_time e told (clocks_by_station old k) → ((n : ℕ) → n ≢ k → clocks_by_station new n ≡ clocks_by_station old n)
    → (n : ℕ) → clocks_by_station new n ≡ with_time_for n k e told (clocks_by_station old n)
time-more old new k e told own others n = elim (cases_eq n k) [
  | inl same ↦
      let here : (k == n) ≡ true = eq-eqb k n (sym same) in
      ap (λ (x : ℕ). clocks_by_station new x) same ∙ own ∙ ap (λ (x : ℕ). with_followed_time e told (clocks_by_station old x)) (sym same)
      ∙ ap (λ (b : Bool). cond b (with_followed_time e told (clocks_by_station old n)) (clocks_by_station old n)) (sym here)
  | inr other ↦
      let elsewhere : (k == n) ≡ false = ne_eqb k n (λ same. other (sym same)) in
      others n other ∙ ap (λ (b : Bool). cond b (with_followed_time e told (clocks_by_station old n)) (clocks_by_station old n)) (sym elsewhere)
]
