-- What 1042, 1045, 1046, 1020 and 1013 tell, one message after another.
use Rattle.std.proofs.Common.{◌≡◌, ◌≢◌, ◌==◌, ◌∙◌, ◌+◌, ℕ, Bool, true, false, cond, List, [], ◌∷◌, Option, None, Some, min, max, inl, inr, refl, sym, ap, ne_eqb, arith}
use Rattle.std.proofs.lemmas.Bool.{cases_eq, eq-eqb}
use Rattle.std.specs.BTreeMap.{BTreeMap, get, is_at, Updates}
use Rattle.std.specs.Map.{lookup}
use Rattle.std.specs.Option.{unwrap_or}
use Rattle.std.specs.Ordering.{nat_cmp}
use Rattle.rtk_survey.specs.Channels.{is_field}
use Rattle.rtk_survey.specs.Contents.{count_at, CountsSystemWeeks}
use Rattle.rtk_survey.specs.Counting.{shown_count}
use Rattle.rtk_survey.specs.SystemTellings.{system_week_of, names_week, leap_in, widened, leap_with, leap_with_if, leap_range, HasLeapRanges}
use Rattle.rtk_survey.specs.declared.system_message.LeapSeconds.{LeapSeconds}
use Rattle.rtk_survey.specs.declared.system_message.SystemMessage.{SystemMessage}
use Rattle.rtk_survey.specs.declared.system_tellings.LeapRange.{LeapRange}
use Rattle.rtk_survey.proofs.MapLemmas.{other-key}
use Rattle.rtk_survey.proofs.TallyLemmas.{tally-more, tally-same}

-- ---- weeks

pub week-more : (number : ℕ) (old new : BTreeMap ℕ ℕ) (week : ℕ) (m : SystemMessage) (ts : List SystemMessage) → Some week ≡ system_week_of number m
    → count_at new week ≡ shown_count (count_at old week + 1) → ((n : ℕ) → n ≢ week → count_at new n ≡ count_at old n)
    → CountsSystemWeeks number old ts → CountsSystemWeeks number new (m ∷ ts)
week-more number old new week m ts is own others counts =
    tally-more (λ n x. names_week number n x) m ts old new week (λ n. ap (λ (o : Option ℕ). is_field o n) (sym is)) own others counts

pub week-same : (number : ℕ) (weeks : BTreeMap ℕ ℕ) (m : SystemMessage) (ts : List SystemMessage) → None ≡ system_week_of number m
    → CountsSystemWeeks number weeks ts → CountsSystemWeeks number weeks (m ∷ ts)
week-same number weeks m ts is counts = tally-same (λ n x. names_week number n x) m ts weeks (λ n. ap (λ (o : Option ℕ). is_field o n) (sym is)) counts

-- ---- leap seconds

pub first-range : (o : Option LeapRange) (seconds : ℕ) (told : LeapRange) → told ≡ record { least = seconds; greatest = seconds } → widened (unwrap_or o told) seconds ≡ leap_with o seconds
first-range None seconds told is =
    let least : min seconds seconds ≡ seconds = omega arith in
    let greatest : max seconds seconds ≡ seconds = omega arith in
    ap (λ (r : LeapRange). widened r seconds) is ∙ ap (λ (n : ℕ). record { least = n; greatest = max seconds seconds }) least ∙ ap (λ (n : ℕ). record { least = seconds; greatest = n }) greatest
first-range (Some r) seconds told is = refl

pub leap-more : (old new : BTreeMap ℕ LeapRange) (l : LeapSeconds) (m : SystemMessage) (ts : List SystemMessage) → Some l ≡ leap_in m
    → get nat_cmp new l.station ≡ Some (leap_with (get nat_cmp old l.station) l.seconds) → ((n : ℕ) → n ≢ l.station → get nat_cmp new n ≡ get nat_cmp old n)
    → HasLeapRanges old ts → HasLeapRanges new (m ∷ ts)
leap-more old new l m ts is own others has n =
    let told : leap_range n (m ∷ ts) ≡ leap_with_if n (leap_range n ts) (Some l) = ap (λ (o : Option LeapSeconds). leap_with_if n (leap_range n ts) o) (sym is) in
    elim (cases_eq n l.station) [
      | inl same ↦
          let here : (l.station == n) ≡ true = eq-eqb l.station n (sym same) in
          ap (λ (k : ℕ). get nat_cmp new k) same ∙ own ∙ ap (λ (k : ℕ). Some (leap_with (get nat_cmp old k) l.seconds)) (sym same)
          ∙ ap (λ (o : Option LeapRange). Some (leap_with o l.seconds)) (has n)
          ∙ ap (λ (b : Bool). cond b (Some (leap_with (leap_range n ts) l.seconds)) (leap_range n ts)) (sym here) ∙ sym told
      | inr other ↦
          let elsewhere : (l.station == n) ≡ false = ne_eqb l.station n (λ same. other (sym same)) in
          others n other ∙ has n ∙ ap (λ (b : Bool). cond b (Some (leap_with (leap_range n ts) l.seconds)) (leap_range n ts)) (sym elsewhere) ∙ sym told
    ]

pub leap-same : (ranges : BTreeMap ℕ LeapRange) (m : SystemMessage) (ts : List SystemMessage) → None ≡ leap_in m → HasLeapRanges ranges ts → HasLeapRanges ranges (m ∷ ts)
leap-same ranges m ts is has n = has n ∙ ap (λ (o : Option LeapSeconds). leap_with_if n (leap_range n ts) o) is

pub no-ranges : (m : BTreeMap ℕ LeapRange) → m.entries ≡ [] → HasLeapRanges m []
no-ranges m empty n = ap (λ (entries : List (ℕ × LeapRange)). lookup (is_at (nat_cmp n)) entries) empty

pub put-range : (old new : BTreeMap ℕ LeapRange) (k : ℕ) (r : LeapRange) → Updates nat_cmp old new k (Some r) → get nat_cmp new k ≡ Some r
put-range old new k r puts = puts.1

pub other-ranges : (old new : BTreeMap ℕ LeapRange) (k : ℕ) (r : LeapRange) → Updates nat_cmp old new k (Some r) → (n : ℕ) → n ≢ k → get nat_cmp new n ≡ get nat_cmp old n
other-ranges old new k r puts n other = puts.2 n (other-key k n other)
