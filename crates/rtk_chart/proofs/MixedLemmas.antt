-- The picture of a file of any systems, from what was read of it.
use Rattle.std.proofs.Common.{◌≡◌, ◌+◌, ◌-◌, ◌++◌, ◌==◌, ◌||◌, ℕ, Bool, List, [], ◌∷◌, length, map, Option, Some, None, refl, sym, ap, subst, ◌∙◌, arith}
use Rattle.std.specs.List.{range_with_len}
use Rattle.std.proofs.lemmas.List.{map_push}
use Rattle.rtk_message.specs.declared.system.System.{System}
use Rattle.rtk_obs.specs.declared.any_code.AnyCode.{AnyCode}
use Rattle.rtk_rinex.specs.Record.{EpochTableView}
use Rattle.rtk_tracking.specs.Epochs.{capped, newest_moment}
use Rattle.rtk_tracking.specs.Interval.{missing_in, missing_before}
use Rattle.rtk_chart.specs.Chart.{slips_at, returns_at}
use Rattle.rtk_chart.specs.Scale.{scale_of, bin_at}
use Rattle.rtk_chart.specs.Grid.{bins_of, outages_of, gaps_of, recorded_of, has_missing, has_missing_before, has_record}
use Rattle.rtk_chart.specs.Groups.{title_of}
use Rattle.rtk_chart.specs.MixedChart.{DrawnView, both_numbers, with_satellites, with_listed, drawn_of_system, then_system, drawn_systems, systems_picture, systems_at, systems_of_epochs}
use Rattle.rtk_chart.specs.TextPicture.{satellites_in, satellite_rows, never_in_line, all_never_lines, text_of_none}
use Rattle.rtk_chart.specs.Steps.Pictures.{with_grid}
use Rattle.rtk_chart.specs.Steps.Standing.{StandsForGrid, bare_epoch, bare_epochs}
use Rattle.rtk_chart.specs.declared.choice.Choice.{Choice}
use Rattle.rtk_chart.specs.declared.drawn.DrawnNumbers.{DrawnNumbers}
use Rattle.rtk_chart.specs.declared.grid.Grid.{Grid}
use Rattle.rtk_chart.specs.declared.groups.Names.{Names}
use Rattle.rtk_chart.specs.declared.scale.Scale.{Scale}
use Rattle.rtk_chart.specs.declared.time_bin.TimeBin.{TimeBin}
use Rattle.rtk_chart.proofs.ListLemmas.{map-same, range-more}
use Rattle.rtk_chart.proofs.ChartLemmas.{scale-is}

-- ---- a list that grows

pub grow-more : {X : Type 0} (f : ℕ → X) (n : ℕ) (xs ys : List X) → xs ≡ map f (range_with_len 0 n) → ys ≡ xs ++ f n ∷ [] → ys ≡ map f (range_with_len 0 (n + 1))
grow-more {X} f n xs ys so_far more =
    let here : 0 + n ≡ n = omega arith in
    more ∙ ap (λ (zs : List X). zs ++ f n ∷ []) so_far
    ∙ sym (ap (λ t. map f t) (range-more 0 n) ∙ map_push f (range_with_len 0 n) (0 + n) ∙ ap (λ k. map f (range_with_len 0 n) ++ f k ∷ []) here)

-- ---- the satellites of a grid

-- what is drawn of the bins, the outages and the numbers of a grid
abbrev drawn_by : ℕ → List AnyCode → Names → DrawnView → List TimeBin → List Bool → ℕ → ℕ → ℕ → DrawnView
drawn_by width listed names d bins outages slips returns rises = record {
  rows = d.rows ++ satellite_rows names bins outages;
  never = d.never ++ all_never_lines title_of names bins (never_in_line (width - 1)) 0 listed;
  numbers = both_numbers d.numbers (record { satellites = satellites_in bins; slips = slips; returns = returns; rises = rises });
}

pub grid-is : (s : Scale) (width : ℕ) (listed : List AnyCode) (names : Names) (grid : Grid) (es : List EpochTableView) (d : DrawnView) → StandsForGrid grid s [] es
    → with_grid width listed names grid d ≡ with_satellites s width listed names es d
grid-is s width listed names grid es d stands =
    ap (λ (x : List TimeBin). drawn_by width listed names d x grid.outages.items grid.slips grid.returns grid.rises) stands.bins
    ∙ ap (λ (x : List Bool). drawn_by width listed names d (bins_of s es) x grid.slips grid.returns grid.rises) stands.outages
    ∙ ap (λ (n : ℕ). drawn_by width listed names d (bins_of s es) (outages_of s es) n grid.returns grid.rises) stands.slips
    ∙ ap (λ (n : ℕ). drawn_by width listed names d (bins_of s es) (outages_of s es) (slips_at s es) n grid.rises) stands.returns
    ∙ ap (λ (n : ℕ). drawn_by width listed names d (bins_of s es) (outages_of s es) (slips_at s es) (returns_at s es) n) stands.rises

-- what is drawn, by its parts
abbrev pub drawn_view : List ℕ → List ℕ → DrawnNumbers → DrawnView
drawn_view rows never numbers = record { rows = rows; never = never; numbers = numbers }

pub view-is : (rows r never n : List ℕ) (numbers m : DrawnNumbers) → rows ≡ r → never ≡ n → numbers ≡ m → drawn_view rows never numbers ≡ drawn_view r n m
view-is rows r never n numbers m one two three =
    ap (λ (x : List ℕ). drawn_view x never numbers) one ∙ ap (λ (x : List ℕ). drawn_view r x numbers) two ∙ ap (λ (x : DrawnNumbers). drawn_view r n x) three

-- ---- a system

pub not-listed : (s : Scale) (width : ℕ) (choice : Choice) (es : List EpochTableView) (system : System) (cs codes : List AnyCode) (d : DrawnView) → codes ≡ cs → length codes ≡ 0
    → d ≡ with_listed s width choice es system cs d
not-listed s width choice es system [] codes d is none = refl
not-listed s width choice es system (c ∷ cs) codes d is none = let long = ap length is in absurd (omega (arith, long, none))

pub some-listed : (s : Scale) (width : ℕ) (choice : Choice) (es : List EpochTableView) (system : System) (cs codes : List AnyCode) (more d : DrawnView) → codes ≡ cs → (length codes ≡ 0 → ⊥)
    → more ≡ drawn_of_system s width choice es system codes → then_system system more d ≡ with_listed s width choice es system cs d
some-listed s width choice es system [] codes more d is some drawn = absurd (some (ap length is))
some-listed s width choice es system (c ∷ cs) codes more d is some drawn =
    ap (λ (x : DrawnView). then_system system x d) (drawn ∙ ap (λ (xs : List AnyCode). drawn_of_system s width choice es system xs) is)

-- ---- the moments of a file

pub bare-is : (x e : EpochTableView) (t : ℕ) → x ≡ record { time = t; rows = [] } → t ≡ e.time → x ≡ bare_epoch e
bare-is x e t is at = subst (λ (n : ℕ). x ≡ record { time = n; rows = [] }) at is

newest-bare : (es : List EpochTableView) → newest_moment (bare_epochs es) ≡ newest_moment es
newest-bare [] = refl
newest-bare (e ∷ es) = refl

missing-bare : (s : Scale) (es : List EpochTableView) (c : ℕ) → has_missing s (bare_epochs es) c ≡ has_missing s es c
missing-bare s [] c = refl
missing-bare s (e ∷ es) c =
    ap (λ (o : Option ℕ). has_missing_before s o e.time c || has_missing s (bare_epochs es) c) (newest-bare es)
    ∙ ap (λ (b : Bool). has_missing_before s (newest_moment es) e.time c || b) (missing-bare s es c)

record-bare : (s : Scale) (es : List EpochTableView) (c : ℕ) → has_record s (bare_epochs es) c ≡ has_record s es c
record-bare s [] c = refl
record-bare s (e ∷ es) c = ap (λ (b : Bool). (bin_at s e.time == c) || b) (record-bare s es c)

pub count-bare : (unit : ℕ) (es : List EpochTableView) → missing_in unit (bare_epochs es) ≡ missing_in unit es
count-bare unit [] = refl
count-bare unit (e ∷ es) =
    ap (λ (n : ℕ). n + missing_before unit (newest_moment (bare_epochs es)) e.time) (count-bare unit es)
    ∙ ap (λ (o : Option ℕ). missing_in unit es + missing_before unit o e.time) (newest-bare es)

pub gaps-bare : (s : Scale) (es : List EpochTableView) → gaps_of s (bare_epochs es) ≡ gaps_of s es
unfolding gaps_of
gaps-bare s es = map-same (has_missing s (bare_epochs es)) (has_missing s es) 0 s.bins (λ k lt. missing-bare s es k)

recorded-bare : (s : Scale) (es : List EpochTableView) → recorded_of s (bare_epochs es) ≡ recorded_of s es
unfolding recorded_of
recorded-bare s es = map-same (has_record s (bare_epochs es)) (has_record s es) 0 s.bins (λ k lt. record-bare s es k)

-- ---- the picture

-- a file without records
pub no-systems : (marker m : List ℕ) (listed : List AnyCode) (first width : ℕ) (interval : Option ℕ) (choice : Choice) (es : List EpochTableView) → m ≡ marker → newest_moment es ≡ None
    → text_of_none m ≡ systems_of_epochs marker listed first interval width choice es
no-systems marker m listed first width interval choice [] name none = ap text_of_none name
no-systems marker m listed first width interval choice (e ∷ es) name none = cc

at-scale : (marker : List ℕ) (listed : List AnyCode) (width records : ℕ) (choice : Choice) (s : Scale) (es : List EpochTableView) (d : DrawnView) (grid : Grid)
    → records ≡ capped (length es) → d ≡ drawn_systems s width choice es listed → StandsForGrid grid s [] (bare_epochs es)
    → systems_picture marker s width records d grid.missing grid.recorded.items grid.gaps.items ≡ systems_at marker listed width choice s es
at-scale marker listed width records choice s es d grid many drawn stands =
    ap (λ (n : ℕ). systems_picture marker s width n d grid.missing grid.recorded.items grid.gaps.items) many
    ∙ ap (λ (x : DrawnView). systems_picture marker s width (capped (length es)) x grid.missing grid.recorded.items grid.gaps.items) drawn
    ∙ ap (λ (n : ℕ). systems_picture marker s width (capped (length es)) (drawn_systems s width choice es listed) n grid.recorded.items grid.gaps.items)
    (stands.missing.count ∙ ap (λ (n : ℕ). capped n) (count-bare s.unit es))
    ∙ ap (λ (x : List Bool). systems_picture marker s width (capped (length es)) (drawn_systems s width choice es listed) (capped (missing_in s.unit es)) x grid.gaps.items)
    (stands.recorded ∙ recorded-bare s es)
    ∙ ap (λ (x : List Bool). systems_picture marker s width (capped (length es)) (drawn_systems s width choice es listed) (capped (missing_in s.unit es)) (recorded_of s es) x)
    (stands.missing.gaps ∙ gaps-bare s es)

-- a file with records
pub systems-are : (marker m : List ℕ) (listed ls : List AnyCode) (first f last width records : ℕ) (interval : Option ℕ) (choice : Choice) (s : Scale) (es : List EpochTableView) (d : DrawnView) (grid : Grid)
    → m ≡ marker → ls ≡ listed → f ≡ first → Some last ≡ newest_moment es → s ≡ scale_of f last interval (width - 5)
    → records ≡ capped (length es) → d ≡ drawn_systems s width choice es ls → StandsForGrid grid s [] (bare_epochs es)
    → systems_picture m s width records d grid.missing grid.recorded.items grid.gaps.items ≡ systems_of_epochs marker listed first interval width choice es
systems-are marker m listed ls first f last width records interval choice s [] d grid name named from to is many drawn stands = cc
systems-are marker m listed ls first f last width records interval choice s (e ∷ es) d grid name named from to is many drawn stands =
    at-scale m ls width records choice s (e ∷ es) d grid many drawn stands
    ∙ ap (λ (x : List ℕ). systems_at x ls width choice s (e ∷ es)) name
    ∙ ap (λ (x : List AnyCode). systems_at marker x width choice s (e ∷ es)) named
    ∙ ap (λ (x : Scale). systems_at marker listed width choice x (e ∷ es)) (scale-is first f last (width - 5) interval s e es from to is)
