-- The picture of a table, from what was read of it.
use Rattle.std.proofs.Common.{◌≡◌, ◌-◌, ℕ, List, [], ◌∷◌, Bool, Option, Some, None, length, map, refl, ap, subst, ◌∙◌}
use Rattle.rtk_rinex.specs.Record.{EpochTableView}
use Rattle.rtk_tracking.specs.Epochs.{capped, newest_moment}
use Rattle.rtk_tracking.specs.Interval.{missing_in}
use Rattle.rtk_chart.specs.Scale.{scale_of}
use Rattle.rtk_chart.specs.Grid.{bins_of, outages_of, gaps_of, recorded_of}
use Rattle.rtk_chart.specs.TextPicture.{text_picture, text_of_none}
use Rattle.rtk_chart.specs.Chart.{slips_at, returns_at, rises_at, text_at, text_of_epochs, svg_at, svg_of_epochs}
use Rattle.rtk_chart.specs.SvgPicture.{svg_picture, svg_of_none}
use Rattle.rtk_chart.specs.Means.{bands_of, columns_of}
use Rattle.rtk_chart.specs.Steps.Standing.{StandsForGrid}
use Rattle.rtk_obs.specs.Code.{name_of}
use Rattle.rtk_obs.specs.declared.code.Band.{Band}
use Rattle.rtk_obs.specs.declared.code.Code.{Code}
use Rattle.rtk_chart.specs.declared.scale.Scale.{Scale}
use Rattle.rtk_chart.specs.declared.grid.Grid.{Grid}
use Rattle.rtk_chart.specs.declared.strengths.Strengths.{Strengths}
use Rattle.rtk_chart.specs.declared.time_bin.TimeBin.{TimeBin}

-- ---- a file without records

pub none-is : (marker : List ℕ) (listed : List Code) (first width : ℕ) (interval : Option ℕ) (es : List EpochTableView) → newest_moment es ≡ None
    → text_of_none marker ≡ text_of_epochs marker listed first interval width es
none-is marker listed first width interval [] none = refl
none-is marker listed first width interval (e ∷ es) none = cc

-- ---- a file with records

same-moment : (last time : ℕ) → Some last ≡ Some time → last ≡ time
same-moment last time same = cc

-- the scale of the file
pub scale-is : (first f last allowed : ℕ) (interval : Option ℕ) (s : Scale) (e : EpochTableView) (es : List EpochTableView)
    → f ≡ first → Some last ≡ newest_moment (e ∷ es) → s ≡ scale_of f last interval allowed → s ≡ scale_of first e.time interval allowed
scale-is first f last allowed interval s e es from to is =
    is ∙ ap (λ (t : ℕ). scale_of t last interval allowed) from ∙ ap (λ (t : ℕ). scale_of first t interval allowed) (same-moment last e.time to)

-- a picture of the numbers of a grid, of its bins and of its gaps
same-parts : (P : ℕ → ℕ → ℕ → ℕ → ℕ → List TimeBin → List Bool → List Bool → List Bool → List Strengths → List ℕ) (records : ℕ) (g : Grid) (s : Scale) (listed : List (Option Band)) (es : List EpochTableView)
    → records ≡ capped (length es) → StandsForGrid g s listed es
    → P records g.slips g.returns g.rises g.missing g.bins.items g.outages.items g.recorded.items g.gaps.items g.strengths.items
    ≡ P (capped (length es)) (slips_at s es) (returns_at s es) (rises_at s es) (capped (missing_in s.unit es)) (bins_of s es) (outages_of s es) (recorded_of s es) (gaps_of s es) (columns_of s listed es)
same-parts P records g s listed es many stands =
    let all : ℕ = capped (length es) in
    ap (λ (x : ℕ). P x g.slips g.returns g.rises g.missing g.bins.items g.outages.items g.recorded.items g.gaps.items g.strengths.items) many
    ∙ ap (λ (x : ℕ). P all x g.returns g.rises g.missing g.bins.items g.outages.items g.recorded.items g.gaps.items g.strengths.items) stands.slips
    ∙ ap (λ (x : ℕ). P all (slips_at s es) x g.rises g.missing g.bins.items g.outages.items g.recorded.items g.gaps.items g.strengths.items) stands.returns
    ∙ ap (λ (x : ℕ). P all (slips_at s es) (returns_at s es) x g.missing g.bins.items g.outages.items g.recorded.items g.gaps.items g.strengths.items) stands.rises
    ∙ ap (λ (x : ℕ). P all (slips_at s es) (returns_at s es) (rises_at s es) x g.bins.items g.outages.items g.recorded.items g.gaps.items g.strengths.items) stands.missing.count
    ∙ ap (λ (x : List TimeBin). P all (slips_at s es) (returns_at s es) (rises_at s es) (capped (missing_in s.unit es)) x g.outages.items g.recorded.items g.gaps.items g.strengths.items) stands.bins
    ∙ ap (λ (x : List Bool). P all (slips_at s es) (returns_at s es) (rises_at s es) (capped (missing_in s.unit es)) (bins_of s es) x g.recorded.items g.gaps.items g.strengths.items) stands.outages
    ∙ ap (λ (x : List Bool). P all (slips_at s es) (returns_at s es) (rises_at s es) (capped (missing_in s.unit es)) (bins_of s es) (outages_of s es) x g.gaps.items g.strengths.items) stands.recorded
    ∙ ap (λ (x : List Bool). P all (slips_at s es) (returns_at s es) (rises_at s es) (capped (missing_in s.unit es)) (bins_of s es) (outages_of s es) (recorded_of s es) x g.strengths.items) stands.missing.gaps
    ∙ ap (λ (x : List Strengths). P all (slips_at s es) (returns_at s es) (rises_at s es) (capped (missing_in s.unit es)) (bins_of s es) (outages_of s es) (recorded_of s es) (gaps_of s es) x) stands.strengths

pub text-is : (marker m : List ℕ) (listed ls : List Code) (bands : List (Option Band)) (first f last width records : ℕ) (interval : Option ℕ) (s : Scale) (g : Grid) (es : List EpochTableView)
    → m ≡ marker → ls ≡ listed → f ≡ first → Some last ≡ newest_moment es → s ≡ scale_of f last interval (width - 5)
    → records ≡ capped (length es) → StandsForGrid g s bands es
    → text_picture m ls s width records g.slips g.returns g.rises g.missing g.bins.items g.outages.items g.recorded.items g.gaps.items ≡ text_of_epochs marker listed first interval width es
text-is marker m listed ls bands first f last width records interval s g [] name named from to is many stands = cc
text-is marker m listed ls bands first f last width records interval s g (e ∷ es) name named from to is many stands =
    ap (λ (x : List ℕ). text_picture x ls s width records g.slips g.returns g.rises g.missing g.bins.items g.outages.items g.recorded.items g.gaps.items) name
    ∙ ap (λ (x : List Code). text_picture marker x s width records g.slips g.returns g.rises g.missing g.bins.items g.outages.items g.recorded.items g.gaps.items) named
    ∙ same-parts (λ records slips returns rises missing bins outages recorded gaps strengths. text_picture marker listed s width records slips returns rises missing bins outages recorded gaps) records g s bands (e ∷ es) many stands
    ∙ ap (λ (x : Scale). text_at marker listed width x (e ∷ es)) (scale-is first f last (width - 5) interval s e es from to is)

-- ---- in SVG

pub no-svg : (marker : List ℕ) (listed : List Code) (first : ℕ) (interval : Option ℕ) (es : List EpochTableView) → newest_moment es ≡ None
    → svg_of_none marker ≡ svg_of_epochs marker listed first interval es
no-svg marker listed first interval [] none = refl
no-svg marker listed first interval (e ∷ es) none = cc

pub svg-is : (marker m : List ℕ) (listed ls : List Code) (bands : List (Option Band)) (first f last records : ℕ) (interval : Option ℕ) (s : Scale) (g : Grid) (es : List EpochTableView)
    → m ≡ marker → ls ≡ listed → bands ≡ bands_of ls → f ≡ first → Some last ≡ newest_moment es → s ≡ scale_of f last interval 1440
    → records ≡ capped (length es) → StandsForGrid g s bands es
    → svg_picture m (map name_of ls) s records g.slips g.returns g.rises g.missing g.bins.items g.outages.items g.gaps.items g.strengths.items ≡ svg_of_epochs marker listed first interval es
svg-is marker m listed ls bands first f last records interval s g [] name named banded from to is many stands = cc
svg-is marker m listed ls bands first f last records interval s g (e ∷ es) name named banded from to is many stands =
    ap (λ (x : List ℕ). svg_picture x (map name_of ls) s records g.slips g.returns g.rises g.missing g.bins.items g.outages.items g.gaps.items g.strengths.items) name
    ∙ ap (λ (x : List Code). svg_picture marker (map name_of x) s records g.slips g.returns g.rises g.missing g.bins.items g.outages.items g.gaps.items g.strengths.items) named
    ∙ same-parts (λ records slips returns rises missing bins outages recorded gaps strengths. svg_picture marker (map name_of listed) s records slips returns rises missing bins outages gaps strengths) records g s (bands_of listed) (e ∷ es) many
    (subst (λ (bs : List (Option Band)). StandsForGrid g s bs (e ∷ es)) (banded ∙ ap (λ (cs : List Code). bands_of cs) named) stands)
    ∙ ap (λ (x : Scale). svg_at marker listed x (e ∷ es)) (scale-is first f last 1440 interval s e es from to is)
