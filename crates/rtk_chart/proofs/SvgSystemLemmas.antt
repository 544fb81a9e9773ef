-- The picture in SVG of a file of any systems, from what was read of it.
use Rattle.std.proofs.Common.{◌≡◌, ◌≢◌, ◌+◌, ◌-◌, ◌==◌, ◌++◌, not, cond, ℕ, Bool, true, false, List, [], ◌∷◌, length, map, replicate, Option, Some, None, refl, sym, ap, ◌∙◌, arith}
use Rattle.std.proofs.lemmas.Bool.{eq-eqb, ne_eqb, cond-true, cond-false}
use Rattle.rtk_message.specs.declared.system.System.{System}
use Rattle.rtk_obs.specs.declared.any_code.AnyCode.{AnyCode}
use Rattle.rtk_obs.specs.AnyCode.{name_of}
use Rattle.rtk_obs.specs.declared.code.Band.{Band}
use Rattle.rtk_rinex.specs.Record.{EpochTableView}
use Rattle.rtk_tracking.specs.Epochs.{capped, newest_moment}
use Rattle.rtk_tracking.specs.Interval.{missing_in}
use Rattle.rtk_chart.specs.Chart.{slips_at, returns_at, rises_at}
use Rattle.rtk_chart.specs.Scale.{scale_of}
use Rattle.rtk_chart.specs.Grid.{bins_of, outages_of}
use Rattle.rtk_chart.specs.Means.{all_without, columns_of}
use Rattle.rtk_chart.specs.MixedChart.{no_drawn_numbers}
use Rattle.rtk_chart.specs.SvgPicture.{band_top, bands_text, svg_of_none}
use Rattle.rtk_chart.specs.SvgSystems.{SvgView, nothing_in_svg, heading_if_first, heading_height, moved_bands, with_some_bins, lower_of, upper_of, with_svg_bins, with_svg_epochs, with_svg_listed, with_second_group, with_svg_group, is_group_drawn, svg_of_systems, systems_svg, systems_svg_at, systems_svg_of_epochs}
use Rattle.rtk_chart.specs.Groups.{first_group, second_group}
use Rattle.rtk_chart.specs.TextPicture.{satellites_in}
use Rattle.rtk_chart.specs.Steps.Standing.{StandsForGrid, bare_epochs}
use Rattle.rtk_chart.specs.Steps.Pictures.{numbers_of_grid}
use Rattle.rtk_chart.specs.Steps.SvgParts.{with_svg_sums, with_svg_grid}
use Rattle.rtk_chart.specs.declared.choice.Choice.{Choice}
use Rattle.rtk_chart.specs.declared.drawn.DrawnNumbers.{DrawnNumbers}
use Rattle.rtk_chart.specs.declared.grid.Grid.{Grid}
use Rattle.rtk_chart.specs.declared.groups.Group.{Group}
use Rattle.rtk_chart.specs.declared.groups.Names.{Names}
use Rattle.rtk_chart.specs.declared.scale.Scale.{Scale}
use Rattle.rtk_chart.specs.declared.spacing.Spacing.TheVariants.{Close}
use Rattle.rtk_chart.specs.declared.strengths.Strengths.{Strengths}
use Rattle.rtk_chart.specs.declared.time_bin.TimeBin.{TimeBin}
use Rattle.rtk_chart.proofs.MixedLemmas.{count-bare, gaps-bare}
use Rattle.rtk_chart.proofs.ChartLemmas.{scale-is}

-- ---- what is added

-- what is drawn, by its parts
abbrev pub svg_view : List ℕ → ℕ → List ℕ → ℕ → DrawnNumbers → List ℕ → List Strengths → List Strengths → SvgView
svg_view bands top never lines numbers tracked lower upper =
    record { bands = bands; top = top; never = never; lines = lines; numbers = numbers; tracked = tracked; lower = lower; upper = upper }

pub svg-view-is : (bands b : List ℕ) (top p : ℕ) (never n : List ℕ) (lines k : ℕ) (numbers m : DrawnNumbers) (tracked t : List ℕ) (lower l upper u : List Strengths)
    → bands ≡ b → top ≡ p → never ≡ n → lines ≡ k → numbers ≡ m → tracked ≡ t → lower ≡ l → upper ≡ u
    → svg_view bands top never lines numbers tracked lower upper ≡ svg_view b p n k m t l u
svg-view-is bands b top p never n lines k numbers m tracked t lower l upper u one two three four five six seven eight =
    ap (λ (x : List ℕ). svg_view x top never lines numbers tracked lower upper) one
    ∙ ap (λ (x : ℕ). svg_view b x never lines numbers tracked lower upper) two
    ∙ ap (λ (x : List ℕ). svg_view b p x lines numbers tracked lower upper) three
    ∙ ap (λ (x : ℕ). svg_view b p n x numbers tracked lower upper) four
    ∙ ap (λ (x : DrawnNumbers). svg_view b p n k x tracked lower upper) five
    ∙ ap (λ (x : List ℕ). svg_view b p n k m x lower upper) six
    ∙ ap (λ (x : List Strengths). svg_view b p n k m t x upper) seven
    ∙ ap (λ (x : List Strengths). svg_view b p n k m t l x) eight

-- nothing is drawn
pub fresh-svg : (n : ℕ) (bands never : List ℕ) (numbers : DrawnNumbers) (tracked : List ℕ) (lower upper : List Strengths) (a b : Strengths)
    → bands ≡ [] → never ≡ [] → numbers ≡ no_drawn_numbers → tracked ≡ replicate n 0 → lower ≡ replicate 144 a → a ≡ all_without → upper ≡ replicate 144 b → b ≡ all_without
    → svg_view bands 106 never 0 numbers tracked lower upper ≡ nothing_in_svg n
fresh-svg n bands never numbers tracked lower upper a b one two three four five six seven eight =
    svg-view-is bands [] 106 106 never [] 0 0 numbers no_drawn_numbers tracked (replicate n 0) lower (replicate 144 all_without) upper (replicate 144 all_without)
    one refl two refl three four (five ∙ ap (λ (x : Strengths). replicate 144 x) six) (seven ∙ ap (λ (x : Strengths). replicate 144 x) eight)

-- satellites without a row
pub svg-none : (system : System) (first : Bool) (listed : List (List ℕ)) (names : Names) (grid : Grid) (upper : List Strengths) (v : SvgView) (n : ℕ)
    → n ≡ satellites_in grid.bins.items → n ≡ 0 → v ≡ with_svg_grid system first listed names grid upper v
svg-none system first listed names grid upper v n is none =
    sym (cond-true (satellites_in grid.bins.items == 0) v
    (with_some_bins system first listed names grid.bins.items grid.outages.items (numbers_of_grid grid) grid.strengths.items upper v)
    (eq-eqb (satellites_in grid.bins.items) 0 (sym is ∙ none)))

pub not-drawn : (bins : List TimeBin) (n : ℕ) → n ≡ satellites_in bins → n ≡ 0 → false ≡ not (satellites_in bins == 0)
not-drawn bins n is none = sym (ap (λ (b : Bool). not b) (eq-eqb (satellites_in bins) 0 (sym is ∙ none)))

pub some-drawn : (bins : List TimeBin) (n : ℕ) → n ≡ satellites_in bins → n ≢ 0 → true ≡ not (satellites_in bins == 0)
some-drawn bins n is some = sym (ap (λ (b : Bool). not b) (ne_eqb (satellites_in bins) 0 (λ zero. some (is ∙ zero))))

-- the view after bands that end there
abbrev pub with_bands : List ℕ → ℕ → SvgView → SvgView
with_bands bands top v = svg_view bands top v.never v.lines v.numbers v.tracked v.lower v.upper

-- satellites with a row: their bands, and then the rest
pub svg-some : (system : System) (first : Bool) (listed : List (List ℕ)) (names : Names) (grid : Grid) (upper : List Strengths) (v w : SvgView) (bands mid : List ℕ) (n h e d : ℕ)
    → n ≡ satellites_in grid.bins.items → n ≢ 0 → h ≡ heading_height first → mid ≡ v.bands ++ heading_if_first first system v.top
    → bands ≡ mid ++ moved_bands (v.top + h) (bands_text names Close listed grid.bins.items grid.outages.items)
    → e ≡ band_top Close grid.bins.items (length listed) 32 → d ≡ e - 140
    → w ≡ with_svg_sums listed names grid upper (with_bands bands (v.top + h + d) v)
    → w ≡ with_svg_grid system first listed names grid upper v
svg-some system first listed names grid upper v w bands mid n h e d is some high one two three four all =
    let drawn : List ℕ = bands_text names Close listed grid.bins.items grid.outages.items in
    let front : List ℕ = v.bands ++ heading_if_first first system v.top in
    let own : List ℕ = front ++ moved_bands (v.top + heading_height first) drawn in
    let end : ℕ = v.top + heading_height first + (band_top Close grid.bins.items (length listed) 32 - 140) in
    let are : bands ≡ own =
    two ∙ ap (λ (x : List ℕ). x ++ moved_bands (v.top + h) drawn) one ∙ ap (λ (k : ℕ). front ++ moved_bands (v.top + k) drawn) high in
    let low : v.top + h + d ≡ end =
    ap (λ (k : ℕ). v.top + k + d) high ∙ ap (λ (k : ℕ). v.top + heading_height first + k) (four ∙ ap (λ (k : ℕ). k - 140) three) in
    all ∙ ap (λ (b : List ℕ). with_svg_sums listed names grid upper (with_bands b (v.top + h + d) v)) are
    ∙ ap (λ (t : ℕ). with_svg_sums listed names grid upper (with_bands own t v)) low
    ∙ sym (cond-false (satellites_in grid.bins.items == 0) v
    (with_some_bins system first listed names grid.bins.items grid.outages.items (numbers_of_grid grid) grid.strengths.items upper v)
    (ne_eqb (satellites_in grid.bins.items) 0 (λ zero. some (is ∙ zero))))

-- ---- a grid

-- what is drawn of the parts of a grid
abbrev svg_by : System → Bool → List (List ℕ) → Names → SvgView → List TimeBin → List Bool → ℕ → ℕ → ℕ → List Strengths → List Strengths → SvgView
svg_by system first listed names v bins outages slips returns rises lower upper =
    with_svg_bins system first listed names bins outages (record { satellites = satellites_in bins; slips = slips; returns = returns; rises = rises }) lower upper v

pub svg-grid-is : (s : Scale) (system : System) (first : Bool) (listed : List AnyCode) (ns : List (List ℕ)) (us : List Strengths) (names : Names) (grid : Grid) (es : List EpochTableView) (v : SvgView)
    → ns ≡ map name_of listed → StandsForGrid grid s (map lower_of listed) es → us ≡ columns_of s (map upper_of listed) es
    → with_svg_grid system first ns names grid us v ≡ with_svg_epochs s system first listed names es v
svg-grid-is s system first listed ns us names grid es v named stands above =
    let all : List (List ℕ) = map name_of listed in
    let low : List Strengths = columns_of s (map lower_of listed) es in
    ap (λ (x : List (List ℕ)). with_svg_grid system first x names grid us v) named
    ∙ ap (λ (x : List TimeBin). svg_by system first all names v x grid.outages.items grid.slips grid.returns grid.rises grid.strengths.items us) stands.bins
    ∙ ap (λ (x : List Bool). svg_by system first all names v (bins_of s es) x grid.slips grid.returns grid.rises grid.strengths.items us) stands.outages
    ∙ ap (λ (n : ℕ). svg_by system first all names v (bins_of s es) (outages_of s es) n grid.returns grid.rises grid.strengths.items us) stands.slips
    ∙ ap (λ (n : ℕ). svg_by system first all names v (bins_of s es) (outages_of s es) (slips_at s es) n grid.rises grid.strengths.items us) stands.returns
    ∙ ap (λ (n : ℕ). svg_by system first all names v (bins_of s es) (outages_of s es) (slips_at s es) (returns_at s es) n grid.strengths.items us) stands.rises
    ∙ ap (λ (x : List Strengths). svg_by system first all names v (bins_of s es) (outages_of s es) (slips_at s es) (returns_at s es) (rises_at s es) x us) stands.strengths
    ∙ ap (λ (x : List Strengths). svg_by system first all names v (bins_of s es) (outages_of s es) (slips_at s es) (returns_at s es) (rises_at s es) low x) above

pub drawn-is : (s : Scale) (bs : List (Option Band)) (grid : Grid) (es : List EpochTableView) → StandsForGrid grid s bs es
    → not (satellites_in grid.bins.items == 0) ≡ not (satellites_in (bins_of s es) == 0)
drawn-is s bs grid es stands = ap (λ (x : List TimeBin). not (satellites_in x == 0)) stands.bins

-- ---- a system

-- a second group without satellites
pub second-none : (s : Scale) (choice : Choice) (es : List EpochTableView) (system : System) (listed : List AnyCode) (g : Group) (v : SvgView) → g ≡ second_group system → g.count ≡ 0
    → v ≡ with_second_group s choice es system listed (second_group system) v
second-none s choice es system listed g v is none =
    let zero : (second_group system).count ≡ 0 = sym (ap (λ (h : Group). h.count) is) ∙ none in
    sym (ap (λ (b : Bool). cond b v (with_svg_group s choice es system (not (is_group_drawn s choice es (first_group system))) listed (second_group system) v)) (eq-eqb (second_group system).count 0 zero))

-- one with satellites
pub second-some : (s : Scale) (choice : Choice) (es : List EpochTableView) (system : System) (listed : List AnyCode) (g : Group) (first : Bool) (u v : SvgView)
    → g ≡ second_group system → g.count ≢ 0 → first ≡ not (is_group_drawn s choice es (first_group system)) → u ≡ v
    → with_svg_group s choice es system first listed g u ≡ with_second_group s choice es system listed (second_group system) v
second-some s choice es system listed g first u v is some titled same =
    let more : (second_group system).count ≢ 0 = λ zero. some (ap (λ (h : Group). h.count) is ∙ zero) in
    ap (λ (h : Group). with_svg_group s choice es system first listed h u) is
    ∙ ap (λ (b : Bool). with_svg_group s choice es system b listed (second_group system) u) titled
    ∙ ap (λ (x : SvgView). with_svg_group s choice es system (not (is_group_drawn s choice es (first_group system))) listed (second_group system) x) same
    ∙ sym (ap (λ (b : Bool). cond b v (with_svg_group s choice es system (not (is_group_drawn s choice es (first_group system))) listed (second_group system) v)) (ne_eqb (second_group system).count 0 more))

pub svg-not-listed : (s : Scale) (choice : Choice) (es : List EpochTableView) (system : System) (cs codes : List AnyCode) (v : SvgView) → codes ≡ cs → length codes ≡ 0
    → v ≡ with_svg_listed s choice es system cs v
svg-not-listed s choice es system [] codes v is none = refl
svg-not-listed s choice es system (c ∷ cs) codes v is none = let long = ap length is in absurd (omega (arith, long, none))

pub svg-listed : (s : Scale) (choice : Choice) (es : List EpochTableView) (system : System) (cs codes : List AnyCode) (v w : SvgView) → codes ≡ cs → (length codes ≡ 0 → ⊥)
    → w ≡ with_second_group s choice es system codes (second_group system) (with_svg_group s choice es system true codes (first_group system) v)
    → w ≡ with_svg_listed s choice es system cs v
svg-listed s choice es system [] codes v w is some drawn = absurd (some (ap length is))
svg-listed s choice es system (c ∷ cs) codes v w is some drawn =
    drawn ∙ ap (λ (xs : List AnyCode). with_second_group s choice es system xs (second_group system) (with_svg_group s choice es system true xs (first_group system) v)) is

-- ---- the picture

pub no-systems-svg : (marker m : List ℕ) (listed : List AnyCode) (first : ℕ) (interval : Option ℕ) (choice : Choice) (es : List EpochTableView) → m ≡ marker → newest_moment es ≡ None
    → svg_of_none m ≡ systems_svg_of_epochs marker listed first interval choice es
no-systems-svg marker m listed first interval choice [] name none = ap svg_of_none name
no-systems-svg marker m listed first interval choice (e ∷ es) name none = cc

svg-at-scale : (marker : List ℕ) (listed : List AnyCode) (records : ℕ) (choice : Choice) (s : Scale) (es : List EpochTableView) (v : SvgView) (grid : Grid)
    → records ≡ capped (length es) → v ≡ svg_of_systems s choice es listed → StandsForGrid grid s [] (bare_epochs es)
    → systems_svg marker s records v grid.missing grid.gaps.items ≡ systems_svg_at marker listed choice s es
svg-at-scale marker listed records choice s es v grid many drawn stands =
    ap (λ (n : ℕ). systems_svg marker s n v grid.missing grid.gaps.items) many
    ∙ ap (λ (x : SvgView). systems_svg marker s (capped (length es)) x grid.missing grid.gaps.items) drawn
    ∙ ap (λ (n : ℕ). systems_svg marker s (capped (length es)) (svg_of_systems s choice es listed) n grid.gaps.items)
    (stands.missing.count ∙ ap (λ (n : ℕ). capped n) (count-bare s.unit es))
    ∙ ap (λ (x : List Bool). systems_svg marker s (capped (length es)) (svg_of_systems s choice es listed) (capped (missing_in s.unit es)) x)
    (stands.missing.gaps ∙ gaps-bare s es)

pub systems-svg-are : (marker m : List ℕ) (listed ls : List AnyCode) (first f last records : ℕ) (interval : Option ℕ) (choice : Choice) (s : Scale) (es : List EpochTableView) (v : SvgView) (grid : Grid)
    → m ≡ marker → ls ≡ listed → f ≡ first → Some last ≡ newest_moment es → s ≡ scale_of f last interval 1440
    → records ≡ capped (length es) → v ≡ svg_of_systems s choice es ls → StandsForGrid grid s [] (bare_epochs es)
    → systems_svg m s records v grid.missing grid.gaps.items ≡ systems_svg_of_epochs marker listed first interval choice es
systems-svg-are marker m listed ls first f last records interval choice s [] v grid name named from to is many drawn stands = cc
systems-svg-are marker m listed ls first f last records interval choice s (e ∷ es) v grid name named from to is many drawn stands =
    svg-at-scale m ls records choice s (e ∷ es) v grid many drawn stands
    ∙ ap (λ (x : List ℕ). systems_svg_at x ls choice s (e ∷ es)) name
    ∙ ap (λ (x : List AnyCode). systems_svg_at marker x choice s (e ∷ es)) named
    ∙ ap (λ (x : Scale). systems_svg_at marker listed choice x (e ∷ es)) (scale-is first f last 1440 interval s e es from to is)
