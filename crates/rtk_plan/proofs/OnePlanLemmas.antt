-- Surveys and words have one plan.
use Rattle.std.proofs.Common.{◌≡◌, ◌+◌, ◌-◌, ◌%◌, ◌&&◌, ◌||◌, ℕ, Bool, true, false, List, map, Option, None, Some, sym, ap, subst, ◌∙◌, arith}
use Rattle.std.specs.Prelude.{nat_lt, IfSome, if◌then◌else◌}
use Rattle.rtk_obs.specs.declared.time.TheConstants.{LAST_MS}
use Rattle.rtk_obs.specs.declared.any_code.AnyCode.{AnyCode}
use Rattle.rtk_rinex.specs.MixedHead.{GlonassView}
use Rattle.rtk_setup.specs.Setup.{SetupView}
use Rattle.rtk_setup.specs.declared.system_kinds.SystemKinds.{SystemKinds}
use Rattle.rtk_survey.specs.declared.placing.Placed.{Placed}
use Rattle.rtk_survey.specs.declared.survey.CaptureSurvey.{CaptureSurvey}
use Rattle.rtk_captures.specs.Kept.{empty_captures}
use Rattle.rtk_plan.specs.Laws.{OnePlan, NearIsWholeSecond}
use Rattle.rtk_systems.specs.FoundSeconds.{seconds_found_if, table_seconds, AreSecondsFound, AreSecondsOfSetup, asks_glonass}
use Rattle.rtk_captures.specs.Linking.{links_found}
use Rattle.rtk_plan.specs.LinkPlaces.{places_among_links, AreLinksOf}
use Rattle.rtk_plan.specs.Plan.{IsChosenStation, kinds_found, codes_chosen, AreSystemsTaken, AreCodesChosen, marker_chosen, converts_1012, near_chosen, near_in_reach, near_with_1012, codes_taken_from, AreLeapSecondsOf, IsNear1012, IsSetupFor}
use Rattle.rtk_captures.specs.Dating.{captures_of, some_out_of_reach, IsBaseOf, IsReachOf, ArePlaced, IsNearOf, IsSpanOf, AreStrays}
use Rattle.rtk_plan.specs.ClockDating.{midway, clock_dating}
use Rattle.rtk_plan.specs.Near1012.{ends_after, middle_up, middle_down, middle_second, dates_ends, can_date, near_of_ends, near_between}
use Rattle.rtk_captures.specs.Reach.{least_told, placed_if_any, reach_after, second_of}
use Rattle.rtk_systems.specs.SlotChannels.{IsGlonassFound, AreSecondsChosen}
use Rattle.rtk_captures.specs.Sources.{dated_span_of}
use Rattle.rtk_captures.specs.Stray.{strays}
use Rattle.rtk_systems.specs.SystemMsms.{kinds_listed}
use Rattle.rtk_captures.specs.declared.reach.Base.{Base}
use Rattle.rtk_captures.specs.declared.reach.Base.TheVariants.{Told}
use Rattle.rtk_captures.specs.declared.span_line.DatedSpan.{DatedSpan}
use Rattle.rtk_captures.specs.declared.station_capture.StationCapture.{StationCapture}
use Rattle.rtk_rinex.specs.declared.system_flags.SystemFlags.{SystemFlags}
use Rattle.rtk_plan.specs.declared.near_1012.Ends.{Ends}
use Rattle.rtk_systems.specs.declared.values.TakenMessages.{TakenMessages}
use Rattle.rtk_plan.specs.declared.wanted.Wanted.{Wanted}
use Rattle.rtk_systems.proofs.PublicLaws.{one-glonass, one-row, one-seconds}

one-some : {A : Type 0} (o : Option A) (a b : A) → o ≡ Some a → o ≡ Some b → a ≡ b
one-some o a b is also = let same : Some a ≡ Some b = sym is ∙ also in cc

one-station : (ss : List CaptureSurvey) (named : Option ℕ) (a b : ℕ) → IsChosenStation ss named a → IsChosenStation ss named b → a ≡ b
one-station ss None a b is also = also.alone a is.observed
one-station ss (Some n) a b is also = is.0 ∙ sym also.0

one-base : (given : Option ℕ) (cs : List StationCapture) (a b : Base) → IsBaseOf given cs a → IsBaseOf given cs b → a ≡ b
one-base None cs a b is also = is.2 ∙ ap Told (one-some (least_told cs) is.0 also.0 is.1 also.1) ∙ sym also.2
one-base (Some near) cs a b is also = is ∙ sym also

one-reach : (cs : List StationCapture) (a b : Base) (r s : Placed) → a ≡ b → IsReachOf a cs r → IsReachOf b cs s → r ≡ s
one-reach cs a b r s same is also = one-some (reach_after None (map (placed_if_any a) cs)) r s is (subst (λ (base : Base). IsReachOf base cs s) (sym same) also)

one-near : (given : Option ℕ) (cs : List StationCapture) (m n : ℕ) → IsNearOf given cs m → IsNearOf given cs n → m ≡ n
one-near given cs m n is also =
    let base = one-base given cs is.0 also.0 is.1 also.1 in
    let reach : is.2.0 ≡ also.2.0 = one-reach cs is.0 also.0 is.2.0 also.2.0 base is.2.1 also.2.1 in
    is.2.2 ∙ ap (λ (r : Placed). second_of r.first) reach ∙ sym also.2.2

one-strays : (given : Option ℕ) (cs : List StationCapture) (xs ys : List ℕ) → AreStrays given cs xs → AreStrays given cs ys → xs ≡ ys
one-strays given cs xs ys is also =
    let base = one-base given cs is.0 also.0 is.1 also.1 in
    let reach : is.2.0 ≡ also.2.0 = one-reach cs is.0 also.0 is.2.0 also.2.0 base is.2.1 also.2.1 in
    is.2.2 ∙ ap (λ (r : Placed). strays cs (map (placed_if_any is.0) cs) r.until) reach
    ∙ ap (λ (b : Base). strays cs (map (placed_if_any b) cs) also.2.0.until) base ∙ sym also.2.2

one-placed : (given : Option ℕ) (cs : List StationCapture) (xs ys : List (Option Placed)) → ArePlaced given cs xs → ArePlaced given cs ys → xs ≡ ys
one-placed given cs xs ys is also =
    is.2 ∙ ap (λ (b : Base). map (placed_if_any b) cs) (one-base given cs is.0 also.0 is.1 also.1) ∙ sym also.2

one-span : (given : Option ℕ) (cs : List StationCapture) (station : ℕ) (a b : DatedSpan) → IsSpanOf given cs station a → IsSpanOf given cs station b → a ≡ b
one-span given cs station a b is also =
    let base = one-base given cs is.0 also.0 is.1 also.1 in
    let reach : is.2.0 ≡ also.2.0 = one-reach cs is.0 also.0 is.2.0 also.2.0 base is.2.1 also.2.1 in
    is.2.2 ∙ ap (λ (r : Placed). dated_span_of cs is.0 station r) reach
    ∙ ap (λ (x : Base). dated_span_of cs x station also.2.0) base ∙ sym also.2.2

one-found : (asked : Bool) (ss : List CaptureSurvey) (station near from until : ℕ) (a b : Option ℕ)
    → AreSecondsFound asked ss station near from until a → AreSecondsFound asked ss station near from until b → a ≡ b
one-found asked ss station near from until a b is also =
    let table : is.0 ≡ also.0 = one-row _ is.0 also.0 is.1 also.1 in
    let first : is.2.0 ≡ also.2.0 = one-row _ is.2.0 also.2.0 is.2.1 also.2.1 in
    let last : is.2.2.0 ≡ also.2.2.0 = one-row _ is.2.2.0 also.2.2.0 is.2.2.1 also.2.2.1 in
    let days = table_seconds near in
    is.2.2.2 ∙ ap (λ (n : ℕ). seconds_found_if asked ss station days n is.2.0 is.2.2.0) table
    ∙ ap (λ (n : ℕ). seconds_found_if asked ss station days also.0 n is.2.2.0) first
    ∙ ap (λ (n : ℕ). seconds_found_if asked ss station days also.0 also.2.0 n) last ∙ sym also.2.2.2

one-of-setup : (given : Option ℕ) (asked : Bool) (ss : List CaptureSurvey) (station near from until : ℕ) (a b : Option ℕ)
    → AreSecondsOfSetup given asked ss station near from until a → AreSecondsOfSetup given asked ss station near from until b → a ≡ b
one-of-setup None asked ss station near from until a b is also = one-found asked ss station near from until a b is also
one-of-setup (Some given) asked ss station near from until a b is also = is ∙ sym also

one-leap : (ss : List CaptureSurvey) (w : Wanted) (station near : ℕ) (a b : Option ℕ) → AreLeapSecondsOf ss w station near a → AreLeapSecondsOf ss w station near b → a ≡ b
one-leap ss w station near a b is also =
    let asked = asks_glonass w.codes w.systems in
    let span : is.0 ≡ also.0 = one-span w.near (captures_of ss station) station is.0 also.0 is.1 also.1 in
    one-of-setup w.leap_seconds asked ss station near is.0.from is.0.until a b is.2
    (subst (λ (s : DatedSpan). AreSecondsOfSetup w.leap_seconds asked ss station near s.from s.until b) (sym span) also.2)

one-systems : (ss : List CaptureSurvey) (station : ℕ) (wanted : SystemFlags) (seconds : Option ℕ) (near : ℕ) (a b : SystemFlags)
    → AreSystemsTaken ss station wanted seconds near a → AreSystemsTaken ss station wanted seconds near b → a ≡ b
one-systems ss station wanted seconds near a b is also = is ∙ sym also

one-list : (w : Wanted) (ss : List CaptureSurvey) (station : ℕ) (seconds : Option ℕ) (near : ℕ) (taken : TakenMessages) (a b : List AnyCode)
    → AreCodesChosen w ss station seconds near taken a → AreCodesChosen w ss station seconds near taken b → a ≡ b
one-list w ss station seconds near taken a b is also =
    is.2 ∙ ap (λ (systems : SystemFlags). codes_chosen w.codes ss station systems taken) (one-systems ss station w.systems seconds near is.0 also.0 is.1 also.1) ∙ sym also.2

one-links : (as_given : Bool) (given : Option ℕ) (ss : List CaptureSurvey) (station : ℕ) (xs ys : List (List ℕ)) → AreLinksOf as_given given ss station xs → AreLinksOf as_given given ss station ys → xs ≡ ys
one-links true given ss station xs ys is also = is ∙ sym also
one-links false given ss station xs ys is also =
    let cs : List StationCapture = captures_of ss station in
    let placed : is.0 ≡ also.0 = one-placed given cs is.0 also.0 is.1 also.1 in
    let span : is.2.0 ≡ also.2.0 = one-span given cs station is.2.0 also.2.0 is.2.1 also.2.1 in
    let first : is.2.2.0 ≡ also.2.2.0 = one-near given cs is.2.2.0 also.2.2.0 is.2.2.1 also.2.2.1 in
    let leap : is.2.2.2.0 ≡ also.2.2.2.0 =
    one-seconds None is.2.2.0 is.2.2.2.0 also.2.2.2.0 is.2.2.2.1 (subst (λ (t : ℕ). AreSecondsChosen None t also.2.2.2.0) (sym first) also.2.2.2.1) in
    is.2.2.2.2
    ∙ ap (λ (ps : List (Option Placed)). links_found cs (places_among_links (clock_dating given station is.2.2.2.0 (midway is.2.0.from is.2.0.until)) ps 0 ss)) placed
    ∙ ap (λ (x : DatedSpan). links_found cs (places_among_links (clock_dating given station is.2.2.2.0 (midway x.from x.until)) also.0 0 ss)) span
    ∙ ap (λ (n : ℕ). links_found cs (places_among_links (clock_dating given station n (midway also.2.0.from also.2.0.until)) also.0 0 ss)) leap ∙ sym also.2.2.2.2

one-1012 : (ss : List CaptureSurvey) (given : Option ℕ) (station : ℕ) (seconds : Option ℕ) (first : ℕ) (a b : Option ℕ)
    → IsNear1012 ss given station seconds first a → IsNear1012 ss given station seconds first b → a ≡ b
one-1012 ss given station seconds first a b is also =
    let cs : List StationCapture = captures_of ss station in
    let placed : is.0 ≡ also.0 = one-placed given cs is.0 also.0 is.1 also.1 in
    let span : is.2.0 ≡ also.2.0 = one-span given cs station is.2.0 also.2.0 is.2.1 also.2.1 in
    let leap : is.2.2.0 ≡ also.2.2.0 = one-seconds seconds first is.2.2.0 also.2.2.0 is.2.2.1 also.2.2.1 in
    is.2.2.2 ∙ ap (λ (ps : List (Option Placed)). near_with_1012 ss (clock_dating given station is.2.2.0 (midway is.2.0.from is.2.0.until)) cs ps is.2.0.from is.2.0.until) placed
    ∙ ap (λ (x : DatedSpan). near_with_1012 ss (clock_dating given station is.2.2.0 (midway x.from x.until)) cs also.0 x.from x.until) span
    ∙ ap (λ (n : ℕ). near_with_1012 ss (clock_dating given station n (midway also.2.0.from also.2.0.until)) cs also.0 also.2.0.from also.2.0.until) leap ∙ sym also.2.2.2

abbrev setup_with : ℕ → ℕ → List ℕ → List AnyCode → Option GlonassView → ℕ → Bool → ℕ → SystemKinds → Option ℕ → Bool → SetupView
setup_with station near marker listed glonass made doppler window kinds leap_seconds takes_1012 =
    record {
      station = station;
      near = near;
      head = record { marker = marker; listed = listed; glonass = glonass; made = made; doppler = doppler };
      window = window;
      kinds = kinds;
      leap_seconds = leap_seconds;
      takes_1012 = takes_1012;
    }

abbrev taken_pair : SystemKinds → Bool → TakenMessages
taken_pair kinds takes = record { kinds = kinds; obs1012 = takes }

one-setup : (ss : List CaptureSurvey) (links : List (List ℕ)) (w : Wanted) (made : ℕ) (s t : SetupView) → IsSetupFor ss links w made s → IsSetupFor ss links w made t → s ≡ t
one-setup ss links w made s t is also =
    let found = kinds_found w.msm ss links s.station in
    let station : s.station ≡ t.station = one-station ss w.station s.station t.station is.station also.station in
    let first : is.first ≡ also.first =
    one-near w.near (captures_of ss s.station) is.first also.first is.first_is (subst (λ (n : ℕ). IsNearOf w.near (captures_of ss n) also.first) (sym station) also.first_is) in
    let leap : AreLeapSecondsOf ss w s.station is.first t.leap_seconds =
    subst (λ (n : ℕ). AreLeapSecondsOf ss w s.station n t.leap_seconds) (sym first)
    (subst (λ (n : ℕ). AreLeapSecondsOf ss w n also.first t.leap_seconds) (sym station) also.leap_seconds) in
    let leap_seconds : s.leap_seconds ≡ t.leap_seconds = one-leap ss w s.station is.first s.leap_seconds t.leap_seconds is.leap_seconds leap in
    let dated : IsNear1012 ss w.near s.station s.leap_seconds is.first also.other =
    subst (λ (n : ℕ). IsNear1012 ss w.near s.station s.leap_seconds n also.other) (sym first)
    (subst (λ (o : Option ℕ). IsNear1012 ss w.near s.station o also.first also.other) (sym leap_seconds)
    (subst (λ (n : ℕ). IsNear1012 ss w.near n t.leap_seconds also.first also.other) (sym station) also.other_is)) in
    let other : is.other ≡ also.other = one-1012 ss w.near s.station s.leap_seconds is.first is.other also.other is.other_is dated in
    let chosen : AreCodesChosen w ss s.station s.leap_seconds is.first (codes_taken_from found is.other) t.head.listed =
    subst (λ (o : Option ℕ). AreCodesChosen w ss s.station s.leap_seconds is.first (codes_taken_from found o) t.head.listed) (sym other)
    (subst (λ (n : ℕ). AreCodesChosen w ss s.station s.leap_seconds n (codes_taken_from found also.other) t.head.listed) (sym first)
    (subst (λ (o : Option ℕ). AreCodesChosen w ss s.station o also.first (codes_taken_from found also.other) t.head.listed) (sym leap_seconds)
    (subst (λ (n : ℕ). AreCodesChosen w ss n t.leap_seconds also.first (codes_taken_from (kinds_found w.msm ss links n) also.other) t.head.listed) (sym station) also.listed))) in
    let listed : s.head.listed ≡ t.head.listed =
    one-list w ss s.station s.leap_seconds is.first (codes_taken_from found is.other) s.head.listed t.head.listed is.listed chosen in
    let kinds : s.kinds ≡ t.kinds =
    is.kinds ∙ ap (λ (n : ℕ). kinds_listed (kinds_found w.msm ss links n) s.head.listed) station
    ∙ ap (λ (cs : List AnyCode). kinds_listed (kinds_found w.msm ss links t.station) cs) listed ∙ sym also.kinds in
    let marker : s.head.marker ≡ t.head.marker = is.marker ∙ ap (λ (n : ℕ). marker_chosen w.marker n) station ∙ sym also.marker in
    let made_at : s.head.made ≡ t.head.made = is.made_at ∙ sym also.made_at in
    let doppler : s.head.doppler ≡ t.head.doppler = is.doppler ∙ sym also.doppler in
    let window : s.window ≡ t.window = is.window ∙ sym also.window in
    let takes : s.takes_1012 ≡ t.takes_1012 =
    is.with_1012 ∙ ap (λ (n : ℕ). converts_1012 ss n s.head.listed is.other) station
    ∙ ap (λ (cs : List AnyCode). converts_1012 ss t.station cs is.other) listed
    ∙ ap (λ (o : Option ℕ). converts_1012 ss t.station t.head.listed o) other ∙ sym also.with_1012 in
    let near : s.near ≡ t.near =
    is.near_by ∙ ap (λ (b : Bool). near_chosen b is.first is.other) takes
    ∙ ap (λ (n : ℕ). near_chosen t.takes_1012 n is.other) first
    ∙ ap (λ (o : Option ℕ). near_chosen t.takes_1012 also.first o) other ∙ sym also.near_by in
    let told : IsGlonassFound ss s.station (taken_pair found s.takes_1012) s.head.listed w.channels s.leap_seconds s.near t.head.glonass =
    subst (λ (b : Bool). IsGlonassFound ss s.station (taken_pair found b) s.head.listed w.channels s.leap_seconds s.near t.head.glonass) (sym takes)
    (subst (λ (n : ℕ). IsGlonassFound ss s.station (taken_pair found t.takes_1012) s.head.listed w.channels s.leap_seconds n t.head.glonass) (sym near)
    (subst (λ (o : Option ℕ). IsGlonassFound ss s.station (taken_pair found t.takes_1012) s.head.listed w.channels o t.near t.head.glonass) (sym leap_seconds)
    (subst (λ (cs : List AnyCode). IsGlonassFound ss s.station (taken_pair found t.takes_1012) cs w.channels t.leap_seconds t.near t.head.glonass) (sym listed)
    (subst (λ (n : ℕ). IsGlonassFound ss n (taken_pair (kinds_found w.msm ss links n) t.takes_1012) t.head.listed w.channels t.leap_seconds t.near t.head.glonass) (sym station) also.glonass)))) in
    let glonass : s.head.glonass ≡ t.head.glonass =
    one-glonass ss s.station (taken_pair found s.takes_1012) s.head.listed w.channels s.leap_seconds s.near s.head.glonass t.head.glonass is.glonass told in
    ap (λ (n : ℕ). setup_with n s.near s.head.marker s.head.listed s.head.glonass s.head.made s.head.doppler s.window s.kinds s.leap_seconds s.takes_1012) station
    ∙ ap (λ (n : ℕ). setup_with t.station n s.head.marker s.head.listed s.head.glonass s.head.made s.head.doppler s.window s.kinds s.leap_seconds s.takes_1012) near
    ∙ ap (λ (name : List ℕ). setup_with t.station t.near name s.head.listed s.head.glonass s.head.made s.head.doppler s.window s.kinds s.leap_seconds s.takes_1012) marker
    ∙ ap (λ (codes : List AnyCode). setup_with t.station t.near t.head.marker codes s.head.glonass s.head.made s.head.doppler s.window s.kinds s.leap_seconds s.takes_1012) listed
    ∙ ap (λ (g : Option GlonassView). setup_with t.station t.near t.head.marker t.head.listed g s.head.made s.head.doppler s.window s.kinds s.leap_seconds s.takes_1012) glonass
    ∙ ap (λ (n : ℕ). setup_with t.station t.near t.head.marker t.head.listed t.head.glonass n s.head.doppler s.window s.kinds s.leap_seconds s.takes_1012) made_at
    ∙ ap (λ (b : Bool). setup_with t.station t.near t.head.marker t.head.listed t.head.glonass t.head.made b s.window s.kinds s.leap_seconds s.takes_1012) doppler
    ∙ ap (λ (n : ℕ). setup_with t.station t.near t.head.marker t.head.listed t.head.glonass t.head.made t.head.doppler n s.kinds s.leap_seconds s.takes_1012) window
    ∙ ap (λ (ks : SystemKinds). setup_with t.station t.near t.head.marker t.head.listed t.head.glonass t.head.made t.head.doppler t.window ks s.leap_seconds s.takes_1012) kinds
    ∙ ap (λ (leap : Option ℕ). setup_with t.station t.near t.head.marker t.head.listed t.head.glonass t.head.made t.head.doppler t.window t.kinds leap s.takes_1012) leap_seconds
    ∙ ap (λ (is_asked : Bool). setup_with t.station t.near t.head.marker t.head.listed t.head.glonass t.head.made t.head.doppler t.window t.kinds t.leap_seconds is_asked) takes

pub one-plan : OnePlan
one-plan ss w made as_given s t links others skipped left strays strayed is also =
    let station : s.station ≡ t.station = one-station ss w.station s.station t.station is.setup.station also.setup.station in
    let same : links ≡ others =
    one-links as_given w.near ss s.station links others is.links (subst (λ (n : ℕ). AreLinksOf as_given w.near ss n others) (sym station) also.links) in (
      one-setup ss links w made s t is.setup (subst (λ (ls : List (List ℕ)). IsSetupFor ss ls w made t) (sym same) also.setup),
      same,
      is.skipped ∙ ap (λ (n : ℕ). empty_captures (captures_of ss n)) station ∙ sym also.skipped,
      one-strays w.near (captures_of ss s.station) strays strayed is.strays (subst (λ (n : ℕ). AreStrays w.near (captures_of ss n) strayed) (sym station) also.strays),
    )

whole-second : (t : ℕ) → (t - t % 1000) % 1000 ≡ 0
whole-second t = omega arith

first-whole : (given : Option ℕ) (cs : List StationCapture) (near : ℕ) → IsNearOf given cs near → near % 1000 ≡ 0
first-whole given cs near is = ap (λ (n : ℕ). n % 1000) is.2.2 ∙ whole-second is.2.0.first

up-whole : (e : Ends) → middle_up e % 1000 ≡ 0
up-whole e = omega arith

down-whole : (e : Ends) → middle_down e % 1000 ≡ 0
down-whole e = omega arith

middle-whole : (e : Ends) (b : Bool) → (if b then middle_down e else middle_up e) % 1000 ≡ 0
middle-whole e true = down-whole e
middle-whole e false = up-whole e

-- a moment that is kept or left
kept-whole : (b : Bool) (t : ℕ) → t % 1000 ≡ 0 → IfSome (if b then Some t else None) (λ n. n % 1000 ≡ 0)
kept-whole true t whole = whole
kept-whole false t whole = tt

left-whole : (b : Bool) (o : Option ℕ) → IfSome o (λ n. n % 1000 ≡ 0) → IfSome (if b then None else o) (λ n. n % 1000 ≡ 0)
left-whole true o whole = tt
left-whole false o whole = whole

between-whole : (e : Ends) → IfSome (near_between e) (λ n. n % 1000 ≡ 0)
between-whole e =
    left-whole (nat_lt LAST_MS e.from || nat_lt LAST_MS e.until) (near_of_ends e)
    (kept-whole (dates_ends e (middle_second e) && can_date (middle_second e)) (middle_second e) (middle-whole e (nat_lt (e.from + 43_200_000) (middle_up e))))

reach-whole : (cs : List StationCapture) (ps : List (Option Placed)) (o : Option ℕ) → IfSome o (λ n. n % 1000 ≡ 0) → IfSome (near_in_reach cs ps o) (λ n. n % 1000 ≡ 0)
reach-whole cs ps None whole = tt
reach-whole cs ps (Some near) whole = left-whole (some_out_of_reach near cs ps) (Some near) whole

other-whole : (ss : List CaptureSurvey) (given : Option ℕ) (station : ℕ) (seconds : Option ℕ) (first : ℕ) (other : Option ℕ) → IsNear1012 ss given station seconds first other
    → IfSome other (λ n. n % 1000 ≡ 0)
other-whole ss given station seconds first other is =
    let cs : List StationCapture = captures_of ss station in
    let e : Ends = ends_after (clock_dating given station is.2.2.0 (midway is.2.0.from is.2.0.until)) (record { from = is.2.0.from; until = is.2.0.until }) ss is.0 in
    subst (λ (o : Option ℕ). IfSome o (λ n. n % 1000 ≡ 0)) (sym is.2.2.2) (reach-whole cs is.0 (near_between e) (between-whole e))

chosen-whole : (takes : Bool) (first : ℕ) (other : Option ℕ) → first % 1000 ≡ 0 → IfSome other (λ n. n % 1000 ≡ 0) → near_chosen takes first other % 1000 ≡ 0
chosen-whole false first other whole also = whole
chosen-whole true first None whole also = whole
chosen-whole true first (Some near) whole also = also

pub near-whole : NearIsWholeSecond
near-whole ss links w made s is =
    ap (λ (n : ℕ). n % 1000) is.near_by
    ∙ chosen-whole s.takes_1012 is.first is.other (first-whole w.near (captures_of ss s.station) is.first is.first_is)
    (other-whole ss w.near s.station s.leap_seconds is.first is.other is.other_is)
