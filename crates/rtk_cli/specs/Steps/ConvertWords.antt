-- What the words of `convert` say, and why they are refused.
use Rattle.std.specs.Prelude.{◌≡◌, ◌⊎◌, ℕ, Bool, true, false, ℤ, List, map, Option, None, Some, IsSomeAnd}
use Rattle.std.specs.Borrow.{Bor}
use Rattle.rtk_obs.specs.Dating.{IsReference}
use Rattle.rtk_obs.specs.LeapSeconds.{IsLeapSecondsAt}
use Rattle.rtk_obs.specs.declared.any_code.AnyCode.{AnyCode}
use Rattle.rtk_rinex.specs.Header.{IsMarker}
use Rattle.rtk_rinex.specs.MixedHead.{GlonassView, MixedHeadView, IsMixedList, has_glonass}
use Rattle.rtk_setup.specs.Rates.{without_rates}
use Rattle.rtk_setup.specs.Setup.{SetupView}
use Rattle.rtk_setup.specs.declared.system_kinds.SystemKinds.{SystemKinds}
use Rattle.rtk_cli.specs.declared.convert_words.ConvertOptions.{ConvertOptions}
use Rattle.rtk_cli.specs.declared.words.BadWords.{BadWords}
use Rattle.rtk_cli.specs.declared.words.BadWords.TheVariants.{Near, Made, Codes, CodeOfSystem, CodeOfGps, Marker, Channels, NoChannels, NoGlonass, NoRates, Links}
use Rattle.rtk_cli.specs.declared.words.Job.{Job}
use Rattle.rtk_cli.specs.declared.words.Job.TheVariants.{Convert}
use Rattle.rtk_cli.specs.declared.words.WordsFault.{WordsFault}
use Rattle.rtk_cli.specs.FaultLines.{IsRefusal}
use Rattle.rtk_cli.specs.Words.{AreLinkNames}
use Rattle.rtk_cli.specs.Steps.AnyCodeList.{ListsCodes, in_file_order, IsNameCause}
use Rattle.rtk_cli.specs.Steps.ChannelList.{WritesChannels, HasNoChannels}
use Rattle.rtk_cli.specs.Steps.MomentText.{WritesMoment, HasMoment}

-- ---- GLONASS

-- formula
-- the leap seconds of a header: those that are given, or those of the table at the reference (this project's rule)
abbrev pub IsLeapSecondsOf : Option ℕ → ℕ → ℕ → Type 0
IsLeapSecondsOf None near n = IsLeapSecondsAt near n
IsLeapSecondsOf (Some given) near n = n ≡ given

-- the text of an option writes these channels
abbrev pub SaysChannels : Option (Bor (List ℕ)) → List (Option ℤ) → Type 0
SaysChannels o channels = IsSomeAnd o (λ text. WritesChannels text.now channels)

-- formula
-- for a file with these codes the options tell this of GLONASS: nothing, without its codes, channels and 1012; with its
-- codes the channels, and the leap seconds (this project's rule)
abbrev pub SaysGlonass : ConvertOptions → List AnyCode → ℕ → Option GlonassView → Type 0
SaysGlonass o listed near None = (has_glonass listed ≡ false) × (o.channels ≡ None) × (o.with_1012 ≡ false)
SaysGlonass o listed near (Some g) =
    (has_glonass listed ≡ true) × SaysChannels o.channels g.channels × IsLeapSecondsOf o.leap_seconds near g.leap_seconds

-- the option is there, and its text writes no channels
abbrev pub HasBadChannels : Option (Bor (List ℕ)) → Type 0
HasBadChannels o = IsSomeAnd o (λ text. HasNoChannels text.now)

-- the option is there, and its text writes channels
abbrev pub HasGoodChannels : Option (Bor (List ℕ)) → Type 0
HasGoodChannels o = (channels : List (Option ℤ)) × SaysChannels o channels

-- formula
-- why the options tell nothing that is due of GLONASS: bad channels, or channels without its codes; or its codes without
-- channels; or, without channels, 1012 that need its codes (this project's rule)
abbrev pub IsGlonassCause : ConvertOptions → List AnyCode → BadWords → Type 0
IsGlonassCause o listed Channels = HasBadChannels o.channels ⊎ (HasGoodChannels o.channels × (has_glonass listed ≡ false))
IsGlonassCause o listed NoChannels = (o.channels ≡ None) × (has_glonass listed ≡ true)
IsGlonassCause o listed NoGlonass = (o.channels ≡ None) × (has_glonass listed ≡ false) × (o.with_1012 ≡ true)
IsGlonassCause o listed _ = ⊥

-- the options tell something of GLONASS that is due
abbrev pub TellsItsGlonass : ConvertOptions → List AnyCode → Type 0
TellsItsGlonass o listed = (near : ℕ) × (g : Option GlonassView) × SaysGlonass o listed near g

-- ---- Doppler shifts

-- formula
-- why a file of these codes can't show the Doppler shifts that are asked for (true): the MSM of a listed system has no range
-- rates, and this is the first such system (this project's rule)
abbrev pub IsShiftsCause : Bool → SystemKinds → List AnyCode → BadWords → Type 0
IsShiftsCause is_asked kinds listed (NoRates s) = without_rates is_asked kinds listed ≡ Some s
IsShiftsCause is_asked kinds listed _ = ⊥

-- ---- the head

-- the head of these parts: the codes in the order of a file, what the options tell of GLONASS, and Doppler shifts if they are
-- asked for, which the MSM of each listed system has then
pub record IsHeadOf (o : ConvertOptions) (name : List ℕ) (own : List AnyCode) (moment near : ℕ) (h : MixedHeadView) : Type 0 where
  pub marker : h.marker ≡ name
  pub listed : h.listed ≡ in_file_order own
  pub good : IsMixedList h.listed
  pub glonass : SaysGlonass o h.listed near h.glonass
  pub made : h.made ≡ moment
  pub doppler : h.doppler ≡ o.doppler
  pub rates : without_rates o.doppler o.kinds h.listed ≡ None

-- formula
-- why there is no head with these codes: they are not good together; or what is due of GLONASS is not told; or the MSM of a
-- listed system has no Doppler shifts
abbrev pub IsHeadCause : ConvertOptions → List AnyCode → BadWords → Type 0
IsHeadCause o own Codes = ¬ (IsMixedList (in_file_order own))
IsHeadCause o own (NoRates s) =
    IsMixedList (in_file_order own) × TellsItsGlonass o (in_file_order own) × IsShiftsCause o.doppler o.kinds (in_file_order own) (NoRates s)
IsHeadCause o own cause = IsMixedList (in_file_order own) × IsGlonassCause o (in_file_order own) cause

-- ---- the whole

-- formula
-- the setup with the leap seconds that are given, or else those of the table (this project's rule)
abbrev pub with_given : SetupView → Option ℕ → SetupView
with_given s None = s
with_given s (Some n) = record s { leap_seconds = Some n }

-- formula
-- the setup that takes 1012 too, if they are asked for (this project's rule)
abbrev pub with_1012_if : SetupView → Bool → SetupView
with_1012_if s false = s
with_1012_if s true = record s { takes_1012 = true }

-- formula
-- the setup is what the options write
abbrev pub SaysSetup : ConvertOptions → SetupView → Type 0
SaysSetup o s =
    (s.station ≡ o.station) × WritesMoment o.near.now s.near
    × ((own : List AnyCode) × (made : ℕ) × ListsCodes o.codes.now own × WritesMoment o.made.now made × IsHeadOf o o.marker.now own made s.near s.head)
    × (s.window ≡ o.window) × (s.kinds ≡ o.kinds) × (s.leap_seconds ≡ o.leap_seconds)
    × (s.takes_1012 ≡ o.with_1012)

-- the job is the conversion that the options and the names of the links say
abbrev pub SaysConversion : ConvertOptions → List (List ℕ) → Job → Type 0
SaysConversion o names (Convert setup links) = SaysSetup o setup × (map (λ link. link.now) links.items ≡ names)
SaysConversion o names _ = ⊥

-- both times are moments
abbrev pub HasTimes : ConvertOptions → Type 0
HasTimes o = HasMoment o.near.now × HasMoment o.made.now

-- and each name of the list is a code's
abbrev pub HasNames : ConvertOptions → Type 0
HasNames o = HasTimes o × ((own : List AnyCode) × ListsCodes o.codes.now own)

-- and the marker is good
abbrev pub HasMarker : ConvertOptions → Type 0
HasMarker o = HasNames o × IsMarker o.marker.now

-- and the codes are good together, what is due of GLONASS is told, and Doppler shifts that are asked for can be shown
abbrev pub HasHead : ConvertOptions → Type 0
HasHead o = HasMarker o × ((own : List AnyCode) × (made : ℕ) × (near : ℕ) × (h : MixedHeadView) × ListsCodes o.codes.now own × IsHeadOf o o.marker.now own made near h)

-- the cause is that of a head, and what comes before it is good
abbrev pub HasHeadCause : ConvertOptions → BadWords → Type 0
HasHeadCause o cause = HasMarker o × ((own : List AnyCode) × ListsCodes o.codes.now own × IsHeadCause o own cause)

-- formula
-- this is the first cause for which the words are refused, in this order: the form of the
-- reference, the form of the time of making, the names of the codes, the marker, the codes
-- together, the channels, codes of GLONASS without channels, 1012 without such codes, a system without Doppler shifts, the
-- links, and last a reference near which nothing is dated
-- (this project's rule)
abbrev pub IsFirstCause : ConvertOptions → List (List ℕ) → BadWords → Type 0
IsFirstCause o names Near =
    ¬ (HasMoment o.near.now)
    ⊎ (HasHead o × AreLinkNames names × ((t : ℕ) × WritesMoment o.near.now t × ¬ (IsReference t)))
IsFirstCause o names Made = HasMoment o.near.now × ¬ (HasMoment o.made.now)
IsFirstCause o names Codes = (HasTimes o × IsNameCause o.codes.now Codes) ⊎ HasHeadCause o Codes
IsFirstCause o names (CodeOfSystem s) = HasTimes o × IsNameCause o.codes.now (CodeOfSystem s)
IsFirstCause o names (CodeOfGps c) = HasTimes o × IsNameCause o.codes.now (CodeOfGps c)
IsFirstCause o names Marker = HasNames o × ¬ (IsMarker o.marker.now)
IsFirstCause o names Channels = HasHeadCause o Channels
IsFirstCause o names NoChannels = HasHeadCause o NoChannels
IsFirstCause o names NoGlonass = HasHeadCause o NoGlonass
IsFirstCause o names (NoRates s) = HasHeadCause o (NoRates s)
IsFirstCause o names Links = HasHead o × ¬ (AreLinkNames names)
IsFirstCause o names _ = ⊥

-- why the words give no conversion: the first cause, by its fault line, or refused memory; no text of
-- clap's
abbrev pub RefusesConversion : ConvertOptions → List (List ℕ) → WordsFault → Type 0
RefusesConversion o names = IsRefusal (IsFirstCause o names)
