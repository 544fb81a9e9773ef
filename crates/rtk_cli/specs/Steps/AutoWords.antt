-- What the words of `auto` say, and why they are refused.
use Rattle.std.specs.Prelude.{◌≡◌, ◌⊎◌, ℕ, true, ℤ, List, Option, None, Some, IsSomeAnd}
use Rattle.std.specs.Borrow.{Bor}
use Rattle.std.specs.declared.vec.Vec.{Vec}
use Rattle.rtk_obs.specs.Dating.{IsReference}
use Rattle.rtk_obs.specs.declared.any_code.AnyCode.{AnyCode}
use Rattle.rtk_rinex.specs.Header.{IsMarker}
use Rattle.rtk_rinex.specs.MixedHead.{IsMixedList}
use Rattle.rtk_rinex.specs.declared.system_flags.SystemFlags.{SystemFlags}
use Rattle.rtk_cli.specs.declared.auto_words.AutoOptions.{AutoOptions}
use Rattle.rtk_cli.specs.declared.words.BadWords.{BadWords}
use Rattle.rtk_cli.specs.declared.words.BadWords.TheVariants.{NearOfAuto, MadeOfAuto, Codes, CodeOfSystem, CodeOfGps, Marker, Channels, Systems}
use Rattle.rtk_cli.specs.declared.words.WordsFault.{WordsFault}
use Rattle.rtk_cli.specs.FaultLines.{IsRefusal}
use Rattle.rtk_cli.specs.Steps.AnyCodeList.{ListsCodes, in_file_order, IsNameCause}
use Rattle.rtk_cli.specs.Steps.ChannelList.{WritesChannels}
use Rattle.rtk_cli.specs.Steps.ConvertWords.{HasBadChannels}
use Rattle.rtk_cli.specs.Steps.MomentText.{WritesMoment, HasNoMoment}
use Rattle.rtk_cli.specs.Steps.OptionTexts.{SaysIfAny}
use Rattle.rtk_cli.specs.Steps.SystemLetters.{NamesSystems, HasNoSystems}

-- ---- what one option says

-- all systems
abbrev pub each_flag : SystemFlags
each_flag = record { gps = true; glonass = true; galileo = true; beidou = true; qzss = true; sbas = true; navic = true }

-- formula
-- the systems of which the option has the letters, or all without it (this project's rule)
abbrev pub SaysFlags : Option (Bor (List ℕ)) → SystemFlags → Type 0
SaysFlags None flags = flags ≡ each_flag
SaysFlags (Some text) flags = NamesSystems text.now flags

-- formula
-- the text lists these codes, which are in the order of a file (this project's rule)
abbrev pub SaysCodes : {A : Type 0} → List ℕ → Vec AnyCode A → Type 0
SaysCodes text codes = (own : List AnyCode) × ListsCodes text own × (codes.items ≡ in_file_order own)

-- the text names this marker
abbrev pub SaysMarker : List ℕ → List ℕ → Type 0
SaysMarker text marker = (marker ≡ text) × IsMarker marker

-- ---- why an option is refused

-- the option is there, and its text names no marker
abbrev pub HasNoMarker : Option (Bor (List ℕ)) → Type 0
HasNoMarker o = IsSomeAnd o (λ text. ¬ (IsMarker text.now))

-- the option is there, and the cause is that of a name
abbrev pub IsCauseOfCodes : Option (Bor (List ℕ)) → BadWords → Type 0
IsCauseOfCodes o cause = IsSomeAnd o (λ text. IsNameCause text.now cause)

-- the option lists codes that are not good together
abbrev pub HasBadList : Option (Bor (List ℕ)) → Type 0
HasBadList o = IsSomeAnd o (λ text. (own : List AnyCode) × ListsCodes text.now own × ¬ (IsMixedList (in_file_order own)))

-- nothing is dated near the moment
abbrev pub IsNoReference : Option ℕ → Type 0
IsNoReference o = IsSomeAnd o (λ t. ¬ (IsReference t))

-- ---- the whole

-- the option lists codes, or is not there
abbrev pub HasCodesOrNone : Option (Bor (List ℕ)) → Type 0
HasCodesOrNone None = Unit {0}
HasCodesOrNone (Some text) = (own : List AnyCode) × ListsCodes text.now own

-- and they are good together
abbrev pub HasListOrNone : Option (Bor (List ℕ)) → Type 0
HasListOrNone None = Unit {0}
HasListOrNone (Some text) = (own : List AnyCode) × ListsCodes text.now own × IsMixedList (in_file_order own)

-- the reference is a moment, if it is given
abbrev pub HasNear : AutoOptions → Type 0
HasNear o = (t : Option ℕ) × SaysIfAny WritesMoment o.near t

-- so is the time of making
abbrev pub HasBothTimes : AutoOptions → Type 0
HasBothTimes o = HasNear o × ((t : Option ℕ) × SaysIfAny WritesMoment o.made t)

-- and each name of the list is a code's
abbrev pub HasCodeNames : AutoOptions → Type 0
HasCodeNames o = HasBothTimes o × HasCodesOrNone o.codes

-- and the marker is good
abbrev pub HasMarkerToo : AutoOptions → Type 0
HasMarkerToo o = HasCodeNames o × ((marker : Option (List ℕ)) × SaysIfAny SaysMarker o.marker marker)

-- and the codes are good together
abbrev pub HasListToo : AutoOptions → Type 0
HasListToo o = HasMarkerToo o × HasListOrNone o.codes

-- and the channels are good
abbrev pub HasChannelsToo : AutoOptions → Type 0
HasChannelsToo o = HasListToo o × ((channels : Option (List (Option ℤ))) × SaysIfAny WritesChannels o.channels channels)

-- and so are the letters of systems
abbrev pub HasSystemsToo : AutoOptions → Type 0
HasSystemsToo o = HasChannelsToo o × ((flags : SystemFlags) × SaysFlags o.systems flags)

-- formula
-- this is the first cause for which the words are refused, in this order: the form of the reference, the form of the time of
-- making, the names of the codes, the marker, the codes together, the channels, the systems, and last a reference near which
-- nothing is dated (this project's rule)
abbrev pub IsFirstAutoCause : AutoOptions → BadWords → Type 0
IsFirstAutoCause o NearOfAuto = HasNoMoment o.near ⊎ (HasSystemsToo o × ((t : Option ℕ) × SaysIfAny WritesMoment o.near t × IsNoReference t))
IsFirstAutoCause o MadeOfAuto = HasNear o × HasNoMoment o.made
IsFirstAutoCause o Codes = (HasBothTimes o × IsCauseOfCodes o.codes Codes) ⊎ (HasMarkerToo o × HasBadList o.codes)
IsFirstAutoCause o (CodeOfSystem s) = HasBothTimes o × IsCauseOfCodes o.codes (CodeOfSystem s)
IsFirstAutoCause o (CodeOfGps c) = HasBothTimes o × IsCauseOfCodes o.codes (CodeOfGps c)
IsFirstAutoCause o Marker = HasCodeNames o × HasNoMarker o.marker
IsFirstAutoCause o Channels = HasListToo o × HasBadChannels o.channels
IsFirstAutoCause o Systems = HasChannelsToo o × HasNoSystems o.systems
IsFirstAutoCause o _ = ⊥

-- why the words are refused: the first cause, by its fault line, or refused memory; no text of clap's
abbrev pub RefusesAuto : AutoOptions → WordsFault → Type 0
RefusesAuto o = IsRefusal (IsFirstAutoCause o)
