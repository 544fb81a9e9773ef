-- What a conversion is set up with, and which messages it takes.
use Rattle.std.specs.Prelude.{◌≡◌, ℕ, ◌+◌, ◌≤◌, ◌==◌, ℤ, Bool, false, not, ◌&&◌, ◌||◌, List, [], map, Option, None, Some, IfSome, if◌then◌else◌}
use Rattle.std.specs.Int.{IsInRange}
use Rattle.std.specs.List.{list_any, list_all}
use Rattle.rtk_message.specs.declared.accepted.Accepted.{Accepted}
use Rattle.rtk_message.specs.declared.any_message.AnyMessage.{AnyMessage as Message}
use Rattle.rtk_message.specs.declared.accepted.MsmKinds.{MsmKinds}
use Rattle.rtk_message.specs.declared.msm_kind.MsmKind.{MsmKind}
use Rattle.rtk_message.specs.declared.msm_kind.MsmKind.TheVariants.{Msm4}
use Rattle.rtk_message.specs.declared.system.System.{System}
use Rattle.rtk_message.specs.declared.system.System.TheVariants.{Gps, Glonass, Galileo, Beidou, Qzss, Sbas, Navic}
use Rattle.rtk_message.specs.Accepted.{no_kind, only_kind, accepts}
use Rattle.rtk_obs.specs.declared.any_code.AnyCode.{AnyCode}
use Rattle.rtk_obs.specs.declared.signal_cells.SignalEntry.{SignalEntry}
use Rattle.rtk_obs.specs.AnyCode.{code_of_gps}
use Rattle.rtk_obs.specs.Carriers.{channel_at}
use Rattle.rtk_obs.specs.Dating.{IsReference}
use Rattle.rtk_obs.specs.SatelliteIndex.{letter_of, satellites_of_system, satellites_before}
use Rattle.rtk_obs.specs.Doppler.{entries_with_doppler}
use Rattle.rtk_obs.specs.SbasCells.{entries_with_sbas}
use Rattle.rtk_obs.specs.SignalCells.{entries_of}
use Rattle.rtk_rinex.specs.Header.{HeadView}
use Rattle.rtk_rinex.specs.MixedHead.{GlonassView, MixedHeadView, IsMixedHead, letter}
use Rattle.rtk_setup.specs.declared.system_kinds.SystemKinds.{SystemKinds}

pub record SetupView : Type 0 where
  -- the station whose messages are converted (RTCM 10403.3, DF003)
  pub station : ℕ
  -- the moment near which clocks are dated
  pub near : ℕ
  -- what is known of the file before its observations; its leap seconds are not those of the file (`head_at`)
  pub head : MixedHeadView
  -- how many epochs are open at once
  pub window : ℕ
  -- the kind of MSM that is converted of each system
  pub kinds : SystemKinds
  -- the leap seconds by which clocks of GLONASS are dated and which the file tells, if they are not those of the table
  pub leap_seconds : Option ℕ
  -- whether 1012 is asked for, which tells no day
  pub takes_1012 : Bool

-- ---- the kinds

-- table
-- the kind of a system
abbrev pub kind_of : SystemKinds → System → MsmKind
kind_of ks Gps = ks.gps
kind_of ks Glonass = ks.glonass
kind_of ks Galileo = ks.galileo
kind_of ks Beidou = ks.beidou
kind_of ks Qzss = ks.qzss
kind_of ks Sbas = ks.sbas
kind_of ks Navic = ks.navic

-- this kind of each system
abbrev pub all_of : MsmKind → SystemKinds
all_of k = record { gps = k; glonass = k; galileo = k; beidou = k; qzss = k; sbas = k; navic = k }

-- table
-- these kinds, but for a system this one
abbrev pub with_kind : SystemKinds → System → MsmKind → SystemKinds
with_kind ks Gps k = record ks { gps = k }
with_kind ks Glonass k = record ks { glonass = k }
with_kind ks Galileo k = record ks { galileo = k }
with_kind ks Beidou k = record ks { beidou = k }
with_kind ks Qzss k = record ks { qzss = k }
with_kind ks Sbas k = record ks { sbas = k }
with_kind ks Navic k = record ks { navic = k }

-- ---- setups

-- the head of a file of GPS as one of a file of any systems
abbrev pub mixed_head_of : HeadView → MixedHeadView
mixed_head_of h = record { marker = h.marker; listed = map code_of_gps h.listed; glonass = None; made = h.made; doppler = false }

-- the setup of these parts; its MSM of each system is MSM4, and 1012 is not asked for
abbrev pub mixed_setup_of : ℕ → ℕ → MixedHeadView → ℕ → SetupView
mixed_setup_of station near head window =
    record { station = station; near = near; head = head; window = window; kinds = all_of Msm4; leap_seconds = None; takes_1012 = false }

-- the setup of these parts for a file of GPS; its MSM is 1074
abbrev pub setup_of : ℕ → ℕ → HeadView → ℕ → SetupView
setup_of station near head window = mixed_setup_of station near (mixed_head_of head) window

-- constant
-- a reference station ID has 12 bits
-- Source: RTCM 10403.3, DF003
abbrev pub IsStation : ℕ → Type 0
IsStation station = station ≤ 4095

-- constant
-- 2 to 4096 epochs (this project's rule)
abbrev pub IsWindow : ℕ → Type 0
IsWindow window = IsInRange 2 4096 window

-- constant
-- leap seconds of two digits (this project's rule)
abbrev pub IsLeapSeconds : ℕ → Type 0
IsLeapSeconds n = n ≤ 99

-- formula
abbrev pub IsSetupView : SetupView → Type 0
IsSetupView s = IsStation s.station × IsReference s.near × IsMixedHead s.head × IsWindow s.window × IfSome s.leap_seconds IsLeapSeconds

-- ---- which messages are converted

-- some code of a system is listed
abbrev pub lists_system : List AnyCode → System → Bool
lists_system listed system = list_any (λ c. letter c == letter_of system) listed

-- formula
-- the kinds of a system that are converted: its kind if some code of it is listed, else none (this
-- project's rule)
abbrev pub kinds_taken : SetupView → System → MsmKinds
kinds_taken s system = if lists_system s.head.listed system then only_kind (kind_of s.kinds system) else no_kind

-- formula
-- whether 1012 is converted, and MSM of GLONASS that tell no day (DF416 7): if 1012 is asked for, and some code of
-- GLONASS is listed (this project's rule)
abbrev pub obs1012_taken : SetupView → Bool
obs1012_taken s = s.takes_1012 && lists_system s.head.listed Glonass

-- the MSM that are converted, of all systems, and whether 1012 is
abbrev pub taken_by : SetupView → Accepted
taken_by s =
    record {
      gps = kinds_taken s Gps;
      glonass = kinds_taken s Glonass;
      galileo = kinds_taken s Galileo;
      beidou = kinds_taken s Beidou;
      qzss = kinds_taken s Qzss;
      sbas = kinds_taken s Sbas;
      navic = kinds_taken s Navic;
      obs1012 = obs1012_taken s;
    }

-- formula
-- whether 1004 is converted, which has satellites of GPS and of SBAS: if some code of GPS or of SBAS is listed (this
-- project's rule)
abbrev pub takes_1004 : SetupView → Bool
takes_1004 s = lists_system s.head.listed Gps || lists_system s.head.listed Sbas

-- formula
-- whether a message of this number is converted: a 1005, a 1006, an MSM of a listed system and of its kind, a
-- 1004, or a 1012, if these are (this project's rule)
abbrev pub takes : SetupView → ℕ → Bool
takes s number = if number == 1004 then takes_1004 s else accepts (taken_by s) number

-- all listed codes are of GPS, and the file shows no Doppler shifts
abbrev pub is_of_gps : SetupView → Bool
is_of_gps s = not s.head.doppler && list_all (λ c. letter c == letter_of Gps) s.head.listed

-- ---- what their cells are

-- the channels of the slots of GLONASS: none, if the head tells of none
abbrev pub channels_of : Option GlonassView → List (Option ℤ)
channels_of None = []
channels_of (Some g) = g.channels

-- these channels of the slots are the same
abbrev pub AreSameChannels : List (Option ℤ) → List (Option ℤ) → Type 0
AreSameChannels channels others = (slot : ℕ) → channel_at channels slot ≡ channel_at others slot

-- formula
-- the cells of a message by these channels: those of SBAS in a 1004 are among them or not, and those of an MSM have
-- Doppler shifts or not
abbrev pub plain_entries_as : Bool → List (Option ℤ) → Message → List SignalEntry
plain_entries_as sbas channels = if sbas then entries_with_sbas channels else entries_of channels

abbrev pub entries_as : Bool → Bool → List (Option ℤ) → Message → List SignalEntry
entries_as doppler sbas channels = if doppler then entries_with_doppler (plain_entries_as sbas channels) channels else plain_entries_as sbas channels

-- formula
-- the cells of a message, each with its satellite and code; those of GLONASS have phases by the channels of
-- the setup, those of SBAS in a 1004 are among them if some code of SBAS is listed, and those of an MSM have Doppler
-- shifts if the file shows them
abbrev pub cells_by : SetupView → Message → List SignalEntry
cells_by s = entries_as s.head.doppler (lists_system s.head.listed Sbas) (channels_of s.head.glonass)

-- the last satellite of a system, if some code of it is listed, or else this one
abbrev pub last_or : SetupView → System → ℕ → ℕ
last_or s system lesser = if lists_system s.head.listed system then satellites_before system + satellites_of_system system else lesser

-- the greatest satellite of the listed systems, in the order G R E C J S I
abbrev pub greatest_satellite : SetupView → ℕ
greatest_satellite s =
    last_or s Navic (last_or s Sbas (last_or s Qzss (last_or s Beidou (last_or s Galileo (last_or s Glonass (last_or s Gps 0))))))
