-- How far the clocks of systems are apart within chains of messages. A chain ends with an observation message whose
-- multiple-message bit (DF393, DF005) is 0, and the next one begins behind it. A station tells the time of an epoch once for
-- each system. So if a message tells another time of day than one of the same system in the chain, the message that would have
-- ended the chain is missing, and a new chain begins. The clocks of the chain that was cut off are not compared, because it is
-- not known which of them are of one epoch. Lists of messages are newest first, and lists of clocks and offsets are in the order
-- of the capture.
-- Source: RTCM 10403.3, DF005, DF034, DF393 and DF416; which clocks are compared is this project's rule
use Rattle.std.specs.Prelude.{ℕ, suc, ◌+◌, ◌-◌, ◌/◌, ◌%◌, ◌^◌, ◌==◌, Bool, true, false, not, ◌&&◌, nat_le, nat_lt, List, [], ◌∷◌, ◌++◌, length, set, get_or, Option, None, Some, if◌then◌else◌}
use Rattle.std.specs.List.{list_any}
use Rattle.std.specs.declared.vec.Vec.{Vec}
use Rattle.arrayvec.specs.ArrayVec.{ArrayVec}
use Rattle.rtk_message.specs.Fields.{week_ms}
use Rattle.rtk_message.specs.declared.any_message.AnyMessage.{AnyMessage}
use Rattle.rtk_message.specs.declared.any_message.AnyMessage.TheVariants as any
use Rattle.rtk_message.specs.Obs1012 as obs1012
use Rattle.rtk_message.specs.declared.message.Message.{Message}
use Rattle.rtk_message.specs.declared.message.Message.TheVariants.{Obs1004, Arp1005, Arp1006, Msm1074}
use Rattle.rtk_message.specs.declared.system.System.{System}
use Rattle.rtk_message.specs.declared.system.System.TheVariants.{Gps, Glonass, Galileo, Beidou, Qzss, Sbas, Navic}
use Rattle.rtk_survey.specs.BesideGps.{told_time}
use Rattle.rtk_survey.specs.Counting.{shown_count}
use Rattle.rtk_survey.specs.Telling.{day_ms}
use Rattle.rtk_survey.specs.declared.clock_chains.ChainClock.{ChainClock}
use Rattle.rtk_survey.specs.declared.clock_chains.ClockOffset.{ClockOffset}
use Rattle.rtk_survey.specs.declared.clock_chains.ClockOffsets.{ClockOffsets}
use Rattle.rtk_survey.specs.declared.clock_chains.ClockSurvey.{ClockSurvey}
use Rattle.rtk_survey.specs.declared.clock_chains.ClockTold.{ClockTold}
use Rattle.rtk_survey.specs.declared.clock_chains.DayOffset.{DayOffset}

-- ---- the clock of a message

abbrev pub gps_clock : ℕ → ClockTold
gps_clock tow = record { system = Gps; time = tow; has_day = true }

-- table
-- a clock tells its day: one of GLONASS has the day before 27 bits of the time of day, and 7 is unknown (DF416)
abbrev pub tells_day : System → ℕ → Bool
tells_day Gps c = true
tells_day Glonass c = not (c / 2 ^ 27 == 7)
tells_day Galileo c = true
tells_day Beidou c = true
tells_day Qzss c = true
tells_day Sbas c = true
tells_day Navic c = true

abbrev pub told_clock : System → ℕ → ClockTold
told_clock s c = record { system = s; time = told_time s c; has_day = tells_day s c }

abbrev pub clock_of_four : Message → Option ClockTold
clock_of_four (Obs1004 m) = Some (gps_clock m.tow)
clock_of_four (Arp1005 m) = None
clock_of_four (Arp1006 m) = None
clock_of_four (Msm1074 m) = Some (gps_clock m.header.tow)

-- the system and the time of week of an observation message
abbrev pub clock_of : AnyMessage → Option ClockTold
clock_of (any.Message m) = clock_of_four m
clock_of (any.Msm m) = Some (told_clock m.system m.header.tow)
clock_of (any.Obs1012 m) = Some (told_clock Glonass (obs1012.clock_of m))

abbrev pub more_follow_four : Message → Bool
more_follow_four (Obs1004 m) = m.synchronous
more_follow_four (Arp1005 m) = false
more_follow_four (Arp1006 m) = false
more_follow_four (Msm1074 m) = m.header.multiple_message

-- more messages of the chain follow
abbrev pub more_follow : AnyMessage → Bool
more_follow (any.Message m) = more_follow_four m
more_follow (any.Msm m) = m.header.multiple_message
more_follow (any.Obs1012 m) = m.synchronous

-- ---- the clock of a chain

-- table
-- the systems in the order in which they time a chain. The clocks of BeiDou and GLONASS time none
abbrev pub clock_rank : System → ℕ
clock_rank Gps = 0
clock_rank Galileo = 1
clock_rank Qzss = 2
clock_rank Sbas = 3
clock_rank Navic = 4
clock_rank Beidou = 5
clock_rank Glonass = 6

-- the first clock of the system with this rank
abbrev pub first_ranked : ℕ → List ClockTold → Option ChainClock
first_ranked r [] = None
first_ranked r (c ∷ cs) = if clock_rank c.system == r then Some (record { rank = r; time = c.time }) else first_ranked r cs

abbrev pub clock_or : Option ChainClock → Option ChainClock → Option ChainClock
clock_or None other = other
clock_or (Some c) other = Some c

-- the first clock of GPS; if there is none, of Galileo, QZSS, SBAS or NavIC
abbrev pub chain_clock : List ClockTold → Option ChainClock
chain_clock cs = clock_or (first_ranked 0 cs) (clock_or (first_ranked 1 cs) (clock_or (first_ranked 2 cs) (clock_or (first_ranked 3 cs) (first_ranked 4 cs))))

-- ---- how far other clocks are from it

-- formula
-- by how much a time of week is ahead of another one, less than a week
abbrev pub ahead_of : ℕ → ℕ → ℕ
ahead_of base t = (t + week_ms - base) % week_ms

-- constant
-- less than a day ahead, as within half a day
abbrev pub from_half_day : ℕ → ℕ
from_half_day ahead = if nat_le ahead 43_200_000 then ahead else ahead + (week_ms - day_ms)

-- formula
-- by how much a time of day is ahead of another one, within half a day
abbrev pub ahead_in_day : ℕ → ℕ → ℕ
ahead_in_day base t = from_half_day ((t % day_ms + day_ms - base % day_ms) % day_ms)

-- by how much a clock is ahead of a time of week: within half a day if it tells no day
abbrev pub clock_ahead : ℕ → ClockTold → ℕ
clock_ahead base c = if c.has_day then ahead_of base c.time else ahead_in_day base c.time

-- the place of an offset, the first of which has this place
abbrev pub offset_place : ℕ → ℕ → List ClockOffset → Option ℕ
offset_place k ahead [] = None
offset_place k ahead (o ∷ os) = if o.ahead_ms == ahead then Some k else offset_place (suc k) ahead os

abbrev pub counted_offset : ClockOffset → ClockOffset
counted_offset o = record { ahead_ms = o.ahead_ms; count = shown_count (o.count + 1) }

abbrev pub new_offset : ℕ → ClockOffset
new_offset ahead = record { ahead_ms = ahead; count = 1 }

-- constant
-- an offset that is known counts there; the first 8 that differ are kept
abbrev pub with_counted_at : Option ℕ → ℕ → ArrayVec ClockOffset → ArrayVec ClockOffset
with_counted_at (Some k) ahead list = record { items = set list.items k (counted_offset (get_or list.items k (new_offset ahead))) }
with_counted_at None ahead list = if nat_lt (length list.items) 8 then record { items = list.items ++ new_offset ahead ∷ [] } else list

abbrev pub with_counted : ℕ → ArrayVec ClockOffset → ArrayVec ClockOffset
with_counted ahead list = with_counted_at (offset_place 0 ahead list.items) ahead list

-- ---- the days of GLONASS

-- formula
-- the day of the week that a clock tells which is ahead by this of a time of week: of UTC, which clocks of GLONASS tell
-- here. A leap second comes between two such days
abbrev pub day_of_clock : ℕ → ℕ → ℕ
day_of_clock base ahead = (base + ahead) % week_ms / day_ms

abbrev pub is_of_day : ℕ → ℕ → DayOffset → Bool
is_of_day day ahead o = o.day == day && o.ahead_ms == ahead

-- the place of an offset on a day, the first of which has this place
abbrev pub day_place : ℕ → ℕ → ℕ → List DayOffset → Option ℕ
day_place k day ahead [] = None
day_place k day ahead (o ∷ os) = if is_of_day day ahead o then Some k else day_place (suc k) day ahead os

abbrev pub counted_day : DayOffset → DayOffset
counted_day o = record { day = o.day; ahead_ms = o.ahead_ms; count = shown_count (o.count + 1) }

abbrev pub new_day : ℕ → ℕ → DayOffset
new_day day ahead = record { day = day; ahead_ms = ahead; count = 1 }

-- constant
-- an offset that is known on its day counts there; the first 16 that differ are kept
abbrev pub with_day_counted_at : Option ℕ → ℕ → ℕ → ArrayVec DayOffset → ArrayVec DayOffset
with_day_counted_at (Some k) day ahead list = record { items = set list.items k (counted_day (get_or list.items k (new_day day ahead))) }
with_day_counted_at None day ahead list = if nat_lt (length list.items) 16 then record { items = list.items ++ new_day day ahead ∷ [] } else list

abbrev pub with_day_counted : ℕ → ℕ → ArrayVec DayOffset → ArrayVec DayOffset
with_day_counted day ahead list = with_day_counted_at (day_place 0 day ahead list.items) day ahead list

-- a clock of GLONASS more, which is ahead by this of a time of week
abbrev pub with_glonass : ℕ → ℕ → ClockOffsets → ClockOffsets
with_glonass base ahead s =
    record s {
      glonass = with_counted ahead s.glonass;
      glonass_days = with_day_counted (day_of_clock base ahead) ahead s.glonass_days;
    }

-- ---- all systems

-- table
-- a clock of a system more, which is ahead by this of a time of week
abbrev pub with_ahead : System → ℕ → ℕ → ClockOffsets → ClockOffsets
with_ahead Gps base ahead s = record s { gps = with_counted ahead s.gps }
with_ahead Glonass base ahead s = with_glonass base ahead s
with_ahead Galileo base ahead s = record s { galileo = with_counted ahead s.galileo }
with_ahead Beidou base ahead s = record s { beidou = with_counted ahead s.beidou }
with_ahead Qzss base ahead s = record s { qzss = with_counted ahead s.qzss }
with_ahead Sbas base ahead s = record s { sbas = with_counted ahead s.sbas }
with_ahead Navic base ahead s = record s { navic = with_counted ahead s.navic }

-- table
-- the offsets of a system
abbrev pub offsets_of : ClockOffsets → System → List ClockOffset
offsets_of s Gps = s.gps.items
offsets_of s Glonass = s.glonass.items
offsets_of s Galileo = s.galileo.items
offsets_of s Beidou = s.beidou.items
offsets_of s Qzss = s.qzss.items
offsets_of s Sbas = s.sbas.items
offsets_of s Navic = s.navic.items

abbrev pub with_offset : ℕ → ClockTold → ClockOffsets → ClockOffsets
with_offset base c s = with_ahead c.system base (clock_ahead base c) s

-- the offsets of some clocks more
abbrev pub with_compared : ℕ → List ClockTold → ClockOffsets → ClockOffsets
with_compared base [] s = s
with_compared base (c ∷ cs) s = with_compared base cs (with_offset base c s)

-- the offsets of all clocks more but the first one with this rank
abbrev pub with_others : ℕ → ℕ → List ClockTold → ClockOffsets → ClockOffsets
with_others r base [] s = s
with_others r base (c ∷ cs) s = if clock_rank c.system == r then with_compared base cs s else with_others r base cs (with_offset base c s)

abbrev pub with_chain_timed : Option ChainClock → List ClockTold → ClockOffsets → ClockOffsets
with_chain_timed None cs s = s
with_chain_timed (Some b) cs s = with_others b.rank b.time cs s

-- the offsets of a chain more
abbrev pub with_chain : List ClockTold → ClockOffsets → ClockOffsets
with_chain cs s = with_chain_timed (chain_clock cs) cs s

-- ---- a station

abbrev pub no_offsets : ClockOffsets
no_offsets =
    record {
      gps = record { items = [] };
      glonass = record { items = [] };
      galileo = record { items = [] };
      beidou = record { items = [] };
      qzss = record { items = [] };
      sbas = record { items = [] };
      navic = record { items = [] };
      glonass_days = record { items = [] };
    }

abbrev pub no_clocks : ClockSurvey
no_clocks = record { waiting = record { items = [] }; offsets = no_offsets }

-- constant
-- a clock more of the chain that has not ended; 32 are kept, and others are passed over
abbrev pub with_open : ClockTold → ClockSurvey → ClockSurvey
with_open c s = if nat_lt (length s.waiting.items) 32 then record s { waiting = record { items = s.waiting.items ++ c ∷ [] } } else s

-- formula
-- two clocks are of one system and tell other times of day. A 1012 tells no day, so days are not looked at
abbrev pub differs_in_time : ClockTold → ClockTold → Bool
differs_in_time c other = clock_rank c.system == clock_rank other.system && not (c.time % day_ms == other.time % day_ms)

-- a chain begins with a clock behind these clocks, of which one is of its system and tells another time of day
abbrev pub begins_chain : List ClockTold → ClockTold → Bool
begins_chain cs c = list_any (differs_in_time c) cs

-- the chain in which a clock stands: if one begins with it, the chain that has not ended is dropped
abbrev pub chain_before : ClockTold → ClockSurvey → ClockSurvey
chain_before c s = if begins_chain s.waiting.items c then record s { waiting = record { items = [] } } else s

-- the chain ends
abbrev pub chain_ended : ClockSurvey → ClockSurvey
chain_ended s = record { waiting = record { items = [] }; offsets = with_chain s.waiting.items s.offsets }

abbrev pub with_clock : ClockTold → Bool → ClockSurvey → ClockSurvey
with_clock c true s = with_open c s
with_clock c false s = chain_ended (with_open c s)

abbrev pub with_clock_if : Option ClockTold → Bool → ClockSurvey → ClockSurvey
with_clock_if None more s = s
with_clock_if (Some c) more s = with_clock c more (chain_before c s)

-- a message more
abbrev pub with_clock_of : AnyMessage → ClockSurvey → ClockSurvey
with_clock_of m s = with_clock_if (clock_of m) (more_follow m) s

-- what is held of the clocks of messages
abbrev pub clocks_of : List AnyMessage → ClockSurvey
clocks_of [] = no_clocks
clocks_of (m ∷ before) = with_clock_of m (clocks_of before)

-- what is held of clocks: an entry, or none
abbrev pub clocks_at : {A : Type 0} → Vec ClockSurvey A → ClockSurvey
clocks_at entries = get_or entries.items 0 no_clocks
