-- Where a capture begins anew: its 1013 and 1029 of the station tell one date, and then a second one
-- (this project's rule). An epoch begins with its first message, which is perhaps of GLONASS or BeiDou and gives no epoch.
use Rattle.std.specs.Prelude.{ℕ, ◌+◌, ◌-◌, ◌%◌, ◌==◌, Bool, true, false, not, ◌&&◌, ◌||◌, nat_le, nat_lt, min, List, [], ◌∷◌, Option, None, Some, is_some, if◌then◌else◌}
use Rattle.rtk_message.specs.declared.any_message.AnyMessage.{AnyMessage}
use Rattle.rtk_message.specs.AnyDecoded.{station_of}
use Rattle.rtk_survey.specs.CaptureDates.{first_by_own}
use Rattle.rtk_survey.specs.Chains.{clock_of, more_follow, differs_in_time}
use Rattle.rtk_survey.specs.Telling.{day_ms}
use Rattle.rtk_survey.specs.declared.clock_chains.ClockTold.{ClockTold}
use Rattle.rtk_survey.specs.declared.capture_dates.CaptureDates.{CaptureDates}
use Rattle.rtk_survey.specs.declared.date_message.DateMessage.{DateMessage}
use Rattle.rtk_survey.specs.declared.parting.ChainStart.{ChainStart}
use Rattle.rtk_survey.specs.declared.parting.EpochStep.{EpochStep}
use Rattle.rtk_survey.specs.declared.parting.Parting.{Parting}
use Rattle.rtk_survey.specs.declared.span.Span.{Span}
use Rattle.rtk_survey.specs.declared.tellings.Told.{Told}

abbrev pub no_parting : Parting
no_parting = record { start = None; step = None; second = None; is_known = false }

-- ---- steps of the epochs

-- formula
-- how far two moments are apart
abbrev pub apart_ms : ℕ → ℕ → ℕ
apart_ms a b = (a - b) + (b - a)

-- constant
-- the next epoch is before the last one, or more than 60 s after it
abbrev pub is_time_break : ℕ → ℕ → Bool
is_time_break before after = nat_lt after before || nat_lt (before + 60_000) after

-- the greater of two steps, of two alike the later
abbrev pub greater_step : Option EpochStep → EpochStep → EpochStep
greater_step None more = more
greater_step (Some s) more = if nat_lt more.ms s.ms then s else more

abbrev pub step_with : Option EpochStep → ℕ → ℕ → ℕ → Option EpochStep
step_with step before after frame =
    if is_time_break before after then Some (greater_step step (record { ms = apart_ms before after; frame = frame })) else step

-- the next epoch; the first one behind the message of the second date is the last that counts
abbrev pub with_step : ℕ → ℕ → ℕ → Parting → Parting
with_step before after frame p =
    if (before == after) || p.is_known then p else
    record p { step = step_with p.step before after frame; is_known = is_some p.second }

-- a message more, before and after which these are the epochs
abbrev pub with_epochs : Option Span → Option Span → ℕ → Parting → Parting
with_epochs None after frame p = p
with_epochs (Some a) None frame p = p
with_epochs (Some a) (Some b) frame p = with_step a.last b.last frame p

-- ---- the first message of an epoch

-- formula
-- two times are at most 60 s apart in the day. Times of GLONASS lack the leap seconds
abbrev pub is_within_minute : ℕ → ℕ → Bool
is_within_minute a b = nat_le ((a % day_ms + (day_ms + 60_000) - b % day_ms) % day_ms) 120_000

-- a message stands in the chain that begins so. If a chain has no end, it can be of the session before
abbrev pub is_in_chain : ChainStart → ClockTold → Bool
is_in_chain s c = is_within_minute s.clock.time c.time && not (differs_in_time s.clock c)

-- the beginning of the chain in which a message stands, which may be this message
abbrev pub start_of_chain : Option ChainStart → ChainStart → ChainStart
start_of_chain None m = m
start_of_chain (Some s) m = if is_in_chain s m.clock then s else m

abbrev pub start_behind : Bool → ChainStart → Option ChainStart
start_behind more s = if more then Some s else None

-- a message more of the chain that begins so
abbrev pub with_message_in_chain : ChainStart → Bool → Option Span → Option Span → Parting → Parting
with_message_in_chain s more before after p = with_epochs before after s.frame (record p { start = start_behind more s })

abbrev pub parting_with_clock : Option ClockTold → Bool → Option Span → Option Span → ℕ → Parting → Parting
parting_with_clock None more before after frame p = p
parting_with_clock (Some c) more before after frame p =
    with_message_in_chain (start_of_chain p.start (record { clock = c; frame = frame })) more before after p

-- the clock of a message, if it is of the station that is known
abbrev pub own_clock : Option ℕ → AnyMessage → Option ClockTold
own_clock None m = None
own_clock (Some station) m = if station == station_of m then clock_of m else None

-- a message more, after this station is known; before and after the message these are the epochs. Behind the first one chains are
-- followed
abbrev pub parting_with_message : Option ℕ → AnyMessage → Option Span → Option Span → ℕ → Parting → Parting
parting_with_message station m None after frame p = p
parting_with_message station m (Some a) after frame p = parting_with_clock (own_clock station m) (more_follow m) (Some a) after frame p

-- ---- dates

-- a 1013 or a 1029 of the station that tells the first date, or a second one
abbrev pub with_own_after : Option ℕ → Bool → ℕ → Parting → Parting
with_own_after None true frame p = record p { step = None }
with_own_after None false frame p = record p { second = Some frame }
with_own_after (Some second) is_first frame p = p

abbrev pub with_own : Bool → ℕ → Parting → Parting
with_own is_first frame p = with_own_after p.second is_first frame p

-- a message that tells this first epoch, after others; if two dates were told before an epoch came, no place parts
-- the capture
abbrev pub parting_with_told : List Told → ℕ → ℕ → Parting → Parting
parting_with_told [] first frame p = with_own true frame p
parting_with_told (x ∷ []) first frame p = with_own (x.first == first) frame p
parting_with_told (x ∷ y ∷ others) first frame p = p

abbrev pub parting_with_first : Option ℕ → CaptureDates → ℕ → Parting → Parting
parting_with_first None c frame p = p
parting_with_first (Some first) c frame p = parting_with_told c.told.own.items first frame p

-- a message more, if it has a date, after this station is known
abbrev pub parting_with_date : ℕ → Option ℕ → CaptureDates → Option DateMessage → ℕ → Parting → Parting
parting_with_date now None c m frame p = p
parting_with_date now (Some station) c None frame p = p
parting_with_date now (Some station) c (Some m) frame p = parting_with_first (first_by_own now station c m) c frame p

-- ---- the place

abbrev pub earlier_frame : Option EpochStep → ℕ → ℕ
earlier_frame None second = second
earlier_frame (Some s) second = min s.frame second

abbrev pub parted_by : Option EpochStep → Option ℕ → Option ℕ
parted_by step None = None
parted_by step (Some second) = Some (earlier_frame step second)

-- formula
-- how many frames come before the place at which a capture is parted: at the first message of the second date,
-- or at the first message of the epoch behind the greatest step of those that go back or are longer than 60 s, from the last
-- message of the first date to the epoch behind that message, whichever comes first
abbrev pub parted_frame : Parting → Option ℕ
parted_frame p = parted_by p.step p.second
