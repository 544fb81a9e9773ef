-- What a capture tells of the moment of its first epoch (this project's rule).
use Rattle.std.specs.Prelude.{ℕ, ◌+◌, ◌-◌, ◌*◌, ◌%◌, ◌==◌, Bool, true, false, ◌&&◌, nat_le, nat_lt, List, [], ◌∷◌, ◌++◌, length, Option, None, Some, if◌then◌else◌}
use Rattle.std.specs.List.{list_any}
use Rattle.arrayvec.specs.ArrayVec.{ArrayVec}
use Rattle.rtk_message.specs.Fields.{week_ms}
use Rattle.rtk_survey.specs.Epochs.{with_time, begun, last_time_of_week}
use Rattle.rtk_survey.specs.FarDates.{far_date, far_from_next, last_far_date, first_far_date}
use Rattle.rtk_survey.specs.Telling.{half_week_ms, told, own_moment}
use Rattle.rtk_survey.specs.declared.capture_dates.CaptureDates.{CaptureDates}
use Rattle.rtk_survey.specs.declared.date_message.DateMessage.{DateMessage}
use Rattle.rtk_survey.specs.declared.date_message.DateMessage.TheVariants.{Utc, Ephemeris, OtherEphemeris}
use Rattle.rtk_survey.specs.declared.far_date.FarDate.{FarDate}
use Rattle.rtk_survey.specs.declared.span.Span.{Span}
use Rattle.rtk_survey.specs.declared.tellings.Told.{Told}
use Rattle.rtk_survey.specs.declared.tellings.Tellings.{Tellings}

-- ---- the first epoch that one message tells

-- constant
-- a moment near which a conversion dates: 1980-01-13 00:00:00.000 to 2099-12-31 23:59:59.999
abbrev pub is_reference : ℕ → Bool
is_reference t = nat_le week_ms t && nat_le t 3_786_479_999_999

-- formula
-- the first epoch, if the last one so far is at this moment; others than references tell nothing
abbrev pub first_epoch_from : Span → Option ℕ → Option ℕ
first_epoch_from s None = None
first_epoch_from s (Some t) = if is_reference (t + s.first - s.last) then Some (t + s.first - s.last) else None

-- the first epoch that a message tells after these epochs, by the present
abbrev pub first_epoch_told : ℕ → Span → DateMessage → Option ℕ
first_epoch_told now s d = first_epoch_from s (told now d (last_time_of_week s))

-- ---- what all messages tell

abbrev pub tells_same : ℕ → Told → Bool
tells_same first x = x.first == first

-- constant
-- the first 16 first epochs that differ, each with the message that told it first
abbrev pub with_told : ArrayVec Told → Told → ArrayVec Told
with_told list x =
    if list_any (tells_same x.first) list.items then list else
    if nat_lt (length list.items) 16 then record { items = list.items ++ x ∷ [] } else list

abbrev pub told_first : DateMessage → ℕ → Told
told_first d first = record { message = d; first = first }

-- dates of the station, those of ephemerides of GPS and of other systems, and dates of other stations stand apart
abbrev pub with_first : ℕ → DateMessage → ℕ → Tellings → Tellings
with_first station (Utc d) first t =
    if d.station == station then record t { own = with_told t.own (told_first (Utc d) first) }
    else record t { others = with_told t.others (told_first (Utc d) first) }
with_first station (Ephemeris e) first t = record t { weeks = with_told t.weeks (told_first (Ephemeris e) first) }
with_first station (OtherEphemeris w) first t = record t { system_weeks = with_told t.system_weeks (told_first (OtherEphemeris w) first) }

abbrev pub with_first_if_any : ℕ → DateMessage → Option ℕ → Tellings → Tellings
with_first_if_any station d None t = t
with_first_if_any station d (Some first) t = with_first station d first t

-- a date more that may be far from the epoch beside it
abbrev pub with_far_date : Option FarDate → Tellings → Tellings
with_far_date more t = record t { far = first_far_date t.far more }

-- a date more that may be far from the epoch before it: the one behind it tells whether it counts
abbrev pub with_waiting_far : Option FarDate → Tellings → Tellings
with_waiting_far more t = record t { waiting_far = last_far_date t.waiting_far more }

-- an epoch at this time of week, behind the dates that wait for it
abbrev pub with_epoch_behind : ℕ → ℕ → Tellings → Tellings
with_epoch_behind now tow t = record t { far = first_far_date t.far (far_from_next now tow t.waiting_far); waiting_far = None }

-- a message more after these epochs of the station
abbrev pub with_telling_behind : ℕ → ℕ → Span → DateMessage → Tellings → Tellings
with_telling_behind now station s d t =
    with_first_if_any station d (first_epoch_told now s d) (with_waiting_far (far_date now station s d) t)

-- a message more that came before the first epoch of the station
abbrev pub with_telling : ℕ → ℕ → Span → DateMessage → Tellings → Tellings
with_telling now station s d t = with_first_if_any station d (first_epoch_told now s d) (with_far_date (far_date now station s d) t)

-- messages more, in this order
abbrev pub with_tellings : ℕ → ℕ → Span → List DateMessage → Tellings → Tellings
with_tellings now station s [] t = t
with_tellings now station s (d ∷ ds) t = with_tellings now station s ds (with_telling now station s d t)

abbrev pub no_tellings : Tellings
no_tellings =
    record {
      own = record { items = [] };
      weeks = record { items = [] };
      system_weeks = record { items = [] };
      others = record { items = [] };
      far = None;
      waiting_far = None;
    }

-- ---- the capture so far

abbrev pub no_dates : CaptureDates
no_dates = record { span = None; waiting = record { items = [] }; waiting_weeks = record { items = [] }; told = no_tellings }

-- constant
-- a message before the first epoch waits for it; 64 wait at most, and others are passed over
abbrev pub with_waiting_date : CaptureDates → DateMessage → CaptureDates
with_waiting_date c d = if nat_lt (length c.waiting.items) 64 then record c { waiting = record { items = c.waiting.items ++ d ∷ [] } } else c

-- constant
-- ephemerides of other systems than GPS wait apart from these, 16 at most, so that they take the place of none
abbrev pub with_waiting_week : CaptureDates → DateMessage → CaptureDates
with_waiting_week c d =
    if nat_lt (length c.waiting_weeks.items) 16 then record c { waiting_weeks = record { items = c.waiting_weeks.items ++ d ∷ [] } } else c

abbrev pub with_waiting : CaptureDates → DateMessage → CaptureDates
with_waiting c (Utc d) = with_waiting_date c (Utc d)
with_waiting c (Ephemeris e) = with_waiting_date c (Ephemeris e)
with_waiting c (OtherEphemeris w) = with_waiting_week c (OtherEphemeris w)

-- the first epoch of the station, which the messages that wait tell
abbrev pub with_first_epoch : ℕ → ℕ → CaptureDates → Span → CaptureDates
with_first_epoch now station c s =
    record {
      span = Some s;
      waiting = record { items = [] };
      waiting_weeks = record { items = [] };
      told = with_tellings now station s c.waiting_weeks.items (with_tellings now station s c.waiting.items c.told);
    }

-- after some epochs, or none: the time of week of an epoch more of the station
abbrev pub with_epoch_after : ℕ → ℕ → Option Span → CaptureDates → ℕ → CaptureDates
with_epoch_after now station None c tow = with_first_epoch now station c (begun tow)
with_epoch_after now station (Some s) c tow = record c { span = Some (with_time s tow); told = with_epoch_behind now tow c.told }

abbrev pub with_epoch_time : ℕ → ℕ → CaptureDates → ℕ → CaptureDates
with_epoch_time now station c tow = with_epoch_after now station c.span c tow

-- after some epochs, or none: a date message more
abbrev pub with_date_after : ℕ → ℕ → Option Span → CaptureDates → DateMessage → CaptureDates
with_date_after now station None c d = with_waiting c d
with_date_after now station (Some s) c d = record c { told = with_telling_behind now station s d c.told }

abbrev pub with_date : ℕ → ℕ → CaptureDates → DateMessage → CaptureDates
with_date now station c d = with_date_after now station c.span c d

-- ---- the dates of the station

-- the first epoch that a message tells after these epochs, if it is of the station
abbrev pub first_if_own : Bool → ℕ → Span → DateMessage → Option ℕ
first_if_own false now s d = None
first_if_own true now s d = first_epoch_told now s d

-- a 1013 or a 1029 of this station
abbrev pub is_own : ℕ → DateMessage → Bool
is_own station (Utc d) = d.station == station
is_own station (Ephemeris e) = false
is_own station (OtherEphemeris w) = false

-- the first epoch that a message tells, if it is a 1013 or a 1029 of this station and an epoch came
abbrev pub first_by_own_after : ℕ → ℕ → Option Span → DateMessage → Option ℕ
first_by_own_after now station None d = None
first_by_own_after now station (Some s) d = first_if_own (is_own station d) now s d

abbrev pub first_by_own : ℕ → ℕ → CaptureDates → DateMessage → Option ℕ
first_by_own now station c d = first_by_own_after now station c.span d

-- ---- which of them count

-- the first of these lists that is not empty
abbrev pub or_else : List Told → List Told → List Told
or_else [] others = others
or_else (x ∷ xs) others = x ∷ xs

-- constant
-- a week of GPS tells the moment that a week of another system tells, within half a week, but for one or more times
-- the 1,024 weeks after which the week of GPS (DF076) begins anew
abbrev pub is_rolled_over : Told → Told → Bool
is_rolled_over s w =
    nat_le week_ms (w.first - s.first)
    && nat_lt (((w.first - s.first) % (1024 * week_ms) + half_week_ms) % (1024 * week_ms)) week_ms

abbrev pub is_one_rolled_over : List Told → Told → Bool
is_one_rolled_over ws s = list_any (is_rolled_over s) ws

-- a week of another system tells which of the moments 1,024 weeks apart a week of GPS means, and it is not the latest
abbrev pub do_system_weeks_decide : Tellings → Bool
do_system_weeks_decide t = list_any (is_one_rolled_over t.weeks.items) t.system_weeks.items

-- the dates of the station; if there are none, those of ephemerides of GPS; if none, those of other stations; if none,
-- those of ephemerides of other systems; these count before ephemerides of GPS if they tell that the week of GPS is
-- an earlier one
abbrev pub counting : Tellings → List Told
counting t =
    or_else t.own.items
    (if do_system_weeks_decide t then t.system_weeks.items else or_else t.weeks.items (or_else t.others.items t.system_weeks.items))

-- ---- a capture without an epoch

-- the earlier of two moments, of two alike the one that was named first
abbrev pub earlier_told : Option Told → Told → Option Told
earlier_told None x = Some x
earlier_told (Some known) x = if nat_lt x.first known.first then Some x else Some known

abbrev pub earliest_after : Option Told → List Told → Option Told
earliest_after known [] = known
earliest_after known (x ∷ xs) = earliest_after (earlier_told known x) xs

-- the earliest of these moments
abbrev pub earliest_telling : List Told → Option Told
earliest_telling ts = earliest_after None ts

abbrev pub reference_if_any : Option ℕ → Option ℕ
reference_if_any None = None
reference_if_any (Some t) = if is_reference t then Some t else None

-- the moment that a message names itself, by the present, if a conversion dates near it
abbrev pub reference_named : ℕ → DateMessage → Option ℕ
reference_named now d = reference_if_any (own_moment now d)

abbrev pub with_own_moment : ℕ → ℕ → DateMessage → Tellings → Tellings
with_own_moment now station d t = with_first_if_any station d (reference_named now d) t

abbrev pub with_own_moments : ℕ → ℕ → List DateMessage → Tellings → Tellings
with_own_moments now station [] t = t
with_own_moments now station (d ∷ ds) t = with_own_moments now station ds (with_own_moment now station d t)

-- the earliest moment of those that these messages name and that count, chosen as among first epochs
abbrev pub own_moment_after : ℕ → ℕ → Option Span → List DateMessage → List DateMessage → Option Told
own_moment_after now station None ds ws =
    earliest_telling (counting (with_own_moments now station ws (with_own_moments now station ds no_tellings)))
own_moment_after now station (Some s) ds ws = None

abbrev pub own_moment_of : ℕ → ℕ → CaptureDates → Option Told
own_moment_of now station c = own_moment_after now station c.span c.waiting.items c.waiting_weeks.items
