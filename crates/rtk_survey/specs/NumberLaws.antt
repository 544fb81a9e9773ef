-- Laws of the numbers of a summary: equal lines tell equal numbers, as far as a u64 holds them. Lists
-- of frames, messages, faults and times are newest first.
use Rattle.std.specs.Prelude.{◌≡◌, ◌≢◌, ◌≤◌, ◌<◌, ◌^◌, ℕ, Bool, List, [], length}
use Rattle.std.specs.List.{AllByRecursion, count_by}
use Rattle.rtk_survey.specs.declared.equipment.Equipment.{Equipment}
use Rattle.rtk_message.specs.declared.any_message.AnyMessage.{AnyMessage}
use Rattle.rtk_message.specs.declared.any_fault.AnyFault.{AnyFault}
use Rattle.rtk_message.specs.declared.msm_kind.MsmKind.{MsmKind}
use Rattle.rtk_message.specs.Systems.{number_of_kind}
use Rattle.rtk_obs.specs.declared.any_code.AnyCode.{AnyCode}
use Rattle.rtk_obs.specs.declared.code.Code.{Code}
use Rattle.rtk_survey.specs.Proposal.{epochs_in, times_with_value, epochs_with_value, proposed}
use Rattle.rtk_survey.specs.ReadFrames.{ReadFrame, bytes_in}
use Rattle.rtk_survey.specs.Summary.{station_lines, unread_lines, summary_text}
use Rattle.rtk_survey.specs.SummaryText.{number_line, counted_line, numbered_line, message_numbers, time_lines, all_codes_text, proposal_lines}
use Rattle.rtk_survey.specs.Tracing.{is_numbered, is_other, is_short, is_outside_week, is_no_number, is_too_many_cells, times_of_week, oldest_time, newest_time, changes_in}
use Rattle.rtk_survey.specs.declared.station_dates.StationDates.{StationDates}

-- a u64 holds the number
abbrev pub IsHeld : ℕ → Type 0
IsHeld n = n < 2 ^ 64

-- ---- lines

abbrev pub NumberLineTells : Type 0
NumberLineTells = (words : List ℕ) (m n : ℕ) → IsHeld m → IsHeld n → number_line words m ≡ number_line words n → m ≡ n

-- no line tells the count 0
abbrev pub CountedLineTells : Type 0
CountedLineTells = (words : List ℕ) (m n : ℕ) → IsHeld m → IsHeld n → counted_line words m ≡ counted_line words n → m ≡ n

-- the count, and the number of the message if there is a line
abbrev pub NumberedLineTells : Type 0
NumberedLineTells =
    (words : List ℕ) (number other m n : ℕ) → IsHeld number → IsHeld other → IsHeld m → IsHeld n
    → numbered_line words number m ≡ numbered_line words other n → (m ≡ n) × (0 < m → number ≡ other)

-- times whose lines are equal
pub record TimesAreAlike (ts us : List ℕ) : Type 0 where
  pub first : oldest_time ts ≡ oldest_time us
  pub last : newest_time ts ≡ newest_time us
  pub changes : changes_in ts ≡ changes_in us

abbrev pub TimeLinesTell : Type 0
TimeLinesTell =
    (ts us : List ℕ) → AllByRecursion IsHeld ts → AllByRecursion IsHeld us → IsHeld (length ts) → IsHeld (length us)
    → time_lines ts ≡ time_lines us → TimesAreAlike ts us

-- two commands that name the same MSM tell as many epochs of each other one, and one station
pub record ProposalsAreAlike (station : ℕ) (epochs : MsmKind → ℕ) (names : List ℕ) (other : ℕ) (others : MsmKind → ℕ) : Type 0 where
  pub epochs_are : (kind : MsmKind) → number_of_kind kind ≢ number_of_kind (proposed epochs) → epochs kind ≡ others kind
  pub station_is : names ≢ [] → station ≡ other

abbrev pub ProposalLinesTell : Type 0
ProposalLinesTell =
    (name names near far : List ℕ) (station other : ℕ) (epochs others : MsmKind → ℕ) (code test : MsmKind → Code → Bool)
    (beside tested : AnyCode → Bool) (options choices : MsmKind → List ℕ) → IsHeld station → IsHeld other
    → ((kind : MsmKind) → IsHeld (epochs kind)) → ((kind : MsmKind) → IsHeld (others kind)) → proposed epochs ≡ proposed others
    → proposal_lines name near station epochs code beside options ≡ proposal_lines names far other others test tested choices
    → ProposalsAreAlike station epochs (all_codes_text (code (proposed epochs)) beside) other others

-- a number of epochs is how many there are
abbrev pub EpochsAreCounted : Type 0
EpochsAreCounted =
    (kind : MsmKind) (ms : List AnyMessage) → IsHeld (epochs_in (times_with_value kind ms))
    → epochs_with_value kind ms ≡ epochs_in (times_with_value kind ms)

-- ---- a summary

-- two captures of so many bytes with these frames have as many bytes, in frames and outside, and as
-- many frames
pub record CapturesAreAlike (size : ℕ) (fs : List ReadFrame) (other : ℕ) (gs : List ReadFrame) : Type 0 where
  pub bytes : size ≡ other
  pub framed : bytes_in fs ≡ bytes_in gs
  pub frames : length fs ≡ length gs

abbrev pub SummaryTellsFrames : Type 0
SummaryTellsFrames =
    (name names text other : List ℕ) (fs gs : List ReadFrame) → IsHeld (length text) → IsHeld (length other)
    → bytes_in fs ≤ length text → bytes_in gs ≤ length other
    → summary_text name text fs ≡ summary_text names other gs → CapturesAreAlike (length text) fs (length other) gs

-- the messages of two stations are as many of each number, with the same first and last time and as
-- many changes of the epoch
pub record StationsAreAlike (station : ℕ) (ms : List AnyMessage) (other : ℕ) (ns : List AnyMessage) : Type 0 where
  pub number : station ≡ other
  pub counts : AllByRecursion (λ n. count_by (is_numbered n) ms ≡ count_by (is_numbered n) ns) message_numbers
  pub times : TimesAreAlike (times_of_week ms) (times_of_week ns)

abbrev pub StationLinesTell : Type 0
StationLinesTell =
    (name names : List ℕ) (station other : ℕ) (ms ns : List AnyMessage) (d dates : StationDates) (e equipment : Equipment)
    → IsHeld station → IsHeld other → IsHeld (length ms) → IsHeld (length ns)
    → AllByRecursion IsHeld (times_of_week ms) → AllByRecursion IsHeld (times_of_week ns)
    → station_lines name station ms d e ≡ station_lines names other ns dates equipment → StationsAreAlike station ms other ns

-- of each fault there are as many, for each number of a message
pub record FaultsAreAlike (fs gs : List AnyFault) : Type 0 where
  pub others : (n : ℕ) → n < 4096 → count_by (is_other n) fs ≡ count_by (is_other n) gs
  pub no_number : count_by is_no_number fs ≡ count_by is_no_number gs
  pub short : (n : ℕ) → n < 4096 → count_by (is_short n) fs ≡ count_by (is_short n) gs
  pub outside_week : (n : ℕ) → n < 4096 → count_by (is_outside_week n) fs ≡ count_by (is_outside_week n) gs
  pub too_many_cells : (n : ℕ) → n < 4096 → count_by (is_too_many_cells n) fs ≡ count_by (is_too_many_cells n) gs

abbrev pub UnreadLinesTell : Type 0
UnreadLinesTell =
    (fs gs : List AnyFault) → IsHeld (length fs) → IsHeld (length gs) → unread_lines fs ≡ unread_lines gs → FaultsAreAlike fs gs
