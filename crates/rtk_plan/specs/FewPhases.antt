-- Codes with few phases, by the surveys of captures (this project's rule).
use Rattle.std.specs.Prelude.{ℕ, ◌+◌, ◌*◌, Bool, ◌||◌, nat_lt, max, List, [], ◌∷◌, Option, None, Some, if◌then◌else◌}
use Rattle.std.specs.BTreeMap.{get}
use Rattle.std.specs.List.{list_any, sum_by, range_with_len}
use Rattle.std.specs.Ordering.{nat_cmp}
use Rattle.rtk_message.specs.declared.system.System.{System}
use Rattle.rtk_message.specs.declared.system.System.TheVariants.{Gps, Glonass, Galileo, Beidou, Qzss, Sbas, Navic}
use Rattle.rtk_message.specs.Systems.{number_of_type}
use Rattle.rtk_obs.specs.AnyCode.{system_of, place_of}
use Rattle.rtk_obs.specs.declared.any_code.AnyCode.{AnyCode}
use Rattle.rtk_setup.specs.Setup.{kind_of}
use Rattle.rtk_survey.specs.Counting.{shown_count}
use Rattle.rtk_survey.specs.Phases.{no_phases, table_of_msm, count_in}
use Rattle.rtk_survey.specs.SystemPhases.{table_of_phases}
use Rattle.rtk_survey.specs.declared.phases.PhaseCount.{PhaseCount}
use Rattle.rtk_survey.specs.declared.survey.CaptureSurvey.{CaptureSurvey}
use Rattle.rtk_survey.specs.declared.target.TargetSurvey.{TargetSurvey}
use Rattle.rtk_captures.specs.StationCaptures.{is_station}
use Rattle.rtk_systems.specs.Values.{is_gps_system}
use Rattle.rtk_systems.specs.declared.values.TakenMessages.{TakenMessages}
use Rattle.rtk_plan.specs.declared.few_phases.CountedPhases.{CountedPhases}
use Rattle.rtk_plan.specs.declared.few_phases.PhaseSource.{PhaseSource}
use Rattle.rtk_plan.specs.declared.few_phases.PhaseSource.TheVariants.{Gps1004, GpsMsm, Number}

-- ---- the tables of a capture

-- the station of which phases are held
abbrev pub counted_station : PhaseSource → TargetSurvey → Option ℕ
counted_station Gps1004 t = t.dates.station
counted_station (GpsMsm kind) t = t.dates.station
counted_station (Number number) t = t.system_phases.station

abbrev pub table_for : PhaseSource → TargetSurvey → List PhaseCount
table_for Gps1004 t = t.phases.of_1004.items
table_for (GpsMsm kind) t = table_of_msm t.phases kind
table_for (Number number) t = table_of_phases (get nat_cmp t.system_phases.tables number)

abbrev pub table_if : ℕ → PhaseSource → Option TargetSurvey → List PhaseCount
table_if n source None = []
table_if n source (Some t) = if is_station n (counted_station source t) then table_for source t else []

-- the phases of a station in the messages of one kind of a capture
abbrev pub table_in : ℕ → PhaseSource → CaptureSurvey → List PhaseCount
table_in n source s = table_if n source s.contents.target

-- ---- those of captures

-- of two captures
abbrev pub added_count : PhaseCount → PhaseCount → PhaseCount
added_count a b = record { has_value = a.has_value || b.has_value; phases = shown_count (a.phases + b.phases) }

abbrev pub counts_after : PhaseCount → ℕ → PhaseSource → ℕ → ℕ → List CaptureSurvey → PhaseCount
counts_after count n source bit code [] = count
counts_after count n source bit code (s ∷ ss) = counts_after (added_count count (count_in (table_in n source s) bit code)) n source bit code ss

-- what a satellite has of a code in the messages of one kind of captures
abbrev pub count_in_captures : List CaptureSurvey → ℕ → PhaseSource → ℕ → ℕ → PhaseCount
count_in_captures ss n source bit code = counts_after no_phases n source bit code ss

-- ---- the messages of a system

-- the messages beside the MSM from which a conversion takes values of a system: 1004, and 1012 if it is taken
abbrev pub legacy_source : TakenMessages → System → Option PhaseSource
legacy_source taken Gps = Some Gps1004
legacy_source taken Glonass = if taken.obs1012 then Some (Number 1012) else None
legacy_source taken Galileo = None
legacy_source taken Beidou = None
legacy_source taken Qzss = None
legacy_source taken Sbas = Some (Number 1004)
legacy_source taken Navic = None

abbrev pub msm_source : TakenMessages → System → PhaseSource
msm_source taken system =
    if is_gps_system system then GpsMsm taken.kinds.gps else Number (number_of_type (record { system = system; kind = kind_of taken.kinds system }))

-- the messages from which a conversion takes values of a system
abbrev pub counted_phases : TakenMessages → System → CountedPhases
counted_phases taken system = record { legacy = legacy_source taken system; msm = msm_source taken system }

-- ---- a code with few phases

-- formula
-- an observation that comes in both kinds of messages counts once: the greater of both numbers
abbrev pub joined_count : PhaseCount → PhaseCount → PhaseCount
joined_count a b = record { has_value = a.has_value || b.has_value; phases = max a.phases b.phases }

abbrev pub count_if_any : List CaptureSurvey → ℕ → Option PhaseSource → ℕ → ℕ → PhaseCount
count_if_any ss n None bit code = no_phases
count_if_any ss n (Some source) bit code = count_in_captures ss n source bit code

-- what a satellite has of a code in the messages of its system
abbrev pub code_count : List CaptureSurvey → ℕ → CountedPhases → ℕ → ℕ → PhaseCount
code_count ss n from bit code = joined_count (count_if_any ss n from.legacy bit code) (count_in_captures ss n from.msm bit code)

abbrev pub phases_if : Bool → ℕ → ℕ
phases_if counts n = if counts then n else 0

-- how many phases a satellite has in another code, if it has a value in this one
abbrev pub phases_of : List CaptureSurvey → ℕ → CountedPhases → ℕ → ℕ → ℕ → ℕ
phases_of ss n from code other bit = phases_if (code_count ss n from bit code).has_value (code_count ss n from bit other).phases

-- formula
-- how many phases the satellites that have a value in one code have in another: those of the mask bits (DF394) from 1 to 63
unfoldable pub phases_shared : List CaptureSurvey → ℕ → CountedPhases → ℕ → ℕ → ℕ
phases_shared ss n from code other = sum_by (phases_of ss n from code other) (range_with_len 1 63)

-- formula
-- the satellites that have the code have more than twice as many phases in another one of their system, which has at most
-- 16 codes
abbrev pub has_few_phases : List CaptureSurvey → ℕ → CountedPhases → ℕ → Bool
has_few_phases ss n from code =
    list_any (λ other. nat_lt (2 * phases_shared ss n from code code) (phases_shared ss n from code other)) (range_with_len 0 16)

-- the same of a code by the messages of its system
abbrev pub has_few_phases_of : List CaptureSurvey → ℕ → TakenMessages → AnyCode → Bool
has_few_phases_of ss n taken c = has_few_phases ss n (counted_phases taken (system_of c)) (place_of c)
