-- Lines of what is held of a capture.
use Rattle.std.specs.Prelude.{ℕ, ◌%◌, ◌==◌, Bool, ◌&&◌, List, [], ◌∷◌, ◌++◌, nat_lt, Option, None, Some, flat_map, codes, if◌then◌else◌}
use Rattle.std.specs.BTreeMap.{BTreeMap, get}
use Rattle.std.specs.Ordering.{nat_cmp}
use Rattle.rtk_survey.specs.Contents.{count_at, messages_of_msm, epochs_of_msm}
use Rattle.rtk_survey.specs.Look.{look_name}
use Rattle.rtk_survey.specs.Summary.{all_numbers}
use Rattle.rtk_survey.specs.SummaryText.{numbered_line, untaken_numbers}
use Rattle.rtk_survey.specs.declared.look.Look.{Look}
use Rattle.rtk_survey.specs.declared.station.StationSurvey.{StationSurvey}

-- a line for each number that has a count
unfoldable pub counts_text : List ℕ → BTreeMap ℕ ℕ → List ℕ
counts_text words counts = flat_map (λ n. numbered_line words n (count_at counts n)) all_numbers

-- a line for each message with GPS observations that is not read and has a count
unfoldable pub untaken_text : BTreeMap ℕ ℕ → List ℕ
untaken_text counts = flat_map (λ n. numbered_line (codes "untaken GPS ") n (count_at counts n)) untaken_numbers

-- what a file without a frame looks like
abbrev pub look_lines : Option Look → List ℕ
look_lines None = []
look_lines (Some look) = codes "looks-like " ++ look_name look ++ 10 ∷ []

-- table
-- how many messages of a number a station has
abbrev pub messages_held : StationSurvey → ℕ → ℕ
messages_held s n =
    if n == 1004 then s.counts.obs_1004 else
    if n == 1005 then s.counts.arp_1005 else
    if n == 1006 then s.counts.arp_1006 else
    if n == 1074 then s.msm.msm4.messages else
    if n == 1075 then s.msm.msm5.messages else
    if n == 1076 then s.msm.msm6.messages else
    if n == 1077 then s.msm.msm7.messages else messages_of_msm (get nat_cmp s.system_msm n)

-- how many epochs of the messages of a number have a value
abbrev pub system_epochs_held : StationSurvey → ℕ → ℕ
system_epochs_held s n = epochs_of_msm (get nat_cmp s.system_msm n)

-- formula
-- a message is counted under the slot and the field of a place, and RINEX has the channel
abbrev pub place_is_counted : BTreeMap ℕ ℕ → ℕ → Bool
place_is_counted counts place = nat_lt (place % 21) 14 && nat_lt 0 (count_at counts place)
