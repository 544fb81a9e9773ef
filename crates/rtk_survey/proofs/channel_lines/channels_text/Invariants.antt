use Rattle.std.proofs.Common.{◌≡◌, ◌-◌, ◌++◌}
use Rattle.std.specs.Prelude.{filter}
use Rattle.std.specs.List.{range_with_len}
use Rattle.rtk_survey.specs.Steps.Tables.{place_is_counted}
use Rattle.rtk_survey.specs.SummaryText.{joined_channels}
use Rattle.rtk_survey.proofs.channel_lines.channels_text.Given as goal

-- the channels so far and those of the places that are left are all
abbrev pub invariant-loop-place : goal.invariant-loop-place
invariant-loop-place l =
    l.text.items ++ joined_channels l.separator (filter (place_is_counted l.counts) (range_with_len l.place (588 - l.place)))
    ≡ joined_channels 32 (filter (place_is_counted l.counts) (range_with_len 21 567))
