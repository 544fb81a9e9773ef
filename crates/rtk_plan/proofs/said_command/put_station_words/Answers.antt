use Rattle.std.proofs.Common.{◌++◌, ℕ, ap, ◌∙◌, codes, decimal}
use Rattle.rtk_plan.specs.SaidCommand.{station_words}
use Rattle.rtk_captures.specs.TimeText.{time_text}
use Rattle.rtk_survey.proofs.PublicLaws.{four-parts}
use Rattle.rtk_plan.proofs.said_command.put_station_words.Goals as goal

pub returns : goal.returns
unfolding station_words
returns c =
    c.in_ok-put_time.ensures
    ∙ ap (λ (t : ℕ). c.extend_from_slice.new.self.items ++ time_text t) c.near.ensures.value
    ∙ ap (λ l. l ++ time_text c.args.setup.now.near) (c.in_ok-extend_from_slice.ensures.items
    ∙ ap (λ l. l ++ codes " --near ") (c.in_ok-put_named.ensures
    ∙ ap (λ (n : ℕ). (c.args.line.now.items ++ codes "rtcm2rinex convert --station ") ++ decimal n) (c.from.ensures ∙ c.station.ensures.value)))
    ∙ four-parts c.args.line.now.items (codes "rtcm2rinex convert --station ") (decimal c.args.setup.now.station) (codes " --near ") (time_text c.args.setup.now.near)
