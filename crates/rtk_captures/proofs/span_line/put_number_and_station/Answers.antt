use Rattle.std.proofs.Common.{◌++◌, ap, ◌∙◌, codes, decimal}
use Rattle.rtk_survey.proofs.PublicLaws.{four-parts}
use Rattle.rtk_captures.proofs.span_line.put_number_and_station.Goals as goal

pub returns : goal.returns
returns c =
    c.in_ok-put_named-2.ensures
    ∙ ap (λ l. (l ++ codes " of station ") ++ decimal c.args.station) c.in_ok-put_named.ensures
    ∙ four-parts c.args.line.now.items (codes " by ") (decimal c.args.number) (codes " of station ") (decimal c.args.station)
