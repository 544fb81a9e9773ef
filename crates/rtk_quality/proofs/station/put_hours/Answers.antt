use Rattle.std.proofs.Common.{◌++◌, ℕ, List, ap, ◌∙◌}
use Rattle.std.specs.Prelude.{codes, flat_map}
use Rattle.rtk_quality.specs.Entries.{hour_entry}
use Rattle.rtk_quality.specs.Lists.{opening}
use Rattle.rtk_quality.specs.Strengths.{system_of_codes}
use Rattle.rtk_quality.specs.QualityText.{hours_heading, hours_text}
use Rattle.rtk_quality.proofs.ListTextLemmas.{list-is}
use Rattle.rtk_quality.proofs.station.put_hours.Goals as goal

pub returns : goal.returns
unfolding hours_text
returns c =
    list-is c.args.form (hours_heading (system_of_codes c.args.codes.now)) (codes ",\n\"hours\":[") (flat_map (hour_entry c.args.form c.args.codes.now) c.args.hours.now) c.args.text.now.items c.begin_list.new.text.items c.put_each_hour.new.text.items c.end_list.new.text.items _ _
    (c.in_ok-start.ensures.text
    ∙ ap (λ (heading : List ℕ). c.args.text.now.items ++ opening c.args.form heading (codes ",\n\"hours\":[")) (c.hours_heading-heading.ensures ∙ ap hours_heading c.system_of_codes.ensures))
    c.in_ok-start.ensures.list c.in_ok-start.ensures.entries c.in_ok-put_each_hour.ensures c.in_ok-end_list.ensures
