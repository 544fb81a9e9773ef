use Rattle.std.proofs.Common.{◌++◌, ℕ, List, Option, ap, ◌∙◌, append_assoc}
use Rattle.rtk_rinex.specs.MixedHead.{GlonassView, MixedHeadView}
use Rattle.rtk_plan.specs.LeapLines.{seconds_of_file, other_leap_lines, found_leap_line}
use Rattle.rtk_plan.proofs.leap_lines.put_leap_in.Goals as goal

pub returns : goal.returns
returns c =
    let plan = c.args.plan.now in
    let old : List ℕ = c.args.lines.now.items in
    let mid : List ℕ = c.put_other_leap_in.new.lines.items in
    let told : List ℕ =
    other_leap_lines c.args.captures.now.names.now plan.setup.station c.args.captures.now.surveys.now
    (seconds_of_file plan.setup.leap_seconds plan.span) plan.setup.head.glonass in
    let found : List ℕ = found_leap_line plan.are_seconds_found plan.setup.head.glonass in
    c.in_ok-put_found_leap.ensures
    ∙ ap (λ (g : Option GlonassView). mid ++ found_leap_line plan.are_seconds_found g) (c.glonass.ensures.value ∙ ap (λ (h : MixedHeadView). h.glonass) c.head.ensures.value)
    ∙ ap (λ (l : List ℕ). l ++ found) c.in_ok-put_other_leap_in.ensures
    ∙ append_assoc old told found
