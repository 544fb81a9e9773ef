use Rattle.std.proofs.Common.{◌≡◌, ◌≤◌, ◌∙◌, ◌*◌, List, ap, arith, take, is_some, ℤ, Option, length, rules}
use Rattle.std.specs.List.{count_by}
use Rattle.std.proofs.lemmas.List.{take_all}
use Rattle.std.proofs.lemmas.List.Sums.{count_by-le-length}
use Rattle.rtk_obs.specs.Carriers.{AreChannels}
use Rattle.rtk_rinex.proofs.mixed_header_text.slots_text.Goals as goal

pub returns-clause-len : goal.returns-clause-len
returns-clause-len c =
    let good : AreChannels c.args.channels = search rules in
    let whole : take c.loop-before.before c.args.channels ≡ c.args.channels = take_all c.loop-before.before c.args.channels (omega arith) in
    c.loop-before.invariant.len ∙ ap (λ (ks : List (Option ℤ)). 7 * count_by is_some ks) whole

pub returns-clause-few : goal.returns-clause-few
returns-clause-few c =
    let good : AreChannels c.args.channels = search rules in
    let few : count_by is_some c.args.channels ≤ length c.args.channels = count_by-le-length is_some c.args.channels in
    omega arith
