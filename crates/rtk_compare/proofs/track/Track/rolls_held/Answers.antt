use Rattle.std.proofs.Common.{◌≡◌, ◌∙◌, to_z, of_z, w64, arith}
use Rattle.std.proofs.lemmas.Int.{ints}
use Rattle.rtk_compare.specs.Steps.Tracks.{pair}
use Rattle.rtk_compare.proofs.TrackLemmas.{held-is}
use Rattle.rtk_compare.proofs.track.Track.rolls_held.Goals as goal

pub returns : goal.returns
returns c = λ earlier is.
    let before = c.rolls_before-before.result in
    let here = c.rolls_or_none-here.result in
    let was_same : to_z w64 (of_z w64 c.args.self.now.rolls) ≡ c.args.self.now.rolls = omega (arith, ints) in
    let before_same : to_z w64 (of_z w64 before) ≡ before = omega (arith, ints) in
    let here_same : to_z w64 (of_z w64 here) ≡ here = omega (arith, ints) in
    let kept_same : to_z w64 (of_z w64 c.rolls_kept.result) ≡ c.rolls_kept.result = omega (arith, ints) in
    kept_same
    ∙ held-is c.args.self.now earlier (pair c.args.old.now c.args.new.now) c.begins_anew-begins_anew.result (to_z w64 (of_z w64 c.args.self.now.rolls)) before (to_z w64 (of_z w64 before)) here (to_z w64 (of_z w64 here))
    c.rolls_kept.result c.args.rolls is (c.begins_anew-begins_anew.ensures earlier is) c.rolls_before-before.ensures was_same c.rolls_or_none-here.ensures c.requires c.rolls_kept.ensures before_same here_same
