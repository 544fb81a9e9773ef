use Rattle.std.proofs.Common.{◌∙◌, rules}
use Rattle.std.specs.Prelude.{MatchOption}
use Rattle.rtk_obs.specs.Coordinates.{AreCoordinates}
use Rattle.rtk_obs.specs.PositionFields.{HasFields}
use Rattle.rtk_rinex.proofs.HeaderShownLemmas.{place_is, position_read}
use Rattle.rtk_rinex.proofs.header_check.read_place.Goals as goal

pub returns : goal.returns
returns c = λ s h line.
    let p = place_is c.args.text.now line.0 s h line.1 in
    let x = c.signed_number_at.result in
    let y = c.signed_number_at-2.result in
    let z = c.signed_number_at-3.result in
    let read : MatchOption c.new.result (¬ (AreCoordinates x y z)) (HasFields x y z 0) = search rules in
    position_read c.new.result x y z 0 s h (c.signed_number_at.ensures ∙ p.first) (c.signed_number_at-2.ensures ∙ p.second) (c.signed_number_at-3.ensures ∙ p.third) read
