use Rattle.std.proofs.Common.{refl, ◌∙◌, ◌==◌}
use Rattle.std.specs.Prelude.{◌&&◌}
use Rattle.rtk_message.specs.declared.obs1012.GlonassSatellite.{GlonassSatellite}
use Rattle.rtk_convert.specs.Slots.{has_slot, is_of_other_channel, is_without_channel, holds_in_1012}
use Rattle.rtk_convert.proofs.SlotsLemmas.{one-more}
use Rattle.rtk_convert.proofs.remarks.put_satellites_1012.Goals as goal

pub loop-satellite-init : goal.loop-satellite-init
loop-satellite-init c = record { systems = refl; other_channels = λ slot is. refl; no_channels = λ slot is. refl }

pub loop-satellite-preserved : goal.loop-satellite-preserved
loop-satellite-preserved c =
    let channels = c.args.channels.now in
    let ss = c.args.satellites.now in
    let i = c.loop-satellite.satellite-index in
    let old = c.args.remarks.now in
    let now = c.loop-satellite.remarks in
    let new = c.put_satellite_1012.new.remarks in
    record {
      systems = c.put_satellite_1012.ensures.systems ∙ c.loop-satellite.invariant.systems;
      other_channels = λ slot is.
          one-more (λ (s : GlonassSatellite). (s.slot == slot) && holds_in_1012 is_of_other_channel channels s) ss i _
          (has_slot old.other_channels slot) (has_slot now.other_channels slot) (has_slot new.other_channels slot)
          c.loop-satellite-test.true (c.loop-satellite.invariant.other_channels slot is) (c.put_satellite_1012.ensures.other_channels slot is);
      no_channels = λ slot is.
          one-more (λ (s : GlonassSatellite). (s.slot == slot) && holds_in_1012 is_without_channel channels s) ss i _
          (has_slot old.no_channels slot) (has_slot now.no_channels slot) (has_slot new.no_channels slot)
          c.loop-satellite-test.true (c.loop-satellite.invariant.no_channels slot is) (c.put_satellite_1012.ensures.no_channels slot is);
    }
