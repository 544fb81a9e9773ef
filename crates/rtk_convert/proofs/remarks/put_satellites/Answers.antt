use Rattle.std.proofs.Common.{◌-◌, ◌∙◌, Bool, List, refl, arith}
use Rattle.std.proofs.lemmas.Nat.{one_shl, pow_pos}
use Rattle.rtk_convert.specs.Slots.{SatelliteTest, is_without_channel, is_of_other_channel}
use Rattle.rtk_convert.proofs.SlotsLemmas.{so-far-none, so-far-next, so-far-all, slot-before, bits-fall}
use Rattle.rtk_convert.proofs.remarks.put_satellites.Goals as goal

pub satellites-init : goal.satellites-init
satellites-init c = record {
  few = omega arith;
  fits = omega arith;
  systems = refl;
  other_channels = so-far-none is_of_other_channel c.args.channels.now c.args.message.now c.args.remarks.now.other_channels;
  no_channels = so-far-none is_without_channel c.args.channels.now c.args.message.now c.args.remarks.now.no_channels;
}

pub put_satellite-requires : goal.put_satellite-requires
put_satellite-requires c =
    let low = slot-before c.bits_before-before.result c.satellites.rest c.satellites-test.true c.bits_before-before.ensures.below in
    (omega arith, omega (arith, low))

pub overflow_sub-rest : goal.overflow_sub-rest
overflow_sub-rest c = rw (one_shl (63 - c.bits_before-before.result) 64 (omega arith)) c.bits_before-before.ensures.from

pub satellites-smaller : goal.satellites-smaller
satellites-smaller c =
    let bit = 63 - c.bits_before-before.result in
    rw (one_shl bit 64 (omega arith)) (omega (arith, pow_pos bit, c.bits_before-before.ensures.from))

pub satellites-preserved : goal.satellites-preserved
satellites-preserved c =
    let i = c.satellites.invariant in
    let channels = c.args.channels.now in
    let m = c.args.message.now in
    let start = c.args.remarks.now in
    let now = c.satellites.remarks in
    let new = c.put_satellite.new.remarks in
    let puts = c.put_satellite.ensures in
    let row = c.satellites.row in
    let rest = c.satellites.rest in
    let before = c.bits_before-before.result in
    let first = c.bits_before-before.ensures in
    let falls = bits-fall row before rest i.few i.fits first.inside first.from first.below in
    let such = λ (test : SatelliteTest) (old now new : List Bool).
    so-far-next test channels m old now row rest new before c.field_of_row-field.result c.field_of_row-field.ensures first.inside first.from first.below in
    rw (one_shl (63 - before) 64 (omega arith)) (record {
      few = falls.0;
      fits = falls.1;
      systems = puts.systems ∙ i.systems;
      other_channels = such is_of_other_channel start.other_channels now.other_channels new.other_channels puts.other_channels i.other_channels;
      no_channels = such is_without_channel start.no_channels now.no_channels new.no_channels puts.no_channels i.no_channels;
    })

pub returns : goal.returns
returns c =
    let i = c.satellites.invariant in
    let channels = c.args.channels.now in
    let m = c.args.message.now in
    let start = c.args.remarks.now in
    let now = c.satellites.remarks in
    let row = c.satellites.row in
    let rest = c.satellites.rest in
    record {
      systems = i.systems;
      other_channels = so-far-all is_of_other_channel channels m start.other_channels now.other_channels row rest c.satellites-test.false i.other_channels;
      no_channels = so-far-all is_without_channel channels m start.no_channels now.no_channels row rest c.satellites-test.false i.no_channels;
    }
