use Rattle.std.proofs.Common.{◌<◌, length, ap, ◌∙◌, arith}
use Rattle.std.proofs.lemmas.List.{length-set}
use Rattle.rtk_message.proofs.Obs1012Lemmas.{took_set, took_whole}
use Rattle.rtk_message.proofs.obs1012.read_satellites.Goals as goal

pub loop-place-preserved : goal.loop-place-preserved
loop-place-preserved c =
    let before = c.loop-place.invariant in
    let k = c.loop-place.place in
    let inside : k < length c.loop-place.satellites = omega (arith, before.count, c.loop-place-test.true) in
    record {
      taken = rw c.set.ensures (took_set c.loop-place.satellites k c.next_satellite.result c.args.reader.now c.loop-place.reader c.next_satellite.new.reader inside before.taken c.next_satellite.ensures.fields);
      left = omega (arith, before.left, c.next_satellite.ensures.left, c.loop-place-test.true);
      count = ap length c.set.ensures ∙ length-set c.loop-place.satellites k c.next_satellite.result ∙ before.count;
    }

pub returns-clause-fields : goal.returns-clause-fields
returns-clause-fields c =
    took_whole c.loop-place.satellites c.loop-place.place c.args.reader.now c.loop-place.reader (omega (arith, c.loop-place.invariant.count, c.loop-place-test.false)) c.loop-place.invariant.taken
