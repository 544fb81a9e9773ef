use Rattle.std.proofs.Common.{◌-◌, refl, arith}
use Rattle.std.proofs.lemmas.Nat.{one_shl}
use lib.Count.{count_leading_zeros}
use Rattle.rtk_obs.proofs.MaskLemmas.{top-bit, next-place, room_for_place, all_places, bounds_of_places}
use Rattle.rtk_obs.proofs.mask.places_of_bits.Goals as goal

pub overflow_sub-width : goal.overflow_sub-width
overflow_sub-width c =
    let bit = top-bit c.args.width c.loop-rest.rest _ _ c.loop-rest-test.true c.loop-rest.invariant.fits c.requires.width refl refl in
    omega (arith, bit.0)

pub push-requires : goal.push-requires
push-requires c =
    let bit = top-bit c.args.width c.loop-rest.rest _ _ c.loop-rest-test.true c.loop-rest.invariant.fits c.requires.width refl refl in
    (omega arith, omega (arith, c.requires.width, room_for_place c.loop-rest.places.items c.args.width c.args.mask c.loop-rest.rest _ bit c.loop-rest.invariant.places))

pub overflow_sub-rest : goal.overflow_sub-rest
overflow_sub-rest c =
    let bit = top-bit c.args.width c.loop-rest.rest _ _ c.loop-rest-test.true c.loop-rest.invariant.fits c.requires.width refl refl in
    rw (one_shl (63 - count_leading_zeros 64 c.loop-rest.rest) 64 (omega arith)) bit.1

pub loop-rest-preserved : goal.loop-rest-preserved
loop-rest-preserved c =
    let top = 63 - count_leading_zeros 64 c.loop-rest.rest in
    let bit = top-bit c.args.width c.loop-rest.rest _ _ c.loop-rest-test.true c.loop-rest.invariant.fits c.requires.width refl refl in
    let one = one_shl top 64 (omega arith) in
    rw one (record {
      places = next-place c.loop-rest.places.items c.push.new.self.items c.args.width c.args.mask c.loop-rest.rest top _ bit c.loop-rest.invariant.places c.push.ensures.items refl;
      fits = omega (arith, c.loop-rest.invariant.fits);
    })

pub returns-clause-places : goal.returns-clause-places
returns-clause-places c = all_places c.loop-rest.places.items c.args.width c.args.mask c.loop-rest.rest c.loop-rest-test.false c.loop-rest.invariant.places

pub returns-clause-bounds : goal.returns-clause-bounds
returns-clause-bounds c =
    bounds_of_places c.loop-rest.places.items c.args.width c.args.mask
    (all_places c.loop-rest.places.items c.args.width c.args.mask c.loop-rest.rest c.loop-rest-test.false c.loop-rest.invariant.places)
