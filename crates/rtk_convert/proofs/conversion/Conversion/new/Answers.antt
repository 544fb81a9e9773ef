use Rattle.std.proofs.Common.{refl, arith}
use Rattle.rtk_convert.proofs.conversion.Conversion.new.Goals as goal

pub invariant_of-result : goal.invariant_of-result
invariant_of-result c =
    let e = c.in_ok-epochs.ensures in
    (refl, e.1, record { places = e.0.places; few = omega (arith, e.0.few, e.0.places); ahead = λ going. e.0.ahead })

pub returns : goal.returns
returns c =
    let e = c.in_ok-epochs.ensures in
    let none = c.new-remarks.ensures in
    record {
      represents = record {
        kept = e.0.represents.kept;
        closed = e.0.represents.closed;
        counts = refl;
        remarks = (none.systems, λ slot is. none.other_channels slot, λ slot is. none.no_channels slot);
      };
      same_setup = refl;
      going = refl;
      few = e.0.few;
    }
