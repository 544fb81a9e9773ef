use Rattle.std.proofs.Common.{◌≡◌, ◌++◌, take, flat_map}
use Rattle.rtk_test_support.proofs.comparing.consists_of.Given as goal

abbrev pub invariant-loop-part : goal.invariant-loop-part
invariant-loop-part l = l.text ≡ flat_map (λ part. part.now) (take l.part-index l.parts) ++ l.rest
