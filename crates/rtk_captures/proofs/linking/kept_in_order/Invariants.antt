use Rattle.std.proofs.Common.{◌≡◌, take}
use Rattle.std.specs.Prelude.{filter}
use Rattle.rtk_captures.specs.Kept.{is_heard_at}
use Rattle.rtk_captures.proofs.linking.kept_in_order.Given as goal

abbrev pub invariant-loop-capture : goal.invariant-loop-capture
invariant-loop-capture l = l.kept.items ≡ filter (λ o. is_heard_at l.captures o.given) (take l.capture-index l.ordered)
