use Rattle.std.proofs.Common.{◌≡◌, drop}
use Rattle.rtk_captures.specs.WaitingDates.{all_waiting}
use Rattle.rtk_captures.proofs.waiting_dates.wait_with_all.Given as goal

abbrev pub invariant-loop-message : goal.invariant-loop-message
invariant-loop-message l = all_waiting l.dates (drop l.message-index l.messages) ≡ all_waiting l.fn.dates l.messages
