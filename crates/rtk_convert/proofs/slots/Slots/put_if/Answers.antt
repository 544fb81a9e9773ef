use Rattle.std.proofs.Common.{ap, sym, ◌∙◌, ◌==◌, ℕ}
use Rattle.rtk_convert.specs.Slots.{has_slot}
use Rattle.rtk_convert.proofs.SlotsLemmas.{put-none, put-some}
use Rattle.rtk_convert.proofs.slots.Slots.put_if.Goals as goal

pub returns-then-not-belongs : goal.returns-then-not-belongs
returns-then-not-belongs c = λ k is. put-none (c.args.slot == k) c.args.belongs (has_slot c.args.self.now k) c.if-not-belongs.true

pub returns : goal.returns
returns c = λ k is.
    put-some c.args.slot k c.args.belongs (has_slot c.args.self.now k) (has_slot c.put.new.self k) c.if-not-belongs.false
    (λ e. ap (λ (n : ℕ). has_slot c.put.new.self n) (sym e) ∙ c.put.ensures.set) (λ other. c.put.ensures.others k is (λ e. other (sym e)))
