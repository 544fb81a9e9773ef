use Rattle.std.proofs.Common.{◌≡◌, ◌<◌, rules, arith, refl, true, length}
use Rattle.rtk_rinex.proofs.MixedListLemmas.{in_order-more}
use Rattle.rtk_rinex.proofs.mixed_head.is_mixed_list.Goals as goal

pub loop-i-preserved : goal.loop-i-preserved
loop-i-preserved c = in_order-more c.args.listed.now c.loop-i.i c.loop-i.invariant (c.follows.ensures.0 (search rules))

pub returns-then-not-follows : goal.returns-then-not-follows
returns-then-not-follows c = (
  λ e. absurd (cc),
  λ h.
      let within : c.loop-i.i < length c.args.listed.now = omega arith in
      let all : c.follows.result ≡ true = c.follows.ensures.1 (λ k d lt. h.order k c.loop-i.i d lt within) in
      let none = c.if-not-follows.true in
      absurd (cc),
)

pub returns : goal.returns
returns c = (
  λ e. record { count = (omega arith, omega arith); order = λ i j d lt within. c.loop-i.invariant i j d lt (omega arith) },
  λ h. refl,
)
