use Rattle.std.proofs.Common.{◌≡◌, ◌∙◌, ℕ, subst, arith}
use Rattle.rtk_obs.specs.Carriers.{AreChannels}
use Rattle.rtk_rinex.proofs.SlotsReadLemmas.{ReadsSlots, reads_none, reads_more, reads_all, slot_shown}
use Rattle.rtk_rinex.proofs.mixed_slots_read.read_slots.Goals as goal

pub loop-i-init : goal.loop-i-init
loop-i-init c = reads_none c.args.text.now c.read_slot_count-count.result c.new-channels.result c.read_slot_count-count.ensures.bound c.new-channels.ensures

pub loop-i-preserved : goal.loop-i-preserved
loop-i-preserved c =
    let l = c.loop-i in
    let r = l.invariant in
    let f = r.fits in
    let m = r.most in
    reads_more c.args.text.now c.read_slot_count-count.result l.i l.last l.channels c.set.new.self c.slot_number-slot.result c.slot_channel.result c.loop-i-test.true r (record {
      after = omega (arith, c.slot_number-slot.ensures.low);
      within = omega (arith, c.slot_number-slot.ensures.high, m, c.loop-i-test.true);
      set = c.set.ensures.set;
      others = c.set.ensures.others;
      shown = λ q k low high small good is.
          let s = slot_shown c.read_slot-columns.result.now q k small (c.read_slot-columns.ensures ∙ is) in
          (c.slot_number-slot.ensures.shown q (omega (arith, low)) (omega (arith, high, m, c.loop-i-test.true)) s.number, c.slot_channel.ensures k good s.channel);
    })

pub returns : goal.returns
returns c =
    let l = c.loop-i in
    let n = c.read_slot_count-count.result in
    let end : l.i ≡ n = omega arith in
    let good : AreChannels l.channels = rw c.known.ensures.value at c.known.ensures.good in
    rw c.known.ensures.value
    (reads_all c.args.text.now n l.last l.channels good (subst (λ (i : ℕ). ReadsSlots c.args.text.now n i l.last l.channels) end l.invariant)
    (λ m small e. c.read_slot_count-count.ensures.shown m small e))
