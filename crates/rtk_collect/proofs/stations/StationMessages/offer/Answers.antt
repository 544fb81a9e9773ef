use Rattle.std.proofs.Common.{refl, sym, ◌∙◌, arith}
use Rattle.rtk_message.specs.Arp1005 as arp1005
use Rattle.rtk_message.specs.Arp1006 as arp1006
use Rattle.rtk_collect.specs.Equal.{equal_1005, equal_1006}
use Rattle.rtk_collect.specs.Arrival.{message_of_1005, message_of_1006}
use Rattle.rtk_collect.proofs.StationLemmas.{full-is, slot-parts, slot-fits, slot-lists, other-stays}
use Rattle.rtk_collect.proofs.stations.StationMessages.offer.Goals as goal

pub returns-in-Arp1005-clause-answer : goal.returns-in-Arp1005-clause-answer
returns-in-Arp1005-clause-answer g c = λ of n sets full before h.
    rw c.in-Arp1005.is
    (let p = slot-parts g.E.Entry.entries of message_of_1005 equal_1005 (λ a b. refl) n 1005 c.in-Arp1005.message c.args.self.now.arp1005 c.keep_station_message.new.slot _ c.keep_station_message.result before refl h.arp1005 (full ∙ full-is g.E.Entry.entries of n sets before h.sets) c.keep_station_message.ensures in
    (p.answers, record { sets = h.sets; arp1005 = p.after; arp1006 = h.arp1006 ∙ sym (other-stays n 1006 (message_of_1005 c.in-Arp1005.message) before (λ e. omega arith)) }))

pub returns-in-Arp1006-clause-answer : goal.returns-in-Arp1006-clause-answer
returns-in-Arp1006-clause-answer g c = λ of n sets full before h.
    rw c.in-Arp1006.is
    (let p = slot-parts g.E.Entry.entries of message_of_1006 equal_1006 (λ a b. refl) n 1006 c.in-Arp1006.message c.args.self.now.arp1006 c.keep_station_message-in-Arp1006.new.slot _ c.keep_station_message-in-Arp1006.result before refl h.arp1006 (full ∙ full-is g.E.Entry.entries of n sets before h.sets) c.keep_station_message-in-Arp1006.ensures in
    (p.answers, record { sets = h.sets; arp1005 = h.arp1005 ∙ sym (other-stays n 1005 (message_of_1006 c.in-Arp1006.message) before (λ e. omega arith)); arp1006 = p.after }))

-- the fields of what is kept fit

pub returns-in-Arp1005-clause-fits_1005 : goal.returns-in-Arp1005-clause-fits_1005
returns-in-Arp1005-clause-fits_1005 g c =
    slot-fits equal_1005 arp1005.IsValid c.args.self.now.arp1005 c.keep_station_message.new.slot c.in-Arp1005.message _ c.keep_station_message.result c.keep_station_message.ensures c.requires.fits_1005 (rw c.in-Arp1005.is at c.requires.valid)

pub returns-in-Arp1006-clause-fits_1006 : goal.returns-in-Arp1006-clause-fits_1006
returns-in-Arp1006-clause-fits_1006 g c =
    slot-fits equal_1006 arp1006.IsValid c.args.self.now.arp1006 c.keep_station_message-in-Arp1006.new.slot c.in-Arp1006.message _ c.keep_station_message-in-Arp1006.result c.keep_station_message-in-Arp1006.ensures c.requires.fits_1006 (rw c.in-Arp1006.is at c.requires.valid)

-- no cell conflicts

pub returns-in-Arp1005-clause-none : goal.returns-in-Arp1005-clause-none
returns-in-Arp1005-clause-none g c = slot-lists equal_1005 c.args.self.now.arp1005 c.keep_station_message.new.slot c.in-Arp1005.message _ c.keep_station_message.result c.keep_station_message.ensures

pub returns-in-Arp1006-clause-none : goal.returns-in-Arp1006-clause-none
returns-in-Arp1006-clause-none g c = slot-lists equal_1006 c.args.self.now.arp1006 c.keep_station_message-in-Arp1006.new.slot c.in-Arp1006.message _ c.keep_station_message-in-Arp1006.result c.keep_station_message-in-Arp1006.ensures
