use Rattle.rtk_convert.proofs.ClassLemmas.{class-dated, class-fault, class-foreign, class-other, read-one}
use Rattle.rtk_convert.proofs.frame_class.classify.Goals as goal

pub is_taken-requires : goal.is_taken-requires
is_taken-requires c = (read-one c.args.setup.now c.args.reading.now c.in-Ok.message c.requires c.in-Ok.is).read

pub dated_message-requires : goal.dated_message-requires
dated_message-requires c = read-one c.args.setup.now c.args.reading.now c.in-Ok.message c.requires c.in-Ok.is

pub returns-then-not-is_taken : goal.returns-then-not-is_taken
returns-then-not-is_taken c =
    class-other c.args.setup.now c.args.reading.now c.in-Ok.message c.is_taken.result c.in-Ok.is c.is_taken.ensures c.if-not-is_taken.true

pub returns-then-station : goal.returns-then-station
returns-then-station c =
    class-foreign c.args.setup.now c.args.reading.now c.in-Ok.message c.station.result c.station-in-Ok.result c.is_taken.result c.in-Ok.is c.is_taken.ensures c.if-not-is_taken.false
    c.station.ensures c.station-in-Ok.ensures.value c.if-station.true

pub returns-else-station : goal.returns-else-station
returns-else-station c =
    class-dated c.args.setup.now c.args.reading.now c.in-Ok.message c.station.result c.station-in-Ok.result c.is_taken.result c.dated_message.result c.in-Ok.is c.is_taken.ensures c.if-not-is_taken.false
    c.station.ensures c.station-in-Ok.ensures.value c.if-station.false c.dated_message.ensures

pub returns-in-Err : goal.returns-in-Err
returns-in-Err c = class-fault c.args.setup.now c.args.reading.now c.in-Err.fault c.class_of_fault.result c.in-Err.is c.class_of_fault.ensures
