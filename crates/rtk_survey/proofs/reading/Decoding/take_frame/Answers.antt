use Rattle.rtk_survey.proofs.FrameLemmas.{holds-message, holds-fault}
use Rattle.rtk_survey.proofs.reading.Decoding.take_frame.Goals as goal

pub returns-in-Ok : goal.returns-in-Ok
returns-in-Ok c = holds-message c.take_message.result c.args.payload.now _ c.in-Ok.message c.args.contents.now c.take_message.new.self c.in-Ok.is c.read.ensures c.take_message.ensures

pub returns-in-Err : goal.returns-in-Err
returns-in-Err c = holds-fault c.take_fault.result c.args.payload.now _ c.in-Err.fault c.args.contents.now c.take_fault.new.self c.in-Err.is c.read.ensures c.take_fault.ensures
