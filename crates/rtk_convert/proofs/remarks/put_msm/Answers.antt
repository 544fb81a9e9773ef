use Rattle.rtk_convert.proofs.SlotsLemmas.{msm-put, msm-left}
use Rattle.rtk_convert.proofs.remarks.put_msm.Goals as goal

pub returns-in-Glonass : goal.returns-in-Glonass
returns-in-Glonass c = msm-put c.args.channels.now c.args.message.now c.args.remarks.now c.put_satellites.new.remarks c.in-Glonass.is c.put_satellites.ensures

pub returns-in_default : goal.returns-in_default
returns-in_default c = msm-left c.args.channels.now c.args.message.now c.args.remarks.now c.in_default.not-Glonass
