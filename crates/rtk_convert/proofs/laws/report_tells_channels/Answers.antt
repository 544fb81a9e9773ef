use Rattle.rtk_convert.proofs.ChannelLawsLemmas.{report-tells-channels}
use Rattle.rtk_convert.proofs.laws.report_tells_channels.Goals as goal

pub returns : goal.returns
returns c = report-tells-channels
