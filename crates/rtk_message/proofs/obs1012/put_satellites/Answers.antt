use Rattle.rtk_message.proofs.Obs1012Lemmas.{fit_at, put_push}
use Rattle.rtk_message.proofs.obs1012.put_satellites.Goals as goal

pub put-requires : goal.put-requires
put-requires c = fit_at c.args.satellites.now c.loop-satellite.satellite-index _ c.loop-satellite-test.true c.requires

pub loop-satellite-preserved : goal.loop-satellite-preserved
loop-satellite-preserved c = put_push c.args.satellites.now c.loop-satellite.satellite-index _ c.args.writer.now c.loop-satellite.writer _ c.loop-satellite-test.true c.loop-satellite.invariant c.in_ok-put.ensures
