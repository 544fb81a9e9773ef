use Rattle.std.proofs.Common.{List, subst}
use Rattle.rtk_message.specs.declared.obs1012.GlonassSatellite.{GlonassSatellite}
use Rattle.rtk_convert.specs.Steps.Remarks.{PutsSatellites1012}
use Rattle.rtk_convert.proofs.SlotsLemmas.{put-1012}
use Rattle.rtk_convert.proofs.remarks.put_1012.Goals as goal

pub returns : goal.returns
returns c =
    put-1012 c.args.channels.now c.args.message.now c.args.remarks.now c.put_satellites_1012.new.remarks
    (subst (λ (ss : List GlonassSatellite). PutsSatellites1012 c.args.channels.now ss c.args.remarks.now c.put_satellites_1012.new.remarks) c.as_slice.ensures.value c.put_satellites_1012.ensures)
