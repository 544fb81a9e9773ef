use Rattle.rtk_message.proofs.FieldLemmas.{put, put_none}
use Rattle.rtk_message.proofs.obs1012.GlonassSatellite.put.Goals as goal

pub returns : goal.returns
returns c = put c.in_ok-put_u.ensures (put c.in_ok-put_flag.ensures (put c.in_ok-put_u-2.ensures (put c.in_ok-put_u-3.ensures (put c.in_ok-put_i32.ensures (put c.in_ok-put_u-4.ensures (put c.in_ok-put_u-5.ensures (put c.in_ok-put_u-6.ensures (put c.in_ok-put_u-7.ensures (put c.in_ok-put_i16.ensures (put c.in_ok-put_i32-2.ensures (put c.in_ok-put_u-8.ensures (put c.in_ok-put_u-9.ensures (put_none)))))))))))))
