use Rattle.rtk_message.proofs.FieldLemmas.{put, put_none}
use Rattle.rtk_message.proofs.arp1005.Arp1005Layout.write.Goals as goal

pub returns : goal.returns
returns c =
    (put c.in_ok-put_u.ensures (put c.in_ok-put_u-2.ensures (put c.in_ok-put_flag.ensures (put c.in_ok-put_flag-2.ensures (put c.in_ok-put_flag-3.ensures (put c.in_ok-put_flag-4.ensures
    (put c.in_ok-put_i64.ensures (put c.in_ok-put_flag-5.ensures (put c.in_ok-put_flag-6.ensures (put c.in_ok-put_i64-2.ensures (put c.in_ok-put_u-3.ensures (put c.in_ok-put_i64-3.ensures put_none)))))))))))).is
