-- Which messages the words of `show` choose.
use Rattle.std.specs.Prelude.{false}
use Rattle.rtk_message.specs.declared.accepted.Accepted.{Accepted}
use Rattle.rtk_message.specs.Accepted.{only_kind}
use Rattle.rtk_setup.specs.declared.system_kinds.SystemKinds.{SystemKinds}

-- table
-- 1004, 1005, 1006, and of each system the MSM of its kind, as `convert` takes them if a code of each system is listed
-- (this project's rule)
abbrev pub messages_of : SystemKinds → Accepted
messages_of ks =
    record {
      gps = only_kind ks.gps;
      glonass = only_kind ks.glonass;
      galileo = only_kind ks.galileo;
      beidou = only_kind ks.beidou;
      qzss = only_kind ks.qzss;
      sbas = only_kind ks.sbas;
      navic = only_kind ks.navic;
      obs1012 = false;
    }
