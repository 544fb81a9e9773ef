use Rattle.std.specs.Prelude.{◌&&◌}
use Rattle.rtk_compare.proofs.CodeLemmas.{has-shared}
use Rattle.rtk_compare.proofs.shared_codes.SharedCodes.of.Goals as goal

pub returns : goal.returns
returns c =
    has-shared _ (c.args.old.now.doppler && c.args.new.now.doppler) c.args.old.now.listed c.args.new.now.listed
    (record {
      gps = c.shared_in.ensures.items;
      glonass = c.shared_in-2.ensures.items;
      galileo = c.shared_in-3.ensures.items;
      beidou = c.shared_in-4.ensures.items;
      qzss = c.shared_in-5.ensures.items;
      sbas = c.shared_in-6.ensures.items;
      navic = c.shared_in-7.ensures.items;
    })
    (record {
      gps = c.shared_in.ensures.few;
      glonass = c.shared_in-2.ensures.few;
      galileo = c.shared_in-3.ensures.few;
      beidou = c.shared_in-4.ensures.few;
      qzss = c.shared_in-5.ensures.few;
      sbas = c.shared_in-6.ensures.few;
      navic = c.shared_in-7.ensures.few;
    })
