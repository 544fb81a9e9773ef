use Rattle.std.proofs.Common.{◌≡◌, List, length}
use Rattle.rtk_rinex.specs.Record.{EpochTableView}
use Rattle.rtk_rinex.specs.MixedRecords.{AreMixedLeft}
use Rattle.rtk_cut.proofs.KeptFileLemmas.{HasPutRecords}
use Rattle.rtk_cut.proofs.kept_file.put_kept_records.Given as goal

abbrev pub invariant-loop-read : goal.invariant-loop-read
invariant-loop-read l = record {
  form : l.rest.form ≡ l.fn.records.form;
  put : (epochs : List EpochTableView) → AreMixedLeft l.fn.records epochs → HasPutRecords l.fn.records.form.doppler l.kept epochs l.rest l.fn.text.items l.text.items;
}

abbrev pub decreases-loop-read : goal.decreases-loop-read
decreases-loop-read l = length l.rest.text
