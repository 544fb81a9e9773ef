use Rattle.std.proofs.Common.{◌+◌, ℕ, List, []}
use Rattle.rtk_rinex.specs.Record.{EpochTableView}
use Rattle.rtk_rinex.specs.MixedRecords.{AreMixedLeft}
use Rattle.rtk_compare.specs.declared.shared_codes.SharedCode.{SharedCode}
use Rattle.rtk_compare.specs.Steps.Readers.{records_left}
use Rattle.rtk_compare.specs.Steps.SharedCodes.{HasShared}
use Rattle.rtk_compare.specs.Steps.Tracks.{AreTracks, AreTracksOf}
use Rattle.rtk_compare.proofs.RecordLemmas.{HasWalked}
use Rattle.rtk_compare.proofs.records.compare_records.Given as goal

abbrev pub invariant-loop-side : goal.invariant-loop-side
invariant-loop-side l = record {
  size : AreTracks l.tracks;
  walked : (codes : ℕ → List SharedCode) (olds news : List EpochTableView) → HasShared l.shared codes → AreTracksOf l.fn.tracks codes [] → AreMixedLeft l.fn.old olds → AreMixedLeft l.fn.new news
      → HasWalked codes olds news l.fn.findings l.findings l.tracks l.olds l.news;
}

abbrev pub decreases-loop-side : goal.decreases-loop-side
decreases-loop-side l = records_left l.olds + records_left l.news
