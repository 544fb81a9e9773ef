use Rattle.std.proofs.Common.{◌-◌, ◌++◌, List, length, replicate, take, get_or, refl, subst, ◌∙◌}
use Rattle.rtk_rinex.specs.declared.epoch_table.Observed.{Observed}
use Rattle.rtk_rinex.specs.Record.{no_observation}
use Rattle.rtk_rinex.specs.MixedRecord.{HasOpenMixedLine}
use Rattle.rtk_rinex.proofs.RecordLinesLemmas.{next-free, next-code}
use Rattle.rtk_rinex.proofs.mixed_record_lines.MixedRecordLines.put_codes.Goals as goal

pub loop-place-preserved : goal.loop-place-preserved
loop-place-preserved c =
    let os = c.args.observed.now in
    let i = c.loop-place.place in
    let row : List Observed = take i os ++ replicate (length os - i) no_observation in
    record {
      line = subst (λ (xs : List Observed). HasOpenMixedLine c.put_code.new.self xs) (next-code os i (get_or os i no_observation) no_observation c.loop-place-test.true refl)
          (c.put_code.ensures.open row c.loop-place.invariant.line (next-free c.loop-place.self.doppler os i c.loop-place-test.true));
      lines = record {
        lines = record {
          text = c.put_code.ensures.lines.lines.text ∙ c.loop-place.invariant.lines.lines.text;
          count = c.put_code.ensures.lines.lines.count ∙ c.loop-place.invariant.lines.lines.count;
        };
        doppler = c.put_code.ensures.lines.doppler ∙ c.loop-place.invariant.lines.doppler;
      };
    }
