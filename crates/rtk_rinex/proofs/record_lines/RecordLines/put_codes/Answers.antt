use Rattle.std.proofs.Common.{◌-◌, ◌++◌, List, length, replicate, take, get_or, refl, subst, ◌∙◌, false}
use Rattle.rtk_rinex.specs.declared.epoch_table.Observed.{Observed}
use Rattle.rtk_rinex.specs.Record.{no_observation}
use Rattle.rtk_rinex.specs.RecordLines.{HasOpenLine}
use Rattle.rtk_rinex.proofs.RecordLinesLemmas.{next-free, next-code}
use Rattle.rtk_rinex.proofs.record_lines.RecordLines.put_codes.Goals as goal

pub loop-place-preserved : goal.loop-place-preserved
loop-place-preserved c =
    let os = c.args.observed.now in
    let i = c.loop-place.place in
    let row : List Observed = take i os ++ replicate (length os - i) no_observation in
    record {
      line = subst (λ (xs : List Observed). HasOpenLine false c.put_code.new.self xs) (next-code os i (get_or os i no_observation) no_observation c.loop-place-test.true refl)
          (c.put_code.ensures.open row c.loop-place.invariant.line (next-free false os i c.loop-place-test.true));
      lines = record {
        text = c.put_code.ensures.lines.text ∙ c.loop-place.invariant.lines.text;
        count = c.put_code.ensures.lines.count ∙ c.loop-place.invariant.lines.count;
      };
    }
