use Rattle.std.proofs.Common.{ℕ, subst}
use Rattle.rtk_obs.specs.declared.track.Digits.{Digits}
use Rattle.rtk_obs.specs.AnyCode.{place_of}
use Rattle.rtk_convert.specs.Rows.{observed_with}
use Rattle.rtk_convert.specs.Steps.ShownCells.{IsFreeOf, with_place}
use Rattle.rtk_convert.proofs.epoch_rows.show_entry.Goals as goal

pub returns : goal.returns
returns g c =
    let e = g.E.FileEntry.signal_of c.args.entry.now in
    let codes = c.args.form.now.codes.now in
    let doppler = c.args.form.now.doppler in
    record {
      track = c.step-digits.ensures.same;
      others = c.step-digits.ensures.others;
      row = λ row h free.
          subst (λ (d : Digits). g.E.Lines.RowLines.HasLine doppler c.put_listed.new.lines (with_place (place_of e.code) (observed_with e d) codes row)) c.step-digits.ensures.digits
          (subst (λ (p : ℕ). IsFreeOf p codes row → g.E.Lines.RowLines.HasLine doppler c.put_listed.new.lines (with_place p (observed_with e c.step-digits.result) codes row)) c.requires.place (c.put_listed.ensures.open row h) free);
      kept = c.put_listed.ensures.lines;
    }
