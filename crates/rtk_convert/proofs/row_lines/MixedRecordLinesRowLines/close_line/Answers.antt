use Rattle.std.proofs.Common.{◌∙◌, ℕ, [], ◌∷◌, ◌++◌, Option, subst}
use Rattle.std.specs.Option.{SomeIff}
use Rattle.rtk_obs.specs.SatelliteIndex.{IsSatelliteIndex}
use Rattle.rtk_rinex.specs.MixedRecord.{HoldsMixedLines}
use Rattle.rtk_convert.proofs.RowLinesLemmas.{mixed-room}
use Rattle.rtk_convert.proofs.row_lines.MixedRecordLinesRowLines.close_line.Goals as goal

pub close_line-requires : goal.close_line-requires
close_line-requires c = mixed-room c.args.self.now c.requires.room

pub returns : goal.returns
returns c = λ doppler rows observed h opened.
    let index = subst (λ (o : Option ℕ). SomeIff o (IsSatelliteIndex c.args.satellite) c.args.satellite) c.in-Some.is c.new.ensures in
    record {
      holds = subst (λ (n : ℕ). HoldsMixedLines c.close_line.new.self (rows ++ record { satellite = n; observed = record { items = observed } } ∷ [])) index.1
          (c.close_line.ensures.lines rows observed h.holds opened.open_line);
      shows = c.close_line.ensures.doppler ∙ h.shows;
    }
