use Rattle.std.proofs.Common.{◌≡◌, ◌++◌, ◌∙◌, ℕ, Bool, List, true, false, sym, ap}
use Rattle.rtk_rinex.specs.declared.epoch_table.SatelliteRow.{SatelliteRow}
use Rattle.rtk_rinex.specs.MixedRecord.{mixed_record_text}
use Rattle.rtk_rinex.specs.SystemFlags.{flag_of}
use Rattle.rtk_cut.specs.KeptSystems.{keeps_row}
use Rattle.rtk_cut.proofs.KeptFileLemmas.{lines-none, lines-room, lines-more, lines-past, rows-all}
use Rattle.rtk_cut.proofs.kept_file.put_kept_record.Goals as goal

pub loop-satellite-init : goal.loop-satellite-init
loop-satellite-init c = record {
  lines = lines-none c.args.kept c.args.read.now c.again-rows.result c.restart_with.new.self c.restart_with.ensures.lines c.again-rows.ensures.value c.again-rows.ensures.few;
  doppler = c.restart_with.ensures.doppler ∙ c.has_doppler.ensures;
}

pub push_row-requires-clause-room : goal.push_row-requires-clause-room
push_row-requires-clause-room c =
    let l = c.loop-satellite in
    lines-room c.args.kept c.args.read.now l.rows l.lines c.next_row.new.self.count l.invariant.lines c.in-Some.ensures.end.count

pub loop-satellite-preserved : goal.loop-satellite-preserved
loop-satellite-preserved c =
    let l = c.loop-satellite in
    let row : SatelliteRow = record { satellite = c.in-Some.satellite; observed = c.next_row.new.observed } in
    let off : keeps_row c.args.kept row ≡ false = sym (c.has.ensures ∙ ap (flag_of c.args.kept) c.system.ensures) ∙ c.if-has.false in
    record {
      lines = lines-past c.args.kept c.args.read.now l.rows c.next_row.new.self l.lines row l.invariant.lines c.in-Some.ensures.next c.in-Some.ensures.end.count off;
      doppler = l.invariant.doppler;
    }

pub loop-satellite-preserved-in-Continue-1 : goal.loop-satellite-preserved-in-Continue-1
loop-satellite-preserved-in-Continue-1 c =
    let l = c.loop-satellite in
    let row : SatelliteRow = record { satellite = c.in-Some.satellite; observed = c.next_row.new.observed } in
    let on : keeps_row c.args.kept row ≡ true = sym (c.has.ensures ∙ ap (flag_of c.args.kept) c.system.ensures) ∙ c.if-has.true in
    record {
      lines = lines-more c.args.kept c.args.read.now l.rows c.next_row.new.self l.lines c.push_row.new.self row l.invariant.lines c.in-Some.ensures.next c.in-Some.ensures.end.count on
          (rw c.as_slice.ensures.value at c.in_ok-push_row.ensures.ok);
      doppler = c.push_row.ensures.doppler ∙ l.invariant.doppler;
    }

pub returns : goal.returns
returns c = λ e is.
    let f = c.loop-satellite.invariant.lines in
    let doppler : Bool = c.args.read.now.form.doppler in
    c.in_ok-extend_from_slice.ensures.items
    ∙ ap (λ (xs : List ℕ). c.args.text.now.items ++ xs)
    (c.text.ensures ∙ c.finish.ensures.text f.made f.holds
    ∙ ap (λ (d : Bool). mixed_record_text d (record { time = c.time.result; rows = f.made })) c.loop-satellite.invariant.doppler
    ∙ ap (λ (t : ℕ). mixed_record_text doppler (record { time = t; rows = f.made })) (c.time.ensures ∙ is.0.time)
    ∙ ap (λ (xs : List SatelliteRow). mixed_record_text doppler (record { time = e.time; rows = xs }))
    (rows-all c.args.kept e.rows f.made c.loop-satellite.rows (f.so_far e is) c.in_default.ensures.next))
