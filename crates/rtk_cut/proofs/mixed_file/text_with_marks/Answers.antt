use Rattle.std.proofs.Common.{◌≡◌, ◌≤◌, ℕ, Bool, List, length, take, drop, length-append, length-drop, refl, sym, ap, subst, ◌∙◌, arith}
use Rattle.std.proofs.lemmas.List.{length-take-le}
use Rattle.rtk_rinex.specs.declared.epoch_table.SatelliteRow.{SatelliteRow}
use Rattle.rtk_rinex.specs.MixedRecord.{mixed_record_text}
use Rattle.rtk_rinex.specs.MixedRecords.{IsNextRowOf}
use Rattle.rtk_cut.specs.Steps.Pending.{HasMarks}
use Rattle.rtk_cut.proofs.MixedFileLemmas.{made-none, made-room, made-more, made-all}
use Rattle.rtk_cut.proofs.mixed_file.text_with_marks.Goals as goal

pub loop-satellite-init : goal.loop-satellite-init
loop-satellite-init c = record {
  size = refl;
  room = refl;
  so_far = made-none c.args.marks.now c.args.read.now c.again-rows.result c.restart_with.new.self c.restart_with.ensures.lines c.again-rows.ensures.value c.again-rows.ensures.few;
  doppler = c.restart_with.ensures.doppler ∙ c.has_doppler.ensures;
}

pub push_row-requires-clause-room : goal.push_row-requires-clause-room
push_row-requires-clause-room c =
    let l = c.loop-satellite in
    made-room c.args.marks.now l.marks c.args.read.now l.rows l.lines c.next_row.new.self.count l.invariant.so_far c.in-Some.ensures.end.count

pub loop-satellite-preserved : goal.loop-satellite-preserved
loop-satellite-preserved c =
    let l = c.loop-satellite in
    let i = l.invariant in
    let s = c.show_in_row in
    let n : ℕ = c.len.result in
    let row : SatelliteRow = record { satellite = c.index.result; observed = c.next_row.new.observed } in
    let few : n ≤ 16 = c.len.ensures.fits in
    let room : length l.shown ≡ 16 = i.room in
    let wide : length (take n l.shown) ≡ n = length-take-le n l.shown (omega (arith, few, room)) in
    let has : HasMarks l.marks row.satellite = (let bound = c.index.ensures.bound.1 in let size = i.size in let all = c.requires in omega (arith, bound, size, all)) in
    record {
      size = s.ensures.size ∙ i.size;
      room = (let a = length-append s.new.shown (drop n l.shown) in let b = length-drop n l.shown in let long = s.auto.shown in omega (arith, a, b, long, wide, few, room));
      so_far =
          made-more c.args.marks.now l.marks s.new.marks c.args.read.now l.rows c.next_row.new.self l.lines c.push_row.new.self row (length (take n l.shown)) s.new.shown s.result i.so_far
          (λ xs left. subst (λ (k : ℕ). IsNextRowOf xs (record { satellite = k; observed = c.next_row.new.observed }) c.next_row.new.self) (sym c.index.ensures.value) (c.in-Some.ensures.next xs left))
          c.in-Some.ensures.end.count
          (record {
            wide = wide ∙ c.len.ensures.value;
            few = omega (arith, wide, few);
            has = has;
            size = s.ensures.size;
            shown_is = s.ensures.shown;
            long = s.auto.shown;
            cleared = s.ensures.marks;
            same = s.ensures.same;
          })
          (rw (sym c.index.ensures.value) at c.in_ok-push_row.ensures.ok);
      doppler = c.push_row.ensures.doppler ∙ i.doppler;
    }

pub returns : goal.returns
returns c = λ e is.
    let l = c.loop-satellite in
    let f = l.invariant.so_far in
    let doppler : Bool = c.args.read.now.form.doppler in
    c.into_text.ensures ∙ c.finish.ensures.text f.made f.holds
    ∙ ap (λ (d : Bool). mixed_record_text d (record { time = c.time.result; rows = f.made })) l.invariant.doppler
    ∙ ap (λ (t : ℕ). mixed_record_text doppler (record { time = t; rows = f.made })) (c.time.ensures ∙ is.0.time)
    ∙ ap (λ (xs : List SatelliteRow). mixed_record_text doppler (record { time = e.time; rows = xs })) (made-all c.args.marks.now l.marks e.rows l.rows f.made (f.so_far e is) c.in_default.ensures.next)
