use Rattle.std.proofs.Common.{◌≡◌, ◌<◌, ◌≤◌, ◌+◌, ◌*◌, ℕ, List, [], ◌∷◌, ◌++◌, length, take, get_or, set, append-nil, refl, sym, ap, subst, ◌∙◌, arith}
use Rattle.std.specs.Prelude.{◌⊎◌, flat_map}
use Rattle.std.proofs.lemmas.List.{take_more, take_all, length-set}
use Rattle.rtk_rinex.specs.declared.epoch_table.Observed.{Observed}
use Rattle.rtk_rinex.specs.declared.epoch_table.SatelliteRow.{SatelliteRow}
use Rattle.rtk_compare.specs.declared.shared_codes.SharedCode.{SharedCode}
use Rattle.rtk_compare.specs.declared.track.Track.{Track}
use Rattle.rtk_compare.specs.Pairs.{Pair}
use Rattle.rtk_compare.specs.Records.{cells_of, cells_before}
use Rattle.rtk_compare.specs.Steps.Tracks.{no_track, track_at, IsTrackOf, lines_if_told}
use Rattle.rtk_compare.specs.Steps.Rows.{row_view, place_at, gone_line}
use Rattle.rtk_compare.proofs.FindingLemmas.{adds-as, adds-after}
use Rattle.rtk_compare.proofs.RowLemmas.{own-track, own-more, others-more, row-told}
use Rattle.rtk_compare.proofs.rows.compare_row.Goals as goal

pub loop-k-init : goal.loop-k-init
loop-k-init c = record {
  size = c.requires.tracks;
  lines = λ shared earlier codes tracks. adds-as (sym (append-nil (gone_line c.args.time.now (row_view c.args.row.now)))) c.put_gone.ensures;
  own = λ j code es lt is. absurd (omega (arith, lt));
  others = λ n far. refl;
}

pub loop-k-preserved : goal.loop-k-preserved
loop-k-preserved c =
    let l = c.loop-k in
    let i = l.invariant in
    let k : ℕ = l.k in
    let s : ℕ = c.args.row.now.satellite in
    let p : Pair SatelliteRow = row_view c.args.row.now in
    let codes : List SharedCode = c.args.codes.now in
    let start : List Track = c.args.tracks.now in
    let x : SharedCode = c.code_at-code.result in
    let now : Track = c.compare_code.new.track in
    let n : ℕ = c.first_track-first.result + k in
    let first : c.first_track-first.result ≡ 16 * s = c.first_track-first.ensures.value in
    let lt : k < length codes = c.loop-k-test.true in
    let within : 16 * s + k < length l.tracks = (let size = i.size in let far = c.first_track-first.ensures.bound in let few = c.requires.codes in omega (arith, size, far, few, first, lt)) in
    let at : n ≡ 16 * s + k = ap (λ (m : ℕ). m + k) first in
    let was : c.track_in-track.result ≡ get_or l.tracks (16 * s + k) no_track = c.track_in-track.ensures no_track ∙ ap (λ (m : ℕ). get_or l.tracks m no_track) at in
    let after : c.put_track.new.tracks ≡ set l.tracks (16 * s + k) now = c.put_track.ensures ∙ ap (λ (m : ℕ). set l.tracks m now) at in
    record {
      size = ap (λ (ts : List Track). length ts) after ∙ length-set l.tracks (16 * s + k) now ∙ i.size;
      lines = λ shared earlier same tracks.
          let es : List (Pair Observed) = cells_before s x earlier in
          let own : IsTrackOf (track_at start s k) es =
          subst (λ (y : SharedCode). IsTrackOf (track_at start s k) (cells_before s y earlier)) (ap (λ (cs : List SharedCode). get_or cs k x) (sym same) ∙ sym (c.code_at-code.ensures x))
          (tracks k x (subst (λ (cs : List SharedCode). k < length cs) same lt)) in
          adds-after (λ (code : SharedCode). lines_if_told code.shifts (place_at c.args.time.now p code) (cells_before s code earlier) (cells_of code p)) (gone_line c.args.time.now p) codes k x (i.lines shared earlier same tracks)
          (c.compare_code.ensures.lines es (own-track start l.tracks s k c.track_in-track.result es i.others was own))
          (take_more codes k x lt ∙ ap (λ (y : SharedCode). take k codes ++ y ∷ []) (sym (c.code_at-code.ensures x)));
      own = λ j code es low is.
          subst (λ (ts : List Track). IsTrackOf (track_at ts s j) (cells_of (get_or codes j code) p ∷ es)) (sym after)
          (own-more start l.tracks codes p s k now within i.own
          (λ d before track.
          subst (λ (y : SharedCode). IsTrackOf now (cells_of y p ∷ before)) (c.code_at-code.ensures d)
          (c.compare_code.ensures.track before (own-track start l.tracks s k c.track_in-track.result before i.others was track)))
          j code es low is);
      others = λ m far.
          subst (λ (ts : List Track). get_or ts m no_track ≡ get_or start m no_track) (sym after) (others-more start l.tracks s k now i.others m far);
    }

pub returns-clause-lines : goal.returns-clause-lines
returns-clause-lines c = λ shared earlier same tracks.
    let l = c.loop-k in
    let s : ℕ = c.args.row.now.satellite in
    let p : Pair SatelliteRow = row_view c.args.row.now in
    let f = λ (code : SharedCode). lines_if_told code.shifts (place_at c.args.time.now p code) (cells_before s code earlier) (cells_of code p) in
    adds-as (ap (λ (cs : List SharedCode). gone_line c.args.time.now p ++ flat_map f cs) (take_all l.k c.args.codes.now (omega (arith, c.loop-k-test.false)) ∙ same) ∙ row-told c.args.time.now shared earlier p)
    (l.invariant.lines shared earlier same tracks)

pub returns-clause-tracks : goal.returns-clause-tracks
returns-clause-tracks c =
    let l = c.loop-k in
    let end : l.k ≡ length c.args.codes.now = omega arith in
    record {
      own = λ k code es lt is. l.invariant.own k code es (omega (arith, end, lt)) is;
      others = λ n far. l.invariant.others n (subst (λ (m : ℕ). (n < 16 * c.args.row.now.satellite) ⊎ (16 * c.args.row.now.satellite + m ≤ n)) (sym end) far);
    }
