-- The records of two files, compared one after another.
use Rattle.std.proofs.Common.{◌≡◌, ◌≢◌, ◌<◌, ◌++◌, ℕ, Bool, true, false, cond, eqb, Option, Some, None, List, [], ◌∷◌, length, refl, sym, ap, subst, ◌∙◌, arith, append_assoc, append-nil}
use Rattle.std.specs.Prelude.{flat_map}
use Rattle.std.proofs.lemmas.Bool.{ne_eqb}
use Rattle.rtk_rinex.specs.Record.{EpochTableView}
use Rattle.rtk_rinex.specs.MixedRecords.{MixedRowsView, AreMixedLeft}
use Rattle.rtk_rinex.specs.declared.epoch_table.SatelliteRow.{SatelliteRow}
use Rattle.rtk_compare.specs.declared.difference.Class.TheVariants.{Lost}
use Rattle.rtk_compare.specs.declared.difference.What.TheVariants as what
use Rattle.rtk_compare.specs.declared.difference.Difference.{Difference}
use Rattle.rtk_compare.specs.declared.findings.Findings.{Findings}
use Rattle.rtk_compare.specs.declared.record_reader.RecordReader.{RecordReader}
use Rattle.rtk_compare.specs.declared.shared_codes.SharedCode.{SharedCode}
use Rattle.rtk_compare.specs.declared.side.Side.{Side}
use Rattle.rtk_compare.specs.declared.side.Side.TheVariants.{Old, New, Both}
use Rattle.rtk_compare.specs.declared.track.Track.{Track}
use Rattle.rtk_compare.specs.Places.{at_epoch}
use Rattle.rtk_compare.specs.Pairs.{Pair, side_by_side, by_time, old_alone, new_alone, rows_beside}
use Rattle.rtk_compare.specs.Records.{row_lines, epoch_lines, lines_after, record_lines}
use Rattle.rtk_compare.specs.Differences.{Adds}
use Rattle.rtk_compare.specs.Steps.Readers.{AreRowsOf, IsAtEpochs, time_of}
use Rattle.rtk_compare.specs.Steps.Records.{IsSideOf, moment_of_both, gone_epoch, ComparesEpoch}
use Rattle.rtk_compare.specs.Steps.Rows.{Rise, lines_told, ComparesRows}
use Rattle.rtk_compare.specs.Steps.Sides.{IsNextSide, has_old, has_new}
use Rattle.rtk_compare.specs.Steps.Tracks.{pair, AreTracksOf}
use Rattle.rtk_compare.proofs.FindingLemmas.{adds_none, adds-as, adds-more}
use Rattle.rtk_compare.proofs.ReaderLemmas.{side-at, time-in, side-of, epochs-end}
use Rattle.rtk_compare.proofs.RowLemmas.{flat_map-none, side-old, side-new, side-both}

-- ---- the epochs of a moment

-- the rows of a side, and that they rise
pub side-rows : (o : Option MixedRowsView) (e : EpochTableView) → IsSideOf o e → AreRowsOf o e.rows
side-rows None e is = is
side-rows (Some rows) e is = is.0.rows

pub side-rise : (o : Option MixedRowsView) (e : EpochTableView) → IsSideOf o e → Rise e.rows
side-rise None e is = subst (λ (xs : List SatelliteRow). Rise xs) (sym is) (λ i j d lt within. absurd (omega (arith, within)))
side-rise (Some rows) e is = is.1.1.rise

some-rows : (rows : List SatelliteRow) → rows ≢ [] → eqb (length rows) 0 ≡ false
some-rows [] some = absurd (some refl)
some-rows (r ∷ rows) some = ne_eqb _ _ (λ same. omega (arith, same))

-- what is told of the epochs of a moment, by whether the files have one
epoch-by : (codes : ℕ → List SharedCode) (earlier : List (List (Pair SatelliteRow))) (p : Pair EpochTableView) (a b : Bool) → eqb (length p.old.rows) 0 ≡ a → eqb (length p.new.rows) 0 ≡ b
    → epoch_lines codes earlier p ≡ cond a [] (cond b (record { class = Lost; what = what.Epoch; place = at_epoch p.old.time } ∷ []) (flat_map (row_lines codes earlier p.old.time) (rows_beside p)))
epoch-by codes earlier p a b is_a is_b =
    let lost : List Difference = record { class = Lost; what = what.Epoch; place = at_epoch p.old.time } ∷ [] in
    let rows : List Difference = flat_map (row_lines codes earlier p.old.time) (rows_beside p) in
    ap (λ (x : Bool). cond x [] (cond (eqb (length p.new.rows) 0) lost rows)) is_a ∙ ap (λ (x : Bool). cond a [] (cond x lost rows)) is_b

pub epoch-told : (old new : Option MixedRowsView) (codes : ℕ → List SharedCode) (earlier : List (List (Pair SatelliteRow))) (p : Pair EpochTableView) → IsSideOf old p.old → IsSideOf new p.new
    → gone_epoch old new ++ flat_map (lines_told (moment_of_both old new) codes earlier) (rows_beside p) ≡ epoch_lines codes earlier p
epoch-told None new codes earlier p is_old is_new =
    flat_map-none (rows_beside p) ∙ sym (epoch-by codes earlier p true (eqb (length p.new.rows) 0) (ap (λ (xs : List SatelliteRow). eqb (length xs) 0) is_old) refl)
epoch-told (Some old) None codes earlier p is_old is_new =
    ap (λ (ds : List Difference). record { class = Lost; what = what.Epoch; place = at_epoch old.time } ∷ ds) (flat_map-none (rows_beside p))
    ∙ ap (λ (t : ℕ). record { class = Lost; what = what.Epoch; place = at_epoch t } ∷ []) is_old.0.time
    ∙ sym (epoch-by codes earlier p false true (some-rows p.old.rows is_old.1.1.some) (ap (λ (xs : List SatelliteRow). eqb (length xs) 0) is_new))
epoch-told (Some old) (Some new) codes earlier p is_old is_new =
    ap (λ (t : ℕ). flat_map (row_lines codes earlier t) (rows_beside p)) is_old.0.time
    ∙ sym (epoch-by codes earlier p false false (some-rows p.old.rows is_old.1.1.some) (some-rows p.new.rows is_new.1.1.some))

pub epoch-compared : (old new : Option MixedRowsView) (codes : ℕ → List SharedCode) (earlier : List (List (Pair SatelliteRow))) (p : Pair EpochTableView) (time : Option ℕ) (a b c : Findings) (noted : List Track)
    → IsSideOf old p.old → IsSideOf new p.new → Adds a b (gone_epoch old new) → time ≡ moment_of_both old new → ComparesRows time codes earlier (rows_beside p) b c noted → ComparesEpoch codes earlier p a c noted
epoch-compared old new codes earlier p time a b c noted is_old is_new gone at rows = record {
  lines = adds-as (ap (λ (t : Option ℕ). gone_epoch old new ++ flat_map (lines_told t codes earlier) (rows_beside p)) at ∙ epoch-told old new codes earlier p is_old is_new) (adds-more gone rows.lines);
  tracks = rows.tracks;
}

-- ---- one moment after another

-- so far these lines were told, after rows of these moments, and these epochs are left in both files
pub record HasWalked (codes : ℕ → List SharedCode) (all_old all_new : List EpochTableView) (before after : Findings) (noted : List Track) (old new : RecordReader) : Type 0 where
  pub told : List Difference
  pub earlier : List (List (Pair SatelliteRow))
  pub olds : List EpochTableView
  pub news : List EpochTableView
  pub parts : record_lines codes all_old all_new ≡ told ++ lines_after codes earlier (side_by_side by_time olds news)
  pub at_old : IsAtEpochs old olds
  pub at_new : IsAtEpochs new news
  pub lines : Adds before after told
  pub tracks : AreTracksOf noted codes earlier

pub walked-begin : (codes : ℕ → List SharedCode) (olds news : List EpochTableView) (findings : Findings) (noted : List Track) (old new : RecordReader) → AreTracksOf noted codes [] → IsAtEpochs old olds → IsAtEpochs new news
    → HasWalked codes olds news findings findings noted old new
walked-begin codes olds news findings noted old new tracks at_old at_new = record {
  told = [];
  earlier = [];
  olds = olds;
  news = news;
  parts = refl;
  at_old = at_old;
  at_new = at_new;
  lines = adds_none findings;
  tracks = tracks;
}

-- a reader gave its next record, and went on, if it was asked for
pub record Takes (old new : RecordReader) (rows : Option MixedRowsView) (is_asked_for : Bool) : Type 0 where
  pub value : is_asked_for ≡ true → rows ≡ old.next
  pub none : is_asked_for ≡ false → rows ≡ None
  pub next : (epochs : List EpochTableView) → is_asked_for ≡ true → AreMixedLeft old.records epochs → IsAtEpochs new epochs
  pub same : is_asked_for ≡ false → new ≡ old

pub takes-as : (old new : RecordReader) (rows : Option MixedRowsView) (a b : Bool) → a ≡ b → Takes old new rows a → Takes old new rows b
takes-as old new rows a b is takes = subst (λ (x : Bool). Takes old new rows x) is takes

-- the next epochs of both files are these, and these are left
pub record NextEpochs (old_rows new_rows : Option MixedRowsView) (old' new' : RecordReader) (olds news : List EpochTableView) : Type 0 where
  pub epochs : Pair EpochTableView
  pub old_left : List EpochTableView
  pub new_left : List EpochTableView
  pub parts : side_by_side by_time olds news ≡ epochs ∷ side_by_side by_time old_left new_left
  pub old_side : IsSideOf old_rows epochs.old
  pub new_side : IsSideOf new_rows epochs.new
  pub at_old : IsAtEpochs old' old_left
  pub at_new : IsAtEpochs new' new_left

taken-side : (old new : RecordReader) (rows : Option MixedRowsView) (e : EpochTableView) (es : List EpochTableView) → IsAtEpochs old (e ∷ es) → Takes old new rows true → IsSideOf rows e
taken-side old new rows e es at takes = subst (λ (o : Option MixedRowsView). IsSideOf o e) (sym (takes.value refl)) (side-of old.next e at.0)

left-side : (old new : RecordReader) (rows : Option MixedRowsView) (t : ℕ) → Takes old new rows false → IsSideOf rows (record { time = t; rows = [] })
left-side old new rows t takes = subst (λ (o : Option MixedRowsView). IsSideOf o (record { time = t; rows = [] })) (sym (takes.none refl)) refl

epochs-old : (old new old' new' : RecordReader) (old_rows new_rows : Option MixedRowsView) (e : EpochTableView) (es news : List EpochTableView) → ((y : EpochTableView) (ys : List EpochTableView) → news ≡ y ∷ ys → e.time < y.time)
    → IsAtEpochs old (e ∷ es) → IsAtEpochs new news → Takes old old' old_rows true → Takes new new' new_rows false → NextEpochs old_rows new_rows old' new' (e ∷ es) news
epochs-old old new old' new' old_rows new_rows e es news less at_old at_new old_takes new_takes = record {
  epochs = old_alone by_time e;
  old_left = es;
  new_left = news;
  parts = side-old by_time e es news less;
  old_side = taken-side old old' old_rows e es at_old old_takes;
  new_side = left-side new new' new_rows e.time new_takes;
  at_old = old_takes.next es refl at_old.1;
  at_new = subst (λ (x : RecordReader). IsAtEpochs x news) (sym (new_takes.same refl)) at_new;
}

epochs-new : (old new old' new' : RecordReader) (old_rows new_rows : Option MixedRowsView) (n : EpochTableView) (ns olds : List EpochTableView) → ((x : EpochTableView) (xs : List EpochTableView) → olds ≡ x ∷ xs → n.time < x.time)
    → IsAtEpochs old olds → IsAtEpochs new (n ∷ ns) → Takes old old' old_rows false → Takes new new' new_rows true → NextEpochs old_rows new_rows old' new' olds (n ∷ ns)
epochs-new old new old' new' old_rows new_rows n ns olds less at_old at_new old_takes new_takes = record {
  epochs = new_alone by_time n;
  old_left = olds;
  new_left = ns;
  parts = side-new by_time olds n ns less;
  old_side = left-side old old' old_rows n.time old_takes;
  new_side = taken-side new new' new_rows n ns at_new new_takes;
  at_old = subst (λ (x : RecordReader). IsAtEpochs x olds) (sym (old_takes.same refl)) at_old;
  at_new = new_takes.next ns refl at_new.1;
}

epochs-both : (old new old' new' : RecordReader) (old_rows new_rows : Option MixedRowsView) (e : EpochTableView) (es : List EpochTableView) (n : EpochTableView) (ns : List EpochTableView) → e.time ≡ n.time
    → IsAtEpochs old (e ∷ es) → IsAtEpochs new (n ∷ ns) → Takes old old' old_rows true → Takes new new' new_rows true → NextEpochs old_rows new_rows old' new' (e ∷ es) (n ∷ ns)
epochs-both old new old' new' old_rows new_rows e es n ns same at_old at_new old_takes new_takes = record {
  epochs = pair e n;
  old_left = es;
  new_left = ns;
  parts = side-both by_time e es n ns same;
  old_side = taken-side old old' old_rows e es at_old old_takes;
  new_side = taken-side new new' new_rows n ns at_new new_takes;
  at_old = old_takes.next es refl at_old.1;
  at_new = new_takes.next ns refl at_new.1;
}

sooner-first : (t : ℕ) (y : EpochTableView) (ys : List EpochTableView) → t < y.time → (z : EpochTableView) (zs : List EpochTableView) → y ∷ ys ≡ z ∷ zs → t < z.time
sooner-first t y ys less z zs is = let same : y ≡ z = cc in subst (λ (x : EpochTableView). t < x.time) same less

next-by : (side : Side) (old new old' new' : RecordReader) (old_rows new_rows : Option MixedRowsView) (olds news : List EpochTableView) → IsNextSide (time_of old.next) (time_of new.next) (Some side)
    → IsAtEpochs old olds → IsAtEpochs new news → Takes old old' old_rows (has_old side) → Takes new new' new_rows (has_new side) → NextEpochs old_rows new_rows old' new' olds news
next-by side old new old' new' old_rows new_rows [] [] next at_old at_new old_takes new_takes =
    absurd (let is = side-at _ _ None None (Some side) (ap time_of at_old) (ap time_of at_new) next in cc)
next-by Old old new old' new' old_rows new_rows [] (n ∷ ns) next at_old at_new old_takes new_takes =
    absurd (let is = side-at _ _ None (Some n.time) (Some Old) (ap time_of at_old) (time-in _ n at_new.0) next in cc)
next-by New old new old' new' old_rows new_rows [] (n ∷ ns) next at_old at_new old_takes new_takes =
    epochs-new old new old' new' old_rows new_rows n ns [] (λ x xs is. absurd (cc)) at_old at_new old_takes new_takes
next-by Both old new old' new' old_rows new_rows [] (n ∷ ns) next at_old at_new old_takes new_takes =
    absurd (let is = side-at _ _ None (Some n.time) (Some Both) (ap time_of at_old) (time-in _ n at_new.0) next in cc)
next-by Old old new old' new' old_rows new_rows (e ∷ es) [] next at_old at_new old_takes new_takes =
    epochs-old old new old' new' old_rows new_rows e es [] (λ y ys is. absurd (cc)) at_old at_new old_takes new_takes
next-by New old new old' new' old_rows new_rows (e ∷ es) [] next at_old at_new old_takes new_takes =
    absurd (let is = side-at _ _ (Some e.time) None (Some New) (time-in _ e at_old.0) (ap time_of at_new) next in cc)
next-by Both old new old' new' old_rows new_rows (e ∷ es) [] next at_old at_new old_takes new_takes =
    absurd (let is = side-at _ _ (Some e.time) None (Some Both) (time-in _ e at_old.0) (ap time_of at_new) next in cc)
next-by Old old new old' new' old_rows new_rows (e ∷ es) (n ∷ ns) next at_old at_new old_takes new_takes =
    epochs-old old new old' new' old_rows new_rows e es (n ∷ ns) (sooner-first e.time n ns (side-at _ _ (Some e.time) (Some n.time) (Some Old) (time-in _ e at_old.0) (time-in _ n at_new.0) next)) at_old at_new old_takes new_takes
next-by New old new old' new' old_rows new_rows (e ∷ es) (n ∷ ns) next at_old at_new old_takes new_takes =
    epochs-new old new old' new' old_rows new_rows n ns (e ∷ es) (sooner-first n.time e es (side-at _ _ (Some e.time) (Some n.time) (Some New) (time-in _ e at_old.0) (time-in _ n at_new.0) next)) at_old at_new old_takes new_takes
next-by Both old new old' new' old_rows new_rows (e ∷ es) (n ∷ ns) next at_old at_new old_takes new_takes =
    epochs-both old new old' new' old_rows new_rows e es n ns (side-at _ _ (Some e.time) (Some n.time) (Some Both) (time-in _ e at_old.0) (time-in _ n at_new.0) next) at_old at_new old_takes new_takes

pub next-epochs : (side : Side) (old new old' new' : RecordReader) (old_rows new_rows : Option MixedRowsView) (a b : Option ℕ) (olds news : List EpochTableView) → IsNextSide a b (Some side) → a ≡ time_of old.next → b ≡ time_of new.next
    → IsAtEpochs old olds → IsAtEpochs new news → Takes old old' old_rows (has_old side) → Takes new new' new_rows (has_new side) → NextEpochs old_rows new_rows old' new' olds news
next-epochs side old new old' new' old_rows new_rows a b olds news next a_is b_is at_old at_new old_takes new_takes =
    next-by side old new old' new' old_rows new_rows olds news (side-at a b _ _ (Some side) a_is b_is next) at_old at_new old_takes new_takes

pub walked-more : (codes : ℕ → List SharedCode) (all_old all_new : List EpochTableView) (before mid after : Findings) (noted noted' : List Track) (old new old' new' : RecordReader) (old_rows new_rows : Option MixedRowsView)
    → (h : HasWalked codes all_old all_new before mid noted old new) → (n : NextEpochs old_rows new_rows old' new' h.olds h.news) → ComparesEpoch codes h.earlier n.epochs mid after noted'
    → HasWalked codes all_old all_new before after noted' old' new'
walked-more codes all_old all_new before mid after noted noted' old new old' new' old_rows new_rows h n compared =
    let told = epoch_lines codes h.earlier n.epochs in
    let rest = lines_after codes (rows_beside n.epochs ∷ h.earlier) (side_by_side by_time n.old_left n.new_left) in
    record {
      told = h.told ++ told;
      earlier = rows_beside n.epochs ∷ h.earlier;
      olds = n.old_left;
      news = n.new_left;
      parts = h.parts ∙ ap (λ (ps : List (Pair EpochTableView)). h.told ++ lines_after codes h.earlier ps) n.parts ∙ sym (append_assoc h.told told rest);
      at_old = n.at_old;
      at_new = n.at_new;
      lines = adds-more h.lines compared.lines;
      tracks = compared.tracks;
    }

pub walked-all : (codes : ℕ → List SharedCode) (all_old all_new : List EpochTableView) (before after : Findings) (noted : List Track) (old new : RecordReader) (a b : Option ℕ) → HasWalked codes all_old all_new before after noted old new
    → IsNextSide a b None → a ≡ time_of old.next → b ≡ time_of new.next → Adds before after (record_lines codes all_old all_new)
walked-all codes all_old all_new before after noted old new a b h none a_is b_is =
    let end = epochs-end old new h.olds h.news h.at_old h.at_new (side-at a b _ _ None a_is b_is none) in
    adds-as (sym (h.parts ∙ ap (λ (xs : List EpochTableView). h.told ++ lines_after codes h.earlier (side_by_side by_time xs h.news)) end.0
    ∙ ap (λ (xs : List EpochTableView). h.told ++ lines_after codes h.earlier (side_by_side by_time [] xs)) end.1 ∙ append-nil h.told)) h.lines
