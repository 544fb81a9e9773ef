-- The rows of two records, compared one after another.
use Rattle.std.proofs.Common.{◌≡◌, ◌<◌, ◌≤◌, ℕ, Bool, true, false, List, [], ◌∷◌, ◌++◌, length, refl, sym, ap, subst, ◌∙◌, arith, append_assoc, append-nil}
use Rattle.std.specs.Prelude.{Option, Some, None, flat_map}
use Rattle.std.proofs.lemmas.List.{flat_map_more}
use Rattle.rtk_obs.specs.SatelliteIndex.{IsSatelliteIndex}
use Rattle.rtk_rinex.specs.declared.epoch_table.Observed.{Observed}
use Rattle.rtk_rinex.specs.declared.epoch_table.SatelliteRow.{SatelliteRow}
use Rattle.rtk_compare.specs.declared.findings.Findings.{Findings}
use Rattle.rtk_compare.specs.declared.row_reader.RowReader.{RowReader}
use Rattle.rtk_compare.specs.declared.shared_codes.SharedCode.{SharedCode}
use Rattle.rtk_compare.specs.declared.side.Side.{Side}
use Rattle.rtk_compare.specs.declared.side.Side.TheVariants.{Old, New, Both}
use Rattle.rtk_compare.specs.declared.track.Track.{Track}
use Rattle.rtk_compare.specs.Pairs.{Pair, side_by_side, by_satellite, old_alone, new_alone}
use Rattle.rtk_compare.specs.Differences.{Adds}
use Rattle.rtk_compare.specs.Steps.Readers.{AreRowsOf, IsAtRows}
use Rattle.rtk_compare.specs.Steps.Sides.{IsNextSide, has_old, has_new}
use Rattle.rtk_compare.specs.Steps.Tracks.{pair, AreTracksAt, AreTracksOf}
use Rattle.rtk_compare.specs.Steps.Rows.{row_with, satellite_or_none, next_view, observed_of, next_rows, NotesRow, Rise, lines_told, ComparesRows}
use Rattle.rtk_compare.proofs.FindingLemmas.{adds_none, adds-as, adds-more}
use Rattle.rtk_compare.proofs.ReaderLemmas.{side-at, AreGood, rise-from_none, rows-end}
use Rattle.rtk_compare.proofs.RowLemmas.{RiseAbove, AreUpTo, up_to-later, up_to-more, side-old, side-new, side-both, tracks-begin, tracks-before, tracks-next}

-- so far these rows were compared, those of satellites up to `last`, and these are left in both files
pub record HasCompared (time : Option ℕ) (codes : ℕ → List SharedCode) (earlier : List (List (Pair SatelliteRow))) (all : List (Pair SatelliteRow)) (before after : Findings) (noted : List Track) (old new : RowReader) : Type 0 where
  pub done : List (Pair SatelliteRow)
  pub olds : List SatelliteRow
  pub news : List SatelliteRow
  pub last : ℕ
  pub parts : all ≡ done ++ side_by_side by_satellite olds news
  pub at_old : IsAtRows old olds
  pub at_new : IsAtRows new news
  pub old_rise : RiseAbove last olds
  pub new_rise : RiseAbove last news
  pub up_to : AreUpTo last done
  pub lines : Adds before after (flat_map (lines_told time codes earlier) done)
  pub tracks : AreTracksOf noted codes (done ∷ earlier)

pub compared-begin : (time : Option ℕ) (codes : ℕ → List SharedCode) (earlier : List (List (Pair SatelliteRow))) (findings : Findings) (noted : List Track) (old new : RowReader) (olds news : List SatelliteRow)
    → AreGood olds → AreGood news → Rise olds → Rise news → AreTracksOf noted codes earlier → IsAtRows old olds → IsAtRows new news
    → HasCompared time codes earlier (side_by_side by_satellite olds news) findings findings noted old new
compared-begin time codes earlier findings noted old new olds news old_good new_good old_rise new_rise tracks at_old at_new = record {
  done = [];
  olds = olds;
  news = news;
  last = 0;
  parts = refl;
  at_old = at_old;
  at_new = at_new;
  old_rise = rise-from_none olds old_good old_rise;
  new_rise = rise-from_none news new_good new_rise;
  up_to = tt;
  lines = adds_none findings;
  tracks = tracks-begin noted codes earlier tracks;
}

-- ---- the rows that come next

-- a reader went on, if it was read
pub record GoesOn (old new : RowReader) (is_read : Bool) : Type 0 where
  pub next : (all : List SatelliteRow) → is_read ≡ true → AreRowsOf old.rows all → IsAtRows new all
  pub same : is_read ≡ false → new ≡ old

pub goes-on : (old new : RowReader) (a b : Bool) → a ≡ b → ((all : List SatelliteRow) → a ≡ true → AreRowsOf old.rows all → IsAtRows new all) → (a ≡ false → new ≡ old) → GoesOn old new b
goes-on old new a b is next same = record { next = λ all yes. next all (is ∙ yes); same = λ no. same (is ∙ no) }

-- the next rows of both files are these, and these are left
pub record NextPair (side : Side) (old new old' new' : RowReader) (last : ℕ) (olds news : List SatelliteRow) : Type 0 where
  pub old_left : List SatelliteRow
  pub new_left : List SatelliteRow
  pub parts : side_by_side by_satellite olds news ≡ next_rows side old new ∷ side_by_side by_satellite old_left new_left
  pub at_old : IsAtRows old' old_left
  pub at_new : IsAtRows new' new_left
  pub above : last < (next_rows side old new).old.satellite
  pub good : IsSatelliteIndex (next_rows side old new).old.satellite
  pub old_rise : RiseAbove (next_rows side old new).old.satellite old_left
  pub new_rise : RiseAbove (next_rows side old new).old.satellite new_left

rise-from : (n last : ℕ) (rows : List SatelliteRow) → ((y : SatelliteRow) (ys : List SatelliteRow) → rows ≡ y ∷ ys → n < y.satellite) → RiseAbove last rows → RiseAbove n rows
rise-from n last [] above rise = tt
rise-from n last (y ∷ ys) above rise = (above y ys refl, rise.1, rise.2)

old-rows : (old new : RowReader) (r : SatelliteRow) → old.satellite ≡ Some r.satellite → old.observed.items ≡ r.observed.items → next_rows Old old new ≡ old_alone by_satellite r
old-rows old new r satellite shown =
    ap (λ (o : Option ℕ). pair (row_with (satellite_or_none o) old.observed.items) (row_with (satellite_or_none o) [])) satellite
    ∙ ap (λ (xs : List Observed). pair (row_with r.satellite xs) (row_with r.satellite [])) shown

new-rows : (old new : RowReader) (n : SatelliteRow) → new.satellite ≡ Some n.satellite → new.observed.items ≡ n.observed.items → next_rows New old new ≡ new_alone by_satellite n
new-rows old new n satellite shown =
    ap (λ (o : Option ℕ). pair (row_with (satellite_or_none o) []) (row_with (satellite_or_none o) new.observed.items)) satellite
    ∙ ap (λ (xs : List Observed). pair (row_with n.satellite []) (row_with n.satellite xs)) shown

both-rows : (old new : RowReader) (r n : SatelliteRow) → r.satellite ≡ n.satellite → old.satellite ≡ Some r.satellite → old.observed.items ≡ r.observed.items → new.observed.items ≡ n.observed.items
    → next_rows Both old new ≡ pair r n
both-rows old new r n same satellite old_shown new_shown =
    ap (λ (o : Option ℕ). pair (row_with (satellite_or_none o) old.observed.items) (row_with (satellite_or_none o) new.observed.items)) satellite
    ∙ ap (λ (xs : List Observed). pair (row_with r.satellite xs) (row_with r.satellite new.observed.items)) old_shown
    ∙ ap (λ (xs : List Observed). pair (row_with r.satellite r.observed.items) (row_with r.satellite xs)) new_shown
    ∙ ap (λ (s : ℕ). pair (row_with r.satellite r.observed.items) (row_with s n.observed.items)) same

pair-old : (old new old' new' : RowReader) (last : ℕ) (r : SatelliteRow) (rs news : List SatelliteRow) → ((y : SatelliteRow) (ys : List SatelliteRow) → news ≡ y ∷ ys → r.satellite < y.satellite)
    → IsAtRows old (r ∷ rs) → IsAtRows new news → RiseAbove last (r ∷ rs) → RiseAbove last news → GoesOn old old' true → GoesOn new new' false → NextPair Old old new old' new' last (r ∷ rs) news
pair-old old new old' new' last r rs news less at_old at_new old_rise new_rise old_goes new_goes =
    let is : satellite_or_none old.satellite ≡ r.satellite = ap satellite_or_none at_old.0 in
    record {
      old_left = rs;
      new_left = news;
      parts = side-old by_satellite r rs news less ∙ ap (λ (p : Pair SatelliteRow). p ∷ side_by_side by_satellite rs news) (sym (old-rows old new r at_old.0 at_old.1));
      at_old = old_goes.next rs refl at_old.2;
      at_new = subst (λ (x : RowReader). IsAtRows x news) (sym (new_goes.same refl)) at_new;
      above = subst (λ (n : ℕ). last < n) (sym is) old_rise.0;
      good = subst (λ (n : ℕ). IsSatelliteIndex n) (sym is) old_rise.1;
      old_rise = subst (λ (n : ℕ). RiseAbove n rs) (sym is) old_rise.2;
      new_rise = subst (λ (n : ℕ). RiseAbove n news) (sym is) (rise-from r.satellite last news less new_rise);
    }

pair-new : (old new old' new' : RowReader) (last : ℕ) (n : SatelliteRow) (ns olds : List SatelliteRow) → ((x : SatelliteRow) (xs : List SatelliteRow) → olds ≡ x ∷ xs → n.satellite < x.satellite)
    → IsAtRows old olds → IsAtRows new (n ∷ ns) → RiseAbove last olds → RiseAbove last (n ∷ ns) → GoesOn old old' false → GoesOn new new' true → NextPair New old new old' new' last olds (n ∷ ns)
pair-new old new old' new' last n ns olds less at_old at_new old_rise new_rise old_goes new_goes =
    let is : satellite_or_none new.satellite ≡ n.satellite = ap satellite_or_none at_new.0 in
    record {
      old_left = olds;
      new_left = ns;
      parts = side-new by_satellite olds n ns less ∙ ap (λ (p : Pair SatelliteRow). p ∷ side_by_side by_satellite olds ns) (sym (new-rows old new n at_new.0 at_new.1));
      at_old = subst (λ (x : RowReader). IsAtRows x olds) (sym (old_goes.same refl)) at_old;
      at_new = new_goes.next ns refl at_new.2;
      above = subst (λ (k : ℕ). last < k) (sym is) new_rise.0;
      good = subst (λ (k : ℕ). IsSatelliteIndex k) (sym is) new_rise.1;
      old_rise = subst (λ (k : ℕ). RiseAbove k olds) (sym is) (rise-from n.satellite last olds less old_rise);
      new_rise = subst (λ (k : ℕ). RiseAbove k ns) (sym is) new_rise.2;
    }

pair-both : (old new old' new' : RowReader) (last : ℕ) (r : SatelliteRow) (rs : List SatelliteRow) (n : SatelliteRow) (ns : List SatelliteRow) → r.satellite ≡ n.satellite
    → IsAtRows old (r ∷ rs) → IsAtRows new (n ∷ ns) → RiseAbove last (r ∷ rs) → RiseAbove last (n ∷ ns) → GoesOn old old' true → GoesOn new new' true → NextPair Both old new old' new' last (r ∷ rs) (n ∷ ns)
pair-both old new old' new' last r rs n ns same at_old at_new old_rise new_rise old_goes new_goes =
    let is : satellite_or_none old.satellite ≡ r.satellite = ap satellite_or_none at_old.0 in
    record {
      old_left = rs;
      new_left = ns;
      parts = side-both by_satellite r rs n ns same ∙ ap (λ (p : Pair SatelliteRow). p ∷ side_by_side by_satellite rs ns) (sym (both-rows old new r n same at_old.0 at_old.1 at_new.1));
      at_old = old_goes.next rs refl at_old.2;
      at_new = new_goes.next ns refl at_new.2;
      above = subst (λ (k : ℕ). last < k) (sym is) old_rise.0;
      good = subst (λ (k : ℕ). IsSatelliteIndex k) (sym is) old_rise.1;
      old_rise = subst (λ (k : ℕ). RiseAbove k rs) (sym is) old_rise.2;
      new_rise = subst (λ (k : ℕ). RiseAbove k ns) (sym (is ∙ same)) new_rise.2;
    }

-- the head of a list that is an element and others
first-less : (n : ℕ) (y : SatelliteRow) (ys : List SatelliteRow) → n < y.satellite → (z : SatelliteRow) (zs : List SatelliteRow) → y ∷ ys ≡ z ∷ zs → n < z.satellite
first-less n y ys less z zs is = let same : y ≡ z = cc in subst (λ (x : SatelliteRow). n < x.satellite) same less

pub next-pair : (side : Side) (old new old' new' : RowReader) (last : ℕ) (olds news : List SatelliteRow) → IsNextSide old.satellite new.satellite (Some side) → IsAtRows old olds → IsAtRows new news
    → RiseAbove last olds → RiseAbove last news → GoesOn old old' (has_old side) → GoesOn new new' (has_new side) → NextPair side old new old' new' last olds news
next-pair side old new old' new' last [] [] next at_old at_new old_rise new_rise old_goes new_goes =
    absurd (let is = side-at _ _ None None (Some side) at_old at_new next in cc)
next-pair Old old new old' new' last [] (n ∷ ns) next at_old at_new old_rise new_rise old_goes new_goes =
    absurd (let is = side-at _ _ None (Some n.satellite) (Some Old) at_old at_new.0 next in cc)
next-pair New old new old' new' last [] (n ∷ ns) next at_old at_new old_rise new_rise old_goes new_goes =
    pair-new old new old' new' last n ns [] (λ x xs is. absurd (cc)) at_old at_new old_rise new_rise old_goes new_goes
next-pair Both old new old' new' last [] (n ∷ ns) next at_old at_new old_rise new_rise old_goes new_goes =
    absurd (let is = side-at _ _ None (Some n.satellite) (Some Both) at_old at_new.0 next in cc)
next-pair Old old new old' new' last (r ∷ rs) [] next at_old at_new old_rise new_rise old_goes new_goes =
    pair-old old new old' new' last r rs [] (λ y ys is. absurd (cc)) at_old at_new old_rise new_rise old_goes new_goes
next-pair New old new old' new' last (r ∷ rs) [] next at_old at_new old_rise new_rise old_goes new_goes =
    absurd (let is = side-at _ _ (Some r.satellite) None (Some New) at_old.0 at_new next in cc)
next-pair Both old new old' new' last (r ∷ rs) [] next at_old at_new old_rise new_rise old_goes new_goes =
    absurd (let is = side-at _ _ (Some r.satellite) None (Some Both) at_old.0 at_new next in cc)
next-pair Old old new old' new' last (r ∷ rs) (n ∷ ns) next at_old at_new old_rise new_rise old_goes new_goes =
    pair-old old new old' new' last r rs (n ∷ ns) (first-less r.satellite n ns (side-at _ _ (Some r.satellite) (Some n.satellite) (Some Old) at_old.0 at_new.0 next)) at_old at_new old_rise new_rise old_goes new_goes
next-pair New old new old' new' last (r ∷ rs) (n ∷ ns) next at_old at_new old_rise new_rise old_goes new_goes =
    pair-new old new old' new' last n ns (r ∷ rs) (first-less n.satellite r rs (side-at _ _ (Some r.satellite) (Some n.satellite) (Some New) at_old.0 at_new.0 next)) at_old at_new old_rise new_rise old_goes new_goes
next-pair Both old new old' new' last (r ∷ rs) (n ∷ ns) next at_old at_new old_rise new_rise old_goes new_goes =
    pair-both old new old' new' last r rs n ns (side-at _ _ (Some r.satellite) (Some n.satellite) (Some Both) at_old.0 at_new.0 next) at_old at_new old_rise new_rise old_goes new_goes

-- ---- one pair of rows more

pub compared-more : (time : Option ℕ) (codes : ℕ → List SharedCode) (earlier : List (List (Pair SatelliteRow))) (all : List (Pair SatelliteRow)) (before mid after : Findings) (noted noted' : List Track) (side : Side) (old new old' new' : RowReader)
    → ((s : ℕ) → length (codes s) ≤ 16) → HasCompared time codes earlier all before mid noted old new → IsNextSide old.satellite new.satellite (Some side)
    → (AreTracksAt noted codes earlier (next_rows side old new).old.satellite → Adds mid after (lines_told time codes earlier (next_rows side old new)))
    → NotesRow noted noted' (codes (next_rows side old new).old.satellite) (next_rows side old new) → GoesOn old old' (has_old side) → GoesOn new new' (has_new side)
    → HasCompared time codes earlier all before after noted' old' new'
compared-more time codes earlier all before mid after noted noted' side old new old' new' few h next told notes old_goes new_goes =
    let n = next-pair side old new old' new' h.last h.olds h.news next h.at_old h.at_new h.old_rise h.new_rise old_goes new_goes in
    let p = next_rows side old new in
    let up = n.above in
    record {
      done = h.done ++ p ∷ [];
      olds = n.old_left;
      news = n.new_left;
      last = p.old.satellite;
      parts = h.parts ∙ ap (λ (xs : List (Pair SatelliteRow)). h.done ++ xs) n.parts ∙ sym (append_assoc h.done (p ∷ []) (side_by_side by_satellite n.old_left n.new_left));
      at_old = n.at_old;
      at_new = n.at_new;
      old_rise = n.old_rise;
      new_rise = n.new_rise;
      up_to = up_to-more p.old.satellite h.done p (omega arith) (up_to-later h.last p.old.satellite h.done (omega (arith, up)) h.up_to);
      lines = adds-as (flat_map_more (lines_told time codes earlier) [] h.done p) (adds-more h.lines (told (tracks-before noted codes earlier h.done h.last p.old.satellite n.good n.above h.up_to h.tracks)));
      tracks = tracks-next noted noted' codes earlier h.done p h.last few n.above h.up_to h.tracks notes;
    }

-- after the last one all were compared
pub compared-all : (time : Option ℕ) (codes : ℕ → List SharedCode) (earlier : List (List (Pair SatelliteRow))) (all : List (Pair SatelliteRow)) (before mid after : Findings) (noted noted' : List Track) (old new : RowReader)
    → HasCompared time codes earlier all before mid noted old new → IsNextSide old.satellite new.satellite None → after ≡ mid → noted' ≡ noted → ComparesRows time codes earlier all before after noted'
compared-all time codes earlier all before mid after noted noted' old new h none same same_tracks =
    let end = rows-end old new h.olds h.news h.at_old h.at_new none in
    let whole : h.done ≡ all =
    sym (h.parts ∙ ap (λ (xs : List SatelliteRow). h.done ++ side_by_side by_satellite xs h.news) end.0 ∙ ap (λ (xs : List SatelliteRow). h.done ++ side_by_side by_satellite [] xs) end.1 ∙ append-nil h.done) in
    record {
      lines = subst (λ (f : Findings). Adds before f (flat_map (lines_told time codes earlier) all)) (sym same) (adds-as (ap (λ (xs : List (Pair SatelliteRow)). flat_map (lines_told time codes earlier) xs) whole) h.lines);
      tracks = subst (λ (ts : List Track). AreTracksOf ts codes (all ∷ earlier)) (sym same_tracks) (subst (λ (xs : List (Pair SatelliteRow)). AreTracksOf noted codes (xs ∷ earlier)) whole h.tracks);
    }

-- ---- what is compared next

pub rows-same : (side : Side) (old new : RowReader) (s : ℕ) (olds news : List Observed) (a b : Bool) → Some s ≡ next_view side old.satellite new.satellite → olds ≡ observed_of a old → a ≡ has_old side
    → news ≡ observed_of b new → b ≡ has_new side → pair (row_with s olds) (row_with s news) ≡ next_rows side old new
rows-same side old new s olds news a b satellite old_is a_is new_is b_is =
    let at = satellite_or_none (next_view side old.satellite new.satellite) in
    ap (λ (n : ℕ). pair (row_with n olds) (row_with n news)) (ap satellite_or_none satellite)
    ∙ ap (λ (xs : List Observed). pair (row_with at xs) (row_with at news)) (old_is ∙ ap (λ (x : Bool). observed_of x old) a_is)
    ∙ ap (λ (xs : List Observed). pair (row_with at (observed_of (has_old side) old)) (row_with at xs)) (new_is ∙ ap (λ (x : Bool). observed_of x new) b_is)

pub notes-as : (old new : List Track) (codes : ℕ → List SharedCode) (own : List SharedCode) (q p : Pair SatelliteRow) → NotesRow old new own q → own ≡ codes q.old.satellite → q ≡ p → NotesRow old new (codes p.old.satellite) p
notes-as old new codes own q p notes is same =
    subst (λ (x : Pair SatelliteRow). NotesRow old new (codes x.old.satellite) x) same (subst (λ (cs : List SharedCode). NotesRow old new cs q) is notes)

-- a file that comes next has a satellite
pub no-satellite : (a b : Option ℕ) (side : Side) → IsNextSide a b (Some side) → None ≡ next_view side a b → ⊥
no-satellite None None side is none = cc
no-satellite None (Some b) Old is none = cc
no-satellite None (Some b) New is none = cc
no-satellite None (Some b) Both is none = cc
no-satellite (Some a) None Old is none = cc
no-satellite (Some a) None New is none = cc
no-satellite (Some a) None Both is none = cc
no-satellite (Some a) (Some b) Old is none = cc
no-satellite (Some a) (Some b) New is none = cc
no-satellite (Some a) (Some b) Both is none = cc
