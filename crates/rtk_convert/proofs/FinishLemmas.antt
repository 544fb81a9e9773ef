-- The end: the epochs that are left close one after another.
use Rattle.std.proofs.Common.{◌≡◌, ℕ, Bool, List, [], ◌∷◌, ◌++◌, take, length, length-append, Option, refl, ap, append_assoc, sym, subst, ◌∙◌, arith}
use Rattle.std.proofs.Math.Seq.{get_or-append_seam}
use Rattle.std.specs.Prelude.{is_some}
use Rattle.std.proofs.lemmas.List.{append-nil, take-append-drop}
use Rattle.rtk_collect.specs.Signals.{signals}
use Rattle.rtk_setup.specs.Setup.{cells_by}
use Rattle.rtk_obs.specs.declared.signal_cells.SignalEntry.{SignalEntry}
use Rattle.rtk_collect.specs.EpochSet.{EpochSetView}
use Rattle.rtk_collect.specs.Arrival.{Arrival}
use Rattle.rtk_collect.specs.Accepted.{kept, closed}
use Rattle.rtk_collect.specs.Collector.{CollectorView, RepresentsArrivals}
use Rattle.rtk_collect.proofs.PublicLaws.{closed-drop}
use Rattle.rtk_frame.specs.Stream.{with_more, TakesPart}
use Rattle.rtk_rinex.specs.Header.{PositionView}
use Rattle.rtk_convert.specs.File.{first_time, file_of, record_count}
use Rattle.rtk_convert.specs.Steps.ClosedText.{closed_text, closing, header_before}
use Rattle.rtk_convert.specs.FileOfArrivals.{kept_file, file_so_far}
use Rattle.rtk_convert.specs.Steps.Closing.{AllAbove, ClosesEpochs, ClosesEpochsInPart}
use Rattle.rtk_convert.specs.Steps.ShownCells.{AllBelow}
use Rattle.rtk_convert.specs.ClosedEpochs.{ClosedEpochsView, HasClosed}
use Rattle.rtk_setup.specs.Setup.{SetupView}
use Rattle.rtk_convert.specs.Writing.{WritesRest}
use Rattle.rtk_convert.specs.Steps.WritingInPart.{WritesPartOfRest}
use Rattle.rtk_convert.proofs.FileLemmas.{closed-more, closed-grows, file-closed}
use Rattle.rtk_convert.proofs.SoFarLemmas.{so_far-is}
use Rattle.rtk_convert.specs.Steps.AddedMessage.{RepresentsEpochs}
use Rattle.rtk_convert.specs.Steps.WrittenAnswer.{site_of_window}
use Rattle.rtk_convert.proofs.AddLemmas.{epochs, site-kept}
use Rattle.rtk_convert.proofs.SoFarLemmas.{any_epoch}
use Rattle.rtk_convert.proofs.WritingLemmas.{writes-none, writes-on, part-text, part-longer, part-on}

-- some of the epochs that were left have closed
pub record SomeClosed (s : SetupView) (site : PositionView) (held now : List (EpochSetView SignalEntry)) (first last : ClosedEpochsView) (o o' : Option (List ℕ)) : Type 0 where
  pub gone : List (EpochSetView SignalEntry)
  pub split : held ≡ now ++ gone
  pub wrote : (below : List (EpochSetView SignalEntry)) → HasClosed first s.head.doppler s.head.listed below
      → HasClosed last s.head.doppler s.head.listed (gone ++ below) × WritesRest o o' (closed_text s site below) (closed_text s site (gone ++ below))

pub some-none : (s : SetupView) (site : PositionView) (held : List (EpochSetView SignalEntry)) (c : ClosedEpochsView) (o : Option (List ℕ)) → SomeClosed s site held held c c o o
some-none s site held c o = record { gone = []; split = sym (append-nil held); wrote = λ below f. (f, writes-none o _ _ refl) }

pub some-more : {s : SetupView} {site : PositionView} {held now next : List (EpochSetView SignalEntry)} {e : EpochSetView SignalEntry} {first last last' : ClosedEpochsView} {o o' o'' : Option (List ℕ)}
    → SomeClosed s site held now first last o o' → now ≡ next ++ e ∷ []
    → ((below : List (EpochSetView SignalEntry)) → HasClosed last s.head.doppler s.head.listed below → HasClosed last' s.head.doppler s.head.listed (e ∷ below))
    → ((below : List (EpochSetView SignalEntry)) → HasClosed last s.head.doppler s.head.listed below → o'' ≡ with_more o' (closing s site e below))
    → SomeClosed s site held next first last' o o''
some-more {s} {site} {held} {now} {next} {e} {first} {last} {last'} {o} {o'} {o''} l cut follows out = record {
  gone = e ∷ l.gone;
  split = l.split ∙ ap (λ t. t ++ l.gone) cut ∙ append_assoc next (e ∷ []) l.gone;
  wrote = λ below f.
      let w = l.wrote below f in (
        follows (l.gone ++ below) w.0,
        writes-on o o' o'' _ _ _ w.1 (closing s site e (l.gone ++ below), closed-more s site e (l.gone ++ below), out (l.gone ++ below) w.0),
      );
}

pub some-all : (s : SetupView) (site : PositionView) (held now : List (EpochSetView SignalEntry)) (first last : ClosedEpochsView) (o o' : Option (List ℕ)) → SomeClosed s site held now first last o o' → now ≡ []
    → ClosesEpochs s site first held last o o'
some-all s site held now first last o o' l none = λ below f.
    let w = l.wrote below f in
    let all : held ≡ l.gone = l.split ∙ ap (λ t. t ++ l.gone) none in
    record {
      follows = subst (λ (t : List (EpochSetView SignalEntry)). HasClosed last s.head.doppler s.head.listed (t ++ below)) (sym all) w.0;
      out = subst (λ (t : List (EpochSetView SignalEntry)). WritesRest o o' (closed_text s site below) (closed_text s site (t ++ below))) (sym all) w.1;
    }

pub some-part : {s : SetupView} {site : PositionView} {held now : List (EpochSetView SignalEntry)} (next : List (EpochSetView SignalEntry)) (e : EpochSetView SignalEntry) {first last : ClosedEpochsView} {o o' o'' : Option (List ℕ)}
    → SomeClosed s site held now first last o o' → now ≡ next ++ e ∷ []
    → ((below : List (EpochSetView SignalEntry)) → HasClosed last s.head.doppler s.head.listed below → TakesPart o' o'' (closing s site e below))
    → ClosesEpochsInPart s site first held o o''
some-part {s} {site} {held} {now} next e {first} {last} {o} {o'} {o''} l cut part = λ below f.
    let w = l.wrote below f in
    let rest : List (EpochSetView SignalEntry) = l.gone ++ below in
    let g = closed-grows s site next (e ∷ rest) in
    let all : held ++ below ≡ next ++ (e ∷ rest) =
    ap (λ t. t ++ below) (l.split ∙ ap (λ t. t ++ l.gone) cut) ∙ append_assoc (next ++ e ∷ []) l.gone below ∙ append_assoc next (e ∷ []) rest in
    part-longer o o'' (closed_text s site below) (closed_text s site (e ∷ rest)) (closed_text s site (held ++ below)) g.0 (ap (closed_text s site) all ∙ g.1)
    (part-on o o' o'' _ _ _ w.1 (part-text o' o'' (closed_text s site rest) (closed_text s site (e ∷ rest)) (closing s site e rest) (closed-more s site e rest) (part rest w.0)))

-- the last of the epochs is above all last phases
pub last-above : (c : ClosedEpochsView) (next : List (EpochSetView SignalEntry)) (e : EpochSetView SignalEntry) (now : List (EpochSetView SignalEntry)) → now ≡ next ++ e ∷ [] → AllAbove c now → AllBelow c.tracks e.epoch
last-above c next e now cut above =
    let all : AllAbove c (next ++ e ∷ []) = subst (AllAbove c) cut above in
    subst (λ (x : EpochSetView SignalEntry). AllBelow c.tracks x.epoch) (get_or-append_seam next e [] e) (all (length next) e (omega (arith, length-append next (e ∷ []))))

-- ---- the whole file

kept-all : (s : SetupView) (w : CollectorView SignalEntry) (A : List Arrival) → w.places ≡ s.window → RepresentsArrivals signals (cells_by s) w A
    → w.sets ++ closed signals (cells_by s) s.window A ≡ kept signals (cells_by s) s.window A
kept-all s w A size holds =
    ap (λ t. t ++ closed signals (cells_by s) s.window A) (holds.sets ∙ ap (λ (n : ℕ). take n (kept signals (cells_by s) n A)) size)
    ∙ ap (λ t. take s.window (kept signals (cells_by s) s.window A) ++ t) (closed-drop signals (cells_by s) s.window any_epoch A)
    ∙ take-append-drop s.window (kept signals (cells_by s) s.window A)

module _ {s : SetupView} {w : CollectorView SignalEntry} {c : ClosedEpochsView} {site : PositionView} (size : w.places ≡ s.window) (is : site ≡ site_of_window w) where
  so_far-text : (A : List Arrival) → RepresentsEpochs s (epochs w c) A → file_so_far s A ≡ closed_text s site (closed signals (cells_by s) s.window A)
  so_far-text A rep =
      so_far-is s A ∙ ap (λ (x : PositionView). closed_text s x (closed signals (cells_by s) s.window A)) (sym (site-kept s w A size rep.kept.window) ∙ sym is)

  file-text : (A : List Arrival) → RepresentsEpochs s (epochs w c) A
      → kept_file s A ≡ closed_text s site (w.sets ++ closed signals (cells_by s) s.window A) ++ header_before s site s.near (is_some (first_time s.head.doppler s.head.listed (w.sets ++ closed signals (cells_by s) s.window A)))
  file-text A rep =
      ap (λ (x : PositionView). file_of s x (kept signals (cells_by s) s.window A)) (sym (site-kept s w A size rep.kept.window) ∙ sym is)
      ∙ ap (file_of s site) (sym (kept-all s w A size rep.kept.window))
      ∙ file-closed s site (w.sets ++ closed signals (cells_by s) s.window A)

  -- all was written
  pub finish-all : {c' : ClosedEpochsView} {o mid out : Option (List ℕ)} → ClosesEpochs s site c w.sets c' o mid → out ≡ with_more mid (header_before s site s.near c'.is_header_out)
      → (A : List Arrival) → RepresentsEpochs s (epochs w c) A
      → (c'.count ≡ record_count s.head.doppler s.head.listed (kept signals (cells_by s) s.window A)) × WritesRest o out (file_so_far s A) (kept_file s A)
  finish-all {c'} {o} {mid} {out} closes header A rep =
      let t = closes (closed signals (cells_by s) s.window A) rep.closed in (
        t.follows.count ∙ ap (record_count s.head.doppler s.head.listed) (kept-all s w A size rep.kept.window),
        writes-on o mid out (file_so_far s A) (closed_text s site (w.sets ++ closed signals (cells_by s) s.window A)) (kept_file s A)
            (t.out.0, t.out.1 ∙ ap (λ x. x ++ t.out.0) (sym (so_far-text A rep)), t.out.2)
            (_, file-text A rep, header ∙ ap (λ (x : Bool). with_more mid (header_before s site s.near x)) t.follows.is_header_out),
      )

  -- it breaks off in a record
  pub finish-part-records : (o : Option (List ℕ)) {out : Option (List ℕ)} → ClosesEpochsInPart s site c w.sets o out → (A : List Arrival) → RepresentsEpochs s (epochs w c) A → WritesPartOfRest o out (file_so_far s A) (kept_file s A)
  finish-part-records o {out} closes A rep =
      subst (λ (x : List ℕ). WritesPartOfRest o out x (kept_file s A)) (sym (so_far-text A rep))
      (part-longer o out (closed_text s site (closed signals (cells_by s) s.window A)) (closed_text s site (w.sets ++ closed signals (cells_by s) s.window A)) (kept_file s A) _ (file-text A rep)
      (closes (closed signals (cells_by s) s.window A) rep.closed))

  -- in the last header
  pub finish-part-header : {c' : ClosedEpochsView} {o mid out : Option (List ℕ)} → ClosesEpochs s site c w.sets c' o mid → TakesPart mid out (header_before s site s.near c'.is_header_out)
      → (A : List Arrival) → RepresentsEpochs s (epochs w c) A → WritesPartOfRest o out (file_so_far s A) (kept_file s A)
  finish-part-header {c'} {o} {mid} {out} closes part A rep =
      let t = closes (closed signals (cells_by s) s.window A) rep.closed in
      part-on o mid out (file_so_far s A) (closed_text s site (w.sets ++ closed signals (cells_by s) s.window A)) (kept_file s A)
      (t.out.0, t.out.1 ∙ ap (λ x. x ++ t.out.0) (sym (so_far-text A rep)), t.out.2)
      (part-text mid out (closed_text s site (w.sets ++ closed signals (cells_by s) s.window A)) (kept_file s A) _ (file-text A rep)
      (subst (λ (x : Bool). TakesPart mid out (header_before s site s.near x)) t.follows.is_header_out part))
