-- The promise of a conversion.
use Rattle.std.proofs.Common.{◌≡◌, ◌↔◌, ℕ, List, [], ◌∷◌, length, Option, None, Some, refl, sym, ap, subst, ◌∙◌}
use Rattle.rtk_frame.specs.Stream.{with_more}
use Rattle.rtk_message.specs.declared.any_message.AnyMessage.{AnyMessage as Message}
use Rattle.rtk_setup.specs.Setup.{cells_by}
use Rattle.rtk_collect.specs.Signals.{signals}
use Rattle.rtk_obs.specs.declared.signal_cells.SignalEntry.{SignalEntry}
use Rattle.rtk_collect.specs.Arrival.{Arrival, At}
use Rattle.rtk_collect.specs.Accepted.{kept, station}
use Rattle.rtk_collect.specs.EpochSet.{EpochSetView}
use Rattle.rtk_collect.specs.Laws.{without_late, AreInTime}
use Rattle.rtk_collect.proofs.PublicLaws.{kept-falls, late-change-nothing, kept-are-taken, kept-same, kept-rise}
use Rattle.rtk_convert.specs.File.{file_of}
use Rattle.rtk_convert.specs.FileOfArrivals.{site_of_stations, kept_file}
use Rattle.rtk_convert.specs.FrameClass.{Found, arrivals}
use Rattle.rtk_convert.specs.Finish.{all_counts, report_of}
use Rattle.rtk_convert.specs.Headline.{messages_of, CameInTime, EqualKeysCarryEqualBodies, IsWritten, Content, IsStationOf, IsContentOf, EachOnce, IsFileOf, LateChangeNothing, Headline, RunHeadline, SetHasOneFile}
use Rattle.rtk_convert.specs.Kept.{came_of, WritesKept, RunKeeps}
use Rattle.rtk_setup.specs.declared.counts.Counts.{Counts}
use Rattle.rtk_setup.specs.Setup.{SetupView}
use Rattle.rtk_convert.specs.Writing.{Written}
use Rattle.rtk_convert.proofs.ArrivalLawsLemmas.{late-leave}
use Rattle.rtk_convert.proofs.CameLemmas.{messages-came, come-by, all-ended}
use Rattle.rtk_convert.proofs.ContentLemmas.{among-contains, contains-among, has-contains, contains-has, kept-stands, stands-kept, fall-pairs, pairs-fall, cells-pairs, pairs-cells, taken-came, came-taken, consistent}
use Rattle.rtk_convert.proofs.ListedLinesLemmas.{late-listed}
use Rattle.rtk_convert.proofs.PayloadLemmas.{reads-table}
use Rattle.rtk_convert.proofs.RunLemmas.{RunsAs}

-- ---- the file of the set

content : SetupView → List Arrival → Content
content s arrivals = record {
  epochs = kept signals (cells_by s) s.window arrivals;
  arp1005 = station s.window 1005 arrivals;
  arp1006 = station s.window 1006 arrivals;
}

station-of : (s : SetupView) (arrivals : List Arrival) (number : ℕ) → EqualKeysCarryEqualBodies s (CameInTime s arrivals) → IsStationOf (CameInTime s arrivals) number (station s.window number arrivals)
station-of s arrivals number good =
    let law = kept-are-taken signals (cells_by s) s.window arrivals in
    λ m. (
      λ e. let p = law.2 m number e in (taken-came s (At None m) arrivals p.0, p.1),
      λ p. subst (λ (k : ℕ). station s.window k arrivals ≡ Some m) p.1 ((law.3 (consistent s arrivals good)).1 m (came-taken s (At None m) arrivals p.0)),
    )

content-of : (s : SetupView) (arrivals : List Arrival) → EqualKeysCarryEqualBodies s (CameInTime s arrivals) → IsContentOf s (CameInTime s arrivals) (content s arrivals)
unfolding content
content-of s arrivals good =
    let law = kept-are-taken signals (cells_by s) s.window arrivals in
    record {
      epochs = λ e. (
        λ p. let q = (law.0 e).0 (contains-has e (kept signals (cells_by s) s.window arrivals) p) in (q.0, taken-came s (At (Some e) q.0) arrivals q.1),
        λ p. has-contains e (kept signals (cells_by s) s.window arrivals) ((law.0 e).1 (p.0, came-taken s (At (Some e) p.0) arrivals p.1)),
      );
      cells = λ e x. (
        λ p. let q = law.1 e x (stands-kept e x (kept signals (cells_by s) s.window arrivals) p) in (q.0, taken-came s (At (Some e) q.0) arrivals q.1, among-contains x (cells_by s q.0) q.2),
        λ p. kept-stands e x (kept signals (cells_by s) s.window arrivals)
            ((law.3 (consistent s arrivals good)).0 e x (p.0, came-taken s (At (Some e) p.0) arrivals p.1, contains-among x (cells_by s p.0) p.2)),
      );
      arp1005 = station-of s arrivals 1005 good;
      arp1006 = station-of s arrivals 1006 good;
    }

each-once : (s : SetupView) (arrivals : List Arrival) → EachOnce (content s arrivals)
unfolding content
each-once s arrivals = record {
  epochs = fall-pairs (kept signals (cells_by s) s.window arrivals) (kept-falls signals (cells_by s) s.window arrivals);
  cells = cells-pairs (kept signals (cells_by s) s.window arrivals) (kept-rise signals (cells_by s) s.window arrivals);
}

file-of-set : (s : SetupView) (arrivals : List Arrival) → EqualKeysCarryEqualBodies s (CameInTime s arrivals) → IsFileOf s (CameInTime s arrivals) (kept_file s arrivals)
unfolding content
file-of-set s arrivals good = (content s arrivals, content-of s arrivals good, each-once s arrivals, refl)

-- ---- a set has one file

same-option : (a b : Option Message) → ((m : Message) → a ≡ Some m → b ≡ Some m) → ((m : Message) → b ≡ Some m → a ≡ Some m) → a ≡ b
same-option None None f g = refl
same-option None (Some m) f g = g m refl
same-option (Some m) b f g = sym (f m refl)

same-station : (set other : Arrival → Type 0) (number : ℕ) (a b : Option Message) → ((x : Arrival) → set x ↔ other x) → IsStationOf set number a → IsStationOf other number b → a ≡ b
same-station set other number a b same p q =
    same-option a b (λ m e. let h = (p m).0 e in (q m).1 ((same (At None m)).0 h.0, h.1)) (λ m e. let h = (q m).0 e in (p m).1 ((same (At None m)).1 h.0, h.1))

same-file-of : (s : SetupView) (set other : Arrival → Type 0) (first second : List ℕ) → ((x : Arrival) → set x ↔ other x) → IsFileOf s set first → IsFileOf s other second → first ≡ second
same-file-of s set other first second same p q =
    let c : Content = p.0 in
    let d : Content = q.0 in
    let epochs = kept-same signals c.epochs d.epochs (pairs-fall c.epochs p.2.epochs) (pairs-fall d.epochs q.2.epochs) (pairs-cells c.epochs p.2.cells) (pairs-cells d.epochs q.2.cells)
    (λ e h. let m = (p.1.epochs e).0 (has-contains e c.epochs h) in contains-has e d.epochs ((q.1.epochs e).1 (m.0, (same (At (Some e) m.0)).0 m.1)))
    (λ e h. let m = (q.1.epochs e).0 (has-contains e d.epochs h) in contains-has e c.epochs ((p.1.epochs e).1 (m.0, (same (At (Some e) m.0)).1 m.1)))
    (λ e x h. let m = (p.1.cells e x).0 (kept-stands e x c.epochs h) in stands-kept e x d.epochs ((q.1.cells e x).1 (m.0, (same (At (Some e) m.0)).0 m.1, m.2)))
    (λ e x h. let m = (q.1.cells e x).0 (kept-stands e x d.epochs h) in stands-kept e x c.epochs ((p.1.cells e x).1 (m.0, (same (At (Some e) m.0)).1 m.1, m.2))) in
    let a = same-station set other 1005 c.arp1005 d.arp1005 same p.1.arp1005 q.1.arp1005 in
    let b = same-station set other 1006 c.arp1006 d.arp1006 same p.1.arp1006 q.1.arp1006 in
    p.3 ∙ ap (λ (m : Option Message). file_of s (site_of_stations m c.arp1006) c.epochs) a
    ∙ ap (λ (m : Option Message). file_of s (site_of_stations d.arp1005 m) c.epochs) b
    ∙ ap (λ (xs : List (EpochSetView SignalEntry)). file_of s (site_of_stations d.arp1005 d.arp1006) xs) epochs
    ∙ sym q.3

pub set-has-one-file : SetHasOneFile
set-has-one-file s one other first second same p q = same-file-of s (CameInTime s one) (CameInTime s other) first second same p q

-- ---- late arrivals

in-time-stay : (n : ℕ) (xs : List Arrival) → AreInTime n xs → without_late n xs ≡ xs
in-time-stay n [] p = refl
in-time-stay n (a ∷ before) p = rw p.0 (ap (λ (xs : List Arrival). a ∷ xs) (in-time-stay n before p.1))

late-nothing : (s : SetupView) (arrivals : List Arrival) → LateChangeNothing s arrivals
late-nothing s arrivals =
    let law = late-change-nothing signals (cells_by s) s.window arrivals in
    record {
      others = law.0;
      none_late = in-time-stay s.window (without_late s.window arrivals) law.1;
      same_set = λ a. (
        λ p. taken-came s a arrivals ((law.2 a).0 (came-taken s a (without_late s.window arrivals) p)),
        λ p. taken-came s a (without_late s.window arrivals) ((law.2 a).1 (came-taken s a arrivals p)),
      );
    }

-- ---- the whole sentence

pub headline-of : (s : SetupView) (found : List Found) (o o' : Written) → o'.file ≡ with_more o.file (kept_file s (arrivals found)) → o'.report ≡ with_more o.report (report_of s found)
    → Headline s (came_of found) o o'
headline-of s found o o' out log =
    let same : arrivals found ≡ messages_of (came_of found) = sym (messages-came found) in
    record {
      file_of_the_set = subst (λ (xs : List Arrival). EqualKeysCarryEqualBodies s (CameInTime s xs) → IsWritten o.file o'.file (IsFileOf s (CameInTime s xs))) same
          (λ good. (kept_file s (arrivals found), out, file-of-set s (arrivals found) good));
      late_are_listed = late-listed s found o.report o'.report log;
      late_change_nothing = subst (λ (xs : List Arrival). LateChangeNothing s xs) same (late-nothing s (arrivals found));
    }

pub kept-of : (s : SetupView) (found : List Found) (counts : Counts) (o o' : Written) → o'.file ≡ with_more o.file (kept_file s (arrivals found)) → o'.report ≡ with_more o.report (report_of s found)
    → counts ≡ all_counts s found → WritesKept s found counts o o'
kept-of s found counts o o' out log counts_are = record {
  out = out;
  late_leave_file = late-leave (λ x. late-change-nothing signals (cells_by x)) s (arrivals found);
  log = log;
  counts_are = counts_are;
}

-- ---- a run

run-headline : {R : Type 0} (given : R → Option (List ℕ)) (calls : R → ℕ) (is_at_end : R → Type 0) (s : SetupView) (before after : List R) (counts : Counts) (o o' : Written)
    → RunsAs given calls is_at_end s before after counts o o' → RunHeadline given is_at_end s before after o o'
run-headline given calls is_at_end s before after counts o o' p = record {
  reads = p.reads;
  came = came_of p.history.found;
  gave = p.gave;
  to_their_ends = p.at_end;
  of_all_pieces = come-by s (length before) p.reads p.history p.comes_to;
  all_ended = all-ended s (length before) p.reads p.history p.comes_to p.closed;
  headline = headline-of s p.history.found o o' p.out p.log;
}

pub run-keeps : {R : Type 0} (given : R → Option (List ℕ)) (calls : R → ℕ) (is_at_end : R → Type 0) (s : SetupView) (before after : List R) (counts : Counts) (o o' : Written)
    → RunsAs given calls is_at_end s before after counts o o' → RunKeeps given calls is_at_end s before after counts o o'
unfolding run-headline
run-keeps given calls is_at_end s before after counts o o' p = record {
  promise = run-headline given calls is_at_end s before after counts o o' p;
  called = p.called;
  rest = record {
    history = p.history;
    in_order = p.comes_to;
    closed = p.closed;
    brings = refl;
    kept = kept-of s p.history.found counts o o' p.out p.log p.counts_are;
    is_table = λ good_setup. reads-table s (length before) p.reads p.history good_setup p.comes_to;
  };
}

-- the clause `kept` says no less
pub keeps-runs-as : {R : Type 0} (given : R → Option (List ℕ)) (calls : R → ℕ) (is_at_end : R → Type 0) (s : SetupView) (before after : List R) (counts : Counts) (o o' : Written)
    → RunKeeps given calls is_at_end s before after counts o o' → RunsAs given calls is_at_end s before after counts o o'
keeps-runs-as given calls is_at_end s before after counts o o' p = record {
  reads = p.promise.reads;
  history = p.rest.history;
  comes_to = p.rest.in_order;
  closed = p.rest.closed;
  gave = p.promise.gave;
  called = p.called;
  at_end = p.promise.to_their_ends;
  out = p.rest.kept.out;
  log = p.rest.kept.log;
  counts_are = p.rest.kept.counts_are;
}
