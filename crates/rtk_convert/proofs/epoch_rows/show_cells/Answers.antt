use Rattle.std.proofs.Common.{◌≡◌, ◌^◌, ◌∙◌, ℕ, ap, bit_and, refl, sym, subst}
use Rattle.rtk_obs.specs.AnyCode.{place_of}
use Rattle.rtk_obs.specs.declared.signal_cells.SignalEntry.{SignalEntry}
use Rattle.rtk_convert.proofs.CellOrderLemmas.{place-after}
use Rattle.rtk_convert.proofs.EntriesLemmas.{entry-at, within-map}
use Rattle.rtk_convert.proofs.SatelliteLemmas.{signal-at, takes-begin, takes-repeat, takes-free, takes-later, takes-open, takes-more, next-signal}
use Rattle.rtk_convert.proofs.epoch_rows.show_cells.Goals as goal

pub cells-init : goal.cells-init
cells-init g c = record {
  takes = takes-begin _ _ _ _ _ _ _ _ _ _ c.requires.cells.from.place.within c.requires.later;
}

pub cells-preserved-then-known-bit-ne0 : goal.cells-preserved-then-known-bit-ne0
cells-preserved-then-known-bit-ne0 g c =
    let f = g.E.FileEntry.signal_of in
    let x = c.index-entries-end.result in
    let told = c.cells-test.ensures.yes refl in
    let low = within-map f c.args.entries.now c.cells.end told.0 in
    let here = λ (d : SignalEntry). entry-at f c.args.entries.now c.cells.end x d low c.index-entries-end.is in
    let at : (f x).satellite ≡ c.args.satellite = subst (λ (e : SignalEntry). e.satellite ≡ c.args.satellite) (here (f x)) (told.1 (f x)) in
    let g0 = c.cells.invariant.takes in
    let own = next-signal _ _ _ _ _ _ _ _ _ _ _ _ _ (f x) g0 c.requires.codes c.requires.cells.ranges told.0 here at in
    let seen = c.requires.known.some (f x).code (signal-at (f x) at own) (rw (c.bit_at-bit.ensures ∙ ap (λ (n : ℕ). 2 ^ n) c.code_place-place.ensures.value) at c.if-known-bit-ne0.true) in
    record {
      takes = takes-repeat _ _ _ _ _ _ _ _ _ _ _ _ _ (f x) g0 c.requires.codes c.requires.cells.ranges told.0 here at seen;
    }

pub show_entry-requires-clause-range : goal.show_entry-requires-clause-range
show_entry-requires-clause-range g c =
    let f = g.E.FileEntry.signal_of in
    let told = c.cells-test.ensures.yes refl in
    let low = within-map f c.args.entries.now c.cells.end told.0 in
    subst g.E.Entry.InRange (sym c.index-entries-end.is) (c.requires.ranges c.cells.end c.index-entries-end.result low)

pub show_entry-requires-clause-later : goal.show_entry-requires-clause-later
show_entry-requires-clause-later g c =
    let f = g.E.FileEntry.signal_of in
    let x = c.index-entries-end.result in
    let told = c.cells-test.ensures.yes refl in
    let low = within-map f c.args.entries.now c.cells.end told.0 in
    let here = λ (d : SignalEntry). entry-at f c.args.entries.now c.cells.end x d low c.index-entries-end.is in
    let at : (f x).satellite ≡ c.args.satellite = subst (λ (e : SignalEntry). e.satellite ≡ c.args.satellite) (here (f x)) (told.1 (f x)) in
    let g0 = c.cells.invariant.takes in
    let own = next-signal _ _ _ _ _ _ _ _ _ _ _ _ _ (f x) g0 c.requires.codes c.requires.cells.ranges told.0 here at in
    let unseen : bit_and c.args.known (2 ^ place_of (f x).code) ≡ 0 = rw (c.bit_at-bit.ensures ∙ ap (λ (n : ℕ). 2 ^ n) c.code_place-place.ensures.value) at c.if-known-bit-ne0.false in
    let free = takes-free _ _ _ _ _ _ _ _ _ _ _ _ _ (f x) g0 c.requires.codes c.requires.cells.ranges told.0 here at c.requires.cells.from.rises c.requires.cells.kind
    (c.requires.known.none (f x).code (signal-at (f x) at own) unseen) in
    takes-later _ _ _ _ _ _ _ _ _ _ _ _ _ (f x) g0 c.requires.codes c.requires.cells.ranges told.0 here at free

pub show_entry-requires-clause-free : goal.show_entry-requires-clause-free
show_entry-requires-clause-free g c =
    let f = g.E.FileEntry.signal_of in
    let x = c.index-entries-end.result in
    let told = c.cells-test.ensures.yes refl in
    let low = within-map f c.args.entries.now c.cells.end told.0 in
    let here = λ (d : SignalEntry). entry-at f c.args.entries.now c.cells.end x d low c.index-entries-end.is in
    let at : (f x).satellite ≡ c.args.satellite = subst (λ (e : SignalEntry). e.satellite ≡ c.args.satellite) (here (f x)) (told.1 (f x)) in
    let g0 = c.cells.invariant.takes in
    let own = next-signal _ _ _ _ _ _ _ _ _ _ _ _ _ (f x) g0 c.requires.codes c.requires.cells.ranges told.0 here at in
    let unseen : bit_and c.args.known (2 ^ place_of (f x).code) ≡ 0 = rw (c.bit_at-bit.ensures ∙ ap (λ (n : ℕ). 2 ^ n) c.code_place-place.ensures.value) at c.if-known-bit-ne0.false in
    let free = takes-free _ _ _ _ _ _ _ _ _ _ _ _ _ (f x) g0 c.requires.codes c.requires.cells.ranges told.0 here at c.requires.cells.from.rises c.requires.cells.kind
    (c.requires.known.none (f x).code (signal-at (f x) at own) unseen) in
    takes-open _ _ _ _ _ _ _ _ _ _ _ _ _ (f x) g0 c.requires.codes c.requires.cells.ranges told.0 here at free c.requires.shows

pub cells-preserved : goal.cells-preserved
cells-preserved g c =
    let f = g.E.FileEntry.signal_of in
    let x = c.index-entries-end.result in
    let told = c.cells-test.ensures.yes refl in
    let low = within-map f c.args.entries.now c.cells.end told.0 in
    let here = λ (d : SignalEntry). entry-at f c.args.entries.now c.cells.end x d low c.index-entries-end.is in
    let at : (f x).satellite ≡ c.args.satellite = subst (λ (e : SignalEntry). e.satellite ≡ c.args.satellite) (here (f x)) (told.1 (f x)) in
    let g0 = c.cells.invariant.takes in
    let own = next-signal _ _ _ _ _ _ _ _ _ _ _ _ _ (f x) g0 c.requires.codes c.requires.cells.ranges told.0 here at in
    let unseen : bit_and c.args.known (2 ^ place_of (f x).code) ≡ 0 = rw (c.bit_at-bit.ensures ∙ ap (λ (n : ℕ). 2 ^ n) c.code_place-place.ensures.value) at c.if-known-bit-ne0.false in
    let free = takes-free _ _ _ _ _ _ _ _ _ _ _ _ _ (f x) g0 c.requires.codes c.requires.cells.ranges told.0 here at c.requires.cells.from.rises c.requires.cells.kind
    (c.requires.known.none (f x).code (signal-at (f x) at own) unseen) in
    record {
      takes = takes-more _ _ _ _ _ _ _ _ _ _ _ _ _ (f x) g0 c.requires.codes c.requires.cells.ranges told.0 here at _ _ free c.show_entry.ensures;
    }

pub returns-clause-next : goal.returns-clause-next
returns-clause-next g c =
    let g0 = c.cells.invariant.takes in
    place-after _ _ _ _ c.requires.cells.from.rises c.requires.cells.from.place g0.from g0.within g0.same (c.cells-test.ensures.no refl)
