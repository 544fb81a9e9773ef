use Rattle.std.proofs.Common.{ℕ, Bool, true, false, List, length, sym, subst, arith}
use Rattle.rtk_rinex.specs.declared.epoch_table.Observed.{Observed}
use Rattle.rtk_convert.specs.Rows.{observed_with}
use Rattle.rtk_convert.specs.Steps.ShownCells.{IsPlaceAmong, with_place}
use Rattle.rtk_convert.proofs.ListedLemmas.{with_place-none, with_place-one, of-plain, of-shifted}
use Rattle.rtk_convert.proofs.epoch_rows.put_listed.Goals as goal

pub put_plain_code-requires : goal.put_plain_code-requires
put_plain_code-requires g c =
    let form = c.args.form.now in
    let codes = form.codes.now in
    let among = subst (λ (p : ℕ). IsPlaceAmong codes c.args.place p) (sym c.from-column.ensures) (c.requires.columns.places.among c.args.place c.requires.place) in
    let of = of-plain form.doppler form.plain (length codes) c.from-column.result c.requires.columns.without c.if-column-plain.true in
    let free = c.requires.free.free in (
      c.requires.free.row,
      subst (λ (d : Bool). g.E.Lines.RowLines.HasLine d c.args.lines.now c.requires.free.row) of.0 c.requires.free.open_line,
      record { inside = omega (arith, free.width, of.1); free = λ d. free.free c.from-column.result d of.1 (among.found of.1) },
    )

pub put_doppler_code-requires : goal.put_doppler_code-requires
put_doppler_code-requires g c =
    let form = c.args.form.now in
    let codes = form.codes.now in
    let among = subst (λ (p : ℕ). IsPlaceAmong codes c.args.place p) (sym c.from-column.ensures) (c.requires.columns.places.among c.args.place c.requires.place) in
    let inside = c.if-column-listed.true in
    let of = of-shifted form.doppler form.plain (length codes) c.from-column.result c.requires.columns.without c.if-column-plain.false inside in
    let free = c.requires.free.free in (
      c.requires.free.row,
      subst (λ (d : Bool). g.E.Lines.RowLines.HasLine d c.args.lines.now c.requires.free.row) of c.requires.free.open_line,
      record { inside = omega (arith, free.width, inside); free = λ d. free.free c.from-column.result d inside (among.found inside) },
    )

pub returns-then-column-plain-clause-open : goal.returns-then-column-plain-clause-open
returns-then-column-plain-clause-open g c = λ row h f.
    let form = c.args.form.now in
    let codes = form.codes.now in
    let among = subst (λ (p : ℕ). IsPlaceAmong codes c.args.place p) (sym c.from-column.ensures) (c.requires.columns.places.among c.args.place c.requires.place) in
    let of = of-plain form.doppler form.plain (length codes) c.from-column.result c.requires.columns.without c.if-column-plain.true in
    let inside = of.1 in
    let one = among.found inside in
    let before = subst (λ (d : Bool). g.E.Lines.RowLines.HasLine d c.args.lines.now row) of.0 h in
    let after = c.put_plain_code.ensures.open row before (record { inside = omega (arith, f.width, inside); free = λ d. f.free c.from-column.result d inside one }) in
    let is = sym (with_place-one c.args.place c.shown_of-shown.result codes row c.from-column.result c.requires.columns.places.distinct inside f.width one) in
    let shown = subst (λ (xs : List Observed). g.E.Lines.RowLines.HasLine false c.put_plain_code.new.lines xs) is after in
    subst (λ (o : Observed). g.E.Lines.RowLines.HasLine form.doppler c.put_plain_code.new.lines (with_place c.args.place o codes row)) c.shown_of-shown.ensures
    (subst (λ (d : Bool). g.E.Lines.RowLines.HasLine d c.put_plain_code.new.lines (with_place c.args.place c.shown_of-shown.result codes row)) (sym of.0) shown)

pub returns-then-column-listed-clause-open : goal.returns-then-column-listed-clause-open
returns-then-column-listed-clause-open g c = λ row h f.
    let form = c.args.form.now in
    let codes = form.codes.now in
    let among = subst (λ (p : ℕ). IsPlaceAmong codes c.args.place p) (sym c.from-column.ensures) (c.requires.columns.places.among c.args.place c.requires.place) in
    let inside = c.if-column-listed.true in
    let of = of-shifted form.doppler form.plain (length codes) c.from-column.result c.requires.columns.without c.if-column-plain.false inside in
    let one = among.found inside in
    let before = subst (λ (d : Bool). g.E.Lines.RowLines.HasLine d c.args.lines.now row) of h in
    let after = c.put_doppler_code.ensures.open row before (record { inside = omega (arith, f.width, inside); free = λ d. f.free c.from-column.result d inside one }) in
    let is = sym (with_place-one c.args.place c.shown_of-shifted.result codes row c.from-column.result c.requires.columns.places.distinct inside f.width one) in
    let shown = subst (λ (xs : List Observed). g.E.Lines.RowLines.HasLine true c.put_doppler_code.new.lines xs) is after in
    subst (λ (o : Observed). g.E.Lines.RowLines.HasLine form.doppler c.put_doppler_code.new.lines (with_place c.args.place o codes row)) c.shown_of-shifted.ensures
    (subst (λ (d : Bool). g.E.Lines.RowLines.HasLine d c.put_doppler_code.new.lines (with_place c.args.place c.shown_of-shifted.result codes row)) (sym of) shown)

pub returns-else-column-listed-clause-open : goal.returns-else-column-listed-clause-open
returns-else-column-listed-clause-open g c = λ row h f.
    let form = c.args.form.now in
    let codes = form.codes.now in
    let e = g.E.FileEntry.signal_of c.args.entry.now in
    let among = subst (λ (p : ℕ). IsPlaceAmong codes c.args.place p) (sym c.from-column.ensures) (c.requires.columns.places.among c.args.place c.requires.place) in
    let none = among.unlisted c.if-column-listed.false in
    subst (λ (xs : List Observed). g.E.Lines.RowLines.HasLine form.doppler c.args.lines.now xs) (sym (with_place-none c.args.place (observed_with e c.args.digits) codes row none f.width)) h
