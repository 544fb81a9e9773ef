use Rattle.std.proofs.Common.{◌≡◌, ℕ, ◌+◌, ◌*◌, ◌<◌, ◌≤◌, ◌++◌, List, length, take, drop, set, ltb, ap, refl, sym, subst, ◌∙◌, arith, inl, inr, true}
use Rattle.std.specs.Prelude.{max}
use Rattle.std.proofs.lemmas.Bool.{cases_lt, lt-ltb}
use Rattle.std.proofs.lemmas.List.{take_at, drop_at, length-take, length-drop}
use Rattle.std.proofs.lemmas.Slice.{drop-put_mid}
use borrow.Rule.Slice.PartMut.{put_mid}
use Rattle.rtk_rinex.specs.Record.{observations_with_doppler}
use Rattle.rtk_rinex.specs.RecordLines.{RecordLinesView, HasOpenLine}
use Rattle.rtk_rinex.proofs.WrittenLemmas.{length-shown, code-shown}
use Rattle.rtk_rinex.proofs.RecordLinesLemmas.{blank-later, free-in, put-at, open-put, open-none}
use Rattle.rtk_rinex.proofs.record_lines.RecordLines.put_doppler_code.Goals as goal

pub put_doppler_code_at-requires-clause-blank : goal.put_doppler_code_at-requires-clause-blank
put_doppler_code_at-requires-clause-blank c =
    let held = subst (λ (v : RecordLinesView). HasOpenLine true v c.requires.observed) (sym c.self.view_is) c.requires.open_line in
    rw c.deref_mut.ensures.value
    (free-in true _ c.requires.observed c.args.place c.self.inside.text.items (max c.self.inside.len 36) (c.self.inside.at + 3 + 64 * c.args.place) held c.requires.free refl (omega (arith, c.self.invariant.0.place)))

pub invariant_of-self : goal.invariant_of-self
invariant_of-self c =
    let i = c.self.invariant.0 in
    let text = c.self.inside.text.items in
    let now = c.put_doppler_code_at.new.text in
    let end = c.max-self-inside.result in
    let place = c.self.inside.at + 3 + 64 * c.args.place in
    let held = subst (λ (v : RecordLinesView). HasOpenLine true v c.requires.observed) (sym c.self.view_is) c.requires.open_line in
    let enough : 4 + 64 * length c.requires.observed ≤ length (drop (max c.self.inside.len 36) text) = held.room in
    let room : place + 64 < length text = omega (arith, c.self.invariant.0.place, enough, c.requires.free.inside, length-drop (max c.self.inside.len 36) text) in
    let bound : place + 64 ≤ max c.self.inside.len 36 + 1027 = omega (arith, c.self.invariant.0.place, held.few, c.requires.free.inside) in
    let long : length now ≡ length text = omega arith in
    let whole : take c.self.inside.text.len (now ++ drop (length now) text) ≡ now = take_at now (drop (length now) text) c.self.inside.text.len (omega arith) in
    let later : c.self.inside.end ≤ end = omega arith in
    let is : now ≡ put_mid place 64 text (observations_with_doppler c.args.observed.now) = rw c.deref_mut.ensures.value at c.put_doppler_code_at.ensures in
    let free = free-in true _ c.requires.observed c.args.place text (max c.self.inside.len 36) place held c.requires.free refl (omega (arith, c.self.invariant.0.place)) in
    let after : drop end now ≡ drop end text =
    ap (drop end) (is ∙ ap (λ (t : List ℕ). take place text ++ t) (code-shown true c.args.observed.now (drop place text) free))
    ∙ drop-put_mid place 62 text (take 62 (observations_with_doppler c.args.observed.now)) end (omega arith) (omega arith) (length-shown true c.args.observed.now) in (
      rw whole (record {
        few = i.few;
        within = omega arith;
        from = omega arith;
        place = i.place;
        short = i.short;
        none = i.none;
        some = i.some;
        blank = rw long (after ∙ blank-later text c.self.inside.end end i.blank later);
        begun = λ l. omega arith;
        fits = λ l. elim (cases_lt c.self.inside.len c.self.inside.end) [ inl a ↦ omega (arith, i.fits a) | inr b ↦ omega arith ];
        bound = omega (arith, i.bound);
        most = omega arith;
      }),
      refl,
    )

pub returns-then-has_observation_or_doppler-clause-open : goal.returns-then-has_observation_or_doppler-clause-open
returns-then-has_observation_or_doppler-clause-open c = λ row h f.
    let text = c.self.inside.text.items in
    let len = c.self.inside.len in
    let now = c.put_doppler_code_at.new.text in
    let end = c.max-self-inside.result in
    let n = 3 + 64 * c.args.place in
    let at = max len 36 in
    let g : List ℕ = observations_with_doppler c.args.observed.now in
    let place = c.self.inside.at + 3 + 64 * c.args.place in
    let old : RecordLinesView = record { text = take len text; count = c.self.inside.count; rest = drop at text; is_written = ltb len c.self.inside.end } in
    let held : HasOpenLine true old row = subst (λ (v : RecordLinesView). HasOpenLine true v row) (sym c.self.view_is) h in
    let e : place ≡ at + n = omega (arith, c.self.invariant.0.place) in
    let enough : 4 + 64 * length row ≤ length (drop at text) = held.room in
    let inside : at ≤ length text = omega (arith, enough, length-drop at text) in
    let size : length (take at text) ≡ at = omega (arith, length-take at text) in
    let whole : take c.self.inside.text.len (now ++ drop (length now) text) ≡ now = take_at now (drop (length now) text) c.self.inside.text.len (omega arith) in
    let parts : now ≡ take at text ++ (take n (drop at text) ++ (g ++ drop 64 (drop n (drop at text)))) = put-at true text now g at place n e inside (rw c.deref_mut.ensures.value at c.put_doppler_code_at.ensures) in
    let is : drop at now ≡ take n (drop at text) ++ (g ++ drop 64 (drop n (drop at text))) =
    ap (drop at) parts ∙ drop_at (take at text) (take n (drop at text) ++ (g ++ drop 64 (drop n (drop at text)))) at size in
    let new : RecordLinesView = record { text = take len now; count = c.self.inside.count; rest = drop at now; is_written = ltb len end } in
    subst (λ (t : List ℕ). HasOpenLine true (record { text = take len t; count = c.self.inside.count; rest = drop at t; is_written = ltb len end }) (set row c.args.place c.args.observed.now)) (sym whole)
    (open-put true old new row c.args.place c.args.observed.now held f (sym c.has_observation_or_doppler.ensures ∙ c.if-has_observation_or_doppler.true) is (lt-ltb len end (omega arith)))

pub returns-else-has_observation_or_doppler-clause-open : goal.returns-else-has_observation_or_doppler-clause-open
returns-else-has_observation_or_doppler-clause-open c = λ row h f.
    open-none true c.args.self.now row c.args.place c.args.observed.now h f (sym c.has_observation_or_doppler.ensures ∙ c.if-has_observation_or_doppler.false)
