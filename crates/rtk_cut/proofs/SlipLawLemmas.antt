-- The laws on which records, slips and values a part has.
use Rattle.std.proofs.Common.{◌≡◌, ◌<◌, ◌≤◌, ◌*◌, ◌%◌, ◌/◌, ◌+◌, ◌-◌, ℕ, Bool, true, false, not, ◌&&◌, ltb, cond, inl, inr, Option, Some, None, List, [], ◌∷◌, ◌++◌, length, take, drop, refl, sym, ap, subst, ◌∙◌, arith}
use Rattle.std.specs.Prelude.{All, Any, IfSome, is_some, take_while}
use Rattle.std.specs.List.{list_any, prefix_len}
use Rattle.std.proofs.Math.Nat.{mod-le, mul-add-mod_self_right}
use Rattle.std.proofs.lemmas.Nat.{div-add-mod'}
use Rattle.std.proofs.lemmas.Bool.{lt-ltb, le-ltb, ltb-true, ltb-false, leb-true, le-leb, and_parts, and_from, not-true, or_left, or_right, true_from_ne_false, both_ways}
use Rattle.std.proofs.lemmas.List.{get_or-take, take-append-drop}
use Rattle.std.proofs.lemmas.List.Elements.{All-nil, All-cons, All-weaker, All-filter, filter_passes}
use Rattle.std.proofs.lemmas.List.Folds.{Any-from_list_any, length-prefix_len}
use Rattle.std.proofs.lemmas.List.Sums.{prefix_len_passes}
use Rattle.rtk_rinex.specs.declared.epoch_table.Observed.{Observed}
use Rattle.rtk_rinex.specs.Record.{EpochTableView}
use Rattle.rtk_rinex.specs.Table.{WellFormedTable, IsWellFormedTable, table_text}
use Rattle.rtk_rinex.specs.MixedTable.{MixedTable, IsMixedTable, mixed_table_text}
use Rattle.rtk_cut.specs.declared.part.Part.{Part}
use Rattle.rtk_cut.specs.declared.part.Choice.{Choice}
use Rattle.rtk_cut.specs.Cut.{near_of, choice_of, Step, step_of, is_near_step, is_on_step, is_at_or_after, is_earlier_than, is_chosen, has_phase_of, has_slip_of, since_phase, has_slipped_since, with_slip, cut_epoch, thinned_after, kept_after, cut_of_epochs, first_of_part, cut_of, mixed_cut_of}
use Rattle.rtk_cut.specs.CutLaws.{IsFileEpoch, AreFileEpochs, IsMomentOrNone, AreEpochsOfPart, IsTextOfPart, IsTextOfMixedPart, IsNearSteps, IsAskedFor, RecordsAreAskedFor, Observes, ShowsPhase, ShowsSlip, HasSlipToShow, SlipsAreKept, SlipsAreFound, without_slips, OthersStay, PartsAreWritten}
use Rattle.rtk_cut.proofs.AnyLemmas.{any-here, any-weaker, any-where, any-left, any-middle, any-split, any-none, any-append, any-splits, any-if, any-filter, any-while, onto, onto-append, onto-long, onto-parts, all-onto, any-onto}
use Rattle.rtk_cut.proofs.CodeLemmas.{no-slip}
use Rattle.rtk_cut.proofs.ShownLemmas.{shows-phase, phase-shown, shows-slip, slip-shown, observes-good, cut-shows, cut-shown, slip-with_phase, slip-without_phase, cut-kept}
use Rattle.rtk_cut.proofs.ThinnedLemmas.{thinned-on}
use Rattle.rtk_cut.proofs.LawLemmas.{gps-epochs, mixed-epochs, parts-are_tables}

-- ---- which moments are asked for

whole-steps : (near : ℕ) (every : Option ℕ) (t : ℕ) → is_near_step near every t ≡ true → IsNearSteps near every t
whole-steps near None t on = tt
whole-steps near (Some every) t on =
    let m : ℕ = every * 1000 in
    let rest : (t + near) % m ≤ 2 * near = leb-true ((t + near) % m) (2 * near) on in
    let whole : (t + near) / m * m + (t + near) % m ≡ t + near = div-add-mod' (t + near) m in
    ((t + near) / m, omega (arith, whole), omega (arith, rest, whole))

on-step : (near : ℕ) (every : Option ℕ) (t : ℕ) → IsNearSteps near every t → is_near_step near every t ≡ true
on-step near None t whole = refl
on-step near (Some every) t whole =
    let m : ℕ = every * 1000 in
    let n : ℕ = whole.0 in
    let d : ℕ = (t + near) - n * m in
    let first : n * m ≤ t + near = whole.1 in
    let last : t ≤ n * m + near = whole.2 in
    let is : n * m + d ≡ t + near = omega (arith, first) in
    let same : (t + near) % m ≡ d % m = ap (λ (x : ℕ). x % m) (sym is) ∙ mul-add-mod_self_right n m d in
    let small : d % m ≤ d = mod-le d m in
    let few : (t + near) % m ≤ 2 * near = omega (arith, same, small, is, last) in
    le-leb ((t + near) % m) (2 * near) few

past-first : (from : Option ℕ) (t : ℕ) → is_at_or_after from t ≡ true → IfSome from (λ first. first ≤ t)
past-first None t is = tt
past-first (Some first) t is = ltb-false t first (not-true (ltb t first) is)

first-past : (from : Option ℕ) (t : ℕ) → IfSome from (λ first. first ≤ t) → is_at_or_after from t ≡ true
first-past None t is = refl
first-past (Some first) t is = ap not (le-ltb t first is)

before-past : (until : Option ℕ) (t : ℕ) → is_earlier_than until t ≡ true → IfSome until (λ past. t < past)
before-past None t is = tt
before-past (Some past) t is = ltb-true t past is

past-before : (until : Option ℕ) (t : ℕ) → IfSome until (λ past. t < past) → is_earlier_than until t ≡ true
past-before None t is = refl
past-before (Some past) t is = lt-ltb t past is

asked-for : (near : ℕ) (part : Part) (e : EpochTableView) → is_on_step (step_of (choice_of part near)) e ≡ true → is_chosen (choice_of part near) e ≡ true → IsAskedFor near part e.time
asked-for near part e on inside =
    let both = and_parts (is_at_or_after part.from (e.time + near)) (is_earlier_than part.until (e.time + near)) inside in
    record { steps = whole-steps near part.every e.time on; from = past-first part.from (e.time + near) both.0; until = before-past part.until (e.time + near) both.1 }

asked-in : (near : ℕ) (part : Part) (e : EpochTableView) (time : ℕ) → IsAskedFor near part time → e.time ≡ time → is_chosen (choice_of part near) e ≡ true
asked-in near part e time asked same =
    ap (λ (t : ℕ). is_at_or_after part.from (t + near) && is_earlier_than part.until (t + near)) same
    ∙ and_from (is_at_or_after part.from (time + near)) (is_earlier_than part.until (time + near)) (first-past part.from (time + near) asked.from) (past-before part.until (time + near) asked.until)

asked-on : (near : ℕ) (part : Part) (e : EpochTableView) (time : ℕ) → IsAskedFor near part time → e.time ≡ time → is_on_step (step_of (choice_of part near)) e ≡ true
asked-on near part e time asked same = on-step near part.every e.time (subst (λ (t : ℕ). IsNearSteps near part.every t) (sym same) asked.steps)

-- ---- an epoch on the step is an epoch of the file

record IsFrom (step : Step) (earlier es : List EpochTableView) (g : EpochTableView) : Type 0 where
  before : List EpochTableView
  own : EpochTableView
  after : List EpochTableView
  are : es ≡ before ++ own ∷ after
  on : is_on_step step own ≡ true
  is : g ≡ cut_epoch step (onto before earlier) own

all-if-on : (P : EpochTableView → Type 0) (b : Bool) (e : EpochTableView) (es : List EpochTableView) → (b ≡ true → P e) → All P es → All P (cond b (e ∷ es) es)
all-if-on P true e es here rest = All-cons P e es (here refl) rest
all-if-on P false e es here rest = rest

further : (step : Step) (earlier : List EpochTableView) (e : EpochTableView) (es : List EpochTableView) (g : EpochTableView) → IsFrom step (e ∷ earlier) es g → IsFrom step earlier (e ∷ es) g
further step earlier e es g f = record { before = e ∷ f.before; own = f.own; after = f.after; are = ap (λ xs. e ∷ xs) f.are; on = f.on; is = f.is }

thinned-from : (step : Step) (earlier es : List EpochTableView) → All (IsFrom step earlier es) (thinned_after step earlier es)
thinned-from step earlier [] = All-nil (IsFrom step earlier [])
thinned-from step earlier (e ∷ es) =
    let rest = thinned_after step (e ∷ earlier) es in
    all-if-on (IsFrom step earlier (e ∷ es)) (is_on_step step e) (cut_epoch step earlier e) rest (λ on. record { before = []; own = e; after = es; are = refl; on = on; is = refl })
    (All-weaker (IsFrom step (e ∷ earlier) es) (IsFrom step earlier (e ∷ es)) (λ g f. further step earlier e es g f) rest (thinned-from step (e ∷ earlier) es))

thinned-has : (P : EpochTableView → Type 0) (step : Step) (earlier before : List EpochTableView) (e : EpochTableView) (after : List EpochTableView) → is_on_step step e ≡ true
    → P (cut_epoch step (onto before earlier) e) → Any P (thinned_after step earlier (before ++ e ∷ after))
thinned-has P step earlier [] e after on p =
    subst (λ (es : List EpochTableView). Any P es) (sym (thinned-on step earlier e after on)) (any-here P (cut_epoch step earlier e) (thinned_after step (e ∷ earlier) after) p)
thinned-has P step earlier (x ∷ before) e after on p =
    any-if P (is_on_step step x) (cut_epoch step earlier x) (thinned_after step (x ∷ earlier) (before ++ e ∷ after)) (thinned-has P step (x ∷ earlier) before e after on p)

-- an epoch of the part
kept-from : (part : Choice) (es : List EpochTableView)
    → All (λ g. IsFrom (step_of part) [] es g × (is_chosen part g ≡ true)) (kept_after part [] es)
kept-from part es =
    let step : Step = step_of part in
    let test : EpochTableView → Bool = is_chosen part in
    let from = All-filter test (IsFrom step [] es) (thinned_after step [] es) (thinned-from step [] es) in
    let inside = filter_passes test (thinned_after step [] es) in
    λ k d lt. (from k d lt, inside k d lt)

kept-has : (P : EpochTableView → Type 0) (near : ℕ) (asking : Part) (time : ℕ) (es before : List EpochTableView) (e : EpochTableView) (after : List EpochTableView) → es ≡ before ++ e ∷ after → IsAskedFor near asking time → e.time ≡ time
    → ((g : EpochTableView) → P g → g.time ≡ time) → P (cut_epoch (step_of (choice_of asking near)) (onto before []) e) → Any P (kept_after (choice_of asking near) [] es)
kept-has P near asking time es before e after are asked same at p =
    let part : Choice = choice_of asking near in
    let step : Step = step_of part in
    any-filter P (is_chosen part) (thinned_after step [] es) (λ g q. asked-in near asking g time asked (at g q))
    (subst (λ (xs : List EpochTableView). Any P (thinned_after step [] xs)) (sym are) (thinned-has P step [] before e after (asked-on near asking e time asked same) p))

pub records-are_asked_for : RecordsAreAskedFor
records-are_asked_for asking es = λ time. (
  λ any.
      let near : ℕ = near_of es in
      let part : Choice = choice_of asking near in
      let step : Step = step_of part in
      let a = any-where (λ g. IsFrom step [] es g × (is_chosen part g ≡ true)) (λ g. g.time ≡ time) (kept_after part [] es) (kept-from part es) any in
      let f : IsFrom step [] es a.0 = a.1.0 in
      let own : f.own.time ≡ a.0.time = sym (ap (λ (x : EpochTableView). x.time) f.is) in
      let inside : is_chosen part f.own ≡ true = ap (λ (n : ℕ). is_at_or_after part.from (n + near) && is_earlier_than part.until (n + near)) own ∙ a.1.1 in (
        subst (λ (xs : List EpochTableView). Any (λ e. e.time ≡ time) xs) (sym f.are) (any-middle (λ (e : EpochTableView). e.time ≡ time) f.before f.own f.after (own ∙ a.2)),
        subst (λ (n : ℕ). IsAskedFor near asking n) (own ∙ a.2) (asked-for near asking f.own f.on inside),
      ),
  λ both.
      let s = any-splits (λ (e : EpochTableView). e.time ≡ time) es both.0 in
      kept-has (λ g. g.time ≡ time) (near_of es) asking time es s.0 s.1 s.2 s.3 both.1 s.4 (λ g same. same) s.4,
)

-- ---- slips

-- the epochs in which the phase is not shown on the step
abbrev is_unseen : Step → ℕ → ℕ → EpochTableView → Bool
is_unseen step s c e = not (is_on_step step e && has_phase_of s c e)

unseen-passes : (on phase : Bool) → (on ≡ true → phase ≡ true → ⊥) → not (on && phase) ≡ true
unseen-passes true true never = absurd (never refl refl)
unseen-passes true false never = refl
unseen-passes false phase never = refl

passes-unseen : (on phase : Bool) → not (on && phase) ≡ true → on ≡ true → phase ≡ true → ⊥
passes-unseen on phase passed is_on has = both_ways (on && phase) (not-true (on && phase) passed) (and_from on phase is_on has)

-- a slip that is to be shown has been since the phase
is-slipped : (near : ℕ) (every : Option ℕ) (s c : ℕ) (start gap : List EpochTableView) (f : EpochTableView) → All (λ e. IsNearSteps near every e.time → ShowsPhase s c e → ⊥) gap → Any (ShowsSlip s c) (gap ++ f ∷ [])
    → has_slipped_since (record { every = every; near = near }) s c f (onto (start ++ gap) []) ≡ true
is-slipped near every s c start gap f unseen slip =
    let step : Step = record { every = every; near = near } in
    let test : EpochTableView → Bool = is_unseen step s c in
    let earlier : List EpochTableView = onto (start ++ gap) [] in
    let since : Bool = list_any (has_slip_of s c) (since_phase step s c earlier) in
    elim (any-append (ShowsSlip s c) gap (f ∷ []) slip) [
      | inl before ↦
          let passes : All (λ e. test e ≡ true) (onto gap []) =
          all-onto (λ e. test e ≡ true) gap []
          (All-weaker (λ e. IsNearSteps near every e.time → ShowsPhase s c e → ⊥) (λ e. test e ≡ true)
          (λ e never. unseen-passes (is_on_step step e) (has_phase_of s c e) (λ on has. never (whole-steps near every e.time on) (shows-phase s c e has))) gap unseen)
          (All-nil (λ e. test e ≡ true)) in
          let slips : Any (λ e. has_slip_of s c e ≡ true) (onto gap []) =
          any-onto (λ e. has_slip_of s c e ≡ true) gap [] (any-weaker (ShowsSlip s c) (λ e. has_slip_of s c e ≡ true) gap (λ e shows. slip-shown s c e shows) before) in
          let order : earlier ≡ onto gap [] ++ onto start [] = onto-append start gap [] ∙ onto-long gap (onto start []) in
          or_right (has_slip_of s c f) since
          (ap (λ (es : List EpochTableView). list_any (has_slip_of s c) (take_while test es)) order ∙ any-while test (has_slip_of s c) (onto gap []) (onto start []) passes slips)
      | inr own ↦
          elim (any-split (ShowsSlip s c) f [] own) [
            | inl here ↦ or_left (has_slip_of s c f) since (slip-shown s c f here)
            | inr none ↦ absurd (any-none (ShowsSlip s c) none)
          ]
    ]

pub slips-are_kept : SlipsAreKept
slips-are_kept asking es = λ s c time asked due.
    let near : ℕ = near_of es in
    let step : Step = step_of (choice_of asking near) in
    let before : List EpochTableView = due.start ++ due.gap in
    let f : EpochTableView = due.shows in
    let slipped : Bool = has_slipped_since step s c f (onto before []) in
    let o : Observed = due.phase.0 in
    let shown : ShowsSlip s c (cut_epoch step (onto before []) f) =
    (with_slip slipped o, cut-shows step s c (onto before []) o f due.phase.1, slip-with_phase slipped o due.phase.2 ∙ is-slipped near asking.every s c due.start due.gap f due.unseen due.slip) in
    kept-has (λ g. (g.time ≡ time) × ShowsSlip s c g) near asking time es before f due.rest due.are asked due.at (λ g is. is.0) (due.at, shown)

-- the epochs since the phase are a gap in which it is not shown on the step
pub record HasGap (near : ℕ) (every : Option ℕ) (s c : ℕ) (before : List EpochTableView) (f : EpochTableView) : Type 0 where
  pub start : List EpochTableView
  pub gap : List EpochTableView
  pub are : before ≡ start ++ gap
  pub unseen : All (λ e. IsNearSteps near every e.time → ShowsPhase s c e → ⊥) gap
  pub slip : Any (ShowsSlip s c) (gap ++ f ∷ [])

has-gap : (near : ℕ) (every : Option ℕ) (s c : ℕ) (before : List EpochTableView) (f : EpochTableView) → has_slipped_since (record { every = every; near = near }) s c f (onto before []) ≡ true → HasGap near every s c before f
has-gap near every s c before f slipped =
    let step : Step = record { every = every; near = near } in
    let test : EpochTableView → Bool = is_unseen step s c in
    let earlier : List EpochTableView = onto before [] in
    let n : ℕ = prefix_len test earlier in
    let us : List EpochTableView = take n earlier in
    let vs : List EpochTableView = drop n earlier in
    let passes : All (λ e. test e ≡ true) us =
    λ k d lt.
    let long : length us ≡ n = length-prefix_len test earlier in
    let within : k < n = omega arith in
    ap test (get_or-take n earlier k d within) ∙ prefix_len_passes test earlier k d within in
    let any : Any (λ e. has_slip_of s c e ≡ true) (f ∷ us) = Any-from_list_any (has_slip_of s c) (f ∷ us) slipped in
    record {
      start = onto vs [];
      gap = onto us [];
      are = onto-parts before us vs (sym (take-append-drop n earlier));
      unseen = all-onto (λ e. IsNearSteps near every e.time → ShowsPhase s c e → ⊥) us []
          (All-weaker (λ e. test e ≡ true) (λ e. IsNearSteps near every e.time → ShowsPhase s c e → ⊥)
          (λ e passed whole shows. passes-unseen (is_on_step step e) (has_phase_of s c e) passed (on-step near every e.time whole) (phase-shown s c e shows)) us passes)
          (All-nil (λ e. IsNearSteps near every e.time → ShowsPhase s c e → ⊥));
      slip = elim (any-split (λ e. has_slip_of s c e ≡ true) f us any) [
        | inl here ↦ any-middle (ShowsSlip s c) (onto us []) f [] (shows-slip s c f here)
        | inr there ↦
            any-left (ShowsSlip s c) (onto us []) (f ∷ [])
            (any-onto (ShowsSlip s c) us [] (any-weaker (λ e. has_slip_of s c e ≡ true) (ShowsSlip s c) us (λ e has. shows-slip s c e has) there))
      ];
    }

pub slips-are_found : SlipsAreFound
slips-are_found asking es good = λ s c.
    let near : ℕ = near_of es in
    let part : Choice = choice_of asking near in
    let step : Step = step_of part in
    All-weaker (λ g. IsFrom step [] es g × (is_chosen part g ≡ true)) (λ g. ShowsSlip s c g → HasSlipToShow near asking.every s c es g.time)
    (λ g kept shows.
    let f : IsFrom step [] es g = kept.0 in
    let slipped : Bool = has_slipped_since step s c f.own (onto f.before []) in
    let b = cut-shown step s c (onto f.before []) shows.0 f.own (subst (Observes s c shows.0) f.is shows.1) in
    let o : Observed = b.0 in
    let own = any-where IsFileEpoch (λ e. e ≡ f.own) es good.all
    (subst (λ (xs : List EpochTableView). Any (λ e. e ≡ f.own) xs) (sym f.are) (any-middle (λ e. e ≡ f.own) f.before f.own f.after refl)) in
    let fine : IsFileEpoch f.own = subst IsFileEpoch own.2 own.1 in
    let slip : (with_slip slipped o).slip ≡ true = sym (ap (λ (x : Observed). x.slip) b.2) ∙ shows.2 in
    let phase : is_some o.phase_millicycles ≡ true =
    true_from_ne_false (is_some o.phase_millicycles)
    (λ none. both_ways o.slip (no-slip o (observes-good s c o f.own fine b.1) none) (sym (slip-without_phase slipped o none) ∙ slip)) in
    let gap = has-gap near asking.every s c f.before f.own (sym (slip-with_phase slipped o phase) ∙ slip) in
    record {
      start = gap.start;
      gap = gap.gap;
      shows = f.own;
      rest = f.after;
      are = f.are ∙ ap (λ (xs : List EpochTableView). xs ++ f.own ∷ f.after) gap.are;
      at = sym (ap (λ (x : EpochTableView). x.time) f.is);
      phase = (o, b.1, phase);
      unseen = gap.unseen;
      slip = gap.slip;
    }) (kept_after part [] es) (kept-from part es)

-- ---- the others

pub others-stay : OthersStay
others-stay asking es = let part : Choice = choice_of asking (near_of es) in
    All-weaker (λ g. IsFrom (step_of part) [] es g × (is_chosen part g ≡ true)) (λ g. Any (λ e. without_slips g ≡ without_slips e) es)
    (λ g kept.
    let f : IsFrom (step_of part) [] es g = kept.0 in
    subst (λ (xs : List EpochTableView). Any (λ e. without_slips g ≡ without_slips e) xs) (sym f.are)
    (any-middle (λ e. without_slips g ≡ without_slips e) f.before f.own f.after (ap without_slips f.is ∙ cut-kept (step_of part) (onto f.before []) f.own)))
    (kept_after part [] es) (kept-from part es)

-- ---- and all of them

are-of_part : (part : Part) (es : List EpochTableView) → AreFileEpochs es → AreEpochsOfPart part es (cut_of_epochs part es)
are-of_part part es good = record { records = records-are_asked_for part es; kept = slips-are_kept part es; found = slips-are_found part es good; others = others-stay part es }

gps-written : (text : List ℕ) (part : Part) (t : WellFormedTable) → IsWellFormedTable t → IsMomentOrNone part.from → text ≡ table_text t → IsTextOfPart text part t
gps-written text part t good moment is = record {
  shown = cut_of part t;
  is = record {
    table = parts-are_tables.gps part t moment good;
    head = refl;
    site = refl;
    without_record = λ none. ap (λ (es : List EpochTableView). first_of_part part.from t.first es) none;
    epochs = are-of_part part t.epochs (gps-epochs t good);
  };
  all = λ before after writes. writes t good is;
  first = λ before after writes. writes t good is;
}

mixed-written : (text : List ℕ) (part : Part) (t : MixedTable) → IsMixedTable t → IsMomentOrNone part.from → text ≡ mixed_table_text t → IsTextOfMixedPart text part t
mixed-written text part t good moment is = record {
  shown = mixed_cut_of part t;
  is = record {
    table = parts-are_tables.mixed part t moment good;
    head = refl;
    site = refl;
    without_record = λ none. ap (λ (es : List EpochTableView). first_of_part part.from t.first es) none;
    epochs = are-of_part part t.epochs (mixed-epochs t good);
  };
  all = λ before after writes. writes t good is;
  first = λ before after writes. writes t good is;
}

pub parts-are_written : PartsAreWritten
parts-are_written = record { gps = gps-written; mixed = mixed-written }
