-- The rows of a group of satellites, and the records of a file of any systems.
use Rattle.std.proofs.Common.{◌≡◌, ◌≢◌, ◌<◌, ◌≤◌, ◌+◌, ◌-◌, ◌++◌, ◌&&◌, ◌||◌, cond, ℕ, suc, Bool, true, false, List, [], ◌∷◌, length, get_or, nat_lt, nat_le, append-nil, append_assoc, length-append, Option, Some, None, IfSome, inl, inr, refl, sym, ap, subst, ◌∙◌, arith}
use Rattle.std.specs.Int.{IsInRange}
use Rattle.std.specs.Prelude.{All, AllPairs, filter_map}
use Rattle.std.specs.List.{list_any}
use Rattle.std.proofs.lemmas.Bool.{and_parts, cases_Bool, cond-true, cond-false}
use Rattle.std.proofs.lemmas.Bool.Decides.{nat_tests}
use Rattle.std.proofs.lemmas.List.Elements.{All-push, All-tail}
use Rattle.rtk_rinex.specs.MixedForm.{FormView}
use Rattle.rtk_rinex.specs.MixedRecords.{MixedRecordsView, MixedRowsView, AreMixedLeft, AreRowsLeft, IsRecordOf, IsNextRecordOf, IsNextRowOf}
use Rattle.rtk_rinex.specs.MixedTable.{IsMixedEpoch, IsMixedRow}
use Rattle.rtk_rinex.specs.Record.{EpochTableView, IsSatelliteRow, IsStrengthOrNone}
use Rattle.rtk_rinex.specs.Table.{IsObservedIn}
use Rattle.rtk_rinex.specs.declared.epoch_table.Observed.{Observed}
use Rattle.rtk_rinex.specs.declared.epoch_table.SatelliteRow.{SatelliteRow}
use Rattle.rtk_tracking.specs.Epochs.{epochs_onto, newest_first}
use Rattle.rtk_chart.specs.Choice.{is_chosen, has_row}
use Rattle.rtk_chart.specs.Groups.{is_in_group, is_chosen_by, group_place, row_at, group_row, group_epoch}
use Rattle.rtk_chart.specs.declared.choice.Choice.{Choice}
use Rattle.rtk_chart.specs.declared.choice.Chosen.{Chosen}
use Rattle.rtk_chart.specs.declared.groups.Group.{Group}

-- ---- the place of a satellite

lt-of : (a b : ℕ) → nat_lt a b ≡ true → a < b
lt-of a b h = grind (arith, nat_tests)

le-of : (a b : ℕ) → nat_le a b ≡ true → a ≤ b
le-of a b h = grind (arith, nat_tests)

-- a satellite of a group is behind those before the group, and not behind its last one
pub inside-group : (g : Group) (i : ℕ) → is_in_group g i ≡ true → IsInRange 1 g.count (i - g.before)
inside-group g i on =
    let both = and_parts (nat_lt g.before i) (nat_le (i - g.before) g.count) on in
    let above = lt-of g.before i both.0 in
    let low : 1 ≤ i - g.before = omega (arith, above) in
    (low, le-of (i - g.before) g.count both.1)

some-same : (a b : ℕ) → Some a ≡ Some b → a ≡ b
some-same a b e = cc

none-some : (o : Option ℕ) (b : ℕ) → o ≡ None → o ≡ Some b → ⊥
none-some o b e f = cc

pub place-is : (choice : Choice) (g : Group) (i p : ℕ) → group_place choice g i ≡ Some p → (g.before < i) × (p ≡ i - g.before)
place-is choice g i p is =
    let test : Bool = is_in_group g i && is_chosen_by choice i in
    elim (cases_Bool test) [
      | inl on ↦
          let range = inside-group g i (and_parts (is_in_group g i) (is_chosen_by choice i) on).0 in
          let same : i - g.before ≡ p = some-same (i - g.before) p (sym (cond-true test (Some (i - g.before)) None on) ∙ is) in
          (omega (arith, range.0), sym same)
      | inr off ↦ absurd (none-some (group_place choice g i) p (cond-false test (Some (i - g.before)) None off) is)
    ]

-- of two satellites the one behind has the greater place
later-place : (choice : Choice) (g : Group) (i j p q : ℕ) → group_place choice g i ≡ Some p → group_place choice g j ≡ Some q → i < j → p < q
later-place choice g i j p q one other less =
    let a = place-is choice g i p one in
    let b = place-is choice g j q other in
    omega (arith, a.0, a.1, b.0, b.1, less)

some-from : (P : ℕ → Type 0) (o : Option ℕ) → ((p : ℕ) → o ≡ Some p → P p) → IfSome o P
some-from P None each = tt
some-from P (Some p) each = each p refl

-- ---- the rows of a group

-- each row at a place is behind this one
abbrev pub AreAbove : Choice → Group → ℕ → List SatelliteRow → Type 0
AreAbove choice g last rows = All (λ (r : SatelliteRow). IfSome (group_place choice g r.satellite) (λ p. last < p)) rows

abbrev pub DoRise : List SatelliteRow → Type 0
DoRise rows = AllPairs (λ (a b : SatelliteRow). a.satellite < b.satellite) rows

rise-tail : (r : SatelliteRow) (rows : List SatelliteRow) → DoRise (r ∷ rows) → DoRise rows
rise-tail r rows rise i j d lt within = rise (suc i) (suc j) d (omega (arith, lt)) (omega (arith, within))

rise-head : (r : SatelliteRow) (rows : List SatelliteRow) → DoRise (r ∷ rows) → All (λ (x : SatelliteRow). r.satellite < x.satellite) rows
rise-head r rows rise k d lt = rise 0 (suc k) d (omega arith) (omega (arith, lt))

-- behind a row at a place all others are
above-next : (choice : Choice) (g : Group) (p : ℕ) (r : SatelliteRow) (rows : List SatelliteRow) → group_place choice g r.satellite ≡ Some p → DoRise (r ∷ rows) → AreAbove choice g p rows
above-next choice g p r rows is rise k d lt =
    some-from (λ q. p < q) (group_place choice g (get_or rows k d).satellite)
    (λ q at. later-place choice g r.satellite (get_or rows k d).satellite p q is at (rise-head r rows rise k d lt))

pub above-none : (choice : Choice) (g : Group) (rows : List SatelliteRow) → AreAbove choice g 0 rows
above-none choice g rows k d lt =
    some-from (λ q. 0 < q) (group_place choice g (get_or rows k d).satellite)
    (λ q at. let is = place-is choice g (get_or rows k d).satellite q at in omega (arith, is.0, is.1))

-- the rows that were read, and the others
pub record HasReadPlaces (choice : Choice) (g : Group) (e : EpochTableView) (rows : MixedRowsView) (own : List SatelliteRow) (last : ℕ) : Type 0 where
  pub left : List SatelliteRow
  pub are_left : AreRowsLeft rows left
  pub rise : DoRise left
  pub above : AreAbove choice g last left
  pub are : own ++ filter_map (group_row choice g) left ≡ filter_map (group_row choice g) e.rows

-- these rows of a record were read, the last one at this place
pub record HasReadGroup (choice : Choice) (g : Group) (read rows : MixedRowsView) (own : List SatelliteRow) (last : ℕ) : Type 0 where
  pub below : All (λ (r : SatelliteRow). r.satellite ≤ last) own
  pub few : length own ≤ last
  pub top : last ≤ 32
  pub so_far : (e : EpochTableView) → IsRecordOf e read → DoRise e.rows → HasReadPlaces choice g e rows own last

pub group-none : (choice : Choice) (g : Group) (read rows : MixedRowsView) (own : List SatelliteRow) → own ≡ [] → rows ≡ read → HasReadGroup choice g read rows own 0
group-none choice g read rows own none is =
    subst (λ (xs : List SatelliteRow). HasReadGroup choice g read rows xs 0) (sym none) (record {
      below = λ i d lt. absurd (omega (arith, lt));
      few = omega arith;
      top = omega arith;
      so_far = λ e of rise. record {
        left = e.rows;
        are_left = subst (λ (r : MixedRowsView). AreRowsLeft r e.rows) (sym is) of.rows;
        rise = rise;
        above = above-none choice g e.rows;
        are = refl;
      };
    })

-- the next row has a place behind the last one
places-more : (choice : Choice) (g : Group) (e : EpochTableView) (left own : List SatelliteRow) (row : SatelliteRow) (after : MixedRowsView) (place : ℕ) → IsNextRowOf left row after
    → group_place choice g row.satellite ≡ Some place → DoRise left → own ++ filter_map (group_row choice g) left ≡ filter_map (group_row choice g) e.rows
    → HasReadPlaces choice g e after (own ++ record { satellite = place; observed = row.observed } ∷ []) place
places-more choice g e [] own row after place next is rise are = absurd next
places-more choice g e (r ∷ rest) own row after place next is rise are =
    let at : group_place choice g r.satellite ≡ Some place = ap (λ (x : SatelliteRow). group_place choice g x.satellite) (sym next.0) ∙ is in
    let put : SatelliteRow = record { satellite = place; observed = row.observed } in
    let more : List SatelliteRow = filter_map (group_row choice g) rest in
    let first : filter_map (group_row choice g) (r ∷ rest) ≡ put ∷ more =
    ap (λ (x : SatelliteRow). filter_map (group_row choice g) (x ∷ rest)) (sym next.0) ∙ rw is refl in
    record {
      left = rest;
      are_left = next.1;
      rise = rise-tail r rest rise;
      above = above-next choice g place r rest at rise;
      are = append_assoc own (put ∷ []) more ∙ ap (λ xs. own ++ xs) (sym first) ∙ are;
    }

-- the next row has no place
places-past : (choice : Choice) (g : Group) (e : EpochTableView) (left own : List SatelliteRow) (row : SatelliteRow) (after : MixedRowsView) (last : ℕ) → IsNextRowOf left row after
    → group_place choice g row.satellite ≡ None → DoRise left → AreAbove choice g last left → own ++ filter_map (group_row choice g) left ≡ filter_map (group_row choice g) e.rows
    → HasReadPlaces choice g e after own last
places-past choice g e [] own row after last next is rise above are = absurd next
places-past choice g e (r ∷ rest) own row after last next is rise above are =
    let first : filter_map (group_row choice g) (r ∷ rest) ≡ filter_map (group_row choice g) rest =
    ap (λ (x : SatelliteRow). filter_map (group_row choice g) (x ∷ rest)) (sym next.0) ∙ rw is refl in
    record {
      left = rest;
      are_left = next.1;
      rise = rise-tail r rest rise;
      above = All-tail (λ (x : SatelliteRow). IfSome (group_place choice g x.satellite) (λ p. last < p)) r rest above;
      are = ap (λ xs. own ++ xs) (sym first) ∙ are;
    }

-- a place that is not behind the last one is none of these rows
places-not : (choice : Choice) (g : Group) (left : List SatelliteRow) (row : SatelliteRow) (after : MixedRowsView) (last place : ℕ) → IsNextRowOf left row after
    → group_place choice g row.satellite ≡ Some place → AreAbove choice g last left → place ≤ last → ⊥
places-not choice g [] row after last place next is above low = absurd next
places-not choice g (r ∷ rest) row after last place next is above low =
    let at : group_place choice g r.satellite ≡ Some place = ap (λ (x : SatelliteRow). group_place choice g x.satellite) (sym next.0) ∙ is in
    let here : last < place = subst (λ (o : Option ℕ). IfSome o (λ p. last < p)) at (above 0 r (omega arith)) in
    omega (arith, here, low)

-- what reading the next row says
abbrev pub ReadsNextRow : MixedRowsView → SatelliteRow → MixedRowsView → Type 0
ReadsNextRow rows row after = (xs : List SatelliteRow) → AreRowsLeft rows xs → IsNextRowOf xs row after

pub group-more : (choice : Choice) (g : Group) (read rows after : MixedRowsView) (own new : List SatelliteRow) (row : SatelliteRow) (last place : ℕ) → HasReadGroup choice g read rows own last
    → ReadsNextRow rows row after → group_place choice g row.satellite ≡ Some place → last < place → place ≤ 32
    → new ≡ own ++ record { satellite = place; observed = row.observed } ∷ [] → HasReadGroup choice g read after new place
group-more choice g read rows after own new row last place so_far next is above top took =
    let put : SatelliteRow = record { satellite = place; observed = row.observed } in
    let long : length (own ++ put ∷ []) ≡ length own + 1 = length-append own (put ∷ []) in
    let few = so_far.few in
    subst (λ (xs : List SatelliteRow). HasReadGroup choice g read after xs place) (sym took) (record {
      below = All-push (λ (r : SatelliteRow). r.satellite ≤ place) own put (λ i d lt. let low = so_far.below i d lt in omega (arith, low, above)) (omega arith);
      few = omega (arith, long, few, above);
      top = top;
      so_far = λ e of rise.
          let before = so_far.so_far e of rise in
          places-more choice g e before.left own row after place (next before.left before.are_left) is before.rise before.are;
    })

pub group-past : (choice : Choice) (g : Group) (read rows after : MixedRowsView) (own : List SatelliteRow) (row : SatelliteRow) (last : ℕ) → HasReadGroup choice g read rows own last
    → ReadsNextRow rows row after → group_place choice g row.satellite ≡ None → HasReadGroup choice g read after own last
group-past choice g read rows after own row last so_far next is =
    record {
      below = so_far.below;
      few = so_far.few;
      top = so_far.top;
      so_far = λ e of rise.
          let before = so_far.so_far e of rise in
          places-past choice g e before.left own row after last (next before.left before.are_left) is before.rise before.above before.are;
    }

pub group-not : (choice : Choice) (g : Group) (read rows after : MixedRowsView) (own : List SatelliteRow) (row : SatelliteRow) (last place : ℕ) → HasReadGroup choice g read rows own last
    → ReadsNextRow rows row after → group_place choice g row.satellite ≡ Some place → place ≤ last → HasReadGroup choice g read after own last
group-not choice g read rows after own row last place so_far next is low =
    record {
      below = so_far.below;
      few = so_far.few;
      top = so_far.top;
      so_far = λ e of rise.
          let before = so_far.so_far e of rise in
          absurd (places-not choice g before.left row after last place (next before.left before.are_left) is before.above low);
    }

pub group-all : (choice : Choice) (g : Group) (e : EpochTableView) (rows : MixedRowsView) (own : List SatelliteRow) (last : ℕ) → HasReadPlaces choice g e rows own last
    → ((xs : List SatelliteRow) → AreRowsLeft rows xs → xs ≡ []) → own ≡ filter_map (group_row choice g) e.rows
group-all choice g e rows own last so_far none =
    sym (append-nil own) ∙ ap (λ xs. own ++ filter_map (group_row choice g) xs) (sym (none so_far.left so_far.are_left)) ∙ so_far.are

-- what a code shows has a strength of a message, with Doppler shifts or without them
strength-of : (doppler : Bool) (o : Observed) → IsObservedIn doppler o → IsStrengthOrNone o.strength_millidbhz
strength-of false o is = is.strength
strength-of true o is = is.strength

-- a row at a place of a grid
pub placed-good : (f : FormView) (row : SatelliteRow) (place : ℕ) → IsMixedRow f row → IsInRange 1 32 place → IsSatelliteRow (record { satellite = place; observed = row.observed })
placed-good f row place good range =
    record { satellite = range; strengths = λ i d lt. strength-of f.doppler (get_or row.observed.items i d) (good.observed i d lt) }

-- ---- rows of chosen satellites

-- none of the rows that were read is of a chosen satellite
pub record HasReadOthers (chosen : Chosen) (e : EpochTableView) (rows : MixedRowsView) : Type 0 where
  pub left : List SatelliteRow
  pub are_left : AreRowsLeft rows left
  pub same : list_any (λ (r : SatelliteRow). is_chosen chosen r.satellite) left ≡ has_row chosen e

abbrev pub HasFoundNone : Chosen → MixedRowsView → MixedRowsView → Type 0
HasFoundNone chosen read rows = (e : EpochTableView) → IsRecordOf e read → HasReadOthers chosen e rows

pub others-first : (chosen : Chosen) (read rows : MixedRowsView) → rows ≡ read → HasFoundNone chosen read rows
others-first chosen read rows is = λ e of. record {
  left = e.rows;
  are_left = subst (λ (r : MixedRowsView). AreRowsLeft r e.rows) (sym is) of.rows;
  same = refl;
}

others-on : (chosen : Chosen) (e : EpochTableView) (left : List SatelliteRow) (row : SatelliteRow) (after : MixedRowsView) → IsNextRowOf left row after → is_chosen chosen row.satellite ≡ false
    → list_any (λ (r : SatelliteRow). is_chosen chosen r.satellite) left ≡ has_row chosen e → HasReadOthers chosen e after
others-on chosen e [] row after next off same = absurd next
others-on chosen e (r ∷ rest) row after next off same =
    let here : is_chosen chosen r.satellite ≡ false = ap (λ (x : SatelliteRow). is_chosen chosen x.satellite) (sym next.0) ∙ off in
    record {
      left = rest;
      are_left = next.1;
      same = sym (ap (λ (b : Bool). b || list_any (λ (x : SatelliteRow). is_chosen chosen x.satellite) rest) here) ∙ same;
    }

pub others-more : (chosen : Chosen) (read rows after : MixedRowsView) (row : SatelliteRow) → HasFoundNone chosen read rows → ReadsNextRow rows row after → is_chosen chosen row.satellite ≡ false
    → HasFoundNone chosen read after
others-more chosen read rows after row found next off = λ e of.
    let before = found e of in
    others-on chosen e before.left row after (next before.left before.are_left) off before.same

others-found : (chosen : Chosen) (e : EpochTableView) (left : List SatelliteRow) (row : SatelliteRow) (after : MixedRowsView) → IsNextRowOf left row after → is_chosen chosen row.satellite ≡ true
    → list_any (λ (r : SatelliteRow). is_chosen chosen r.satellite) left ≡ has_row chosen e → true ≡ has_row chosen e
others-found chosen e [] row after next on same = absurd next
others-found chosen e (r ∷ rest) row after next on same =
    let here : is_chosen chosen r.satellite ≡ true = ap (λ (x : SatelliteRow). is_chosen chosen x.satellite) (sym next.0) ∙ on in
    sym (ap (λ (b : Bool). b || list_any (λ (x : SatelliteRow). is_chosen chosen x.satellite) rest) here) ∙ same

pub others-end : (chosen : Chosen) (read rows after : MixedRowsView) (row : SatelliteRow) → HasFoundNone chosen read rows → ReadsNextRow rows row after → is_chosen chosen row.satellite ≡ true
    → (e : EpochTableView) → IsRecordOf e read → true ≡ has_row chosen e
others-end chosen read rows after row found next on = λ e of.
    let before = found e of in
    others-found chosen e before.left row after (next before.left before.are_left) on before.same

pub others-all : (chosen : Chosen) (read rows : MixedRowsView) → HasFoundNone chosen read rows → ((xs : List SatelliteRow) → AreRowsLeft rows xs → xs ≡ [])
    → (e : EpochTableView) → IsRecordOf e read → false ≡ has_row chosen e
others-all chosen read rows found none = λ e of.
    let before = found e of in
    sym (ap (list_any (λ (r : SatelliteRow). is_chosen chosen r.satellite)) (none before.left before.are_left)) ∙ before.same

-- ---- the records of a file of any systems, one after another

-- the epochs that came, in a state that stands for them, and those that are left
abbrev pub HasComeOfAny : {S : Type 0} → (S → List EpochTableView → Type 0) → MixedRecordsView → S → List EpochTableView → Type 0
HasComeOfAny Stands left state epochs =
    (before : List EpochTableView) × (rest : List EpochTableView) × AreMixedLeft left rest × (epochs_onto rest before ≡ newest_first epochs) × Stands state before

record-first : {S : Type 0} (Stands : S → List EpochTableView → Type 0) (left_1 left_2 : MixedRecordsView) (state_1 state_2 : S) (epochs before rest : List EpochTableView) (rows : MixedRowsView)
    → AreMixedLeft left_1 rest → epochs_onto rest before ≡ newest_first epochs → Stands state_1 before → IsNextRecordOf rest rows left_2
    → ((es : List EpochTableView) (e : EpochTableView) → IsRecordOf e rows → IsMixedEpoch left_1.form e → Stands state_1 es → Stands state_2 (e ∷ es)) → HasComeOfAny Stands left_2 state_2 epochs
record-first Stands left_1 left_2 state_1 state_2 epochs before [] rows are onto stands next takes = absurd next
record-first Stands left_1 left_2 state_1 state_2 epochs before (e ∷ es) rows are onto stands next takes = (
  e ∷ before,
  es,
  next.1,
  onto,
  takes before e next.0 (are.are_epochs 0 e (omega arith)) stands,
)

pub record-more : {S : Type 0} (Stands : S → List EpochTableView → Type 0) (left_1 left_2 : MixedRecordsView) (state_1 state_2 : S) (epochs : List EpochTableView) (rows : MixedRowsView)
    → HasComeOfAny Stands left_1 state_1 epochs → ((es : List EpochTableView) → AreMixedLeft left_1 es → IsNextRecordOf es rows left_2)
    → ((es : List EpochTableView) (e : EpochTableView) → IsRecordOf e rows → IsMixedEpoch left_1.form e → Stands state_1 es → Stands state_2 (e ∷ es)) → HasComeOfAny Stands left_2 state_2 epochs
record-more Stands left_1 left_2 state_1 state_2 epochs rows come next takes =
    record-first Stands left_1 left_2 state_1 state_2 epochs come.0 come.1 rows come.2 come.3 come.4 (next come.1 come.2) takes

pub record-all : {S : Type 0} (Stands : S → List EpochTableView → Type 0) (left : MixedRecordsView) (state : S) (epochs : List EpochTableView)
    → HasComeOfAny Stands left state epochs → ((rest : List EpochTableView) → AreMixedLeft left rest → rest ≡ []) → Stands state (newest_first epochs)
record-all Stands left state epochs come none =
    subst (λ (es : List EpochTableView). Stands state es) (sym (ap (λ (es : List EpochTableView). epochs_onto es come.0) (none come.1 come.2)) ∙ come.3) come.4
