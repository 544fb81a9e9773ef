-- Marks of slips: how an epoch changes them, and what it shows with them.
use Rattle.std.proofs.Common.{◌≡◌, ◌<◌, ◌≤◌, ℕ, Bool, true, false, not, ◌&&◌, ◌||◌, ltb, cond, List, [], ◌∷◌, map, length, get_or, refl, sym, ap, ◌∙◌, arith}
use Rattle.std.specs.Prelude.{All}
use Rattle.std.specs.List.{range_with_len, list_any}
use Rattle.std.proofs.lemmas.List.Sums.{take_while-cons}
use Rattle.rtk_rinex.specs.declared.epoch_table.Observed.{Observed}
use Rattle.rtk_rinex.specs.declared.epoch_table.SatelliteRow.{SatelliteRow}
use Rattle.rtk_rinex.specs.Record.{EpochTableView, HasWidth}
use Rattle.rtk_cut.specs.Cut.{Step, is_on_step, code_at, has_phase_of, has_slip_of, since_phase, has_slipped_since, with_slip, row_with_slips, cut_epoch}
use Rattle.rtk_cut.specs.Steps.Pending.{mark_of, HasMarks, HaveMarks, MarksBecome, StandsForSlips, row_has_slip, row_has_phase, row_with_marks, row_with_own_marks, epoch_with_marks, epoch_with_own_marks}
use Rattle.rtk_cut.proofs.TestLemmas.{map-agree, map-agree_below}
use Rattle.rtk_cut.proofs.RowLemmas.{Rise, ShowObserved, only-row, rows-no_slip, rows-within}

-- ---- an epoch more

since-if : (step : Step) (s c : ℕ) (e : EpochTableView) (earlier : List EpochTableView) (on phase : Bool) → is_on_step step e ≡ on → has_phase_of s c e ≡ phase
    → since_phase step s c (e ∷ earlier) ≡ cond (not (on && phase)) (e ∷ since_phase step s c earlier) []
since-if step s c e earlier on phase is_on has =
    take_while-cons (λ x. not (is_on_step step x && has_phase_of s c x)) e earlier
    ∙ ap (λ b. cond (not (b && has_phase_of s c e)) (e ∷ since_phase step s c earlier) []) is_on
    ∙ ap (λ b. cond (not (on && b)) (e ∷ since_phase step s c earlier) []) has

-- after an epoch off the step its slips are marked too
pub since-off : (step : Step) (s c : ℕ) (e : EpochTableView) (earlier : List EpochTableView) → is_on_step step e ≡ false
    → list_any (has_slip_of s c) (since_phase step s c (e ∷ earlier)) ≡ (has_slip_of s c e || list_any (has_slip_of s c) (since_phase step s c earlier))
since-off step s c e earlier off = ap (λ es. list_any (has_slip_of s c) es) (since-if step s c e earlier false (has_phase_of s c e) off refl)

on-if : (phase slip old : Bool) (step : Step) (s c : ℕ) (e : EpochTableView) (earlier : List EpochTableView) → is_on_step step e ≡ true → has_phase_of s c e ≡ phase → has_slip_of s c e ≡ slip → (phase ≡ false → slip ≡ false)
    → list_any (has_slip_of s c) (since_phase step s c earlier) ≡ old
    → list_any (has_slip_of s c) (since_phase step s c (e ∷ earlier)) ≡ (not phase && old)
on-if true slip old step s c e earlier on has has_slip none was = ap (λ es. list_any (has_slip_of s c) es) (since-if step s c e earlier true true on has)
on-if false slip old step s c e earlier on has has_slip none was =
    ap (λ es. list_any (has_slip_of s c) es) (since-if step s c e earlier true false on has)
    ∙ ap (λ b. b || list_any (has_slip_of s c) (since_phase step s c earlier)) (has_slip ∙ none refl) ∙ was

-- after an epoch on the step the marks of its phases are gone
pub since-on : (step : Step) (s c : ℕ) (e : EpochTableView) (earlier : List EpochTableView) → ShowObserved e.rows → is_on_step step e ≡ true
    → list_any (has_slip_of s c) (since_phase step s c (e ∷ earlier)) ≡ (not (has_phase_of s c e) && list_any (has_slip_of s c) (since_phase step s c earlier))
since-on step s c e earlier good on =
    on-if (has_phase_of s c e) (has_slip_of s c e) (list_any (has_slip_of s c) (since_phase step s c earlier)) step s c e earlier on refl refl (rows-no_slip s c e.rows good) refl

marks-stay : (marks marks' : List Bool) (s : ℕ) → length marks' ≡ length marks → HasMarks marks' s → HasMarks marks s
marks-stay marks marks' s size has = omega (arith, size, has)

pub noted : (marks marks' : List Bool) (step : Step) (earlier : List EpochTableView) (e : EpochTableView) → is_on_step step e ≡ false → StandsForSlips marks step earlier → length marks' ≡ length marks
    → MarksBecome marks' (λ s c. list_any (row_has_slip s c) e.rows || mark_of marks s c) → StandsForSlips marks' step (e ∷ earlier)
noted marks marks' step earlier e off stands size marked = λ s c satellite code.
    marked s c satellite code ∙ ap (λ b. list_any (row_has_slip s c) e.rows || b) (stands s c (marks-stay marks marks' s size satellite) code) ∙ sym (since-off step s c e earlier off)

pub shown : (marks marks' : List Bool) (step : Step) (earlier : List EpochTableView) (e : EpochTableView) → ShowObserved e.rows → is_on_step step e ≡ true → StandsForSlips marks step earlier → length marks' ≡ length marks
    → MarksBecome marks' (λ s c. not (list_any (row_has_phase s c) e.rows) && mark_of marks s c) → StandsForSlips marks' step (e ∷ earlier)
shown marks marks' step earlier e good on stands size marked = λ s c satellite code.
    marked s c satellite code
    ∙ ap (λ b. not (list_any (row_has_phase s c) e.rows) && b) (stands s c (marks-stay marks marks' s size satellite) code)
    ∙ sym (since-on step s c e earlier good on)

-- the marks of all phases are those of the phases within the width
pub marks-within : (n : ℕ) (old marks : List Bool) (rows : List SatelliteRow) → HasWidth n rows → MarksBecome marks (λ s c. not (list_any (row_has_phase s c) rows && ltb c n) && mark_of old s c)
    → MarksBecome marks (λ s c. not (list_any (row_has_phase s c) rows) && mark_of old s c)
marks-within n old marks rows wide marked = λ s c satellite code.
    marked s c satellite code ∙ ap (λ b. not b && mark_of old s c) (rows-within n s c rows wide)

-- ---- what an epoch shows

row-shown : (n : ℕ) (marks : List Bool) (step : Step) (earlier : List EpochTableView) (e : EpochTableView) → n ≤ 16 → Rise e.rows → HaveMarks marks e.rows → StandsForSlips marks step earlier
    → (k : ℕ) (d : SatelliteRow) → k < length e.rows → length (get_or e.rows k d).observed.items ≡ n
    → row_with_marks marks n (get_or e.rows k d) ≡ row_with_slips (λ c. has_slipped_since step (get_or e.rows k d).satellite c e earlier) (get_or e.rows k d)
row-shown n marks step earlier e few rise marked stands k d lt wide =
    let r : SatelliteRow = get_or e.rows k d in
    let codes : map (λ c. with_slip ((code_at c r).slip || mark_of marks r.satellite c) (code_at c r)) (range_with_len 0 n)
    ≡ map (λ c. with_slip (has_slipped_since step r.satellite c e earlier) (code_at c r)) (range_with_len 0 n) =
    map-agree_below (λ c. with_slip ((code_at c r).slip || mark_of marks r.satellite c) (code_at c r)) (λ c. with_slip (has_slipped_since step r.satellite c e earlier) (code_at c r)) 0 n (λ c inside.
    let code : c < 16 = omega arith in
    ap (λ b. with_slip b (code_at c r))
    (ap (λ b. b || mark_of marks r.satellite c) (sym (only-row (λ x. (code_at c x).slip) e.rows k d rise lt))
    ∙ ap (λ b. has_slip_of r.satellite c e || b) (stands r.satellite c (marked k d lt) code))) in
    ap (λ (os : List Observed). record { satellite = r.satellite; observed = record { items = os } })
    (codes ∙ ap (λ (m : ℕ). map (λ c. with_slip (has_slipped_since step r.satellite c e earlier) (code_at c r)) (range_with_len 0 m)) (sym wide))

-- of a file of n codes
pub epoch-shown : (n : ℕ) (marks : List Bool) (step : Step) (earlier : List EpochTableView) (e : EpochTableView) → n ≤ 16 → Rise e.rows → HasWidth n e.rows → HaveMarks marks e.rows → StandsForSlips marks step earlier
    → epoch_with_marks marks n e ≡ cut_epoch step earlier e
epoch-shown n marks step earlier e few rise wide marked stands =
    ap (λ (rows : List SatelliteRow). record { time = e.time; rows = rows })
    (map-agree (row_with_marks marks n) (λ r. row_with_slips (λ c. has_slipped_since step r.satellite c e earlier) r) e.rows
    (λ k d lt. row-shown n marks step earlier e few rise marked stands k d lt (wide k d lt)))

-- of a file whose rows have widths of their own
pub epoch-shown_own : (marks : List Bool) (step : Step) (earlier : List EpochTableView) (e : EpochTableView) → Rise e.rows → All (λ r. length r.observed.items ≤ 16) e.rows → HaveMarks marks e.rows → StandsForSlips marks step earlier
    → epoch_with_own_marks marks e ≡ cut_epoch step earlier e
epoch-shown_own marks step earlier e rise few marked stands =
    ap (λ (rows : List SatelliteRow). record { time = e.time; rows = rows })
    (map-agree (row_with_own_marks marks) (λ r. row_with_slips (λ c. has_slipped_since step r.satellite c e earlier) r) e.rows
    (λ k d lt. row-shown (length (get_or e.rows k d).observed.items) marks step earlier e (few k d lt) rise marked stands k d lt refl))
