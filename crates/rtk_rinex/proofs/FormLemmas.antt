-- The line of a row has the form of a satellite line; and a line of a well-formed table has no
-- fault.
use Rattle.std.proofs.Common.{◌≡◌, ◌≢◌, ℕ, zero, suc, ◌+◌, ◌-◌, ◌<◌, ◌≤◌, ◌==◌, Bool, true, false, if◌then◌else◌, Option, List, [], ◌∷◌, ◌++◌, length, take, ◌%◌, replicate, get_or, refl, sym, ◌∙◌, ap, arith, length-append}
use Rattle.std.proofs.lemmas.Bool.Decides.{nat_tests}
use Rattle.std.proofs.lemmas.List.{length-replicate}
use Rattle.std.proofs.lemmas.Option.{get_or_from_slice_get}
use Rattle.rtk_rinex.specs.declared.check_fault.Cause.{Cause}
use Rattle.rtk_rinex.specs.declared.check_fault.Cause.TheVariants.{HeaderLine, Columns, Value, Order, Truncated, OutOfMemory}
use Rattle.rtk_rinex.specs.declared.epoch_table.SatelliteRow.{SatelliteRow}
use Rattle.rtk_obs.specs.CivilText.{last_digits}
use Rattle.rtk_obs.specs.Reading.{reading_of}
use Rattle.rtk_rinex.specs.Record.{EpochTableView, before_trimmed, trim_end, epoch_line, satellite_line}
use Rattle.rtk_rinex.specs.Table.{IsTableRow, IsTableEpoch}
use Rattle.rtk_rinex.specs.CheckLine.{IsNextTime, IsEpochFault, IsSatelliteForm, IsNextSatellite, IsSatelliteFault}
use Rattle.rtk_rinex.specs.CheckText.{BeginsWithFault}
use Rattle.rtk_rinex.proofs.RowLemmas.{IsTrimmed, trimmed, whole, length-whole}
use Rattle.rtk_rinex.proofs.CheckLemmas.{named-row, one_satellite}
use Rattle.rtk_rinex.proofs.LineLemmas.{satellite_line-line, no_line, same_line}
use Rattle.rtk_rinex.proofs.OneLemmas.{one_epoch_line, count-of, epoch_line-of}

-- ---- the form of a row's line

pub get_front : (xs ys : List ℕ) (k : ℕ) → k < length xs → get_or (xs ++ ys) k 0 ≡ get_or xs k 0
get_front [] ys k h = absurd (omega arith)
get_front (x ∷ xs) ys zero h = refl
get_front (x ∷ xs) ys (suc k) h = get_front xs ys k (omega arith)

-- the last character of a trimmed text is no blank
solid_if : (x k : ℕ) (c : Bool) → (x == 32) ≡ c → length (if c then [] else x ∷ []) ≡ suc k → get_or (if c then [] else x ∷ []) k 0 ≢ 32
solid_if x k true e long = absurd (omega (arith, long))
solid_if x zero false e long = λ z. let is : (x == 32) ≡ true = grind (arith, nat_tests) in let no : false ≡ true = sym e ∙ is in cc
solid_if x (suc k) false e long = absurd (omega (arith, long))

solid_front : (x : ℕ) (xs : List ℕ) (k : ℕ) → ((j : ℕ) → length xs ≡ suc j → get_or xs j 0 ≢ 32)
    → length (before_trimmed x xs) ≡ suc k → get_or (before_trimmed x xs) k 0 ≢ 32
solid_front x [] k h long = solid_if x k (x == 32) refl long
solid_front x (y ∷ ys) zero h long = absurd (omega (arith, long))
solid_front x (y ∷ ys) (suc k) h long = h k (omega (arith, long))

pub solid : (xs : List ℕ) (k : ℕ) → length (trim_end xs) ≡ suc k → get_or (trim_end xs) k 0 ≢ 32
unfolding trim_end
solid [] k long = absurd (omega (arith, long))
solid (x ∷ xs) k long = solid_front x (trim_end xs) k (λ j e. solid xs j e) long

pub long_enough : (kept : List ℕ) (s : ℕ) → take 3 (kept ++ 10 ∷ []) ≡ 71 ∷ last_digits 2 s → 3 ≤ length kept
long_enough [] s e = absurd (let long = ap length e in omega (arith, long))
long_enough (x ∷ []) s e = absurd (let long = ap length e in omega (arith, long))
long_enough (x ∷ y ∷ []) s e = absurd (let units : 10 ≡ 48 + s % 10 = ap (λ (xs : List ℕ). get_or xs 2 0) e in omega (arith, units))
long_enough (x ∷ y ∷ z ∷ kept) s e = omega arith

pub row-form : (n : ℕ) (r : SatelliteRow) → IsTableRow n r → IsSatelliteForm n (satellite_line r) r.satellite
unfolding IsTrimmed whole
row-form n r h =
    let kept : List ℕ = trim_end (whole r) in
    let t = trimmed (whole r) in
    let sum : length kept + t.0 ≡ length (whole r) = sym (length-append kept (replicate t.0 32) ∙ ap (λ n. length kept + n) (length-replicate t.0 32)) ∙ ap length t.1 in
    let long = length-whole n r h in
    let one : length (kept ++ 10 ∷ []) ≡ length kept + 1 = length-append kept (10 ∷ []) in
    let name = named-row (satellite_line r) r refl in
    let three : 3 ≤ length kept = long_enough kept r.satellite name in
    let back : suc (length kept - 1) ≡ length kept = omega arith in
    let place : length (kept ++ 10 ∷ []) - 2 ≡ length kept - 1 = omega arith in (
      h.satellite,
      name,
      omega arith,
      λ e.
          let read = get_or_from_slice_get (kept ++ 10 ∷ []) (length kept - 1) 32 0 (rw place at e) in
          solid (whole r) (length kept - 1) (sym back) (sym (get_front kept (10 ∷ []) (length kept - 1) (omega arith)) ∙ read),
    )

-- ---- no fault in a line of a table

pub no_satellite_fault : (n : ℕ) (last : Option ℕ) (text : List ℕ) (cause : Cause) (r : SatelliteRow) (y : List ℕ)
    → BeginsWithFault (IsSatelliteFault n last) text cause → IsTableRow n r → IsNextSatellite last r.satellite → text ≡ satellite_line r ++ y → ⊥
no_satellite_fault n last text HeaderLine r y b h next e = b.4
no_satellite_fault n last text Columns r y b h next e =
    let same = same_line b.0 (satellite_line r) b.1 y b.2 (satellite_line-line r) (sym b.3 ∙ e) in
    b.4 r.satellite (rw same.0 (row-form n r h))
no_satellite_fault n last text Value r y b h next e =
    let same = same_line b.0 (satellite_line r) b.1 y b.2 (satellite_line-line r) (sym b.3 ∙ e) in
    b.4.3 r h same.0
no_satellite_fault n last text Order r y b h next e =
    let same = same_line b.0 (satellite_line r) b.1 y b.2 (satellite_line-line r) (sym b.3 ∙ e) in
    let form = b.4.1 in
    let satellite : r.satellite ≡ b.4.0 = one_satellite b.0 r.satellite b.4.0 h.satellite form.0 (named-row b.0 r same.0) form.1 in
    b.4.2 (rw satellite at next)
no_satellite_fault n last text Truncated r y b h next e = no_line text (satellite_line r) y b (satellite_line-line r) e
no_satellite_fault n last text OutOfMemory r y b h next e = b.4

pub no_epoch_fault : (n first : ℕ) (last : Option ℕ) (text : List ℕ) (cause : Cause) (a : EpochTableView) (y : List ℕ)
    → BeginsWithFault (IsEpochFault first last) text cause → IsTableEpoch n a → IsNextTime first last a.time
    → text ≡ epoch_line (reading_of a.time) (length a.rows) ++ y → ⊥
no_epoch_fault n first last text HeaderLine a y b h next e = b.4
no_epoch_fault n first last text Columns a y b h next e =
    let same = same_line b.0 (epoch_line (reading_of a.time) (length a.rows)) b.1 y b.2 (epoch_line-of n a h) (sym b.3 ∙ e) in
    b.4 a.time (length a.rows) (h.time, count-of n a h, same.0)
no_epoch_fault n first last text Value a y b h next e = b.4
no_epoch_fault n first last text Order a y b h next e =
    let same = same_line b.0 (epoch_line (reading_of a.time) (length a.rows)) b.1 y b.2 (epoch_line-of n a h) (sym b.3 ∙ e) in
    let t : ℕ = b.4.0 in
    let is = b.4.2 in
    let one = one_epoch_line a.time t (length a.rows) b.4.1 h.time is.0 (let count = count-of n a h in omega (arith, count)) (omega (arith, is.1)) (sym same.0 ∙ is.2) in
    b.4.3 (rw one.0 at next)
no_epoch_fault n first last text Truncated a y b h next e = no_line text (epoch_line (reading_of a.time) (length a.rows)) y b (epoch_line-of n a h) e
no_epoch_fault n first last text OutOfMemory a y b h next e = b.4
