-- `==` says whether all fields of two values, or their variants, are the same.
use Rattle.std.proofs.Common.{rules, ◌≡◌, ℕ, ℤ, Option, Some, None, Bool, refl, ap}
use Rattle.std.specs.Bool.{Decides}
use Rattle.std.specs.Option.{option_eq, unwrap_or}
use Rattle.std.specs.Ordering.{int_eq}
use Rattle.std.specs.Prelude.{◌==◌}
use Rattle.std.specs.Cmp.{booleans_Decides, unsigned_Decides, signed_Decides}
use Rattle.std.proofs.lemmas.Bool.Decides.{Decides-and, Decides-like}
use denote.Enum.Bare.{same_true, true_same}
use Rattle.rtk_obs.specs.declared.code.Band.{Band}
use Rattle.rtk_obs.specs.declared.code.Code.{Code}
use Rattle.rtk_obs.specs.declared.any_code.AnyCode.{AnyCode}
use Rattle.rtk_obs.specs.declared.cell.CellSource.{CellSource}
use Rattle.rtk_obs.specs.declared.cell.Cell.{Cell}
use Rattle.rtk_obs.specs.declared.cell.CellEntry.{CellEntry}
use Rattle.rtk_obs.specs.declared.time.Civil.{Civil}
use Rattle.rtk_obs.specs.declared.position.Position.{Position}
use Rattle.rtk_obs.specs.declared.track.Track.{Track}
use Rattle.rtk_obs.specs.declared.track.Digits.{Digits}
use Rattle.rtk_obs.specs.PositionFields.{HasFields}
use Rattle.rtk_obs.specs.contracts.code.Band as band_type
use Rattle.rtk_obs.specs.contracts.code.Code as code_type
use Rattle.rtk_obs.specs.contracts.any_code.AnyCode as any_code_type
use Rattle.rtk_obs.specs.contracts.cell.CellSource as source_type
use Rattle.rtk_obs.specs.contracts.code.BandPartialEq.TheImpl as band_eq
use Rattle.rtk_obs.specs.contracts.code.CodePartialEq.TheImpl as code_eq
use Rattle.rtk_obs.specs.contracts.any_code.AnyCodePartialEq.TheImpl as any_code_eq
use Rattle.rtk_obs.specs.contracts.cell.CellSourcePartialEq.TheImpl as source_eq
use Rattle.rtk_obs.specs.contracts.cell.CellPartialEq.TheImpl as cell_eq
use Rattle.rtk_obs.specs.contracts.cell.CellEntryPartialEq.TheImpl as entry_eq
use Rattle.rtk_obs.specs.contracts.time.CivilPartialEq.TheImpl as civil_eq
use Rattle.rtk_obs.specs.contracts.position.PositionPartialEq.TheImpl as position_eq
use Rattle.rtk_obs.specs.contracts.track.TrackPartialEq.TheImpl as track_eq
use Rattle.rtk_obs.specs.contracts.track.DigitsPartialEq.TheImpl as digits_eq

option_same : {X : Type 0} (E : X → X → Bool) → ((x y : X) → Decides (E x y) (x ≡ y)) → (a b : Option X) → Decides (option_eq E a b) (a ≡ b)
option_same E each None None = (λ _. refl, λ _. refl)
option_same E each None (Some y) = (λ h. cc, λ h. cc)
option_same E each (Some x) None = (λ h. cc, λ h. cc)
option_same E each (Some x) (Some y) = (λ h. ap Some ((each x y).0 h), λ h. (each x y).1 (ap (λ o. unwrap_or o x) h))

abbrev signed_option : (a b : Option ℤ) → Decides (option_eq int_eq a b) (a ≡ b)
signed_option a b = option_same int_eq signed_Decides a b

abbrev unsigned_option : (a b : Option ℕ) → Decides (option_eq ◌==◌ a b) (a ≡ b)
unsigned_option a b = option_same ◌==◌ unsigned_Decides a b

pub band_same : (a b : Band) → Decides ((band_eq.ghosts).eq a b) (a ≡ b)
band_same a b = (λ h. same_true band_type.the_type (search rules) a b h, λ e. true_same band_type.the_type a b e)

pub code_same : (a b : Code) → Decides ((code_eq.ghosts).eq a b) (a ≡ b)
code_same a b = (λ h. same_true code_type.the_type (search rules) a b h, λ e. true_same code_type.the_type a b e)

pub any_code_same : (a b : AnyCode) → Decides ((any_code_eq.ghosts).eq a b) (a ≡ b)
any_code_same a b = (λ h. same_true any_code_type.the_type (search rules) a b h, λ e. true_same any_code_type.the_type a b e)

pub source_same : (a b : CellSource) → Decides ((source_eq.ghosts).eq a b) (a ≡ b)
source_same a b = (λ h. same_true source_type.the_type (search rules) a b h, λ e. true_same source_type.the_type a b e)

pub cell_same : (a b : Cell) → Decides ((cell_eq.ghosts).eq a b) (a ≡ b)
cell_same a b = Decides-like ((cell_eq.ghosts).eq a b)
    (λ h i. record { range_mm = h.0 i; phase_millicycles = h.1.0 i; strength_millidbhz = h.1.1.0 i; lock_time_ms = h.1.1.1.0 i; half = h.1.1.1.1.0 i; source = h.1.1.1.1.1.0 i; offset = h.1.1.1.1.1.1 i })
    (λ e. (ap (λ (x : Cell). x.range_mm) e, (ap (λ (x : Cell). x.phase_millicycles) e, (ap (λ (x : Cell). x.strength_millidbhz) e, (ap (λ (x : Cell). x.lock_time_ms) e, (ap (λ (x : Cell). x.half) e, (ap (λ (x : Cell). x.source) e, ap (λ (x : Cell). x.offset) e)))))))
    (Decides-and _ _ (signed_option a.range_mm b.range_mm) (Decides-and _ _ (signed_option a.phase_millicycles b.phase_millicycles) (Decides-and _ _ (unsigned_option a.strength_millidbhz b.strength_millidbhz)
    (Decides-and _ _ (unsigned_Decides a.lock_time_ms b.lock_time_ms) (Decides-and _ _ (booleans_Decides a.half b.half) (Decides-and _ _ (source_same a.source b.source) (signed_option a.offset b.offset)))))))

pub entry_same : (a b : CellEntry) → Decides ((entry_eq.ghosts).eq a b) (a ≡ b)
entry_same a b = Decides-like ((entry_eq.ghosts).eq a b)
    (λ h i. record { satellite = h.0 i; code = h.1.0 i; cell = h.1.1 i })
    (λ e. (ap (λ (x : CellEntry). x.satellite) e, (ap (λ (x : CellEntry). x.code) e, ap (λ (x : CellEntry). x.cell) e)))
    (Decides-and _ _ (unsigned_Decides a.satellite b.satellite) (Decides-and _ _ (code_same a.code b.code) (cell_same a.cell b.cell)))

pub civil_same : (a b : Civil) → Decides ((civil_eq.ghosts).eq a b) (a ≡ b)
civil_same a b = Decides-like ((civil_eq.ghosts).eq a b)
    (λ h i. record { year = h.0 i; month = h.1.0 i; day = h.1.1.0 i; hour = h.1.1.1.0 i; minute = h.1.1.1.1.0 i; second = h.1.1.1.1.1.0 i; millisecond = h.1.1.1.1.1.1 i })
    (λ e. (ap (λ (x : Civil). x.year) e, (ap (λ (x : Civil). x.month) e, (ap (λ (x : Civil). x.day) e, (ap (λ (x : Civil). x.hour) e, (ap (λ (x : Civil). x.minute) e, (ap (λ (x : Civil). x.second) e, ap (λ (x : Civil). x.millisecond) e)))))))
    (Decides-and _ _ (unsigned_Decides a.year b.year) (Decides-and _ _ (unsigned_Decides a.month b.month) (Decides-and _ _ (unsigned_Decides a.day b.day)
    (Decides-and _ _ (unsigned_Decides a.hour b.hour) (Decides-and _ _ (unsigned_Decides a.minute b.minute) (Decides-and _ _ (unsigned_Decides a.second b.second) (unsigned_Decides a.millisecond b.millisecond)))))))

pub position_same : (a b : Position) → Decides ((position_eq.ghosts).eq a b) (HasFields b.x b.y b.z b.height a)
position_same a b = Decides-like ((position_eq.ghosts).eq a b)
    (λ h. (h.0, h.1.0, h.1.1.0, h.1.1.1))
    (λ f. (f.0, (f.1, (f.2, f.3))))
    (Decides-and _ _ (signed_Decides a.x b.x) (Decides-and _ _ (signed_Decides a.y b.y) (Decides-and _ _ (signed_Decides a.z b.z) (unsigned_Decides a.height b.height))))

pub track_same : (a b : Track) → Decides ((track_eq.ghosts).eq a b) (a ≡ b)
track_same a b = Decides-like ((track_eq.ghosts).eq a b)
    (λ h i. record { epoch = h.0 i; lock_time_ms = h.1.0 i; source = h.1.1.0 i; offset = h.1.1.1.0 i; rolls = h.1.1.1.1 i })
    (λ e. (ap (λ (x : Track). x.epoch) e, (ap (λ (x : Track). x.lock_time_ms) e, (ap (λ (x : Track). x.source) e, (ap (λ (x : Track). x.offset) e, ap (λ (x : Track). x.rolls) e)))))
    (Decides-and _ _ (unsigned_Decides a.epoch b.epoch) (Decides-and _ _ (unsigned_Decides a.lock_time_ms b.lock_time_ms) (Decides-and _ _ (source_same a.source b.source)
    (Decides-and _ _ (signed_option a.offset b.offset) (signed_Decides a.rolls b.rolls)))))

pub digits_same : (a b : Digits) → Decides ((digits_eq.ghosts).eq a b) (a ≡ b)
digits_same a b = Decides-like ((digits_eq.ghosts).eq a b)
    (λ h i. record { slip = h.0 i; half = h.1.0 i; rolls = h.1.1 i })
    (λ e. (ap (λ (x : Digits). x.slip) e, (ap (λ (x : Digits). x.half) e, ap (λ (x : Digits). x.rolls) e)))
    (Decides-and _ _ (booleans_Decides a.slip b.slip) (Decides-and _ _ (booleans_Decides a.half b.half) (signed_Decides a.rolls b.rolls)))
