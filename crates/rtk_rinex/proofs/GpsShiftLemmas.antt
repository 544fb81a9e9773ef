-- The tenth line of a file of GPS has no type of a Doppler shift.
use Rattle.std.proofs.Common.{◌≡◌, ◌≤◌, ℕ, false, List, [], ◌∷◌, ◌++◌, length, map, None, arith, refl, sym, ap, subst, ◌∙◌}
use Rattle.std.specs.Prelude.{flat_map}
use Rattle.std.proofs.lemmas.List.{length-map}
use Rattle.rtk_obs.specs.declared.code.Code.{Code}
use Rattle.rtk_obs.specs.declared.code.Code.TheVariants as code
use Rattle.rtk_obs.specs.Code as gps
use Rattle.rtk_obs.specs.AnyCode.{code_of_gps, text_of}
use Rattle.rtk_rinex.specs.Header.{unit_line}
use Rattle.rtk_rinex.specs.MixedHead.{MixedHeadView}
use Rattle.rtk_rinex.specs.MixedHeader.{IsOfGps, system_types_lines}
use Rattle.rtk_rinex.specs.MixedTable.{has_shift_type, GpsShowsNoShifts}
use Rattle.rtk_rinex.specs.Record.{record_text}
use Rattle.rtk_rinex.specs.Steps.MixedHeaderRead.{types_and_unit}
use Rattle.rtk_rinex.proofs.FlagLemmas.{HasFlag, lines_flag}
use Rattle.rtk_rinex.proofs.GpsHeaderLemmas.{by_gps, gps_stay}
use Rattle.rtk_rinex.proofs.ShiftTypeLemmas.{header-tells}

text-of-gps : (c : Code) → text_of (code_of_gps c) ≡ 71 ∷ gps.name_of c
text-of-gps code.G1C = refl
text-of-gps code.G1P = refl
text-of-gps code.G1W = refl
text-of-gps code.G1S = refl
text-of-gps code.G1L = refl
text-of-gps code.G1X = refl
text-of-gps code.G2C = refl
text-of-gps code.G2D = refl
text-of-gps code.G2P = refl
text-of-gps code.G2W = refl
text-of-gps code.G2S = refl
text-of-gps code.G2L = refl
text-of-gps code.G2X = refl
text-of-gps code.G5I = refl
text-of-gps code.G5Q = refl
text-of-gps code.G5X = refl

texts-of-gps : (cs : List Code) → map text_of (map code_of_gps cs) ≡ map (λ c. 71 ∷ gps.name_of c) cs
texts-of-gps [] = refl
texts-of-gps (c ∷ cs) =
    ap (λ (t : List ℕ). t ∷ map text_of (map code_of_gps cs)) (text-of-gps c) ∙ ap (λ (ts : List (List ℕ)). (71 ∷ gps.name_of c) ∷ ts) (texts-of-gps cs)

pub gps-tells : GpsShowsNoShifts
gps-tells t good =
    let m : MixedHeadView = record { marker = t.head.marker; listed = map code_of_gps t.head.listed; glonass = None; made = t.head.made; doppler = false } in
    let texts = texts-of-gps t.head.listed in
    let of_gps : IsOfGps t.head m = record { marker = refl; listed = texts; glonass = refl; made = refl; doppler = refl } in
    let size : length m.listed ≡ length t.head.listed = length-map t.head.listed code_of_gps in
    let some : 1 ≤ length m.listed = omega (arith, size, good.head.1.0) in
    let few : length m.listed ≤ 16 = omega (arith, size, good.head.1.0) in
    let flag : HasFlag false (types_and_unit false m.listed) =
    subst (λ (x : List ℕ). HasFlag false (x ++ unit_line)) (sym (by_gps (system_types_lines false) m.listed t.head.listed (λ l. refl) texts))
    (lines_flag false 71 m.listed unit_line (λ z. omega (arith, z)) some few) in
    ap (λ (top : List ℕ). has_shift_type (top ++ flat_map record_text t.epochs)) (sym (gps_stay t.head m t.site t.first of_gps good.head))
    ∙ header-tells m t.site t.first (flat_map record_text t.epochs) good.head.0 good.site flag
