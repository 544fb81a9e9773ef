-- The line behind those that a label changes is no time line, in files of GPS and of any systems.
use Rattle.std.proofs.Common.{◌≡◌, ◌<◌, ◌≤◌, ℕ, ◌*◌, ◌==◌, Bool, true, false, List, [], ◌∷◌, ◌++◌, length, take, drop, codes, decimal, sym, arith, refl, append_assoc, length-append, subst}
use Rattle.std.specs.Prelude.{flat_map, count_by}
use Rattle.std.proofs.lemmas.Fmt.{length-decimal-le}
use Rattle.std.proofs.lemmas.List.{length-take}
use Rattle.std.proofs.lemmas.List.Sums.{length-filter, count_by-le-length}
use Rattle.rtk_obs.specs.declared.any_code.AnyCode.{AnyCode}
use Rattle.rtk_rinex.specs.Columns.{left, right}
use Rattle.rtk_rinex.specs.Header.{header_line, types, types_label, first_types_line, continuation_line, last_lines, unit_line, first_line}
use Rattle.rtk_rinex.specs.MixedHead.{letter}
use Rattle.rtk_rinex.specs.MixedHeader.{codes_of, types_count, types_text, system_types_lines, by_system, phase_shift_line, glonass_lines}
use Rattle.rtk_obs.specs.Reading.{reading_of}
use Rattle.rtk_rinex.specs.Record.{record_text}
use Rattle.rtk_rinex.specs.MixedRecord.{mixed_record_text}
use Rattle.rtk_rinex.specs.Table.{WellFormedTable, IsWellFormedTable}
use Rattle.rtk_rinex.specs.MixedTable.{MixedTable, IsMixedTable}
use Rattle.rtk_label.specs.Steps.Told.{HasNoTimeLine}
use Rattle.rtk_label.proofs.FileParts.{parts_of, mixed_parts_of}
use Rattle.rtk_label.proofs.OffsetLemmas.{length-right}
use Rattle.rtk_label.proofs.ToldLemmas.{first_of_label, no-time}

-- ---- lines of observation types

types-first : first_of_label types_label ≡ 83
unfolding left
types-first = refl

unit-first : first_of_label (codes "SIGNAL STRENGTH UNIT") ≡ 83
unfolding left
unit-first = refl

columns-fit : (system text : List ℕ) (k : ℕ) → length system ≡ 3 → k < 1000 → length ((system ++ right 3 (decimal k)) ++ take 52 text) ≤ 60
columns-fit system text k three small =
    let count = length-right 3 (decimal k) (length-decimal-le 3 k (omega arith) (omega (arith, small)) (omega (arith, small))) in
    omega (arith, three, count, length-append (system ++ right 3 (decimal k)) (take 52 text), length-append system (right 3 (decimal k)), length-take 52 text)

types-next : (system text more : List ℕ) (k : ℕ) → length system ≡ 3 → k < 1000
    → HasNoTimeLine (header_line ((system ++ right 3 (decimal k)) ++ take 52 text) types_label ++ more)
types-next system text more k three small =
    no-time ((system ++ right 3 (decimal k)) ++ take 52 text) types_label more (columns-fit system text k three small) (omega arith) types-first

-- ---- a file of GPS

glue_types : (f a b c l r : List ℕ) → ((((f ++ a) ++ b) ++ c) ++ l) ++ r ≡ f ++ (a ++ (b ++ (c ++ (l ++ r))))
glue_types f a b c l r = simp append_assoc

pub gps-next : (t : WellFormedTable) → IsWellFormedTable t → HasNoTimeLine (parts_of t).rest
gps-next t good =
    let listed = t.head.listed in
    let text : List ℕ = types listed in
    let a : List ℕ = continuation_line (drop 52 text) in
    let b : List ℕ = continuation_line (drop 104 text) in
    let c : List ℕ = continuation_line (drop 156 text) in
    let l : List ℕ = last_lines (reading_of t.first) in
    let r : List ℕ = flat_map record_text t.epochs in
    let few : length listed ≤ 16 = good.head.1.0.1 in
    subst HasNoTimeLine (sym (glue_types (first_types_line (length listed) text) a b c l r))
    (types-next (codes "G  ") text (a ++ (b ++ (c ++ (l ++ r)))) (3 * length listed) refl (omega (arith, few)))

-- ---- a file of any systems

glue_five : (h a b d f more : List ℕ) → ((((h ++ a) ++ b) ++ d) ++ f) ++ more ≡ h ++ (a ++ (b ++ (d ++ (f ++ more))))
glue_five h a b d f more = simp append_assoc

few-types : (doppler : Bool) (n : ℕ) → n ≤ 69 → types_count doppler * n < 1000
few-types false n h = omega arith
few-types true n h = omega arith

system-next : (doppler : Bool) (system : ℕ) (cs : List AnyCode) (more : List ℕ) → length cs ≤ 69 → HasNoTimeLine more → HasNoTimeLine (system_types_lines doppler system cs ++ more)
system-next doppler system [] more few lacks = lacks
system-next doppler system (c ∷ cs) more few lacks =
    let n : ℕ = length (c ∷ cs) in
    let text : List ℕ = types_text doppler (c ∷ cs) in
    let a : List ℕ = continuation_line (drop 52 text) in
    let b : List ℕ = continuation_line (drop 104 text) in
    let d : List ℕ = continuation_line (drop 156 text) in
    let f : List ℕ = continuation_line (drop 208 text) in
    subst HasNoTimeLine (sym (glue_five (header_line ((system ∷ codes "  ") ++ right 3 (decimal (types_count doppler * n)) ++ take 52 text) types_label) a b d f more))
    (types-next (system ∷ codes "  ") text (a ++ (b ++ (d ++ (f ++ more)))) (types_count doppler * n) refl (few-types doppler n few))

few-codes : (system : ℕ) (listed : List AnyCode) → length (codes_of system listed) ≤ length listed
few-codes system listed =
    let p : AnyCode → Bool = λ c. letter c == system in
    let size : length (codes_of system listed) ≡ count_by p listed = length-filter p listed in
    omega (arith, size, count_by-le-length p listed)

systems-next : (doppler : Bool) (listed : List AnyCode) (systems more : List ℕ) → length listed ≤ 69 → HasNoTimeLine more
    → HasNoTimeLine (flat_map (λ system. system_types_lines doppler system (codes_of system listed)) systems ++ more)
systems-next doppler listed [] more few lacks = lacks
systems-next doppler listed (s ∷ ss) more few lacks =
    let here : List ℕ = system_types_lines doppler s (codes_of s listed) in
    let others : List ℕ = flat_map (λ system. system_types_lines doppler system (codes_of system listed)) ss in
    subst HasNoTimeLine (sym (append_assoc here others more))
    (system-next doppler s (codes_of s listed) (others ++ more) (omega (arith, few, few-codes s listed)) (systems-next doppler listed ss more few lacks))

glue_mixed : (x u f q g e r : List ℕ) → (((((x ++ u) ++ f) ++ q) ++ g) ++ e) ++ r ≡ x ++ (u ++ (f ++ (q ++ (g ++ (e ++ r)))))
glue_mixed x u f q g e r = simp append_assoc

pub mixed-next : (t : MixedTable) → IsMixedTable t → HasNoTimeLine (mixed_parts_of t).rest
mixed-next t good =
    let listed = t.head.listed in
    let f : List ℕ = first_line (reading_of t.first) in
    let q : List ℕ = by_system phase_shift_line listed in
    let g : List ℕ = glonass_lines t.head.glonass in
    let e : List ℕ = header_line [] (codes "END OF HEADER") in
    let r : List ℕ = flat_map (mixed_record_text t.head.doppler) t.epochs in
    let behind : List ℕ = f ++ (q ++ (g ++ (e ++ r))) in
    let few : length listed ≤ 69 = good.head.listed.count.1 in
    subst HasNoTimeLine (sym (glue_mixed (by_system (system_types_lines t.head.doppler) listed) unit_line f q g e r))
    (systems-next t.head.doppler listed (codes "GRECJSI") (unit_line ++ behind) few
    (no-time (codes "DBHZ") (codes "SIGNAL STRENGTH UNIT") behind (omega arith) (omega arith) unit-first))
