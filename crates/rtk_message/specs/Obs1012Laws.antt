-- Bits begin with at most one message 1012, and have no fault if they begin with one.
use Rattle.std.proofs.Common.{◌≡◌, ℕ, ℤ, Bool, false, List, [], ◌∷◌, ◌++◌, length, None, refl, sym, ap, ◌∙◌, ◌+◌, ◌*◌, ◌<◌, ◌≤◌, ltb, leb, arith, append_assoc, length-append}
use Rattle.std.specs.List.{flat_map}
use Rattle.std.proofs.lemmas.Bool.{le-ltb, lt-leb}
use Rattle.rtk_message.specs.Fields.{longest_day_ms, u, flag, bits_of_fields, FieldsFit, TakesAll}
use Rattle.rtk_message.specs.FieldLaws.{length-bits_of_fields, SameForm, one_list, bits_of_fields-append, fit-parts, number_taken}
use Rattle.rtk_message.specs.declared.obs1012.GlonassSatellite.{GlonassSatellite}
use Rattle.rtk_message.specs.declared.obs1012.Obs1012.{Obs1012}
use Rattle.rtk_message.specs.Obs1012.{satellite_table, header_fields, header_table, table, IsValid, first_fault, time_of_day_in, satellite_bits}

pub length-satellites : (xs : List GlonassSatellite) → length (bits_of_fields (flat_map satellite_table xs)) ≡ 130 * length xs
length-satellites [] = refl
length-satellites (x ∷ xs) =
    rw (bits_of_fields-append (satellite_table x) (flat_map satellite_table xs), length-append (bits_of_fields (satellite_table x)) (bits_of_fields (flat_map satellite_table xs)), length-bits_of_fields (satellite_table x), length-satellites xs) (omega arith)

-- what the header says about the bits
pub record SaysHeader1012 (bs rest : List Bool) (time count : ℕ) : Type 0 where
  pub time_is : time_of_day_in bs ≡ time
  pub count_is : satellite_bits bs ≡ 130 * count
  pub len : length bs ≡ 49 + length rest

pub header_says : {s t : ℕ} {y : Bool} {n : ℕ} {k : Bool} {v : ℕ} {bs rest : List Bool} → TakesAll (header_fields s t y n k v) bs rest → SaysHeader1012 bs rest t n
header_says {s = s} {t = t} {y = y} {n = n} {k = k} {v = v} {bs = bs} {rest = rest} took = record {
  time_is = number_taken (u 12 s ∷ []) 27 t (flag y ∷ u 5 n ∷ flag k ∷ u 3 v ∷ []) bs rest 12 refl took.fit.1.0 took.is;
  count_is = ap (λ (m : ℕ). 130 * m) (number_taken (u 12 s ∷ u 27 t ∷ flag y ∷ []) 5 n (flag k ∷ u 3 v ∷ []) bs rest 40 refl took.fit.1.1.1.0 took.is);
  len = ap length took.is ∙ length-append (bits_of_fields (header_fields s t y n k v)) rest ∙ ap (λ (m : ℕ). m + length rest) (length-bits_of_fields (header_fields s t y n k v));
}

is_whole : {s t : ℕ} {y : Bool} {n : ℕ} {k : Bool} {v : ℕ} {bs rest : List Bool} → TakesAll (header_fields s t y n k v) bs rest → t < longest_day_ms → 130 * n ≤ length rest → first_fault bs ≡ None
is_whole {t = t} {bs = bs} took h enough =
    let says = header_says took in
    let long : ltb (length bs) 49 ≡ false = le-ltb (length bs) 49 (omega (arith, says.len)) in
    let early : leb longest_day_ms (time_of_day_in bs) ≡ false = lt-leb longest_day_ms (time_of_day_in bs) (omega (arith, says.time_is)) in
    let enough_bits : ltb (length bs) (49 + satellite_bits bs) ≡ false = le-ltb (length bs) (49 + satellite_bits bs) (omega (arith, says.count_is, says.len)) in
    rw (long, early, enough_bits) refl

-- the two parts of a table
parts : (m : Obs1012) (bs rest : List Bool) → FieldsFit (table m) → bs ≡ bits_of_fields (table m) ++ rest → TakesAll (header_table m) bs (bits_of_fields (flat_map satellite_table m.satellites) ++ rest)
parts m bs rest fit e = record {
  fit = (fit-parts (header_table m) (flat_map satellite_table m.satellites) fit).0;
  is = e ∙ ap (λ (t : List Bool). t ++ rest) (bits_of_fields-append (header_table m) (flat_map satellite_table m.satellites)) ∙ append_assoc (bits_of_fields (header_table m)) (bits_of_fields (flat_map satellite_table m.satellites)) rest;
}

pub is_accepted : (m : Obs1012) (rest : List Bool) → IsValid m → first_fault (bits_of_fields (table m) ++ rest) ≡ None
is_accepted m rest valid =
    let time : m.time_of_day_ms < longest_day_ms = valid.time_in_day in
    is_whole (parts m (bits_of_fields (table m) ++ rest) rest valid.fields_fit refl) (omega arith)
    (omega (arith, length-append (bits_of_fields (flat_map satellite_table m.satellites)) rest, length-satellites m.satellites))

same_form : (xs ys : List GlonassSatellite) → length xs ≡ length ys → SameForm (flat_map satellite_table xs) (flat_map satellite_table ys)
same_form [] [] e = tt
same_form (x ∷ xs) (y ∷ ys) e = (refl, (refl, (refl, (omega arith, refl, (refl, (refl, (refl, (refl, (omega arith, refl, (omega arith, refl, (refl, (refl, same_form xs ys (omega arith)))))))))))))
same_form [] (y ∷ ys) e = absurd (omega arith)
same_form (x ∷ xs) [] e = absurd (omega arith)

pub make_satellite : ℕ → Bool → ℕ → ℕ → ℤ → ℕ → ℕ → ℕ → ℕ → ℤ → ℤ → ℕ → ℕ → GlonassSatellite
make_satellite slot l1_code channel l1_range l1_phase_difference l1_lock_indicator modulus_ambiguity l1_cnr l2_code l2_range_difference l2_phase_difference l2_lock_indicator l2_cnr = record { slot = slot; l1_code = l1_code; channel = channel; l1_range = l1_range; l1_phase_difference = l1_phase_difference; l1_lock_indicator = l1_lock_indicator; modulus_ambiguity = modulus_ambiguity; l1_cnr = l1_cnr; l2_code = l2_code; l2_range_difference = l2_range_difference; l2_phase_difference = l2_phase_difference; l2_lock_indicator = l2_lock_indicator; l2_cnr = l2_cnr }

pub made_satellite : (s : GlonassSatellite) → make_satellite s.slot s.l1_code s.channel s.l1_range s.l1_phase_difference s.l1_lock_indicator s.modulus_ambiguity s.l1_cnr s.l2_code s.l2_range_difference s.l2_phase_difference s.l2_lock_indicator s.l2_cnr ≡ s
unfolding make_satellite
made_satellite s = refl

same_satellites : (xs ys : List GlonassSatellite) → flat_map satellite_table xs ≡ flat_map satellite_table ys → xs ≡ ys
same_satellites [] [] e = refl
same_satellites (x ∷ xs) (y ∷ ys) e =
    let tail : flat_map satellite_table xs ≡ flat_map satellite_table ys = cc in
    let head : make_satellite x.slot x.l1_code x.channel x.l1_range x.l1_phase_difference x.l1_lock_indicator x.modulus_ambiguity x.l1_cnr x.l2_code x.l2_range_difference x.l2_phase_difference x.l2_lock_indicator x.l2_cnr ≡ make_satellite y.slot y.l1_code y.channel y.l1_range y.l1_phase_difference y.l1_lock_indicator y.modulus_ambiguity y.l1_cnr y.l2_code y.l2_range_difference y.l2_phase_difference y.l2_lock_indicator y.l2_cnr = cc in
    let same : x ≡ y = sym (made_satellite x) ∙ head ∙ made_satellite y in
    let others = same_satellites xs ys tail in
    cc
same_satellites [] (y ∷ ys) e = absurd cc
same_satellites (x ∷ xs) [] e = absurd cc

pub make : ℕ → ℕ → Bool → Bool → ℕ → List GlonassSatellite → Obs1012
make station time_of_day_ms synchronous smoothing smoothing_interval satellites = record { station = station; time_of_day_ms = time_of_day_ms; synchronous = synchronous; smoothing = smoothing; smoothing_interval = smoothing_interval; satellites = satellites }

pub made : (m : Obs1012) → make m.station m.time_of_day_ms m.synchronous m.smoothing m.smoothing_interval m.satellites ≡ m
unfolding make
made m = refl

pub is_unique : (m n : Obs1012) (a b : List Bool) → IsValid m → IsValid n → bits_of_fields (table m) ++ a ≡ bits_of_fields (table n) ++ b → m ≡ n
is_unique m n a b p q e =
    let sm = flat_map satellite_table m.satellites in
    let sn = flat_map satellite_table n.satellites in
    let fm = fit-parts (header_table m) sm p.fields_fit in
    let fn = fit-parts (header_table n) sn q.fields_fit in
    let tm = parts m (bits_of_fields (table m) ++ a) a p.fields_fit refl in
    let tn = parts n (bits_of_fields (table m) ++ a) b q.fields_fit e in
    let heads = one_list (header_table m) (header_table n) (bits_of_fields sm ++ a) (bits_of_fields sn ++ b) (refl, (refl, (refl, (refl, tt)))) fm.0 fn.0 (sym tm.is ∙ tn.is) in
    let head : header_table m ≡ header_table n = heads.0 in
    let count : length m.satellites ≡ length n.satellites = cc in
    let tails = one_list sm sn a b (same_form m.satellites n.satellites count) fm.1 fn.1 heads.1 in
    let list : m.satellites ≡ n.satellites = same_satellites m.satellites n.satellites tails.0 in
    let all : make m.station m.time_of_day_ms m.synchronous m.smoothing m.smoothing_interval m.satellites ≡ make n.station n.time_of_day_ms n.synchronous n.smoothing n.smoothing_interval n.satellites = cc in
    sym (made m) ∙ all ∙ made n
