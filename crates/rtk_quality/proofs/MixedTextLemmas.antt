-- The text of the numbers of a file of any systems, part by part.
use Rattle.std.proofs.Common.{◌≡◌, ℕ, Bool, false, List, [], ◌∷◌, ◌++◌, append-nil, Option, refl, sym, ap, ◌∙◌}
use Rattle.std.specs.Prelude.{codes, Some}
use Rattle.rtk_message.specs.declared.system.System.{System}
use Rattle.rtk_message.specs.declared.system.System.TheVariants.{Gps, Glonass, Galileo, Beidou, Qzss, Sbas, Navic}
use Rattle.rtk_obs.specs.declared.any_code.AnyCode.{AnyCode}
use Rattle.rtk_obs.specs.declared.time.Civil.{Civil}
use Rattle.rtk_obs.specs.Reading.{reading_of}
use Rattle.rtk_rinex.specs.Record.{EpochTableView}
use Rattle.rtk_tracking.specs.Epochs.{newest_first}
use Rattle.rtk_quality.specs.Forms.{value_text, end_text}
use Rattle.rtk_quality.specs.Gaps.{longest_gaps, gaps_in}
use Rattle.rtk_quality.specs.MixedQuality.{system_start, totals_text, system_end, system_text, text_if_listed, part_of_system, parts_of_systems, systems_text, mixed_heading_text, mixed_quality_text}
use Rattle.rtk_quality.specs.Quality.{station_sums, satellites_in}
use Rattle.rtk_quality.specs.QualityText.{marker_text, span_text, satellites_text, station_text, listed_text, listed_counts, gaps_text, body_text, close_text}
use Rattle.rtk_quality.specs.Records.{unit_of, record_counts_of}
use Rattle.rtk_quality.specs.Shifts.{shifts_part}
use Rattle.rtk_quality.specs.Standing.{IsTimesOf}
use Rattle.rtk_quality.specs.declared.file_times.FileTimes.{FileTimes}
use Rattle.rtk_quality.specs.declared.form.Form.{Form}
use Rattle.rtk_quality.specs.declared.form.Decimals.TheVariants.{Whole}
use Rattle.rtk_quality.specs.declared.gaps.Gap.{Gap}
use Rattle.rtk_quality.specs.declared.heading.ListedCounts.{ListedCounts}
use Rattle.rtk_quality.specs.declared.pass_sums.PassSums.{PassSums}
use Rattle.rtk_quality.specs.declared.record_counts.RecordCounts.{RecordCounts}
use Rattle.rtk_quality.proofs.ListLemmas.{and-then, four, five, six}

pub totals-are : (form : Form) (s : System) (satellites : ℕ) (r : RecordCounts) (n : ListedCounts) (sums : PassSums) (t0 t1 t2 t3 t4 t5 : List ℕ)
    → t1 ≡ t0 ++ system_start form s → t2 ≡ t1 ++ satellites_text form satellites r → t3 ≡ t2 ++ station_text form sums → t4 ≡ t3 ++ listed_text form n → t5 ≡ t4 ++ end_text form
    → t5 ≡ t0 ++ totals_text form s satellites r n sums
unfolding totals_text
totals-are form s satellites r n sums t0 t1 t2 t3 t4 t5 e1 e2 e3 e4 e5 =
    five t0 t1 t2 t3 t4 t5 (system_start form s) (satellites_text form satellites r) (station_text form sums) (listed_text form n) (end_text form) e1 e2 e3 e4 e5

pub system-is : (doppler : Bool) (form : Form) (s : System) (listed : List AnyCode) (interval : Option ℕ) (es : List EpochTableView) (seen : ℕ) (r : RecordCounts) (n : ListedCounts) (sums : PassSums) (t0 t1 t2 t3 t4 : List ℕ)
    → seen ≡ satellites_in 221 interval es → r ≡ record_counts_of (unit_of interval) es → n ≡ listed_counts 221 interval (unit_of interval) listed es → sums ≡ station_sums 221 interval es
    → t1 ≡ t0 ++ totals_text form s seen r n sums → t2 ≡ t1 ++ body_text false form listed 221 interval (unit_of interval) es
    → t3 ≡ t2 ++ shifts_part doppler form listed 221 interval es → t4 ≡ t3 ++ system_end form
    → t4 ≡ t0 ++ system_text doppler form s listed interval es
unfolding system_text
system-is doppler form s listed interval es seen r n sums t0 t1 t2 t3 t4 count records listed_are adds e1 e2 e3 e4 =
    let counts : RecordCounts = record_counts_of (unit_of interval) es in
    let all : ListedCounts = listed_counts 221 interval (unit_of interval) listed es in
    four t0 t1 t2 t3 t4 (totals_text form s (satellites_in 221 interval es) counts all (station_sums 221 interval es)) (body_text false form listed 221 interval (unit_of interval) es)
    (shifts_part doppler form listed 221 interval es) (system_end form)
    (e1 ∙ ap (λ (k : ℕ). t0 ++ totals_text form s k r n sums) count
    ∙ ap (λ (x : RecordCounts). t0 ++ totals_text form s (satellites_in 221 interval es) x n sums) records
    ∙ ap (λ (x : ListedCounts). t0 ++ totals_text form s (satellites_in 221 interval es) counts x sums) listed_are
    ∙ ap (λ (x : PassSums). t0 ++ totals_text form s (satellites_in 221 interval es) counts all x) adds) e2 e3 e4

-- a system without codes has no part, and one with codes has its own
pub no-part : (doppler : Bool) (form : Form) (s : System) (listed codes : List AnyCode) (interval : Option ℕ) (es : List EpochTableView) (t : List ℕ) → codes ≡ listed → codes ≡ []
    → t ≡ t ++ text_if_listed doppler form s listed interval es
no-part doppler form s listed codes interval es t are none =
    sym (append-nil t) ∙ ap (λ (cs : List AnyCode). t ++ text_if_listed doppler form s cs interval es) (sym none ∙ are)

has-text : (doppler : Bool) (form : Form) (s : System) (listed : List AnyCode) (interval : Option ℕ) (es : List EpochTableView) → (listed ≡ [] → ⊥)
    → system_text doppler form s listed interval es ≡ text_if_listed doppler form s listed interval es
has-text doppler form s [] interval es some = absurd (some refl)
has-text doppler form s (c ∷ cs) interval es some = refl

pub some-part : (doppler : Bool) (form : Form) (s : System) (listed codes : List AnyCode) (interval : Option ℕ) (es : List EpochTableView) (t after : List ℕ) → codes ≡ listed → (codes ≡ [] → ⊥)
    → after ≡ t ++ system_text doppler form s codes interval es → after ≡ t ++ text_if_listed doppler form s listed interval es
some-part doppler form s listed codes interval es t after are some took =
    took ∙ ap (λ (cs : List AnyCode). t ++ system_text doppler form s cs interval es) are
    ∙ ap (λ (x : List ℕ). t ++ x) (has-text doppler form s listed interval es (λ none. some (are ∙ none)))

pub seven-parts : (doppler : Bool) (form : Form) (listed : List AnyCode) (interval : Option ℕ) (epochs : List EpochTableView) (t0 t1 t2 t3 t4 t5 t6 t7 : List ℕ)
    → t1 ≡ t0 ++ part_of_system doppler form listed interval epochs Gps → t2 ≡ t1 ++ part_of_system doppler form listed interval epochs Glonass
    → t3 ≡ t2 ++ part_of_system doppler form listed interval epochs Galileo → t4 ≡ t3 ++ part_of_system doppler form listed interval epochs Beidou
    → t5 ≡ t4 ++ part_of_system doppler form listed interval epochs Qzss → t6 ≡ t5 ++ part_of_system doppler form listed interval epochs Sbas
    → t7 ≡ t6 ++ part_of_system doppler form listed interval epochs Navic → t7 ≡ t0 ++ parts_of_systems doppler form listed interval epochs
unfolding parts_of_systems
seven-parts doppler form listed interval epochs t0 t1 t2 t3 t4 t5 t6 t7 e1 e2 e3 e4 e5 e6 e7 =
    let p : System → List ℕ = part_of_system doppler form listed interval epochs in
    and-then t0 t6 t7 (((((p Gps ++ p Glonass) ++ p Galileo) ++ p Beidou) ++ p Qzss) ++ p Sbas) (p Navic)
    (six t0 t1 t2 t3 t4 t5 t6 (p Gps) (p Glonass) (p Galileo) (p Beidou) (p Qzss) (p Sbas) e1 e2 e3 e4 e5 e6) e7

pub mixed-heading-is : (form : Form) (marker : List ℕ) (from until : Civil) (interval : Option ℕ) (r : RecordCounts) (gaps : ℕ) (t0 t1 t2 t3 t4 : List ℕ)
    → t1 ≡ t0 ++ marker_text form marker → t2 ≡ t1 ++ span_text form from until interval r
    → t3 ≡ t2 ++ value_text form (codes "\ngaps ") (codes ",\"gaps\":") Whole (Some gaps) → t4 ≡ t3 ++ end_text form
    → t4 ≡ t0 ++ mixed_heading_text form marker from until interval r gaps
unfolding mixed_heading_text
mixed-heading-is form marker from until interval r gaps t0 t1 t2 t3 t4 e1 e2 e3 e4 =
    four t0 t1 t2 t3 t4 (marker_text form marker) (span_text form from until interval r) (value_text form (codes "\ngaps ") (codes ",\"gaps\":") Whole (Some gaps)) (end_text form) e1 e2 e3 e4

pub mixed-text-is : (doppler shows : Bool) (form : Form) (marker other : List ℕ) (listed codes : List AnyCode) (first at last : ℕ) (interval : Option ℕ) (epochs : List EpochTableView) (from until : Civil) (f : FileTimes)
    (t1 t2 t3 t4 : List ℕ) → shows ≡ doppler → from ≡ reading_of at → until ≡ reading_of last → at ≡ first → other ≡ marker → codes ≡ listed → IsTimesOf f (unit_of interval) (newest_first epochs)
    → t1 ≡ mixed_heading_text form other from until interval f.records f.gaps.count → t2 ≡ t1 ++ gaps_text form f.gaps.count f.gaps.things.items
    → t3 ≡ t2 ++ systems_text shows form codes interval epochs → t4 ≡ t3 ++ close_text form
    → t4 ≡ mixed_quality_text doppler form marker listed first last interval epochs
unfolding mixed_quality_text
mixed-text-is doppler shows form marker other listed codes first at last interval epochs from until f t1 t2 t3 t4 shown begins ends starts marked are times e1 e2 e3 e4 =
    let unit : ℕ = unit_of interval in
    let es : List EpochTableView = newest_first epochs in
    let counts : RecordCounts = record_counts_of unit es in
    let gaps : List ℕ = gaps_text form (gaps_in unit es) (longest_gaps unit es) in
    let parts : List ℕ = systems_text doppler form listed interval epochs in
    let h : t1 ≡ mixed_heading_text form marker (reading_of first) (reading_of last) interval counts (gaps_in unit es) =
    e1 ∙ ap (λ (m : List ℕ). mixed_heading_text form m from until interval f.records f.gaps.count) marked
    ∙ ap (λ (c : Civil). mixed_heading_text form marker c until interval f.records f.gaps.count) (begins ∙ ap reading_of starts)
    ∙ ap (λ (c : Civil). mixed_heading_text form marker (reading_of first) c interval f.records f.gaps.count) ends
    ∙ ap (λ (r : RecordCounts). mixed_heading_text form marker (reading_of first) (reading_of last) interval r f.gaps.count) times.records
    ∙ ap (λ (n : ℕ). mixed_heading_text form marker (reading_of first) (reading_of last) interval counts n) times.gaps.count in
    e4 ∙ ap (λ (t : List ℕ). t ++ close_text form)
    (e3 ∙ ap (λ (cs : List AnyCode). t2 ++ systems_text shows form cs interval epochs) are
    ∙ ap (λ (b : Bool). t2 ++ systems_text b form listed interval epochs) shown
    ∙ ap (λ (t : List ℕ). t ++ parts)
    (e2 ∙ ap (λ (n : ℕ). t1 ++ gaps_text form n f.gaps.things.items) times.gaps.count ∙ ap (λ (xs : List Gap). t1 ++ gaps_text form (gaps_in unit es) xs) times.gaps.largest
    ∙ ap (λ (t : List ℕ). t ++ gaps) h))
