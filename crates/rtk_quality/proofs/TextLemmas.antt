-- The text of the numbers, part by part.
use Rattle.std.proofs.Common.{◌≡◌, ℕ, Bool, true, List, ◌++◌, reverse, Option, ap, ◌∙◌}
use Rattle.std.specs.Prelude.{codes}
use Rattle.rtk_obs.specs.declared.any_code.AnyCode.{AnyCode}
use Rattle.rtk_obs.specs.declared.time.Civil.{Civil}
use Rattle.rtk_obs.specs.Reading.{reading_of}
use Rattle.rtk_rinex.specs.Record.{EpochTableView}
use Rattle.rtk_quality.specs.Records.{unit_of, record_counts_of}
use Rattle.rtk_quality.specs.Hours.{hours_of}
use Rattle.rtk_quality.specs.Gaps.{longest_gaps, gaps_in}
use Rattle.rtk_quality.specs.Largest.{count_of}
use Rattle.rtk_quality.specs.Moments.{largest_moments, moments_in}
use Rattle.rtk_quality.specs.Outages.{all_outages, longest_outages}
use Rattle.rtk_quality.specs.Runs.{longest_half_runs, half_runs_in}
use Rattle.rtk_quality.specs.Bursts.{largest_bursts, all_bursts_in}
use Rattle.rtk_quality.specs.Missing.{longest_missing, missing_codes_in}
use Rattle.rtk_quality.specs.Standing.{HasCounted}
use Rattle.rtk_quality.specs.declared.hours.HourCounts.{HourCounts}
use Rattle.rtk_quality.specs.declared.gaps.Gap.{Gap}
use Rattle.rtk_quality.specs.declared.heading.ListedCounts.{ListedCounts}
use Rattle.rtk_quality.specs.declared.file_counts.FileCounts.{FileCounts}
use Rattle.rtk_quality.specs.declared.moments.Moment.{Moment}
use Rattle.rtk_quality.specs.declared.outages.Outage.{Outage}
use Rattle.rtk_quality.specs.declared.missing.MissingCode.{MissingCode}
use Rattle.rtk_quality.specs.declared.runs.HalfRun.{HalfRun}
use Rattle.rtk_quality.specs.declared.bursts.Burst.{Burst}
use Rattle.rtk_quality.specs.Quality.{station_sums, satellites_in}
use Rattle.rtk_quality.specs.QualityText.{marker_text, codes_text, section_text, listed_counts, heading_text, hours_text, gaps_part, outages_text, moments_text, bursts_text, runs_text, missing_text, falls_text, station_part, signals_part, body_text, close_text, quality_text}
use Rattle.rtk_quality.specs.Forms.{json_text}
use Rattle.rtk_quality.specs.declared.form.Form.{Form}
use Rattle.rtk_quality.specs.declared.form.Form.TheVariants.{Json}
use Rattle.rtk_quality.specs.declared.sections.Section.TheVariants.{Codes, Tracked, Never, Passes}
use Rattle.rtk_quality.specs.declared.pass_sums.PassSums.{PassSums}
use Rattle.rtk_quality.specs.declared.record_counts.RecordCounts.{RecordCounts}
use Rattle.rtk_quality.proofs.ListLemmas.{and-then, three, five, six}

-- a marker in JSON
pub json-marker : (marker t0 t1 t2 t3 : List ℕ) → t1 ≡ t0 ++ codes "{\"file\":{\"marker\":\"" → t2 ≡ t1 ++ json_text marker → t3 ≡ t2 ++ codes "\"" → t3 ≡ t0 ++ marker_text Json marker
unfolding marker_text
json-marker marker t0 t1 t2 t3 e1 e2 e3 = three t0 t1 t2 t3 (codes "{\"file\":{\"marker\":\"") (json_text marker) (codes "\"") e1 e2 e3

-- how many there are of what has a list
pub listed-are : (most : ℕ) (interval : Option ℕ) (unit : ℕ) (listed : List AnyCode) (es : List EpochTableView) (f : FileCounts) → HasCounted f most interval unit listed es
    → record { gaps = f.gaps.count; moments = f.moments.count; bursts = f.events.bursts.count; runs = f.events.runs.count; missing = f.missing.count } ≡ listed_counts most interval unit listed es
listed-are most interval unit listed es f stands =
    ap (λ (n : ℕ). made n f.moments.count f.events.bursts.count f.events.runs.count f.missing.count) stands.gaps.count
    ∙ ap (λ (n : ℕ). made (gaps_in unit es) n f.events.bursts.count f.events.runs.count f.missing.count) stands.moments.count
    ∙ ap (λ (n : ℕ). made (gaps_in unit es) (moments_in interval es) n f.events.runs.count f.missing.count) stands.bursts.count
    ∙ ap (λ (n : ℕ). made (gaps_in unit es) (moments_in interval es) (all_bursts_in most interval es) n f.missing.count) stands.runs.count
    ∙ ap (λ (n : ℕ). made (gaps_in unit es) (moments_in interval es) (all_bursts_in most interval es) (half_runs_in most interval es) n) stands.missing.count
  where
    made : ℕ → ℕ → ℕ → ℕ → ℕ → ListedCounts
    made a b c d e = record { gaps = a; moments = b; bursts = c; runs = d; missing = e }

-- the text of a file with records
pub text-is : (form : Form) (marker : List ℕ) (listed : List AnyCode) (first last most : ℕ) (interval : Option ℕ) (es : List EpochTableView)
    (from until : Civil) (seen : ℕ) (r : RecordCounts) (n : ListedCounts) (sums : PassSums) (t1 t2 t3 : List ℕ)
    → from ≡ reading_of first → until ≡ reading_of last → seen ≡ satellites_in most interval es → r ≡ record_counts_of (unit_of interval) es
    → n ≡ listed_counts most interval (unit_of interval) listed es → sums ≡ station_sums most interval es
    → t1 ≡ heading_text form marker from until interval seen r n sums
    → t2 ≡ t1 ++ body_text true form listed most interval (unit_of interval) es → t3 ≡ t2 ++ close_text form
    → t3 ≡ quality_text form marker listed first last most interval es
unfolding quality_text
text-is form marker listed first last most interval es from until seen r n sums t1 t2 t3 begins ends count records listed_are adds e1 e2 e3 =
    let body : List ℕ = body_text true form listed most interval (unit_of interval) es in
    let end : List ℕ = close_text form in
    let counts : RecordCounts = record_counts_of (unit_of interval) es in
    let all : ListedCounts = listed_counts most interval (unit_of interval) listed es in
    let h : t1 ≡ heading_text form marker (reading_of first) (reading_of last) interval (satellites_in most interval es) counts all (station_sums most interval es) =
    e1 ∙ ap (λ (c : Civil). heading_text form marker c until interval seen r n sums) begins
    ∙ ap (λ (c : Civil). heading_text form marker (reading_of first) c interval seen r n sums) ends
    ∙ ap (λ (k : ℕ). heading_text form marker (reading_of first) (reading_of last) interval k r n sums) count
    ∙ ap (λ (x : RecordCounts). heading_text form marker (reading_of first) (reading_of last) interval (satellites_in most interval es) x n sums) records
    ∙ ap (λ (x : ListedCounts). heading_text form marker (reading_of first) (reading_of last) interval (satellites_in most interval es) counts x sums) listed_are
    ∙ ap (λ (x : PassSums). heading_text form marker (reading_of first) (reading_of last) interval (satellites_in most interval es) counts all x) adds in
    e3 ∙ ap (λ (t : List ℕ). t ++ end) (e2 ∙ ap (λ (t : List ℕ). t ++ body) h)

-- the codes, satellites and passes of a file
pub signals-are : (form : Form) (listed : List AnyCode) (most : ℕ) (interval : Option ℕ) (es : List EpochTableView) (t0 t1 t2 t3 t4 t5 : List ℕ)
    → t1 ≡ t0 ++ codes_text form listed most interval es
    → t2 ≡ t1 ++ section_text form Codes listed most interval es → t3 ≡ t2 ++ section_text form Tracked listed most interval es
    → t4 ≡ t3 ++ section_text form Never listed most interval es → t5 ≡ t4 ++ section_text form Passes listed most interval es
    → t5 ≡ t0 ++ signals_part form listed most interval es
unfolding signals_part
signals-are form listed most interval es t0 t1 t2 t3 t4 t5 e1 e2 e3 e4 e5 =
    five t0 t1 t2 t3 t4 t5 (codes_text form listed most interval es) (section_text form Codes listed most interval es) (section_text form Tracked listed most interval es)
    (section_text form Never listed most interval es) (section_text form Passes listed most interval es) e1 e2 e3 e4 e5

-- the hours, gaps and falls of a file, and what else happened
pub station-part-is : (whole : Bool) (form : Form) (listed : List AnyCode) (most : ℕ) (interval : Option ℕ) (unit : ℕ) (es : List EpochTableView) (hours : List HourCounts) (f : FileCounts)
    (t0 t1 t2 t3 t4 t5 t6 t7 t8 : List ℕ)
    → hours ≡ reverse (hours_of interval unit listed es) → HasCounted f most interval unit listed es
    → t1 ≡ t0 ++ hours_text form listed hours → t2 ≡ t1 ++ gaps_part whole form f.gaps.count f.gaps.things.items → t3 ≡ t2 ++ falls_text form hours
    → t4 ≡ t3 ++ outages_text form f.events.outages.count f.events.outages.things.items → t5 ≡ t4 ++ moments_text form f.moments.count f.moments.things.items
    → t6 ≡ t5 ++ bursts_text form f.events.bursts.count f.events.bursts.things.items → t7 ≡ t6 ++ runs_text form f.events.runs.count f.events.runs.things.items
    → t8 ≡ t7 ++ missing_text form f.missing.count f.missing.things.items
    → t8 ≡ t0 ++ station_part whole form listed most interval unit es
unfolding station_part
station-part-is whole form listed most interval unit es hours f t0 t1 t2 t3 t4 t5 t6 t7 t8 are_hours stands e1 e2 e3 e4 e5 e6 e7 e8 =
    let hs : List ℕ = hours_text form listed (reverse (hours_of interval unit listed es)) in
    let gs : List ℕ = gaps_part whole form (gaps_in unit es) (longest_gaps unit es) in
    let fs : List ℕ = falls_text form (reverse (hours_of interval unit listed es)) in
    let os : List ℕ = outages_text form (count_of (all_outages interval es)) (longest_outages interval es) in
    let ms : List ℕ = moments_text form (moments_in interval es) (largest_moments interval es) in
    let bs : List ℕ = bursts_text form (all_bursts_in most interval es) (largest_bursts most interval es) in
    let rs : List ℕ = runs_text form (half_runs_in most interval es) (longest_half_runs most interval es) in
    let cs : List ℕ = missing_text form (missing_codes_in most interval listed es) (longest_missing most interval listed es) in
    and-then t0 t7 t8 ((((((hs ++ gs) ++ fs) ++ os) ++ ms) ++ bs) ++ rs) cs
    (and-then t0 t6 t7 (((((hs ++ gs) ++ fs) ++ os) ++ ms) ++ bs) rs
    (six t0 t1 t2 t3 t4 t5 t6 hs gs fs os ms bs
    (e1 ∙ ap (λ (xs : List HourCounts). t0 ++ hours_text form listed xs) are_hours)
    (e2 ∙ ap (λ (n : ℕ). t1 ++ gaps_part whole form n f.gaps.things.items) stands.gaps.count ∙ ap (λ (xs : List Gap). t1 ++ gaps_part whole form (gaps_in unit es) xs) stands.gaps.largest)
    (e3 ∙ ap (λ (xs : List HourCounts). t2 ++ falls_text form xs) are_hours)
    (e4 ∙ ap (λ (n : ℕ). t3 ++ outages_text form n f.events.outages.things.items) stands.outages.count
    ∙ ap (λ (xs : List Outage). t3 ++ outages_text form (count_of (all_outages interval es)) xs) stands.outages.largest)
    (e5 ∙ ap (λ (n : ℕ). t4 ++ moments_text form n f.moments.things.items) stands.moments.count
    ∙ ap (λ (xs : List Moment). t4 ++ moments_text form (moments_in interval es) xs) stands.moments.largest)
    (e6 ∙ ap (λ (n : ℕ). t5 ++ bursts_text form n f.events.bursts.things.items) stands.bursts.count
    ∙ ap (λ (xs : List Burst). t5 ++ bursts_text form (all_bursts_in most interval es) xs) stands.bursts.largest))
    (e7 ∙ ap (λ (n : ℕ). t6 ++ runs_text form n f.events.runs.things.items) stands.runs.count
    ∙ ap (λ (xs : List HalfRun). t6 ++ runs_text form (half_runs_in most interval es) xs) stands.runs.largest))
    (e8 ∙ ap (λ (n : ℕ). t7 ++ missing_text form n f.missing.things.items) stands.missing.count
    ∙ ap (λ (xs : List MissingCode). t7 ++ missing_text form (missing_codes_in most interval listed es) xs) stands.missing.largest)
