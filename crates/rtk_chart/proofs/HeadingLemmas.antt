-- Equal headings tell equal numbers.
use Rattle.std.proofs.Common.{◌≡◌, ◌<◌, ◌+◌, ◌^◌, ℕ, List, [], ◌∷◌, ◌++◌, length, map, drop, codes, refl, sym, ap, ◌∙◌, append_assoc, lit<, arith}
use Rattle.rtk_obs.specs.Code.{name_of}
use Rattle.rtk_obs.specs.declared.code.Code.{Code}
use Rattle.rtk_obs.specs.Calendar.{ReadsAs}
use Rattle.rtk_rinex.specs.Header.{IsMarker}
use Rattle.rtk_obs.specs.Reading.{IsMoment, reading_of}
use Rattle.rtk_rinex.specs.Record.{EpochTableView}
use Rattle.rtk_tracking.specs.Epochs.{capped}
use Rattle.rtk_chart.specs.Epochs.{slips_in, returns_in, rises_in}
use Rattle.rtk_obs.specs.CivilText.{civil_text}
use Rattle.rtk_chart.specs.Heading.{interval_lines}
use Rattle.rtk_tracking.specs.Interval.{missing_in}
use Rattle.rtk_chart.specs.Grid.{bins_of, outages_of, gaps_of, recorded_of}
use Rattle.rtk_chart.specs.TextPicture.{satellites_in, named_count_line, moment_line, text_heading, number_lines, text_body, text_picture}
use Rattle.rtk_chart.specs.SvgPicture.{number_between, interval_text, svg_span, svg_numbers, svg_start, svg_body, spacing_of, never_end, svg_picture}
use Rattle.rtk_chart.specs.Means.{bands_of, columns_of}
use Rattle.rtk_chart.specs.SvgStrip.{strip_height}
use Rattle.rtk_chart.specs.Chart.{slips_at, returns_at, rises_at, text_at, svg_at}
use Rattle.rtk_chart.specs.HeadingLaws.{HasNumbers, HaveSameBins, HaveSameNumbers, heading_in_text, heading_in_svg}
use Rattle.rtk_chart.specs.declared.scale.Scale.{Scale}
use Rattle.rtk_chart.proofs.PieceLemmas.{capped-fits, same-capped, Lacks, Fits, lacks-printable, same-until, same-count, same-last-count, same-between, same-last-between, same-interval, same-interval-text, same-moment, same-moment-line}
use Rattle.rtk_chart.proofs.SeenLemmas.{satellites-are, satellites-fit}

-- ---- texts one after another

group_6 : (a b c d e f : List ℕ) → ((((a ++ b) ++ c) ++ d) ++ e) ++ f ≡ a ++ (b ++ (c ++ (d ++ (e ++ f))))
group_6 a b c d e f = simp append_assoc

group_7 : (a b c d e f g : List ℕ) → (((((a ++ b) ++ c) ++ d) ++ e) ++ f) ++ g ≡ a ++ (b ++ (c ++ (d ++ (e ++ (f ++ g)))))
group_7 a b c d e f g = simp append_assoc

-- ---- counts

-- the numbers of records, satellites, slips, returns, rises and missing epochs
record Numbers : Type 0 where
  records : ℕ
  satellites : ℕ
  slips : ℕ
  returns : ℕ
  rises : ℕ
  missing : ℕ

-- numbers below 2^64
record Fit (n : Numbers) : Type 0 where
  records : n.records < 2 ^ 64
  satellites : n.satellites < 2 ^ 64
  slips : n.slips < 2 ^ 64
  returns : n.returns < 2 ^ 64
  rises : n.rises < 2 ^ 64
  missing : n.missing < 2 ^ 64

-- the same numbers
record Alike (m n : Numbers) : Type 0 where
  records : m.records ≡ n.records
  satellites : m.satellites ≡ n.satellites
  slips : m.slips ≡ n.slips
  returns : m.returns ≡ n.returns
  rises : m.rises ≡ n.rises
  missing : m.missing ≡ n.missing

abbrev count_lines : Numbers → List ℕ
count_lines n =
    named_count_line (codes "records ") n.records
    ++ (named_count_line (codes "satellites ") n.satellites
    ++ (named_count_line (codes "slips ") n.slips ++ (named_count_line (codes "returns ") n.returns
    ++ (named_count_line (codes "rises ") n.rises ++ named_count_line (codes "missing ") n.missing))))

same-count-lines : (m n : Numbers) → Fit m → Fit n → count_lines m ≡ count_lines n → Alike m n
same-count-lines m n h g same =
    let last : List ℕ = named_count_line (codes "missing ") m.missing in
    let last₂ : List ℕ = named_count_line (codes "missing ") n.missing in
    let two : List ℕ = named_count_line (codes "rises ") m.rises ++ last in
    let two₂ : List ℕ = named_count_line (codes "rises ") n.rises ++ last₂ in
    let back : List ℕ = named_count_line (codes "returns ") m.returns ++ two in
    let back₂ : List ℕ = named_count_line (codes "returns ") n.returns ++ two₂ in
    let three : List ℕ = named_count_line (codes "slips ") m.slips ++ back in
    let three₂ : List ℕ = named_count_line (codes "slips ") n.slips ++ back₂ in
    let four : List ℕ = named_count_line (codes "satellites ") m.satellites ++ three in
    let four₂ : List ℕ = named_count_line (codes "satellites ") n.satellites ++ three₂ in
    let w = same-count (codes "records ") m.records n.records four four₂ h.records g.records same in
    let x = same-count (codes "satellites ") m.satellites n.satellites three three₂ h.satellites g.satellites w.1 in
    let y = same-count (codes "slips ") m.slips n.slips back back₂ h.slips g.slips x.1 in
    let b = same-count (codes "returns ") m.returns n.returns two two₂ h.returns g.returns y.1 in
    let z = same-count (codes "rises ") m.rises n.rises last last₂ h.rises g.rises b.1 in
    record { records = w.0; satellites = x.0; slips = y.0; returns = b.0; rises = z.0; missing = same-last-count (codes "missing ") m.missing n.missing h.missing g.missing z.1 }

abbrev lines_of : Scale → Numbers → List ℕ
lines_of s n = number_lines s n.records n.satellites n.slips n.returns n.rises n.missing

lines-are : (s : Scale) (n : Numbers) → lines_of s n ≡ interval_lines s.interval s.bin_ms ++ count_lines n
unfolding number_lines
lines-are s n =
    group_7 (interval_lines s.interval s.bin_ms) (named_count_line (codes "records ") n.records) (named_count_line (codes "satellites ") n.satellites)
    (named_count_line (codes "slips ") n.slips) (named_count_line (codes "returns ") n.returns) (named_count_line (codes "rises ") n.rises) (named_count_line (codes "missing ") n.missing)

abbrev svg_counts : Numbers → List ℕ
svg_counts n =
    number_between (codes "<text x='110' y='98'>records ") n.records (44 ∷ codes " satellites ")
    ++ (number_between [] n.satellites (44 ∷ codes " slips ") ++ (number_between [] n.slips (44 ∷ codes " returns ")
    ++ (number_between [] n.returns (44 ∷ codes " rises ")
    ++ (number_between [] n.rises (44 ∷ codes " missing epochs ") ++ number_between [] n.missing (codes "</text>\n")))))

abbrev svg_numbers_of : Numbers → List ℕ
svg_numbers_of n = svg_numbers n.records n.satellites n.slips n.returns n.rises n.missing

svg-counts-are : (n : Numbers) → svg_numbers_of n ≡ svg_counts n
unfolding svg_numbers
svg-counts-are n =
    group_6 (number_between (codes "<text x='110' y='98'>records ") n.records (codes ", satellites ")) (number_between [] n.satellites (codes ", slips "))
    (number_between [] n.slips (codes ", returns ")) (number_between [] n.returns (codes ", rises ")) (number_between [] n.rises (codes ", missing epochs ")) (number_between [] n.missing (codes "</text>\n"))

same-svg-counts : (m n : Numbers) → Fit m → Fit n → svg_counts m ≡ svg_counts n → Alike m n
same-svg-counts m n h g same =
    let last : List ℕ = number_between [] m.missing (codes "</text>\n") in
    let last₂ : List ℕ = number_between [] n.missing (codes "</text>\n") in
    let two : List ℕ = number_between [] m.rises (44 ∷ codes " missing epochs ") ++ last in
    let two₂ : List ℕ = number_between [] n.rises (44 ∷ codes " missing epochs ") ++ last₂ in
    let back : List ℕ = number_between [] m.returns (44 ∷ codes " rises ") ++ two in
    let back₂ : List ℕ = number_between [] n.returns (44 ∷ codes " rises ") ++ two₂ in
    let three : List ℕ = number_between [] m.slips (44 ∷ codes " returns ") ++ back in
    let three₂ : List ℕ = number_between [] n.slips (44 ∷ codes " returns ") ++ back₂ in
    let four : List ℕ = number_between [] m.satellites (44 ∷ codes " slips ") ++ three in
    let four₂ : List ℕ = number_between [] n.satellites (44 ∷ codes " slips ") ++ three₂ in
    let w = same-between (codes "<text x='110' y='98'>records ") m.records n.records 44 (codes " satellites ") four four₂ (lit< tt) h.records g.records same in
    let x = same-between [] m.satellites n.satellites 44 (codes " slips ") three three₂ (lit< tt) h.satellites g.satellites w.1 in
    let y = same-between [] m.slips n.slips 44 (codes " returns ") back back₂ (lit< tt) h.slips g.slips x.1 in
    let b = same-between [] m.returns n.returns 44 (codes " rises ") two two₂ (lit< tt) h.returns g.returns y.1 in
    let z = same-between [] m.rises n.rises 44 (codes " missing epochs ") last last₂ (lit< tt) h.rises g.rises b.1 in
    record { records = w.0; satellites = x.0; slips = y.0; returns = b.0; rises = z.0; missing = same-last-between (codes "</text>\n") m.missing n.missing h.missing g.missing z.1 }

-- ---- what a heading tells

-- two scales, and the counts beside them
record AreSame (s t : Scale) (m n : Numbers) : Type 0 where
  first : s.first ≡ t.first
  last : s.last ≡ t.last
  interval : s.interval ≡ t.interval
  bin : HaveSameBins s.interval s.bin_ms t.bin_ms
  numbers : Alike m n

-- what is known of a scale
record IsTold (s : Scale) : Type 0 where
  first : ReadsAs s.first (reading_of s.first)
  last : ReadsAs s.last (reading_of s.last)
  interval : Fits s.interval
  bin : s.bin_ms < 2 ^ 64

heading-is : (m : List ℕ) (s : Scale) (tail : List ℕ)
    → text_heading m s ++ tail ≡ codes "marker " ++ (m ++ 10 ∷ (moment_line (codes "from ") s.first ++ (moment_line (codes "until ") s.last ++ tail)))
unfolding text_heading
heading-is m s tail = group_6 (codes "marker ") m (10 ∷ []) (moment_line (codes "from ") s.first) (moment_line (codes "until ") s.last) tail

same-text : (m n : List ℕ) (s t : Scale) (p q : Numbers) → Lacks 10 m → Lacks 10 n → IsTold s → IsTold t → Fit p → Fit q
    → text_heading m s ++ lines_of s p ≡ text_heading n t ++ lines_of t q
    → (m ≡ n) × AreSame s t p q
same-text m n s t p q lm ln hs ht h g same =
    let tail : List ℕ = lines_of s p in
    let tail₂ : List ℕ = lines_of t q in
    let until : List ℕ = moment_line (codes "until ") s.last ++ tail in
    let until₂ : List ℕ = moment_line (codes "until ") t.last ++ tail₂ in
    let v = same-until 10 m n (moment_line (codes "from ") s.first ++ until) (moment_line (codes "from ") t.first ++ until₂) lm ln
    (ap (drop 7) (sym (heading-is m s tail) ∙ same ∙ heading-is n t tail₂)) in
    let w = same-moment-line (codes "from ") s.first t.first until until₂ hs.first ht.first v.1 in
    let x = same-moment-line (codes "until ") s.last t.last tail tail₂ hs.last ht.last w.1 in
    let y = same-interval s.interval t.interval s.bin_ms t.bin_ms (count_lines p) (count_lines q) hs.interval ht.interval hs.bin ht.bin refl refl
    (sym (lines-are s p) ∙ x.1 ∙ lines-are t q) in (
      v.0,
      record {
        first = w.0;
        last = x.0;
        interval = y.0;
        bin = y.1;
        numbers = same-count-lines p q h g y.2;
      },
    )

span-is : (s : Scale) (tail : List ℕ)
    → svg_span s ++ tail ≡ codes "<text x='110' y='72'>" ++ (civil_text (reading_of s.first) ++ (codes " to " ++ (civil_text (reading_of s.last)
    ++ (interval_text s.interval s.bin_ms ++ (codes "</text>\n" ++ tail)))))
unfolding svg_span
span-is s tail =
    group_7 (codes "<text x='110' y='72'>") (civil_text (reading_of s.first)) (codes " to ") (civil_text (reading_of s.last))
    (interval_text s.interval s.bin_ms) (codes "</text>\n") tail

same-svg : (s t : Scale) (p q : Numbers) → IsTold s → IsTold t → Fit p → Fit q
    → svg_span s ++ svg_numbers_of p ≡ svg_span t ++ svg_numbers_of q → AreSame s t p q
same-svg s t p q hs ht h g same =
    let end : List ℕ = codes "</text>\n" ++ svg_numbers_of p in
    let end₂ : List ℕ = codes "</text>\n" ++ svg_numbers_of q in
    let last : List ℕ = interval_text s.interval s.bin_ms ++ end in
    let last₂ : List ℕ = interval_text t.interval t.bin_ms ++ end₂ in
    let to : List ℕ = codes " to " ++ (civil_text (reading_of s.last) ++ last) in
    let to₂ : List ℕ = codes " to " ++ (civil_text (reading_of t.last) ++ last₂) in
    let v = same-moment s.first t.first to to₂ hs.first ht.first
    (ap (drop 21) (sym (span-is s (svg_numbers_of p)) ∙ same ∙ span-is t (svg_numbers_of q))) in
    let w = same-moment s.last t.last last last₂ hs.last ht.last (ap (drop 4) v.1) in
    let x = same-interval-text s.interval t.interval s.bin_ms t.bin_ms end end₂ hs.interval ht.interval hs.bin ht.bin refl refl w.1 in
    record {
      first = v.0;
      last = w.0;
      interval = x.0;
      bin = x.1;
      numbers = same-svg-counts p q h g (sym (svg-counts-are p) ∙ ap (drop 8) x.2 ∙ svg-counts-are q);
    }

-- ---- the numbers of a file

is-told : ((t : ℕ) → IsMoment t → ReadsAs t (reading_of t)) → (s : Scale) (es : List EpochTableView) → HasNumbers s es → IsTold s
is-told reads s es h =
    let bound = h.scale.bin_bound in
    record { first = reads s.first h.scale.first; last = reads s.last h.scale.last; interval = h.interval; bin = omega (arith, bound) }

abbrev numbers_in : Scale → List EpochTableView → Numbers
numbers_in s es =
    record {
      records = capped (length es);
      satellites = satellites_in (bins_of s es);
      slips = slips_at s es;
      returns = returns_at s es;
      rises = rises_at s es;
      missing = capped (missing_in s.unit es);
    }

fit : (s : Scale) (es : List EpochTableView) → Fit (numbers_in s es)
fit s es =
    record {
      records = capped-fits (length es);
      satellites = satellites-fit (bins_of s es);
      slips = capped-fits (slips_in s.interval es);
      returns = capped-fits (returns_in s.interval es);
      rises = capped-fits (rises_in s.interval es);
      missing = capped-fits (missing_in s.unit es);
    }

same-numbers : (s t : Scale) (es fs : List EpochTableView) → HasNumbers s es → HasNumbers t fs → AreSame s t (numbers_in s es) (numbers_in t fs)
    → HaveSameNumbers s t es fs
same-numbers s t es fs hs ht same =
    let n = same.numbers in
    record {
      first = same.first;
      last = same.last;
      interval = same.interval;
      bin = same.bin;
      records = same-capped (length es) (length fs) hs.records ht.records n.records;
      satellites = sym (satellites-are s es hs.bins) ∙ n.satellites ∙ satellites-are t fs ht.bins;
      slips = same-capped (slips_in s.interval es) (slips_in t.interval fs) hs.slips ht.slips n.slips;
      returns = same-capped (returns_in s.interval es) (returns_in t.interval fs) hs.returns ht.returns n.returns;
      rises = same-capped (rises_in s.interval es) (rises_in t.interval fs) hs.rises ht.rises n.rises;
      missing = same-capped (missing_in s.unit es) (missing_in t.unit fs) hs.missing ht.missing n.missing;
    }

pub text-headings : ((t : ℕ) → IsMoment t → ReadsAs t (reading_of t))
    → (m n : List ℕ) (s t : Scale) (es fs : List EpochTableView) → IsMarker m → IsMarker n → HasNumbers s es → HasNumbers t fs
    → heading_in_text m s es ≡ heading_in_text n t fs → (m ≡ n) × HaveSameNumbers s t es fs
text-headings reads m n s t es fs im jm hs ht same =
    let told = same-text m n s t (numbers_in s es) (numbers_in t fs) (lacks-printable m im.1) (lacks-printable n jm.1) (is-told reads s es hs) (is-told reads t fs ht)
    (fit s es) (fit t fs) same in
    (told.0, same-numbers s t es fs hs ht told.1)

pub svg-headings : ((t : ℕ) → IsMoment t → ReadsAs t (reading_of t))
    → (s t : Scale) (es fs : List EpochTableView) → HasNumbers s es → HasNumbers t fs → heading_in_svg s es ≡ heading_in_svg t fs
    → HaveSameNumbers s t es fs
svg-headings reads s t es fs hs ht same =
    same-numbers s t es fs hs ht
    (same-svg s t (numbers_in s es) (numbers_in t fs) (is-told reads s es hs) (is-told reads t fs ht) (fit s es) (fit t fs) same)

-- ---- where a heading stands

pub text-begins : (marker : List ℕ) (listed : List Code) (width : ℕ) (s : Scale) (es : List EpochTableView)
    → (rest : List ℕ) × (text_at marker listed width s es ≡ heading_in_text marker s es ++ rest)
unfolding text_picture
text-begins marker listed width s es = (text_body listed s width (bins_of s es) (outages_of s es) (recorded_of s es) (gaps_of s es), refl)

pub svg-has : (marker : List ℕ) (listed : List Code) (s : Scale) (es : List EpochTableView)
    → (front : List ℕ) × (rest : List ℕ) × (svg_at marker listed s es ≡ front ++ heading_in_svg s es ++ rest)
unfolding svg_picture
svg-has marker listed s es =
    let satellites = satellites_in (bins_of s es) in
    let names : List (List ℕ) = map name_of listed in
    let spacing = spacing_of (bins_of s es) (length names) in
    let end = never_end spacing (bins_of s es) (length names) in
    let numbers : List ℕ = svg_numbers (capped (length es)) satellites (slips_at s es) (returns_at s es) (rises_at s es) (capped (missing_in s.unit es)) in
    let body : List ℕ = svg_body spacing names s (bins_of s es) (outages_of s es) (gaps_of s es) (columns_of s (bands_of listed) es) end in
    let start : List ℕ = svg_start marker (end + strip_height (columns_of s (bands_of listed) es) + 230) in
    (start, body, ap (λ (t : List ℕ). t ++ body) (append_assoc start (svg_span s) numbers))
