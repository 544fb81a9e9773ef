-- Paths of bins, bin by bin, and lines of codes, code by code.
use Rattle.std.proofs.Common.{◌≡◌, ◌≤◌, ◌<◌, ◌+◌, ◌*◌, ◌/◌, ℕ, Bool, Option, List, ◌++◌, length, drop, get_or, sym, ap, ◌∙◌, append_assoc, arith}
use Rattle.std.proofs.Math.Nat.{mul-div_cancel_left}
use Rattle.std.proofs.lemmas.List.{drop_more}
use Rattle.std.proofs.lemmas.Nat.{mul-le}
use Rattle.rtk_chart.specs.Scale.{longest_bin}
use Rattle.rtk_chart.specs.SvgPath.{edge_of, middle_of, run_part, runs_from, mark_part, marks_from, step_part, steps_from}
use Rattle.rtk_chart.specs.SvgStrip.{depth_part, depths_from}
use Rattle.rtk_chart.specs.SvgPicture.{line_if_had, code_lines, never_if_lacked, never_texts}
use Rattle.rtk_chart.specs.declared.groups.Names.{Names}
use Rattle.rtk_chart.specs.declared.spacing.Spacing.{Spacing}
use Rattle.rtk_chart.specs.declared.time_bin.TimeBin.{TimeBin}
use Rattle.rtk_chart.proofs.LawLemmas.{div-mono}

-- bins end with the picture's width
pub edge-bound : (n c : ℕ) → 0 < n → c ≤ n → edge_of n c ≤ 1440
edge-bound n c some within =
    let size : c * 1440 ≤ n * 1440 = omega (arith, within) in
    let most = div-mono (c * 1440) (n * 1440) n some size in
    let all = mul-div_cancel_left 1440 some in
    omega (arith, most, all)

-- the part of one bin more
pub runs-more : (begin end : List ℕ) (n i x : ℕ) (flags : List Bool) (was d : Bool) (all mid after : List ℕ) → i < length flags → x ≡ edge_of n i
    → all ≡ mid ++ runs_from begin end n i was (drop i flags) → after ≡ mid ++ run_part begin end x was (get_or flags i d)
    → all ≡ after ++ runs_from begin end n (i + 1) (get_or flags i d) (drop (i + 1) flags)
runs-more begin end n i x flags was d all mid after within at so_far more =
    let b = get_or flags i d in
    let rest = drop (i + 1) flags in
    so_far ∙ ap (λ (bs : List Bool). mid ++ runs_from begin end n i was bs) (drop_more flags i d within)
    ∙ sym (append_assoc mid (run_part begin end (edge_of n i) was b) (runs_from begin end n (i + 1) b rest))
    ∙ ap (λ (k : ℕ). (mid ++ run_part begin end k was b) ++ runs_from begin end n (i + 1) b rest) (sym at)
    ∙ ap (λ (t : List ℕ). t ++ runs_from begin end n (i + 1) b rest) (sym more)

pub depths-more : (n i x : ℕ) (depths : List (Option ℕ)) (was d : Option ℕ) (all mid after : List ℕ) → i < length depths → x ≡ edge_of n i
    → all ≡ mid ++ depths_from n i was (drop i depths) → after ≡ mid ++ depth_part x was (get_or depths i d)
    → all ≡ after ++ depths_from n (i + 1) (get_or depths i d) (drop (i + 1) depths)
depths-more n i x depths was d all mid after within at so_far more =
    let b = get_or depths i d in
    let rest = drop (i + 1) depths in
    so_far ∙ ap (λ (ds : List (Option ℕ)). mid ++ depths_from n i was ds) (drop_more depths i d within)
    ∙ sym (append_assoc mid (depth_part (edge_of n i) was b) (depths_from n (i + 1) b rest))
    ∙ ap (λ (k : ℕ). (mid ++ depth_part k was b) ++ depths_from n (i + 1) b rest) (sym at)
    ∙ ap (λ (t : List ℕ). t ++ depths_from n (i + 1) b rest) (sym more)

pub marks-more : (form : List ℕ) (n i x : ℕ) (flags : List Bool) (d : Bool) (all mid after : List ℕ) → i < length flags → x ≡ middle_of n i
    → all ≡ mid ++ marks_from form n i (drop i flags) → after ≡ mid ++ mark_part form x (get_or flags i d)
    → all ≡ after ++ marks_from form n (i + 1) (drop (i + 1) flags)
marks-more form n i x flags d all mid after within at so_far more =
    let b = get_or flags i d in
    let rest = drop (i + 1) flags in
    so_far ∙ ap (λ (bs : List Bool). mid ++ marks_from form n i bs) (drop_more flags i d within)
    ∙ sym (append_assoc mid (mark_part form (middle_of n i) b) (marks_from form n (i + 1) rest))
    ∙ ap (λ (k : ℕ). (mid ++ mark_part form k b) ++ marks_from form n (i + 1) rest) (sym at)
    ∙ ap (λ (t : List ℕ). t ++ marks_from form n (i + 1) rest) (sym more)

pub steps-more : (most n i x was now : ℕ) (counts : List ℕ) (d : ℕ) (all mid after : List ℕ) → i < length counts → x ≡ edge_of n i
    → now ≡ get_or counts i d → all ≡ mid ++ steps_from most n i was (drop i counts) → after ≡ mid ++ step_part most x was now
    → all ≡ after ++ steps_from most n (i + 1) now (drop (i + 1) counts)
steps-more most n i x was now counts d all mid after within at is so_far more =
    let b = get_or counts i d in
    let rest = drop (i + 1) counts in
    so_far ∙ ap (λ (ks : List ℕ). mid ++ steps_from most n i was ks) (drop_more counts i d within)
    ∙ sym (append_assoc mid (step_part most (edge_of n i) was b) (steps_from most n (i + 1) b rest))
    ∙ ap (λ (k : ℕ). (mid ++ step_part most k was b) ++ steps_from most n (i + 1) b rest) (sym at)
    ∙ ap (λ (k : ℕ). (mid ++ step_part most x was k) ++ steps_from most n (i + 1) k rest) (sym is)
    ∙ ap (λ (t : List ℕ). t ++ steps_from most n (i + 1) now rest) (sym more)

-- the line of one code more
pub codes-more : (names : Names) (spacing : Spacing) (bins : List TimeBin) (place i : ℕ) (codes : List (List ℕ)) (d : List ℕ) (all mid after : List ℕ) → i < length codes
    → all ≡ mid ++ code_lines names spacing bins place i (drop i codes) → after ≡ mid ++ line_if_had names spacing bins place i (get_or codes i d)
    → all ≡ after ++ code_lines names spacing bins place (i + 1) (drop (i + 1) codes)
codes-more names spacing bins place i codes d all mid after within so_far more =
    let c = get_or codes i d in
    let rest = drop (i + 1) codes in
    so_far ∙ ap (λ (cs : List (List ℕ)). mid ++ code_lines names spacing bins place i cs) (drop_more codes i d within)
    ∙ sym (append_assoc mid (line_if_had names spacing bins place i c) (code_lines names spacing bins place (i + 1) rest))
    ∙ ap (λ (t : List ℕ). t ++ code_lines names spacing bins place (i + 1) rest) (sym more)

-- the line of one code more that satellites have nowhere
pub nevers-more : (names : Names) (bins : List TimeBin) (top i : ℕ) (codes : List (List ℕ)) (d : List ℕ) (all mid after : List ℕ) → i < length codes
    → all ≡ mid ++ never_texts names bins top i (drop i codes) → after ≡ mid ++ never_if_lacked names bins top i (get_or codes i d)
    → all ≡ after ++ never_texts names bins top (i + 1) (drop (i + 1) codes)
nevers-more names bins top i codes d all mid after within so_far more =
    let c = get_or codes i d in
    let rest = drop (i + 1) codes in
    so_far ∙ ap (λ (cs : List (List ℕ)). mid ++ never_texts names bins top i cs) (drop_more codes i d within)
    ∙ sym (append_assoc mid (never_if_lacked names bins top i c) (never_texts names bins top (i + 1) rest))
    ∙ ap (λ (t : List ℕ). t ++ never_texts names bins top (i + 1) rest) (sym more)

-- the step between ticks has its bound
pub step-bound : (n length : ℕ) → n ≤ 1440 → 0 < length → length ≤ longest_bin → ((n / 10 + 1) * length ≤ 145 * longest_bin) × (0 < (n / 10 + 1) * length)
step-bound n length bins some few =
    let one : n / 10 + 1 ≤ 145 = omega arith in
    let all = mul-le (n / 10 + 1) length 145 longest_bin one few in
    let once : 1 ≤ n / 10 + 1 = omega arith in
    let same : length ≤ length = omega arith in
    let least = mul-le 1 length (n / 10 + 1) length once same in
    (all, omega (arith, least, some))
