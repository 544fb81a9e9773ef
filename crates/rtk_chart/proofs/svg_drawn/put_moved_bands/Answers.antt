use Rattle.std.proofs.Common.{◌≡◌, ◌∙◌, ◌++◌, ◌-◌, ℕ, List, Bool, ap, append_assoc, codes}
use Rattle.rtk_chart.specs.SvgPicture.{number_between, bands_text}
use Rattle.rtk_chart.specs.SvgSystems.{moved_bands}
use Rattle.rtk_chart.specs.declared.spacing.Spacing.TheVariants.{Close}
use Rattle.rtk_chart.specs.declared.time_bin.TimeBin.{TimeBin}
use Rattle.rtk_chart.proofs.svg_drawn.put_moved_bands.Goals as goal

-- the parts of a text, one after another
in_row : (old a b c one two three : List ℕ) → one ≡ old ++ a → two ≡ one ++ b → three ≡ two ++ c → three ≡ old ++ ((a ++ b) ++ c)
in_row old a b c one two three p q r =
    r ∙ ap (λ (x : List ℕ). x ++ c) (q ∙ ap (λ (x : List ℕ). x ++ b) p ∙ append_assoc old a b) ∙ append_assoc old (a ++ b) c

pub returns : goal.returns
unfolding moved_bands
returns c =
    let front : ℕ → List ℕ = λ n. number_between (codes "<g transform='translate(0 ") n (codes ")'>\n") in
    let drawn : List TimeBin → List Bool → List ℕ = λ bins outages. bands_text c.args.names Close c.args.listed.now bins outages in
    let between = c.in_ok-put_between.ensures ∙ ap (λ (n : ℕ). c.args.text.now.items ++ front n) c.saturating_sub.ensures in
    let bands = c.in_ok-put_bands.ensures
    ∙ ap (λ (bins : List TimeBin). c.put_between.new.text.items ++ drawn bins c.as_slice-outages.result.now) c.as_slice-bins.ensures.value
    ∙ ap (λ (outages : List Bool). c.put_between.new.text.items ++ drawn c.args.grid.now.bins.items outages) c.as_slice-outages.ensures.value in
    in_row c.args.text.now.items (front (c.args.top - 140)) (drawn c.args.grid.now.bins.items c.args.grid.now.outages.items) (codes "</g>\n")
    c.put_between.new.text.items c.put_bands.new.text.items _ between bands c.in_ok-extend_from_slice.ensures.items
