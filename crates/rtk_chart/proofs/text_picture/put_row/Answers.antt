use Rattle.std.proofs.Common.{◌≡◌, ◌++◌, ◌∷◌, [], ℕ, Bool, List, length, get_or, append_assoc, ap, ◌∙◌, arith}
use Rattle.rtk_chart.specs.declared.time_bin.TimeBin.{TimeBin}
use Rattle.rtk_chart.specs.declared.tracking.Tracking.{Tracking}
use Rattle.rtk_chart.specs.Grid.{no_bin, tracking_at}
use Rattle.rtk_chart.specs.Signs.{has_code}
use Rattle.rtk_chart.specs.TextPicture.{character_of, character_at, satellite_row}
use Rattle.rtk_chart.proofs.ListLemmas.{push-more, get_or-same}
use Rattle.rtk_chart.proofs.text_picture.put_row.Goals as goal

pub returns : goal.returns
unfolding satellite_row
returns c =
    let end : c.loop-bin.bin ≡ length c.args.bins.now = omega (arith, c.loop-bin.auto.bin-end, c.loop-bin-test.false) in
    rw (c.in_ok-extend_from_slice-2.ensures.items, c.loop-bin.invariant, c.in_ok-extend_from_slice.ensures.items, end) (simp append_assoc)

pub loop-bin-preserved : goal.loop-bin-preserved
loop-bin-preserved c =
    let bins : List TimeBin = c.args.bins.now in
    let has : ℕ → Bool = has_code bins c.args.place in
    let bin : ℕ = c.loop-bin.bin in
    push-more (character_at bins c.args.outages.now c.args.place) bin c.extend_from_slice.new.self.items c.loop-bin.text.items c.push.new.self.items
    c.loop-bin.invariant
    (c.in_ok-push.ensures.items ∙ ap (λ (x : ℕ). c.loop-bin.text.items ++ x ∷ [])
    (c.character_of.ensures has c.codes_had-had.ensures
    ∙ ap (λ (t : Tracking). character_of has c.is_out-out.result t) (c.satellite.ensures ∙ ap (tracking_at c.args.place) (get_or-same bins bin _ no_bin c.loop-bin-test.true))
    ∙ ap (λ (b : Bool). character_of has b (tracking_at c.args.place (get_or bins bin no_bin))) c.is_out-out.ensures))
