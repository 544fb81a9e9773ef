use Rattle.std.proofs.Common.{◌≡◌, ◌<◌, ◌+◌, ◌++◌, ℕ, List, ap, sym, subst, ◌∙◌, arith}
use Rattle.std.specs.Prelude.{flat_map}
use Rattle.std.specs.List.{range_with_len}
use Rattle.rtk_tracking.specs.Passes.{sightings_of}
use Rattle.rtk_quality.specs.QualityText.{part_of, parts_of}
use Rattle.rtk_quality.specs.Standing.{HasEnded}
use Rattle.rtk_quality.proofs.ListLemmas.{put-more}
use Rattle.rtk_quality.proofs.sections.put_parts.Goals as goal

pub loop-place-preserved : goal.loop-place-preserved
loop-place-preserved c = λ most interval es stand ended.
    let part : ℕ → List ℕ = λ satellite. part_of c.args.form c.args.section c.args.codes.now interval (sightings_of satellite es) satellite in
    let i : ℕ = c.loop-place.place in
    let within : i < most = omega (arith, c.loop-place-test.true, stand.size) in
    let own : c.satellite_at-satellite.result ≡ i + 1 = c.satellite_at-satellite.ensures in
    let next : i + 1 ≡ 1 + i = omega arith in
    put-more part 1 i (i + 1) c.args.text.now.items c.loop-place.text.items c.put_part.new.text.items next (c.loop-place.invariant most interval es stand ended)
    (subst (λ (k : ℕ). c.put_part.new.text.items ≡ c.loop-place.text.items ++ part_of c.args.form c.args.section c.args.codes.now interval (sightings_of (i + 1) es) k) own
    (c.in_ok-put_part.ensures interval (sightings_of (i + 1) es) (stand.each i _ within)
    (subst (λ (k : ℕ). HasEnded c.args.ended.now interval (sightings_of (i + 1) es) k) (sym own) (ended i within))))

pub returns : goal.returns
unfolding parts_of
returns c = λ most interval es stand ended.
    let end : c.loop-place.place ≡ most = omega (arith, c.loop-place.auto.place-end, c.loop-place-test.false, stand.size) in
    c.loop-place.invariant most interval es stand ended
    ∙ ap (λ (k : ℕ). c.args.text.now.items ++ flat_map (λ satellite. part_of c.args.form c.args.section c.args.codes.now interval (sightings_of satellite es) satellite) (range_with_len 1 k)) end
