use Rattle.std.proofs.Common.{◌≡◌, ◌<◌, ◌+◌, ◌∙◌, ℕ, List, length, sym, arith}
use Rattle.rtk_tracking.specs.Passes.{sightings_of}
use Rattle.rtk_quality.specs.declared.satellite_counts.SatelliteCounts.{SatelliteCounts}
use Rattle.rtk_quality.proofs.NeverLemmas.{part-none, part-some}
use Rattle.rtk_quality.proofs.never.put_part.Goals as goal

-- a place among so many
inside : (xs : List SatelliteCounts) (most place : ℕ) → place < length xs → length xs ≡ most → place < most
inside xs most place within size = omega (arith, within, size)

pub returns-then-not-is_without : goal.returns-then-not-is_without
returns-then-not-is_without c = λ most interval es stand.
    part-none interval es c.args.code c.args.at c.args.place c.args.text.now.items
    (sym (c.is_without.ensures interval (sightings_of (c.args.place + 1) es) (stand.each c.args.place _ (inside c.args.satellites.now most c.args.place c.requires.place stand.size))) ∙ c.if-not-is_without.true)

pub returns : goal.returns
returns c = λ most interval es stand.
    part-some interval es c.args.code c.args.at c.args.place c.without_before.result _ c.args.text.now.items c.put_start.new.text.items c.extend_from_slice.new.self.items c.put_satellite.new.text.items
    (sym (c.is_without.ensures interval (sightings_of (c.args.place + 1) es) (stand.each c.args.place _ (inside c.args.satellites.now most c.args.place c.requires.place stand.size))) ∙ c.if-not-is_without.false)
    (c.without_before.ensures most interval es stand) c.satellite_at.ensures c.in_ok-put_start.ensures c.in_ok-extend_from_slice.ensures.items c.in_ok-put_satellite.ensures
