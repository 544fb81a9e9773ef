use Rattle.std.proofs.Common.{refl}
use Rattle.rtk_quality.proofs.FileLemmas.{numbers-are}
use Rattle.rtk_quality.proofs.satellite_counts.SatelliteCounts.numbers.Goals as goal

pub returns : goal.returns
returns c = λ interval before stands.
    numbers-are interval c.args.place before c.args.self.now.codes _ _ c.args.self.now.in_passes c.requires stands.codes refl stands.in_passes
