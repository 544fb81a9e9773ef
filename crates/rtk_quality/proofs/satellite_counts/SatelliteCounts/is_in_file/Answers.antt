use Rattle.std.proofs.Common.{◌∙◌}
use Rattle.rtk_quality.proofs.FileLemmas.{in-file-is}
use Rattle.rtk_quality.proofs.satellite_counts.SatelliteCounts.is_in_file.Goals as goal

pub returns : goal.returns
returns c = λ interval before stands. c.has_seen.ensures ∙ in-file-is interval before c.args.self.now.codes stands.codes
