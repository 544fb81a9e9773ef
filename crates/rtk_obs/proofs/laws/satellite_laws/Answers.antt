use Rattle.rtk_obs.proofs.SatelliteLemmas.{index_back, bit_back, cover, apart, same_satellite, reads_back}
use Rattle.rtk_obs.proofs.laws.satellite_laws.Goals as goal

pub returns-clause-index_back : goal.returns-clause-index_back
returns-clause-index_back c = index_back

pub returns-clause-bit_back : goal.returns-clause-bit_back
returns-clause-bit_back c = bit_back

pub returns-clause-cover : goal.returns-clause-cover
returns-clause-cover c = cover

pub returns-clause-apart : goal.returns-clause-apart
returns-clause-apart c = apart

pub returns-clause-names : goal.returns-clause-names
returns-clause-names c = same_satellite

pub returns-clause-reads_back : goal.returns-clause-reads_back
returns-clause-reads_back c = reads_back
