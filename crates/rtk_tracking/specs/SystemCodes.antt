-- The codes of one system of a file.
use Rattle.std.specs.Prelude.{List}
use Rattle.rtk_message.specs.declared.system.System.{System}
use Rattle.rtk_obs.specs.declared.any_code.AnyCode.{AnyCode}
use Rattle.rtk_obs.specs.SatelliteIndex.{letter_of}
use Rattle.rtk_rinex.specs.MixedHeader.{codes_of}

-- the codes of a system, in their order
abbrev pub codes_of_system : System → List AnyCode → List AnyCode
codes_of_system s listed = codes_of (letter_of s) listed
