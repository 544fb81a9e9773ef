-- Where differences are.
use Rattle.std.specs.Prelude.{ℕ, None, Some}
use Rattle.rtk_obs.specs.declared.any_code.AnyCode.{AnyCode}
use Rattle.rtk_compare.specs.declared.difference.Place.{Place}

abbrev pub in_header : Place
in_header = record { time = None; satellite = None; code = None; slot = None }

abbrev pub at_code : AnyCode → Place
at_code code = record { time = None; satellite = None; code = Some code; slot = None }

abbrev pub at_slot : ℕ → Place
at_slot slot = record { time = None; satellite = None; code = None; slot = Some slot }

abbrev pub at_epoch : ℕ → Place
at_epoch time = record { time = Some time; satellite = None; code = None; slot = None }

abbrev pub at_satellite : ℕ → ℕ → Place
at_satellite time satellite = record { time = Some time; satellite = Some satellite; code = None; slot = None }

abbrev pub at_signal : ℕ → ℕ → AnyCode → Place
at_signal time satellite code = record { time = Some time; satellite = Some satellite; code = Some code; slot = None }
