-- Values of lengths and times that the code computed.
use Rattle.std.proofs.Common.{◌≡◌, ℕ, ℤ, ◌+ℤ◌, Option, Some, refl}
use Rattle.rtk_obs.specs.declared.code.Band.{Band}
use Rattle.rtk_obs.specs.Scaling.{phase_of_length, phase_of_length_on, phase_of_time}
use Rattle.rtk_obs.specs.LegacyCells.{legacy_phase_of}
use Rattle.rtk_obs.specs.GlonassCells.{glonass_phase_on}
use Rattle.rtk_obs.specs.MsmCells.{fine_phase_of}

pub legacy_phase-some : (band : Band) (length offset sum result shown : ℤ) (o : Option ℤ) → o ≡ Some offset → result ≡ phase_of_length band sum → sum ≡ length +ℤ offset → shown ≡ result → Some shown ≡ legacy_phase_of band length o
legacy_phase-some band length offset sum result shown o e f g h = rw (e, h, f, g) refl

pub fine_phase-some : (f : ℕ) (rough fine sum result shown : ℤ) (o : Option ℤ) → o ≡ Some fine → result ≡ phase_of_time f sum → sum ≡ rough +ℤ fine → shown ≡ result → Some shown ≡ fine_phase_of f rough o
fine_phase-some frequency rough fine sum result shown o e f g h = rw (e, h, f, g) refl

pub glonass_phase-some : (f : ℕ) (length offset sum result shown : ℤ) (o : Option ℤ) → o ≡ Some offset → result ≡ phase_of_length_on f sum → sum ≡ length +ℤ offset → shown ≡ result → Some shown ≡ glonass_phase_on f length o
glonass_phase-some frequency length offset sum result shown o e f g h = rw (e, h, f, g) refl
