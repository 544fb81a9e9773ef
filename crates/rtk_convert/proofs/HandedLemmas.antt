-- What a function that writes answers if it hands an error on.
use Rattle.std.proofs.Common.{◌≡◌, ℕ, Result, Ok, Err, refl}
use Rattle.std.specs.Prelude.{IfErr}
use Rattle.rtk_convert.specs.declared.fault.ConvertFault.{ConvertFault}
use Rattle.rtk_convert.specs.declared.fault.ConvertFault.TheVariants.{Setup, NoLink, LinkClosed, OutOfMemory, Write, Read, Endless, Stopped}
use Rattle.rtk_convert.specs.declared.fault.Stream.TheVariants.{Out, Log}
use Rattle.rtk_convert.specs.Failure.{IsFrameFault, FailsWrites, NamesFailedWrites}
use Rattle.rtk_convert.specs.Steps.Faults.{IsOutFault}

pub out-frame : (fault : ConvertFault) → IsOutFault fault → IsFrameFault fault
out-frame OutOfMemory p = p
out-frame (Write Out) p = p
out-frame (Write Log) p = absurd p
out-frame Setup p = p
out-frame NoLink p = p
out-frame LinkClosed p = p
out-frame (Read link) p = p
out-frame Endless p = p
out-frame Stopped p = p

-- a fault of the file leaves the count of the report's failed writes
pub out-leaves-report : (fault : ConvertFault) (count : ℕ) → IsOutFault fault → FailsWrites Log fault count count
out-leaves-report OutOfMemory count p = refl
out-leaves-report (Write Out) count p = refl
out-leaves-report (Write Log) count p = absurd p
out-leaves-report Setup count p = absurd p
out-leaves-report NoLink count p = absurd p
out-leaves-report LinkClosed count p = absurd p
out-leaves-report (Read link) count p = absurd p
out-leaves-report Endless count p = absurd p
out-leaves-report Stopped count p = absurd p

-- the answer of a write to the report, as the answer of the call
module _ {T : Type 0} where
  -- it leaves the count of the file's failed writes
  pub log-leaves-file : (r : Result T ConvertFault) {before after : ℕ} → after ≡ before → IfErr r (λ f. f ≡ Write Log) → NamesFailedWrites Out r before after
  log-leaves-file (Ok x) same p = same
  log-leaves-file (Err f) same p = rw p same

  pub log-frame : (r : Result T ConvertFault) → IfErr r (λ f. f ≡ Write Log) → IfErr r IsFrameFault
  log-frame (Ok x) p = tt
  log-frame (Err f) p = rw p tt
