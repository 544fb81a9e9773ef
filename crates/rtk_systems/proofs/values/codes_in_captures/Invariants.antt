use Rattle.std.proofs.Common.{◌≡◌, ◌++◌, drop}
use Rattle.std.specs.Prelude.{filter}
use Rattle.rtk_obs.specs.AnyCode.{all_any_codes}
use Rattle.rtk_systems.specs.Values.{is_found}
use Rattle.rtk_systems.proofs.values.codes_in_captures.Given as goal

-- the codes so far and those of the codes that are left are all
abbrev pub invariant-loop-code : goal.invariant-loop-code
invariant-loop-code l =
    l.codes.items ++ filter (is_found l.surveys l.station l.systems l.taken) (drop l.code-index all_any_codes) ≡ filter (is_found l.surveys l.station l.systems l.taken) all_any_codes
