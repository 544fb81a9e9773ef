-- Least lock times in ms.
-- Source: RTCM 10403.3, DF013, DF019, DF402 and DF407
use Rattle.std.specs.Prelude.{ℕ, zero, suc, ◌+◌, ◌-◌, ◌*◌, ◌/◌, ◌^◌, nat_le, if◌then◌else◌}

-- table
-- the least lock time in ms at an indicator of 0 to 127, which stands for whole seconds (RTCM
-- 10403.3, DF013 and DF019)
abbrev pub least_lock_of_legacy : ℕ → ℕ
least_lock_of_legacy i = 1000 * (
    if nat_le i 23 then i
    else if nat_le i 47 then 2 * i - 24
    else if nat_le i 71 then 4 * i - 120
    else if nat_le i 95 then 8 * i - 408
    else if nat_le i 119 then 16 * i - 1176
    else if nat_le i 126 then 32 * i - 3096
    else 937)

-- table
-- the least lock time in ms at an indicator of 0 to 15 (RTCM 10403.3, DF402)
abbrev pub least_lock_of_msm : ℕ → ℕ
least_lock_of_msm zero = 0
least_lock_of_msm (suc i) = 2 ^ (i + 5)

-- table
-- the least lock time in ms at an indicator with extended range and resolution, 0 to 704 (RTCM
-- 10403.3, DF407): up to 63 the indicator itself, then each 32 indicators have twice the step of
-- those before them. From 705 on it is reserved, and tells of no lock time (this project's rule: 0).
abbrev pub least_lock_of_extended : ℕ → ℕ
least_lock_of_extended i =
    if nat_le i 63 then i
    else if nat_le i 704 then (i - 32 * (i / 32 - 1)) * 2 ^ (i / 32 - 1)
    else 0
