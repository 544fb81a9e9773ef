-- MSM of GLONASS that tell no day, which a conversion without 1012 can't read (this project's rule).
-- Source: RTCM 10403.3, DF416
use Rattle.std.specs.Prelude.{ℕ, Bool, false, not, ◌&&◌}
use Rattle.rtk_message.specs.declared.any_message.AnyMessage.{AnyMessage}
use Rattle.rtk_message.specs.declared.any_message.AnyMessage.TheVariants as any
use Rattle.rtk_survey.specs.Chains.{tells_day}
use Rattle.rtk_survey.specs.Tracing.{is_numbered}

-- an MSM whose clock tells no day
abbrev pub is_dayless : AnyMessage → Bool
is_dayless (any.Message m) = false
is_dayless (any.Msm m) = not (tells_day m.system m.header.tow)
is_dayless (any.Obs1012 m) = false

-- and with this number (DF002)
abbrev pub is_dayless_numbered : ℕ → AnyMessage → Bool
is_dayless_numbered n m = is_dayless m && is_numbered n m
