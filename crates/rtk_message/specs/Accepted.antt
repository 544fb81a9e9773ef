-- Which message numbers are read (RTCM 10403.3, DF002; which ones is this project's rule).
use Rattle.std.specs.Prelude.{ℕ, Bool, true, false, ◌==◌, Option, Some, None, if◌then◌else◌}
use Rattle.rtk_message.specs.declared.accepted.Accepted.{Accepted}
use Rattle.rtk_message.specs.declared.accepted.MsmKinds.{MsmKinds}
use Rattle.rtk_message.specs.declared.msm_kind.MsmKind.{MsmKind}
use Rattle.rtk_message.specs.declared.msm_kind.MsmKind.TheVariants.{Msm4, Msm5, Msm6, Msm7}
use Rattle.rtk_message.specs.declared.msm_type.MsmType.{MsmType}
use Rattle.rtk_message.specs.declared.system.System.{System}
use Rattle.rtk_message.specs.declared.system.System.TheVariants.{Gps, Glonass, Galileo, Beidou, Qzss, Sbas, Navic}
use Rattle.rtk_message.specs.Systems.{type_of_number}

-- ---- the kinds of one system

-- table
abbrev pub no_kind : MsmKinds
no_kind = record { msm4 = false; msm5 = false; msm6 = false; msm7 = false }

-- table
abbrev pub all_kinds : MsmKinds
all_kinds = record { msm4 = true; msm5 = true; msm6 = true; msm7 = true }

-- table
-- this kind and no other
abbrev pub only_kind : MsmKind → MsmKinds
only_kind Msm4 = record { msm4 = true; msm5 = false; msm6 = false; msm7 = false }
only_kind Msm5 = record { msm4 = false; msm5 = true; msm6 = false; msm7 = false }
only_kind Msm6 = record { msm4 = false; msm5 = false; msm6 = true; msm7 = false }
only_kind Msm7 = record { msm4 = false; msm5 = false; msm6 = false; msm7 = true }

-- table
-- whether a kind is among these
abbrev pub takes_kind : MsmKinds → MsmKind → Bool
takes_kind ks Msm4 = ks.msm4
takes_kind ks Msm5 = ks.msm5
takes_kind ks Msm6 = ks.msm6
takes_kind ks Msm7 = ks.msm7

-- table
-- these kinds and this one
abbrev pub with_kind : MsmKinds → MsmKind → MsmKinds
with_kind ks Msm4 = record ks { msm4 = true }
with_kind ks Msm5 = record ks { msm5 = true }
with_kind ks Msm6 = record ks { msm6 = true }
with_kind ks Msm7 = record ks { msm7 = true }

-- ---- sets of messages

-- table
-- these kinds of GPS, no MSM of another system, and no 1012
abbrev pub of_gps : MsmKinds → Accepted
of_gps ks = record { gps = ks; glonass = no_kind; galileo = no_kind; beidou = no_kind; qzss = no_kind; sbas = no_kind; navic = no_kind; obs1012 = false }

-- no MSM
abbrev pub no_msm : Accepted
no_msm = of_gps no_kind

-- 1074 and no other MSM
abbrev pub four : Accepted
four = of_gps (only_kind Msm4)

-- table
-- all MSM, and no 1012
abbrev pub all : Accepted
all = record { gps = all_kinds; glonass = all_kinds; galileo = all_kinds; beidou = all_kinds; qzss = all_kinds; sbas = all_kinds; navic = all_kinds; obs1012 = false }

-- the MSM of GPS of this kind and no other
abbrev pub only : MsmKind → Accepted
only k = of_gps (only_kind k)

-- table
-- the kinds of a system that are read
abbrev pub kinds_of : Accepted → System → MsmKinds
kinds_of a Gps = a.gps
kinds_of a Glonass = a.glonass
kinds_of a Galileo = a.galileo
kinds_of a Beidou = a.beidou
kinds_of a Qzss = a.qzss
kinds_of a Sbas = a.sbas
kinds_of a Navic = a.navic

-- table
-- the set with these kinds of a system
abbrev pub with_kinds : Accepted → System → MsmKinds → Accepted
with_kinds a Gps ks = record a { gps = ks }
with_kinds a Glonass ks = record a { glonass = ks }
with_kinds a Galileo ks = record a { galileo = ks }
with_kinds a Beidou ks = record a { beidou = ks }
with_kinds a Qzss ks = record a { qzss = ks }
with_kinds a Sbas ks = record a { sbas = ks }
with_kinds a Navic ks = record a { navic = ks }

-- the set and the MSM of this type
abbrev pub with_type : Accepted → MsmType → Accepted
with_type a t = with_kinds a t.system (with_kind (kinds_of a t.system) t.kind)

-- the set and 1012
abbrev pub with_1012 : Accepted → Accepted
with_1012 a = record a { obs1012 = true }

-- whether the MSM of this type are read
abbrev pub takes : Accepted → MsmType → Bool
takes a t = takes_kind (kinds_of a t.system) t.kind

abbrev pub takes_some : Accepted → Option MsmType → Bool
takes_some a None = false
takes_some a (Some t) = takes a t

-- table
-- whether a message of this number is read
abbrev pub accepts : Accepted → ℕ → Bool
accepts a n =
    if n == 1004 then true else if n == 1005 then true else if n == 1006 then true else if n == 1012 then a.obs1012 else
    takes_some a (type_of_number n)
