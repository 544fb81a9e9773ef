-- What the messages of a conversion tell for the last lines of its report.
use Rattle.std.specs.Prelude.{◌≡◌, ℕ, ℤ, Bool, false, ◌&&◌, ◌||◌, ◌==◌, List, Option}
use Rattle.rtk_message.specs.declared.any_message.AnyMessage.{AnyMessage as Message}
use Rattle.rtk_message.specs.declared.msm.Msm.{Msm}
use Rattle.rtk_message.specs.declared.obs1012.GlonassSatellite.{GlonassSatellite}
use Rattle.rtk_message.specs.declared.system.System.{System}
use Rattle.rtk_obs.specs.Carriers.{IsSlot}
use Rattle.rtk_obs.specs.MsmCells.{satellites_of}
use Rattle.rtk_convert.specs.declared.remarks.Remarks.{Remarks}
use Rattle.rtk_convert.specs.Slots.{has_slot, is_without_channel, is_of_other_channel, holds_in_msm, holds_in_1012, any_satellite, any_satellite_1012, has_such_satellite}
use Rattle.rtk_convert.specs.Systems.{has_system}

-- nothing was told yet
pub record HasNoRemarks (r : Remarks) : Type 0 where
  pub systems : (system : System) → has_system r.systems system ≡ false
  pub other_channels : (slot : ℕ) → has_slot r.other_channels slot ≡ false
  pub no_channels : (slot : ℕ) → has_slot r.no_channels slot ≡ false

-- the set has those slots more that a test holds of
abbrev pub PutsSuch : (ℕ → Bool) → List Bool → List Bool → Type 0
PutsSuch test old new = (slot : ℕ) → IsSlot slot → has_slot new slot ≡ (test slot || has_slot old slot)

-- a slot is put into the sets that it belongs to: that of slots of another channel, and that of slots without a channel
pub record PutsSlot (slot : ℕ) (is_other is_without : Bool) (old new : Remarks) : Type 0 where
  pub systems : new.systems ≡ old.systems
  pub other_channels : PutsSuch (λ k. (slot == k) && is_other) old.other_channels new.other_channels
  pub no_channels : PutsSuch (λ k. (slot == k) && is_without) old.no_channels new.no_channels

-- ---- an MSM

-- a satellite of this slot of an MSM, with this field, is put into the sets that it belongs to
pub record PutsSatellite (channels : List (Option ℤ)) (slot field : ℕ) (old new : Remarks) : Type 0 where
  pub systems : new.systems ≡ old.systems
  pub other_channels : PutsSuch (λ k. (slot == k) && holds_in_msm is_of_other_channel channels k field) old.other_channels new.other_channels
  pub no_channels : PutsSuch (λ k. (slot == k) && holds_in_msm is_without_channel channels k field) old.no_channels new.no_channels

-- the satellites of an MSM are put into the sets that they belong to
pub record PutsSatellites (channels : List (Option ℤ)) (m : Msm) (old new : Remarks) : Type 0 where
  pub systems : new.systems ≡ old.systems
  pub other_channels : PutsSuch (λ k. any_satellite (holds_in_msm is_of_other_channel channels k) m k 0 (satellites_of m.header)) old.other_channels new.other_channels
  pub no_channels : PutsSuch (λ k. any_satellite (holds_in_msm is_without_channel channels k) m k 0 (satellites_of m.header)) old.no_channels new.no_channels

-- ---- a 1012

-- a satellite of a 1012 is put into the sets that it belongs to
pub record PutsSatellite1012 (channels : List (Option ℤ)) (s : GlonassSatellite) (old new : Remarks) : Type 0 where
  pub systems : new.systems ≡ old.systems
  pub other_channels : PutsSuch (λ k. (s.slot == k) && holds_in_1012 is_of_other_channel channels s) old.other_channels new.other_channels
  pub no_channels : PutsSuch (λ k. (s.slot == k) && holds_in_1012 is_without_channel channels s) old.no_channels new.no_channels

-- these satellites of a 1012 are put into the sets that they belong to
pub record PutsSatellites1012 (channels : List (Option ℤ)) (ss : List GlonassSatellite) (old new : Remarks) : Type 0 where
  pub systems : new.systems ≡ old.systems
  pub other_channels : PutsSuch (λ k. any_satellite_1012 (holds_in_1012 is_of_other_channel channels) k ss) old.other_channels new.other_channels
  pub no_channels : PutsSuch (λ k. any_satellite_1012 (holds_in_1012 is_without_channel channels) k ss) old.no_channels new.no_channels

-- ---- a message

-- the satellites of a message of GLONASS are put into the sets that they belong to
pub record PutsSlots (channels : List (Option ℤ)) (m : Message) (old new : Remarks) : Type 0 where
  pub systems : new.systems ≡ old.systems
  pub other_channels : PutsSuch (λ k. has_such_satellite is_of_other_channel channels k m) old.other_channels new.other_channels
  pub no_channels : PutsSuch (λ k. has_such_satellite is_without_channel channels k m) old.no_channels new.no_channels
