-- The frames of a capture, each with what its payload is read as. Lists of frames, messages, faults
-- and times are newest first.
use Rattle.std.specs.Prelude.{◌≡◌, ℕ, ◌+◌, ◌==◌, Bool, List, [], ◌∷◌, length, filter, Result, Ok, Err}
use Rattle.rtk_bits.specs.Bits.{bits}
use Rattle.rtk_message.specs.declared.any_message.AnyMessage.{AnyMessage}
use Rattle.rtk_message.specs.declared.any_fault.AnyFault.{AnyFault}
use Rattle.rtk_message.specs.declared.accepted.Accepted.{Accepted}
use Rattle.rtk_message.specs.Accepted.{all, with_1012}
use Rattle.rtk_message.specs.AnyDecoded.{DecodesBy, station_of}

-- constant
-- the messages that a summary reads: 1004 to 1006, 1012, and MSM4 to MSM7 of all systems (DF002)
abbrev pub messages_read : Accepted
messages_read = with_1012 all

-- a frame, by its payload, with the message that this is, or the fault
pub record ReadFrame : Type 0 where
  pub payload : List ℕ
  pub reading : Result AnyMessage AnyFault

abbrev pub read_frame : List ℕ → Result AnyMessage AnyFault → ReadFrame
read_frame payload reading = record { payload = payload; reading = reading }

-- frames with these payloads come, in this order, after those before
abbrev pub ReadsFrames : List (List ℕ) → List ReadFrame → List ReadFrame → Type 0
ReadsFrames [] before after = after ≡ before
ReadsFrames (p ∷ ps) before after =
    (reading : Result AnyMessage AnyFault) × DecodesBy messages_read (bits p) reading × ReadsFrames ps (read_frame p reading ∷ before) after

-- formula
-- the bytes of frames: each is its payload and six bytes more
abbrev pub bytes_in : List ReadFrame → ℕ
bytes_in [] = 0
bytes_in (f ∷ before) = bytes_in before + (length f.payload + 6)

abbrev pub with_message : Result AnyMessage AnyFault → List AnyMessage → List AnyMessage
with_message (Ok m) before = m ∷ before
with_message (Err fault) before = before

-- the messages among the frames
abbrev pub messages_in : List ReadFrame → List AnyMessage
messages_in [] = []
messages_in (f ∷ before) = with_message f.reading (messages_in before)

abbrev pub with_fault : Result AnyMessage AnyFault → List AnyFault → List AnyFault
with_fault (Ok m) before = before
with_fault (Err fault) before = fault ∷ before

-- the faults of the frames that are no message
abbrev pub faults_in : List ReadFrame → List AnyFault
faults_in [] = []
faults_in (f ∷ before) = with_fault f.reading (faults_in before)

abbrev pub is_of_station : ℕ → AnyMessage → Bool
is_of_station station m = station_of m == station

-- the messages of a station (DF003)
abbrev pub messages_from : ℕ → List AnyMessage → List AnyMessage
messages_from station ms = filter (is_of_station station) ms
