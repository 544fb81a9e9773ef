-- A frame at a place of a text of bytes (RTCM 10403.3, transport layer).
-- Source: RTCM 10403.3, transport layer
use Rattle.std.specs.Prelude.{◌≡◌, ℕ, ◌+◌, ◌*◌, ◌/◌, ◌%◌, Bool, true, ◌&&◌, List, [], ◌∷◌, ◌++◌, length, get_or, take, drop, nat_lt, nat_le, ◌==◌}
use Rattle.rtk_frame.specs.Checksum.{crc}

-- formula
-- the length of the payload, in a text that begins with a frame: the ten bits after the preamble
-- and six reserved bits; a missing byte counts as 0
abbrev pub payload_length : List ℕ → ℕ
payload_length text = get_or text 1 0 % 4 * 256 + get_or text 2 0

-- formula
-- the payload, in a text that begins with a frame
abbrev pub payload_of : List ℕ → List ℕ
payload_of text = take (payload_length text) (drop 3 text)

-- formula
-- the number of the first three bytes, the most significant first
abbrev pub three_bytes : List ℕ → ℕ
three_bytes text = get_or text 0 0 * 0x10000 + get_or text 1 0 * 0x100 + get_or text 2 0

-- formula
-- the text begins with a frame: the preamble D3, all bytes that the length asks for, and after them
-- the checksum of preamble, reserved bits, length and payload
unfoldable pub begins_frame : List ℕ → Bool
begins_frame text = (get_or text 0 0 == 0xD3) && (nat_le (payload_length text + 6) (length text) && (crc (take (payload_length text + 3) text) == three_bytes (drop (payload_length text + 3) text)))

-- formula
-- the text begins with a preamble, and ends before the frame would (this project's rule)
unfoldable pub begins_partial : List ℕ → Bool
begins_partial text = (get_or text 0 0 == 0xD3) && nat_lt (length text) (payload_length text + 6)

-- a frame begins at the place
abbrev pub IsFrameAt : List ℕ → ℕ → Type 0
IsFrameAt text place = begins_frame (drop place text) ≡ true

-- a preamble is at the place, and the text ends before the frame would (this project's rule)
abbrev pub IsPartialFrameAt : List ℕ → ℕ → Type 0
IsPartialFrameAt text place = begins_partial (drop place text) ≡ true

-- formula
-- the bytes of the frame with this payload, the reserved bits zero
abbrev pub framed : List ℕ → List ℕ
framed payload =
    let covered = 0xD3 ∷ length payload / 256 ∷ length payload % 256 ∷ payload in
    covered ++ (crc covered / 0x10000 ∷ crc covered / 0x100 % 256 ∷ crc covered % 256 ∷ [])
