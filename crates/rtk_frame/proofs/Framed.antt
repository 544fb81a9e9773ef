-- The bytes of a frame are a frame with its payload.
use Rattle.std.proofs.Common.{◌≡◌, ℕ, ◌+◌, ◌/◌, ◌%◌, ◌≤◌, true, List, [], ◌∷◌, length, take, drop, sym, ◌∙◌, ap, arith, length-append, nat_le, ◌==◌, ◌&&◌}
use Rattle.std.proofs.lemmas.Bool.Decides.{nat_tests}
use Rattle.std.proofs.lemmas.List.{drop_at}
use Rattle.rtk_frame.specs.Checksum.{crc}
use Rattle.rtk_frame.specs.Frame.{payload_length, payload_of, three_bytes, begins_frame, IsFrameAt, framed}
use Rattle.rtk_frame.proofs.StreamLemmas.{take-front}

-- the bytes that the checksum covers
abbrev covered_of : List ℕ → List ℕ
covered_of payload = 0xD3 ∷ length payload / 256 ∷ length payload % 256 ∷ payload

-- a checksum in three bytes
abbrev stored : ℕ → List ℕ
stored sum = sum / 0x10000 ∷ sum / 0x100 % 256 ∷ sum % 256 ∷ []

pub framed_length : (payload : List ℕ) → length (framed payload) ≡ length payload + 6
framed_length payload = omega (arith, length-append (covered_of payload) (stored (crc (covered_of payload))))

length_read : (payload : List ℕ) → length payload ≤ 1023 → payload_length (framed payload) ≡ length payload
length_read payload h = omega arith

sum_read : (sum : ℕ) → three_bytes (stored sum) ≡ sum
sum_read sum = omega arith

tests : (n len a b : ℕ) → n + 6 ≤ len → a ≡ b → (nat_le (n + 6) len && (a == b)) ≡ true
tests n len a b h e = grind (arith, nat_tests)

pub framed_is : (payload : List ℕ) → length payload ≤ 1023 → IsFrameAt (framed payload) 0
unfolding begins_frame
framed_is payload h =
    let covered : List ℕ = covered_of payload in
    let sum : ℕ = crc covered in
    let n : payload_length (framed payload) ≡ length payload = length_read payload h in
    let front : take (payload_length (framed payload) + 3) (framed payload) ≡ covered = take-front (payload_length (framed payload) + 3) covered (stored sum) (omega (arith, n)) in
    let back : drop (payload_length (framed payload) + 3) (framed payload) ≡ stored sum = drop_at covered (stored sum) (payload_length (framed payload) + 3) (omega (arith, n)) in
    tests (payload_length (framed payload)) (length (framed payload)) (crc (take (payload_length (framed payload) + 3) (framed payload))) (three_bytes (drop (payload_length (framed payload) + 3) (framed payload)))
    (omega (arith, n, framed_length payload))
    (ap crc front ∙ sym (ap three_bytes back ∙ sum_read sum))

pub framed_payload : (payload : List ℕ) → length payload ≤ 1023 → payload_of (framed payload) ≡ payload
framed_payload payload h =
    let sum : ℕ = crc (covered_of payload) in
    take-front (payload_length (framed payload)) payload (stored sum) (sym (length_read payload h))
