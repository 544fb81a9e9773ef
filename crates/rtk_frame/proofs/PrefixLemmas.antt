-- Checksums of prefixes, and what a scanner holds.
use Rattle.std.proofs.Common.{◌≡◌, ◌≢◌, ℕ, zero, suc, ◌+◌, ◌-◌, ◌<◌, ◌≤◌, Bool, true, false, List, [], ◌∷◌, ◌++◌, length, get_or, take, drop, refl, sym, ◌∙◌, ap, subst, ◌==◌, arith, length-append, length-take, length-drop, get_or-drop, nat_lt, drop-cons}
use Rattle.std.proofs.Math.ListN.{get_or-append}
use Rattle.std.proofs.Math.Seq.{take-add}
use Rattle.std.proofs.lemmas.List.{take-append-le, drop-append-le, take_all, drop-drop}
use Rattle.std.proofs.lemmas.Bool.Decides.{nat_tests}
use Rattle.circular_buffer.specs.Buffer.{Buffer, buffer}
use Rattle.rtk_bits.specs.Bits.{bits, unsigned}
use Rattle.rtk_frame.specs.Checksum.{divide, crc}
use Rattle.rtk_frame.specs.Frame.{begins_frame, begins_partial}
use Rattle.rtk_frame.specs.Held.{RingHolds}
use Rattle.rtk_frame.specs.Prefixes.{ArePrefixChecksums}
use Rattle.rtk_frame.specs.Steps.Scanning.{Scanned, Searched}
use Rattle.rtk_frame.proofs.Fronts.{not_preamble}
use Rattle.rtk_frame.proofs.Passing.{scanned_next, scanned_over, searched_next}

crc_nothing : crc [] ≡ 0
unfolding crc divide bits unsigned
crc_nothing = refl

zero_only : (text : List ℕ) (i : ℕ) → i < length {A = ℕ} (0 ∷ []) → get_or (0 ∷ []) i 0 ≡ crc (take i text)
zero_only text zero l = sym crc_nothing
zero_only text (suc i) l = absurd (omega arith)

-- the prefix of no byte
pub first_prefix : (text : List ℕ) → ArePrefixChecksums (0 ∷ []) text
first_prefix text = (omega arith, λ i l. zero_only text i l)

-- the first prefix, after none
pub first_of_none : (xs text : List ℕ) → (length xs == 0) ≡ true → ArePrefixChecksums (xs ++ 0 ∷ []) text
first_of_none [] text h = first_prefix text
first_of_none (x ∷ xs) text h = absurd (grind (arith, nat_tests))

last_cell : (cs : List ℕ) (c : ℕ) → get_or (cs ++ c ∷ []) (length cs) 0 ≡ c
last_cell [] c = refl
last_cell (x ∷ cs) c = last_cell cs c

more_by : (cs text : List ℕ) (c i : ℕ) (t : Bool) → nat_lt i (length cs) ≡ t → ((k : ℕ) → k < length cs → get_or cs k 0 ≡ crc (take k text)) → c ≡ crc (take (length cs) text) → i < length (cs ++ c ∷ []) → get_or (cs ++ c ∷ []) i 0 ≡ crc (take i text)
more_by cs text c i true t h e l = let k : i < length cs = grind (arith, nat_tests) in get_or-append cs (c ∷ []) 0 i k ∙ h i k
more_by cs text c i false t h e l =
    let n : i ≡ length cs = grind (arith, nat_tests, length-append cs (c ∷ [])) in
    ap (λ k. get_or (cs ++ c ∷ []) k 0) n ∙ last_cell cs c ∙ e ∙ ap (λ k. crc (take k text)) (sym n)

-- one prefix more
pub prefixes_more : (cs text : List ℕ) (c : ℕ) → length cs ≤ length text → c ≡ crc (take (length cs) text) → ArePrefixChecksums cs text → ArePrefixChecksums (cs ++ c ∷ []) text
prefixes_more cs text c l e h = (omega (arith, length-append cs (c ∷ [])), λ i k. more_by cs text c i (nat_lt i (length cs)) refl h.1 e k)

-- the text grows
pub prefixes_stay : (cs text more : List ℕ) → ArePrefixChecksums cs text → ArePrefixChecksums cs (text ++ more)
prefixes_stay cs text more h = (omega (arith, h.0, length-append text more), λ i l. h.1 i l ∙ ap crc (sym (take-append-le i text more (omega (arith, h.0)))))

-- no prefix is known
pub no_prefix : (text : List ℕ) → ArePrefixChecksums [] text
no_prefix text = (omega arith, λ i l. absurd (omega arith))

-- ---- what is held
pub held_on : (ring now : Buffer ℕ) (p q : ℕ) (cs ds : List ℕ) → now ≡ ring → p ≤ q → q ≤ length ring.items → RingHolds ring p cs → ArePrefixChecksums ds ring.items → RingHolds now q ds
held_on ring now p q cs ds e l m h k = subst (λ (b : Buffer ℕ). RingHolds b q ds) (sym e) (h.0, h.1, m, omega (arith, h.3), k)

pub held_more : (ring now : Buffer ℕ) (p : ℕ) (cs more : List ℕ) → now ≡ buffer (ring.items ++ more) ring.capacity → p ≤ 1029 → length ring.items - p + length more ≤ 1029 → RingHolds ring p cs → RingHolds now p cs
held_more ring now p cs more e l m h =
    let n = length-append ring.items more in
    subst (λ (b : Buffer ℕ). RingHolds b p cs) (sym e) (h.0, omega (arith, n, h.2), omega (arith, n, h.2), omega (arith, n, h.2), prefixes_stay cs ring.items more h.4)

-- ---- places that are passed
pub scanned_to : (text items : List ℕ) (p q : ℕ) → p < q → q ≤ length items → begins_frame (drop p items) ≡ false → begins_partial (drop p items) ≡ false → ((i : ℕ) → p < i → i < q → get_or items i 0 ≢ 0xD3) → Scanned text (drop p items) → Scanned text (drop q items)
scanned_to text items p q l m f o others h =
    let n : ℕ = q - (p + 1) in
    let e : p + 1 + n ≡ q = omega arith in
    let next : Scanned text (drop (p + 1) items) = subst (λ (s : List ℕ). Scanned text s) (drop-drop 1 p items) (scanned_next text (drop p items) (omega (arith, length-drop p items)) f o h) in
    let none : (i : ℕ) → i < n → get_or (drop (p + 1) items) i 0 ≢ 0xD3 = λ i k e. others (p + 1 + i) (omega arith) (omega arith) (sym (get_or-drop (p + 1) items i 0) ∙ e) in
    subst (λ (s : List ℕ). Scanned text s) (drop-drop n (p + 1) items ∙ ap (λ k. drop k items) e) (scanned_over text (drop (p + 1) items) n (omega (arith, length-drop (p + 1) items)) none next)

searched_over : (text s : List ℕ) (n : ℕ) → n ≤ length s → ((i : ℕ) → i < n → get_or s i 0 ≢ 0xD3) → Searched text s → Searched text (drop n s)
searched_over text s zero l h k = k
searched_over text [] (suc n) l h k = absurd (omega arith)
searched_over text (x ∷ xs) (suc n) l h k =
    let here = not_preamble (x ∷ xs) (h 0 (omega arith)) in
    searched_over text xs n (omega arith) (λ i m. h (suc i) (omega arith)) (searched_next text (x ∷ xs) (omega arith) here.0 k)

pub searched_to : (text items : List ℕ) (p q : ℕ) → p < q → q ≤ length items → begins_frame (drop p items) ≡ false → ((i : ℕ) → p < i → i < q → get_or items i 0 ≢ 0xD3) → Searched text (drop p items) → Searched text (drop q items)
searched_to text items p q l m f others h =
    let n : ℕ = q - (p + 1) in
    let e : p + 1 + n ≡ q = omega arith in
    let next : Searched text (drop (p + 1) items) = subst (λ (s : List ℕ). Searched text s) (drop-drop 1 p items) (searched_next text (drop p items) (omega (arith, length-drop p items)) f h) in
    let none : (i : ℕ) → i < n → get_or (drop (p + 1) items) i 0 ≢ 0xD3 = λ i k e. others (p + 1 + i) (omega arith) (omega arith) (sym (get_or-drop (p + 1) items i 0) ∙ e) in
    subst (λ (s : List ℕ). Searched text s) (drop-drop n (p + 1) items ∙ ap (λ k. drop k items) e) (searched_over text (drop (p + 1) items) n (omega (arith, length-drop (p + 1) items)) none next)

-- bytes that come stand behind those that are not passed
pub drop_more : (items more : List ℕ) (p : ℕ) → p ≤ length items → drop p (items ++ more) ≡ drop p items ++ more
drop_more items more p h = drop-append-le p items more h

drop_cell : (bs : List ℕ) (k : ℕ) → k < length bs → drop k bs ≡ get_or bs k 0 ∷ drop (suc k) bs
drop_cell bs k h = drop-cons bs k 0 h

-- a byte after the first k
pub take_next : (bs : List ℕ) (k : ℕ) → k < length bs → take (k + 1) bs ≡ take k bs ++ get_or bs k 0 ∷ []
take_next bs k h = take-add k 1 bs ∙ ap (λ z. take k bs ++ take 1 z) (drop_cell bs k h)

-- the checksum of a part
pub part_sum : (b : List ℕ) (n k : ℕ) → crc (take (n + k) b) ≡ crc (take n b ++ take k (drop n b))
part_sum b n k = ap crc (take-add n k b)

-- what was read into a room stands at its front
pub front_of_room : (all rest room : List ℕ) (count : ℕ) → count ≡ length all → room ≡ take count all ++ rest → take count room ≡ all
front_of_room all rest room count n e =
    let l : length (take count all) ≡ count = omega (arith, length-take count all) in
    ap (take count) e ∙ take-append-le count (take count all) rest (omega arith) ∙ take_all count (take count all) (omega arith) ∙ take_all count all (omega arith)
