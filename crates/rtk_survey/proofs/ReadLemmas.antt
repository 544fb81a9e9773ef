-- A source that is read piece by piece, and what is held of the frames so far.
use Rattle.std.proofs.Common.{◌≡◌, ◌≤◌, ◌+◌, ℕ, List, [], ◌∷◌, ◌++◌, Option, length, take, drop, refl, sym, ap, subst, ◌∙◌, length-append, arith}
use Rattle.std.proofs.Math.Seq.{take-append_seam}
use Rattle.std.proofs.lemmas.Grind.{common_steps}
use Rattle.rtk_frame.specs.Frames.{final_from, frames, final_frames, payloads, pending, pending_from}
use Rattle.rtk_frame.specs.Stream.{with_more, count_after, CountRises}
use Rattle.rtk_frame.proofs.PublicLaws.{with_more-nil, with_more-with_more, final_payloads_cut, payloads_cut, pending_cut}
use Rattle.rtk_survey.specs.Contents.{HoldsFrames}
use Rattle.rtk_survey.specs.Counting.{shown_count}
use Rattle.rtk_survey.specs.ReadFrames.{ReadFrame, ReadsFrames, read_frame}
use Rattle.rtk_survey.specs.Surveys.{HoldsMore, Surveys, look_if_empty}
use Rattle.rtk_survey.specs.declared.contents.Contents.{Contents}
use Rattle.rtk_survey.specs.declared.look.Look.{Look}
use Rattle.rtk_survey.specs.declared.target.Target.{Target}
use Rattle.rtk_survey.proofs.CutLemmas.{take-none, take-again}

-- frames that come after others
reads-append : (ps qs : List (List ℕ)) (a b c : List ReadFrame) → ReadsFrames ps a b → ReadsFrames qs b c → ReadsFrames (ps ++ qs) a c
reads-append [] qs a b c none more = subst (λ (fs : List ReadFrame). ReadsFrames qs fs c) none more
reads-append (p ∷ ps) qs a b c some more = (some.0, some.1, reads-append ps qs (read_frame p some.0 ∷ a) b c some.2 more)

-- a source gave some bytes, and this is held of their final frames
pub record HasRead (q : Option Target) (given_old given_new : Option (List ℕ)) (waiting : List ℕ) (count : ℕ) (head : List ℕ) (c : Contents) : Type 0 where
  pub bytes : List ℕ
  pub fs : List ReadFrame
  pub given : given_new ≡ with_more given_old bytes
  pub reads : ReadsFrames (payloads (final_frames bytes)) [] fs
  pub waits : waiting ≡ pending bytes
  pub size : count ≡ shown_count (length bytes)
  pub begins : head ≡ take 512 bytes
  pub holds : HoldsFrames q fs c

pub read-nothing : (q : Option Target) (given : Option (List ℕ)) (waiting head : List ℕ) (c : Contents) → waiting ≡ [] → head ≡ [] → HoldsFrames q [] c → HasRead q given given waiting 0 head c
unfolding final_from pending_from
read-nothing q given waiting head c none empty holds = record {
  bytes = [];
  fs = [];
  given = sym (with_more-nil given);
  reads = refl;
  waits = none;
  size = refl;
  begins = empty ∙ sym (take-none 512);
  holds = holds;
}

pub read-piece : (q : Option Target) (given_0 given_1 given_2 : Option (List ℕ)) (waiting_1 waiting_2 more : List ℕ) (count_1 count_2 : ℕ) (head_1 head_2 : List ℕ) (c_1 c_2 : Contents)
    → HasRead q given_0 given_1 waiting_1 count_1 head_1 c_1 → given_2 ≡ with_more given_1 more → HoldsMore (payloads (final_frames (waiting_1 ++ more))) c_1 c_2
    → waiting_2 ≡ pending (waiting_1 ++ more) → count_2 ≡ shown_count (count_1 + length more) → head_2 ≡ take 512 (head_1 ++ more)
    → HasRead q given_0 given_2 waiting_2 count_2 head_2 c_2
read-piece q given_0 given_1 given_2 waiting_1 waiting_2 more count_1 count_2 head_1 head_2 c_1 c_2 h gives t waits counts begin =
    let size = h.size in
    let both = length-append h.bytes more in
    let next = t q h.fs h.holds in
    record {
      bytes = h.bytes ++ more;
      fs = next.0;
      given = gives ∙ ap (λ (known : Option (List ℕ)). with_more known more) h.given ∙ with_more-with_more given_0 h.bytes more;
      reads = subst (λ (ps : List (List ℕ)). ReadsFrames ps [] next.0) (sym (final_payloads_cut h.bytes more))
          (reads-append (payloads (final_frames h.bytes)) (payloads (final_frames (pending h.bytes ++ more))) [] h.fs next.0 h.reads
          (subst (λ (w : List ℕ). ReadsFrames (payloads (final_frames (w ++ more))) h.fs next.0) h.waits next.1));
      waits = waits ∙ ap (λ (w : List ℕ). pending (w ++ more)) h.waits ∙ sym (pending_cut h.bytes more);
      size = omega (arith, counts, size, both);
      begins = begin ∙ ap (λ (head : List ℕ). take 512 (head ++ more)) h.begins ∙ take-again 512 h.bytes more;
      holds = next.2;
    }

pub read-end : (q : Option Target) (given_0 given_1 given_2 : Option (List ℕ)) (waiting : List ℕ) (count : ℕ) (head : List ℕ) (c_1 c_2 : Contents) (look : Option Look)
    → HasRead q given_0 given_1 waiting count head c_1 → given_2 ≡ with_more given_1 [] → HoldsMore (payloads (frames waiting)) c_1 c_2
    → ((n : ℕ) (bytes : List ℕ) → c_2.frames ≡ shown_count n → head ≡ take 512 bytes → look ≡ look_if_empty n bytes)
    → Surveys q given_0 given_2 (record { bytes = count; look = look; contents = c_2 })
read-end q given_0 given_1 given_2 waiting count head c_1 c_2 look h gives t looks =
    let next = t q h.fs h.holds in (
      h.bytes,
      next.0,
      gives ∙ with_more-nil given_1 ∙ h.given,
      subst (λ (ps : List (List ℕ)). ReadsFrames ps [] next.0) (sym (payloads_cut h.bytes))
          (reads-append (payloads (final_frames h.bytes)) (payloads (frames (pending h.bytes))) [] h.fs next.0 h.reads
          (subst (λ (w : List ℕ). ReadsFrames (payloads (frames w)) h.fs next.0) h.waits next.1)),
      record { size = h.size; look = looks (length next.0) h.bytes next.2.frames h.begins; contents = next.2 },
    )

pub count-rises : (before now after : ℕ) → now ≡ before → after ≡ count_after now → CountRises before after
count-rises before now after same more = grind arith

-- a buffer of the same length took the place of all that a vector held
pub refilled : (buf old : List ℕ) (len : ℕ) → length buf ≡ length old → len ≡ length old → take len (buf ++ drop (length buf) old) ≡ buf
refilled buf old len as_many known =
    ap (λ (n : ℕ). take n (buf ++ drop (length buf) old)) (known ∙ sym as_many) ∙ take-append_seam buf (drop (length buf) old)

pub length-first : (n : ℕ) (xs : List ℕ) → n ≤ length xs → length (take n xs) ≡ n
length-first n xs within = grind (arith, common_steps)
