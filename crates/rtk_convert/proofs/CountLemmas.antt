-- Each found frame is counted in one class.
use Rattle.std.proofs.Common.{◌≡◌, ℕ, suc, ◌<◌, ◌^◌, List, [], ◌∷◌, length, refl, ap, ◌∙◌, arith}
use Rattle.rtk_frame.specs.Stream.{count_after}
use Rattle.rtk_collect.specs.Arrival.{Arrival}
use Rattle.rtk_collect.specs.Answer.{Class, LateClass, TakenClass, RepeatClass, ConflictClass}
use Rattle.rtk_convert.specs.declared.frame_class.FrameClass.{FrameClass}
use Rattle.rtk_convert.specs.declared.frame_class.FrameClass.TheVariants.{OtherMessage, Refused, Foreign, Dated}
use Rattle.rtk_setup.specs.declared.counts.Counts.{Counts}
use Rattle.rtk_convert.specs.CountLaws.{in_classes, AreCountsOf, EachFrameInOneClass}
use Rattle.rtk_convert.specs.FrameClass.{Found, arrivals}
use Rattle.rtk_setup.specs.Setup.{SetupView}
use Rattle.rtk_convert.specs.Report.{arrival_class, counted_as, counted, one_frame_more, frame_counts}

-- a count that is part of a number below its greatest value goes up by one
one-more : (count frames : ℕ) → count < suc frames → suc frames < 2 ^ 64 → count_after count ≡ suc count
one-more count frames part few = grind arith

-- one more frame of a class
class-more : (class : Class) (frames : ℕ) (c : Counts) → in_classes c ≡ frames → suc frames < 2 ^ 64 → in_classes (counted_as class c) ≡ suc frames
class-more LateClass frames c sum few = omega (arith, sum, one-more c.late frames (omega (arith, sum)) few)
class-more TakenClass frames c sum few = omega (arith, sum, one-more c.taken frames (omega (arith, sum)) few)
class-more RepeatClass frames c sum few = omega (arith, sum, one-more c.repeat frames (omega (arith, sum)) few)
class-more ConflictClass frames c sum few = omega (arith, sum, one-more c.conflict frames (omega (arith, sum)) few)

counted-more : (s : SetupView) (f : FrameClass) (before : List Arrival) (frames : ℕ) (c : Counts) → in_classes c ≡ frames → suc frames < 2 ^ 64
    → in_classes (counted s f before c) ≡ suc frames
counted-more s OtherMessage before frames c sum few = omega (arith, sum, one-more c.other frames (omega (arith, sum)) few)
counted-more s (Refused fault) before frames c sum few = omega (arith, sum, one-more c.refused frames (omega (arith, sum)) few)
counted-more s Foreign before frames c sum few = omega (arith, sum, one-more c.foreign frames (omega (arith, sum)) few)
counted-more s (Dated a) before frames c sum few = class-more (arrival_class s a before) frames c sum few

-- it leaves the count of all frames
class-frames : (class : Class) (c : Counts) → (counted_as class c).frames ≡ c.frames
class-frames LateClass c = refl
class-frames TakenClass c = refl
class-frames RepeatClass c = refl
class-frames ConflictClass c = refl

counted-frames : (s : SetupView) (f : FrameClass) (before : List Arrival) (c : Counts) → (counted s f before c).frames ≡ c.frames
counted-frames s OtherMessage before c = refl
counted-frames s (Refused fault) before c = refl
counted-frames s Foreign before c = refl
counted-frames s (Dated a) before c = class-frames (arrival_class s a before) c

counts-of : (s : SetupView) (found : List Found) → length found < 2 ^ 64 → AreCountsOf (length found) (frame_counts s found)
counts-of s [] few = record { frames_are = refl; classes_are = refl }
counts-of s (f ∷ before) few =
    let p = counts-of s before (omega (arith, few)) in
    let c = frame_counts s before in
    record {
      frames_are = counted-frames s f.class (arrivals before) (one_frame_more c) ∙ one-more c.frames (length before) (omega (arith, p.frames_are)) few ∙ ap suc p.frames_are;
      classes_are = counted-more s f.class (arrivals before) (length before) (one_frame_more c) p.classes_are few;
    }

pub each-in-one : EachFrameInOneClass
each-in-one s found few =
    let p = counts-of s found few in
    record { frames_are = p.frames_are; classes_are = p.classes_are }
