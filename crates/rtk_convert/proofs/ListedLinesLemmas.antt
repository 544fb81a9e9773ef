-- The report has a line for each message that came too late.
use Rattle.std.proofs.Common.{◌≡◌, ℕ, inl, inr, ◌⊎◌, Bool, true, false, List, [], ◌∷◌, ◌++◌, map, filter, flat_map, Option, None, Some, decimal, refl, sym, ap, subst, ◌∙◌, append_assoc, append-nil}
use Rattle.std.specs.Prelude.{codes, if◌then◌else◌}
use Rattle.std.proofs.lemmas.Bool.{cases_Bool}
use Rattle.std.proofs.lemmas.List.{map-append}
use Rattle.std.proofs.lemmas.List.Concat.{flat_map-append}
use Rattle.std.proofs.lemmas.List.Elements.{filter-append}
use Rattle.rtk_frame.specs.Stream.{with_more}
use Rattle.rtk_message.specs.AnyDecoded.{number_of}
use Rattle.rtk_message.specs.AnyFaultCode.{any_fault_text}
use Rattle.rtk_message.specs.declared.system.System.TheVariants.{Glonass}
use Rattle.rtk_obs.specs.declared.any_code.AnyCode.{AnyCode}
use Rattle.rtk_collect.specs.Signals.{signals}
use Rattle.rtk_setup.specs.Setup.{cells_by}
use Rattle.rtk_collect.specs.Arrival.{Arrival, epoch_of, message_of}
use Rattle.rtk_collect.specs.Answer.{Class, LateClass, TakenClass, RepeatClass, ConflictClass, class_of, conflicts_of}
use Rattle.rtk_collect.specs.declared.conflicts.AnySatelliteCode.{AnySatelliteCode}
use Rattle.rtk_collect.specs.Late.{late}
use Rattle.rtk_setup.specs.declared.counts.Counts.{Counts}
use Rattle.rtk_convert.specs.declared.frame_class.FrameClass.{FrameClass}
use Rattle.rtk_convert.specs.declared.frame_class.FrameClass.TheVariants.{OtherMessage, Refused, Foreign, Dated}
use Rattle.rtk_convert.specs.FrameClass.{Found, arrivals}
use Rattle.rtk_convert.specs.Finish.{all_counts, missing_letters, missing_lines, unphased_lines, remark_lines, report_of}
use Rattle.rtk_convert.specs.Headline.{messages_of, late_lines, LateAreListed}
use Rattle.rtk_convert.specs.Kept.{came_of}
use Rattle.rtk_convert.specs.Report.{arrival_class, refused_line, cell_lines, class_lines, frame_lines, lines}
use Rattle.rtk_convert.specs.ReportText.{link_text, arrival_text, late_line, cell_conflict_line, signal_text, missing_line, shown_names, slot_names, slots_line, channels_text}
use Rattle.rtk_setup.specs.Counts.{count_line, count_lines}
use Rattle.rtk_setup.specs.Setup.{SetupView, is_of_gps, lists_system}
use Rattle.rtk_convert.specs.Slots.{is_without_channel, is_of_other_channel, any_tells}
use Rattle.rtk_convert.proofs.CameLemmas.{messages-came}

-- ---- texts that are empty or end in LF

abbrev Ends : List ℕ → Type 0
Ends text = (line : List ℕ) × (text ≡ line ++ 10 ∷ [])

abbrev IsEnded : List ℕ → Type 0
IsEnded text = (text ≡ []) ⊎ Ends text

ends-after : (front text : List ℕ) → Ends text → Ends (front ++ text)
ends-after front text p = (front ++ p.0, ap (λ t. front ++ t) p.1 ∙ sym (append_assoc front p.0 (10 ∷ [])))

ended-after : (front text : List ℕ) → Ends front → IsEnded text → Ends (front ++ text)
ended-after front text p (inl e) = (p.0, ap (λ t. front ++ t) e ∙ append-nil front ∙ p.1)
ended-after front text p (inr q) = ends-after front text q

cell-ends : (link number epoch satellite : ℕ) (code : AnyCode) → Ends (cell_conflict_line link number epoch satellite code)
cell-ends link number epoch satellite code = (arrival_text link (codes " conflict ") number (Some epoch) ++ signal_text satellite code, refl)

cells-ended : (link number : ℕ) (epoch : Option ℕ) (cells : List AnySatelliteCode) → IsEnded (cell_lines link number epoch cells)
cells-ended link number None cells = inl refl
cells-ended link number (Some e) [] = inl refl
cells-ended link number (Some e) (c ∷ cells) =
    inr (ended-after (cell_conflict_line link number e c.satellite c.code) (cell_lines link number (Some e) cells) (cell-ends link number e c.satellite c.code) (cells-ended link number (Some e) cells))

conflict-ended : (link number : ℕ) (epoch : Option ℕ) (cells : List AnySatelliteCode) → IsEnded (class_lines link number epoch ConflictClass cells)
conflict-ended link number None cells = inr (arrival_text link (codes " conflict ") number None, refl)
conflict-ended link number (Some e) cells = cells-ended link number (Some e) cells

class-ended : (link number : ℕ) (epoch : Option ℕ) (c : Class) (cells : List AnySatelliteCode) → IsEnded (class_lines link number epoch c cells)
class-ended link number epoch LateClass cells = inr (arrival_text link (codes " late ") number epoch, refl)
class-ended link number epoch TakenClass cells = cells-ended link number epoch cells
class-ended link number epoch RepeatClass cells = inl refl
class-ended link number epoch ConflictClass cells = conflict-ended link number epoch cells

count-ends : (name : List ℕ) (count : ℕ) → Ends (count_line name count)
count-ends name count = (name ++ decimal count, refl)

counts-end : (c : Counts) → Ends (count_lines c)
unfolding count_lines
counts-end c =
    let front : List ℕ =
    count_line (codes "frames ") c.frames ++ count_line (codes "other ") c.other ++ count_line (codes "refused ") c.refused
    ++ count_line (codes "foreign ") c.foreign ++ count_line (codes "taken ") c.taken ++ count_line (codes "repeat ") c.repeat
    ++ count_line (codes "conflict ") c.conflict ++ count_line (codes "late ") c.late in
    ends-after front (count_line (codes "epochs ") c.epochs) (count-ends (codes "epochs ") c.epochs)

-- ---- lines, some of them marked

abbrev marked : List (Bool × List ℕ) → List (List ℕ)
marked all = map (λ line. line.1) (filter (λ line. line.0) all)

abbrev text_of : List (Bool × List ℕ) → List ℕ
text_of all = flat_map (λ line. line.1 ++ 10 ∷ []) all

pub record HasLines (lates : List (List ℕ)) (text : List ℕ) : Type 0 where
  pub all : List (Bool × List ℕ)
  pub is_text : text ≡ text_of all
  pub are_marked : lates ≡ marked all

marked-more : (all more : List (Bool × List ℕ)) → marked (all ++ more) ≡ marked all ++ marked more
marked-more all more =
    ap (map (λ (line : Bool × List ℕ). line.1)) (filter-append (λ (line : Bool × List ℕ). line.0) all more)
    ∙ map-append (λ (line : Bool × List ℕ). line.1) (filter (λ (line : Bool × List ℕ). line.0) all) (filter (λ (line : Bool × List ℕ). line.0) more)

text-more : (all : List (Bool × List ℕ)) (mark : Bool) (line : List ℕ) → text_of (all ++ (mark, line) ∷ []) ≡ text_of all ++ (line ++ 10 ∷ [])
text-more all mark line =
    flat_map-append (λ (l : Bool × List ℕ). l.1 ++ 10 ∷ []) all ((mark, line) ∷ [])
    ∙ ap (λ t. text_of all ++ t) (append-nil (line ++ 10 ∷ []))

has-more : (lates : List (List ℕ)) (text more : List ℕ) → HasLines lates text → IsEnded more → HasLines lates (text ++ more)
has-more lates text more p (inl e) = record {
  all = p.all;
  is_text = ap (λ t. text ++ t) e ∙ append-nil text ∙ p.is_text;
  are_marked = p.are_marked;
}
has-more lates text more p (inr q) = record {
  all = p.all ++ (false, q.0) ∷ [];
  is_text = ap (λ t. t ++ more) p.is_text ∙ ap (λ t. text_of p.all ++ t) q.1 ∙ sym (text-more p.all false q.0);
  are_marked = p.are_marked ∙ sym (append-nil (marked p.all)) ∙ sym (marked-more p.all ((false, q.0) ∷ []));
}

has-late : (lates : List (List ℕ)) (text line : List ℕ) → HasLines lates text → HasLines (lates ++ line ∷ []) (text ++ (line ++ 10 ∷ []))
has-late lates text line p = record {
  all = p.all ++ (true, line) ∷ [];
  is_text = ap (λ t. t ++ (line ++ 10 ∷ [])) p.is_text ∙ sym (text-more p.all true line);
  are_marked = ap (λ t. t ++ line ∷ []) p.are_marked ∙ sym (marked-more p.all ((true, line) ∷ []));
}

-- ---- the lines of found frames

late-lines : (s : SetupView) (link : ℕ) (a : Arrival) (before : List Found) → late s.window a (arrivals before) ≡ true
    → frame_lines s link (Dated a) (arrivals before) ≡ late_line link (number_of (message_of a)) (epoch_of a)
late-lines s link a before over =
    let e : arrival_class s a (arrivals before) ≡ LateClass = rw over refl in
    ap (λ k. class_lines link (number_of (message_of a)) (epoch_of a) k (conflicts_of signals (cells_by s) s.window a (arrivals before))) e

late-more : (s : SetupView) (link : ℕ) (a : Arrival) (before : List (ℕ × Arrival)) (b : Bool) → late s.window a (messages_of before) ≡ b
    → late_lines s ((link, a) ∷ before) ≡ late_lines s before ++ (if b then arrival_text link (codes " late ") (number_of (message_of a)) (epoch_of a) ∷ [] else [])
late-more s link a before b e = ap (λ (x : Bool). late_lines s before ++ (if x then arrival_text link (codes " late ") (number_of (message_of a)) (epoch_of a) ∷ [] else [])) e

dated-listed : (s : SetupView) (link : ℕ) (a : Arrival) (before : List Found) → HasLines (late_lines s (came_of before)) (lines s before)
    → HasLines (late_lines s ((link, a) ∷ came_of before)) (lines s before ++ frame_lines s link (Dated a) (arrivals before))
dated-listed s link a before p =
    let same : late s.window a (messages_of (came_of before)) ≡ late s.window a (arrivals before) = ap (λ (xs : List Arrival). late s.window a xs) (messages-came before) in
    elim (cases_Bool (late s.window a (arrivals before))) [
      | inl over ↦ subst (λ (lates : List (List ℕ)). HasLines lates (lines s before ++ frame_lines s link (Dated a) (arrivals before)))
          (sym (late-more s link a (came_of before) true (same ∙ over)))
          (subst (λ (t : List ℕ). HasLines (late_lines s (came_of before) ++ arrival_text link (codes " late ") (number_of (message_of a)) (epoch_of a) ∷ []) (lines s before ++ t))
          (sym (late-lines s link a before over))
          (has-late (late_lines s (came_of before)) (lines s before) (arrival_text link (codes " late ") (number_of (message_of a)) (epoch_of a)) p))
      | inr in_time ↦ subst (λ (lates : List (List ℕ)). HasLines lates (lines s before ++ frame_lines s link (Dated a) (arrivals before)))
          (sym (late-more s link a (came_of before) false (same ∙ in_time) ∙ append-nil (late_lines s (came_of before))))
          (has-more (late_lines s (came_of before)) (lines s before) (frame_lines s link (Dated a) (arrivals before)) p
          (class-ended link (number_of (message_of a)) (epoch_of a) (class_of signals (cells_by s) s.window a (arrivals before)) (conflicts_of signals (cells_by s) s.window a (arrivals before))))
    ]

frame-listed : (s : SetupView) (link : ℕ) (c : FrameClass) (before : List Found) → HasLines (late_lines s (came_of before)) (lines s before)
    → HasLines (late_lines s (came_of (record { link = link; class = c } ∷ before))) (lines s before ++ frame_lines s link c (arrivals before))
frame-listed s link OtherMessage before p = has-more (late_lines s (came_of before)) (lines s before) [] p (inl refl)
frame-listed s link (Refused fault) before p =
    has-more (late_lines s (came_of before)) (lines s before) (refused_line link fault) p
    (inr (link_text link ++ codes " refused " ++ any_fault_text fault, refl))
frame-listed s link Foreign before p = has-more (late_lines s (came_of before)) (lines s before) [] p (inl refl)
frame-listed s link (Dated a) before p = dated-listed s link a before p

lines-listed : (s : SetupView) (found : List Found) → HasLines (late_lines s (came_of found)) (lines s found)
lines-listed s [] = record { all = []; is_text = refl; are_marked = refl }
lines-listed s (f ∷ before) = frame-listed s f.link f.class before (lines-listed s before)

line-ended : (letters : List ℕ) → IsEnded (missing_line letters)
line-ended [] = inl refl
line-ended (x ∷ letters) = inr (codes "no-message" ++ x ∷ letters, sym (append_assoc (codes "no-message") (x ∷ letters) (10 ∷ [])))

missing-if : (b : Bool) (letters : List ℕ) → IsEnded (if b then [] else missing_line letters)
missing-if true letters = inl refl
missing-if false letters = line-ended letters

missing-ended : (s : SetupView) (found : List Found) → IsEnded (missing_lines s found)
missing-ended s found = missing-if (is_of_gps s) (missing_letters s found)

slots-end : (name names : List ℕ) → Ends (slots_line name names)
slots-end name names = (name ++ shown_names names, refl)

unphased-if : (b : Bool) (p q : ℕ → Bool) → IsEnded (if b then channels_text p q else [])
unphased-if true p q = inr (ends-after (slots_line (codes "other-channel") (slot_names p 27)) (slots_line (codes "no-channel") (slot_names q 27)) (slots-end (codes "no-channel") (slot_names q 27)))
unphased-if false p q = inl refl

unphased-ended : (s : SetupView) (found : List Found) → IsEnded (unphased_lines s found)
unphased-ended s found =
    unphased-if (lists_system s.head.listed Glonass) (λ slot. any_tells is_of_other_channel s slot found) (λ slot. any_tells is_without_channel s slot found)

joined-ended : (x y : List ℕ) → IsEnded x → IsEnded y → IsEnded (x ++ y)
joined-ended x y (inl e) q = subst (λ (t : List ℕ). IsEnded (t ++ y)) (sym e) q
joined-ended x y (inr p) q = inr (ended-after x y p q)

remarks-ended : (s : SetupView) (found : List Found) → IsEnded (remark_lines s found)
remarks-ended s found = joined-ended (unphased_lines s found) (missing_lines s found) (unphased-ended s found) (missing-ended s found)

pub late-listed : (s : SetupView) (found : List Found) (report_old report_new : Option (List ℕ)) → report_new ≡ with_more report_old (report_of s found) → LateAreListed s (came_of found) report_old report_new
late-listed s found report_old report_new w =
    let remarks = has-more (late_lines s (came_of found)) (lines s found) (remark_lines s found) (lines-listed s found) (remarks-ended s found) in
    let last = has-more (late_lines s (came_of found)) (lines s found ++ remark_lines s found) (count_lines (all_counts s found)) remarks (inr (counts-end (all_counts s found))) in
    let p = subst (λ (t : List ℕ). HasLines (late_lines s (came_of found)) t) (append_assoc (lines s found) (remark_lines s found) (count_lines (all_counts s found))) last in
    (report_of s found, w, (p.all, p.is_text, p.are_marked))
