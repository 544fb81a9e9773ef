-- A whole file, epoch by epoch.
use Rattle.std.proofs.Common.{◌≡◌, ◌+◌, ℕ, Bool, false, List, [], ◌∷◌, ◌++◌, Option, Result, Ok, Err, length, refl, sym, ap, append_assoc, subst, ◌∙◌, arith}
use Rattle.std.specs.Prelude.{IfOk, OnOk, OnErr}
use Rattle.rtk_frame.specs.Stream.{with_more, TakesPart}
use Rattle.rtk_frame.proofs.PublicLaws.{with_more-nil, with_more-with_more}
use Rattle.rtk_rinex.specs.Record.{EpochTableView}
use Rattle.rtk_rinex.specs.Table.{WellFormedTable, table_text}
use Rattle.rtk_rinex.specs.MixedTable.{MixedTable, mixed_table_text}
use Rattle.rtk_cut.specs.declared.counts.CutCounts.{CutCounts}
use Rattle.rtk_cut.specs.declared.part.Part.{Part}
use Rattle.rtk_cut.specs.declared.part.Choice.{Choice}
use Rattle.rtk_tracking.specs.Epochs.{capped}
use Rattle.rtk_cut.specs.Cut.{step_of, kept_after, near_of, choice_of, cut_of, mixed_cut_of}
use Rattle.rtk_cut.specs.Steps.FileTexts.{FileTexts, IsNextIn, part_text, gps_texts, mixed_texts}
use Rattle.rtk_cut.specs.Steps.Pending.{StandsForSlips, StandsForNone}
use Rattle.rtk_cut.specs.Steps.PartFile.{WritingView, still_to_write, CountsWritten, CountsEpochs, TakesEpoch, TakesEpochInPart, TakesEnd, TakesEndInPart}
use Rattle.rtk_cut.proofs.PartFileLemmas.{part-after}

-- some of these epochs were taken, and the others are left, as Left says: a first part of what is to be
-- written is out
pub record HasCut (Left : List EpochTableView → Type 0) (choice : Choice) (f : FileTexts) (epochs : List EpochTableView) (w : WritingView) (counts : CutCounts) (before after : Option (List ℕ)) : Type 0 where
  pub choice_is : w.choice ≡ choice
  pub texts_are : w.texts ≡ f
  pub earlier : List EpochTableView
  pub left : List EpochTableView
  pub are_left : Left left
  pub slips : StandsForSlips w.marks (step_of choice) earlier
  pub done : List ℕ
  pub whole : part_text choice f epochs ≡ done ++ still_to_write choice f w.is_header_out earlier left
  pub out : after ≡ with_more before done
  pub records : counts.records ≡ capped (length earlier)
  pub both : length earlier + length left ≡ length epochs
  pub many : ℕ
  pub written : counts.written ≡ capped many
  pub counted : length (kept_after choice [] epochs) ≡ many + length (kept_after choice earlier left)

-- no epoch was taken
pub cut-none : (Left : List EpochTableView → Type 0) (choice : Choice) (f : FileTexts) (epochs : List EpochTableView) (w : WritingView) (counts : CutCounts) (o : Option (List ℕ)) → w.choice ≡ choice → w.texts ≡ f
    → StandsForNone w.marks → w.is_header_out ≡ false → counts.records ≡ 0 → counts.written ≡ 0 → Left epochs → HasCut Left choice f epochs w counts o o
cut-none Left choice f epochs w counts o same texts none out read written left = record {
  choice_is = same;
  texts_are = texts;
  earlier = [];
  left = epochs;
  are_left = left;
  slips = none (step_of choice);
  done = [];
  whole = ap (λ (b : Bool). still_to_write choice f b [] epochs) (sym out);
  out = sym (with_more-nil o);
  records = read;
  both = omega arith;
  many = 0;
  written = written;
  counted = omega arith;
}

-- a record more was read
pub next-is : (Left : List EpochTableView → Type 0) (IsOf : EpochTableView → Type 0) (epochs : List EpochTableView) → IsNextIn Left IsOf epochs → (e : EpochTableView) × (left : List EpochTableView) × (epochs ≡ e ∷ left) × IsOf e × Left left
next-is Left IsOf [] next = absurd next
next-is Left IsOf (e ∷ es) next = (e, es, refl, next.0, next.1)

-- it was taken
pub cut-more : (Left Left_1 Left_2 : List EpochTableView → Type 0) (IsOf : EpochTableView → Type 0) (choice : Choice) (f : FileTexts) (epochs : List EpochTableView) (w w_1 w_2 : WritingView) (counts counts' : CutCounts) (before mid after : Option (List ℕ))
    → HasCut Left choice f epochs w counts before mid → ((es : List EpochTableView) → Left es → IsNextIn Left_1 IsOf es) → ((es : List EpochTableView) → Left_1 es → Left_2 es) → w_1 ≡ w → w_2.choice ≡ w_1.choice → w_2.texts ≡ w_1.texts
    → ((n : ℕ) → counts.records ≡ capped n → counts'.records ≡ capped (n + 1)) → ((e : EpochTableView) → IsOf e → CountsWritten w_1.choice counts counts' e) → ((e : EpochTableView) → IsOf e → TakesEpoch w_1 w_2 e mid after)
    → HasCut Left_2 choice f epochs w_2 counts' before after
cut-more Left Left_1 Left_2 IsOf choice f epochs w w_1 w_2 counts counts' before mid after so_far next stay same same_choice same_texts reads counts_more takes =
    let n = next-is Left_1 IsOf so_far.left (next so_far.left so_far.are_left) in
    let e : EpochTableView = n.0 in
    let choice_is : w_1.choice ≡ choice = ap (λ (x : WritingView). x.choice) same ∙ so_far.choice_is in
    let texts_are : w_1.texts ≡ f = ap (λ (x : WritingView). x.texts) same ∙ so_far.texts_are in
    let slips : StandsForSlips w_1.marks (step_of w_1.choice) so_far.earlier =
    subst (λ (x : WritingView). StandsForSlips x.marks (step_of w_1.choice) so_far.earlier) (sym same) (subst (λ (x : Choice). StandsForSlips w.marks (step_of x) so_far.earlier) (sym choice_is) so_far.slips) in
    let taken = takes e n.3 so_far.earlier n.1 slips in
    let more : List ℕ = taken.1.0 in
    let count = counts_more e n.3 so_far.earlier n.1 so_far.many so_far.written in
    let old : List ℕ = still_to_write choice f w.is_header_out so_far.earlier so_far.left in
    let rest : List ℕ = still_to_write choice f w_2.is_header_out (e ∷ so_far.earlier) n.1 in
    let writes : old ≡ more ++ rest =
    ap (λ es. still_to_write choice f w.is_header_out so_far.earlier es) n.2
    ∙ sym (ap (λ (x : WritingView). still_to_write choice f x.is_header_out so_far.earlier (e ∷ n.1)) same)
    ∙ sym (ap (λ (x : Choice). still_to_write x f w_1.is_header_out so_far.earlier (e ∷ n.1)) choice_is)
    ∙ sym (ap (λ (x : FileTexts). still_to_write w_1.choice x w_1.is_header_out so_far.earlier (e ∷ n.1)) texts_are)
    ∙ taken.1.1
    ∙ ap (λ (x : FileTexts). more ++ still_to_write w_1.choice x w_2.is_header_out (e ∷ so_far.earlier) n.1) texts_are
    ∙ ap (λ (x : Choice). more ++ still_to_write x f w_2.is_header_out (e ∷ so_far.earlier) n.1) choice_is in
    record {
      choice_is = same_choice ∙ choice_is;
      texts_are = same_texts ∙ texts_are;
      earlier = e ∷ so_far.earlier;
      left = n.1;
      are_left = stay n.1 n.4;
      slips = subst (λ (x : Choice). StandsForSlips w_2.marks (step_of x) (e ∷ so_far.earlier)) choice_is taken.0;
      done = so_far.done ++ more;
      whole = so_far.whole ∙ ap (λ xs. so_far.done ++ xs) writes ∙ sym (append_assoc so_far.done more rest);
      records = reads (length so_far.earlier) so_far.records ∙ ap capped (omega arith);
      both = let was = so_far.both in let one = ap (λ (es : List EpochTableView). length es) n.2 in omega (arith, was, one);
      many = so_far.many + count.0;
      written = count.1;
      counted = so_far.counted ∙ ap (λ (es : List EpochTableView). so_far.many + length (kept_after choice so_far.earlier es)) n.2
          ∙ ap (λ (x : Choice). so_far.many + length (kept_after x so_far.earlier (e ∷ n.1))) (sym choice_is)
          ∙ ap (λ (k : ℕ). so_far.many + k) count.2
          ∙ ap (λ (x : Choice). so_far.many + (count.0 + length (kept_after x (e ∷ so_far.earlier) n.1))) choice_is ∙ omega arith;
      out = taken.1.2 ∙ ap (λ o. with_more o more) so_far.out ∙ with_more-with_more before so_far.done more;
    }

-- what is still to be written, in the words of a writer that goes on
still-is : (choice : Choice) (f : FileTexts) (w w_1 : WritingView) (earlier left : List EpochTableView) → w.choice ≡ choice → w.texts ≡ f → w_1 ≡ w
    → still_to_write choice f w.is_header_out earlier left ≡ still_to_write w_1.choice w_1.texts w_1.is_header_out earlier left
still-is choice f w w_1 earlier left choice_is texts_are same =
    ap (λ (x : Choice). still_to_write x f w.is_header_out earlier left) (sym choice_is)
    ∙ ap (λ (x : FileTexts). still_to_write w.choice x w.is_header_out earlier left) (sym texts_are)
    ∙ ap (λ (x : WritingView). still_to_write x.choice x.texts x.is_header_out earlier left) (sym same)

-- it broke off in a record
pub cut-broken : (Left Left_1 : List EpochTableView → Type 0) (IsOf : EpochTableView → Type 0) (choice : Choice) (f : FileTexts) (epochs : List EpochTableView) (w w_1 : WritingView) (counts : CutCounts) (before mid after : Option (List ℕ))
    → HasCut Left choice f epochs w counts before mid → ((es : List EpochTableView) → Left es → IsNextIn Left_1 IsOf es) → w_1 ≡ w → ((e : EpochTableView) → IsOf e → TakesEpochInPart w_1 e mid after)
    → TakesPart before after (part_text choice f epochs)
cut-broken Left Left_1 IsOf choice f epochs w w_1 counts before mid after so_far next same takes =
    let n = next-is Left_1 IsOf so_far.left (next so_far.left so_far.are_left) in
    let e : EpochTableView = n.0 in
    let choice_is : w_1.choice ≡ choice = ap (λ (x : WritingView). x.choice) same ∙ so_far.choice_is in
    let slips : StandsForSlips w_1.marks (step_of w_1.choice) so_far.earlier =
    subst (λ (x : WritingView). StandsForSlips x.marks (step_of w_1.choice) so_far.earlier) (sym same) (subst (λ (x : Choice). StandsForSlips w.marks (step_of x) so_far.earlier) (sym choice_is) so_far.slips) in
    part-after before mid after so_far.done (still_to_write w_1.choice w_1.texts w_1.is_header_out so_far.earlier (e ∷ n.1)) (part_text choice f epochs)
    (so_far.whole ∙ ap (λ es. so_far.done ++ still_to_write choice f w.is_header_out so_far.earlier es) n.2
    ∙ ap (λ xs. so_far.done ++ xs) (still-is choice f w w_1 so_far.earlier (e ∷ n.1) so_far.choice_is so_far.texts_are same)) so_far.out
    (takes e n.3 so_far.earlier n.1 slips)

-- what is still to be written at the end
end-is : (Left : List EpochTableView → Type 0) (choice : Choice) (f : FileTexts) (epochs : List EpochTableView) (w w_1 : WritingView) (counts : CutCounts) (before mid : Option (List ℕ)) (so_far : HasCut Left choice f epochs w counts before mid)
    → ((es : List EpochTableView) → Left es → es ≡ []) → w_1 ≡ w → part_text choice f epochs ≡ so_far.done ++ still_to_write w_1.choice w_1.texts w_1.is_header_out so_far.earlier []
end-is Left choice f epochs w w_1 counts before mid so_far none same =
    so_far.whole ∙ ap (λ es. so_far.done ++ still_to_write choice f w.is_header_out so_far.earlier es) (none so_far.left so_far.are_left)
    ∙ ap (λ xs. so_far.done ++ xs) (still-is choice f w w_1 so_far.earlier [] so_far.choice_is so_far.texts_are same)

-- all records, and the end
pub cut-all : (Left : List EpochTableView → Type 0) (choice : Choice) (f : FileTexts) (epochs : List EpochTableView) (w w_1 : WritingView) (counts : CutCounts) (before mid after : Option (List ℕ)) → HasCut Left choice f epochs w counts before mid
    → ((es : List EpochTableView) → Left es → es ≡ []) → w_1 ≡ w → TakesEnd w_1 mid after → after ≡ with_more before (part_text choice f epochs)
cut-all Left choice f epochs w w_1 counts before mid after so_far none same takes =
    let rest : List ℕ = still_to_write w_1.choice w_1.texts w_1.is_header_out so_far.earlier [] in
    takes so_far.earlier ∙ ap (λ o. with_more o rest) so_far.out ∙ with_more-with_more before so_far.done rest
    ∙ ap (λ xs. with_more before xs) (sym (end-is Left choice f epochs w w_1 counts before mid so_far none same))

-- it broke off at the end
pub cut-broken_end : (Left : List EpochTableView → Type 0) (choice : Choice) (f : FileTexts) (epochs : List EpochTableView) (w w_1 : WritingView) (counts : CutCounts) (before mid after : Option (List ℕ)) → HasCut Left choice f epochs w counts before mid
    → ((es : List EpochTableView) → Left es → es ≡ []) → w_1 ≡ w → TakesEndInPart w_1 mid after → TakesPart before after (part_text choice f epochs)
cut-broken_end Left choice f epochs w w_1 counts before mid after so_far none same takes =
    part-after before mid after so_far.done (still_to_write w_1.choice w_1.texts w_1.is_header_out so_far.earlier []) (part_text choice f epochs)
    (end-is Left choice f epochs w w_1 counts before mid so_far none same) so_far.out (takes so_far.earlier)

-- so many records the file has, and so many its part
pub counts-all : (Left : List EpochTableView → Type 0) (choice : Choice) (f : FileTexts) (epochs : List EpochTableView) (w : WritingView) (counts : CutCounts) (before mid : Option (List ℕ)) → HasCut Left choice f epochs w counts before mid
    → ((es : List EpochTableView) → Left es → es ≡ []) → CountsEpochs choice epochs counts
counts-all Left choice f epochs w counts before mid so_far none =
    let end : so_far.left ≡ [] = none so_far.left so_far.are_left in
    let over = ap (λ (es : List EpochTableView). length es) end in
    let rest = ap (λ (es : List EpochTableView). length (kept_after choice so_far.earlier es)) end in
    let both = so_far.both in
    let counted = so_far.counted in (
      so_far.records ∙ ap capped (omega (arith, both, over)),
      so_far.written ∙ ap capped (omega (arith, counted, rest)),
    )

-- ---- the file is that of a table

pub gps-part : (choice : Choice) (f : FileTexts) (part : Part) (t : WellFormedTable) → choice ≡ choice_of part (near_of t.epochs) → f ≡ gps_texts t.head t.site t.first → part_text choice f t.epochs ≡ table_text (cut_of part t)
gps-part choice f part t same texts = ap (λ (x : Choice). part_text x f t.epochs) same ∙ ap (λ (x : FileTexts). part_text (choice_of part (near_of t.epochs)) x t.epochs) texts

pub mixed-part : (choice : Choice) (f : FileTexts) (part : Part) (t : MixedTable) → choice ≡ choice_of part (near_of t.epochs) → f ≡ mixed_texts t.head t.site t.first → part_text choice f t.epochs ≡ mixed_table_text (mixed_cut_of part t)
mixed-part choice f part t same texts = ap (λ (x : Choice). part_text x f t.epochs) same ∙ ap (λ (x : FileTexts). part_text (choice_of part (near_of t.epochs)) x t.epochs) texts

-- ---- answers

pub if_ok-map : {T E : Type 0} (r : Result T E) {P Q : T → Type 0} → ((x : T) → P x → Q x) → IfOk r P → IfOk r Q
if_ok-map (Ok x) f p = f x p
if_ok-map (Err e) f p = tt

pub on_err-map : {T E : Type 0} (r : Result T E) {P Q : Type 0} → (P → Q) → OnErr r P → OnErr r Q
on_err-map (Ok x) f p = tt
on_err-map (Err e) f p = f p

pub on_err-from : {T E : Type 0} (r : Result T E) {Q : Type 0} → Q → OnErr r Q
on_err-from (Ok x) q = tt
on_err-from (Err e) q = q

pub on_ok-map : {T E : Type 0} (r : Result T E) {P Q : Type 0} → (P → Q) → OnOk r P → OnOk r Q
on_ok-map (Ok x) f p = f p
on_ok-map (Err e) f p = p
