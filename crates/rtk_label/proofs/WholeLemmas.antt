-- What is read of the whole lines of a text, whatever stands after them: the fields of a label in these lines, and their plain lines.
use Rattle.std.proofs.Common.{◌≡◌, ◌≢◌, ◌<◌, ◌≤◌, ◌⊎◌, inl, inr, ℕ, ◌+◌, ◌-◌, ◌*◌, List, [], ◌∷◌, ◌++◌, length, take, drop, get_or, codes, pos, ap, sym, arith, refl, subst, ◌∙◌, append_assoc, length-append}
use Rattle.std.proofs.lemmas.Bool.{cases_lt}
use Rattle.std.proofs.lemmas.Option.{get_or_from_slice_get}
use Rattle.std.proofs.lemmas.List.{append-nil, length-take, take_all, take-take, take_at, take-append-drop, take-append-le, drop_all, drop_at, drop-drop, drop-take, drop-append-le, length-take-le, length-drop}
use Rattle.std.proofs.lemmas.List.Elements.{All-nil, All-cons}
use Rattle.std.specs.Int.{IsInRange}
use Rattle.rtk_obs.specs.declared.code.Code.TheVariants.{G1C}
use Rattle.rtk_rinex.specs.Header.{IsMarker}
use Rattle.rtk_rinex.specs.Table.{WellFormedTable}
use Rattle.rtk_label.specs.Fields.{marker_number_line}
use Rattle.rtk_label.specs.Labelled.{LabelView, IsLabel, blank_label}
use Rattle.rtk_label.specs.LabelWriting.{whole_len, whole_lines, IsCutText}
use Rattle.rtk_label.specs.Steps.Fronts.{plain_columns, plain_offset, plain_top, plain_middle, plain_front, plain_file}
use Rattle.rtk_label.specs.Steps.Shown.{IsFieldIn, IsOffsetIn, IsNumberIn, IsLabelIn, IsRead}
use Rattle.rtk_label.proofs.AgreeLemmas.{agree_piece, same_columns, take_append, drop_append, alike_up_to, alike_from, before_or_after, IsOne, blank_past, shown_in}
use Rattle.rtk_label.proofs.ChoiceLemmas.{none_is, blank_or_filled}
use Rattle.rtk_label.proofs.FieldLemmas.{length-plain_columns}
use Rattle.rtk_label.proofs.LineLemmas.{height_coordinate}
use Rattle.rtk_label.proofs.FrontLemmas.{length-piece, top_widths, top_columns, top_cut, top_sizes, middle_widths, cells_of, middle_columns, middle_cut, middle_sizes, cells_are}
use Rattle.rtk_label.proofs.PlainLemmas.{blank_is_label, glue_three, plain_cells, plain_cells_are, plain_middle_is}
use Rattle.rtk_label.proofs.FileParts.{FileParts, AreFileParts, text_of_parts, parts_of, BeginsEveryParts, WasOfParts}
use Rattle.rtk_label.proofs.TableLemmas.{plain_parts, long-after}
use Rattle.rtk_label.proofs.PartedLemmas.{within, length-plain_top, length-first, length-next, length-front, six_cut, text_cut, was_labelled, is_plain, cut_text}
use Rattle.rtk_label.proofs.LawLemmas.{read_blank, read_filled}

-- ---- columns show one thing

one_field : (w : ℕ) → IsOne (IsFieldIn w)
one_field w columns f g a b =
    elim (blank_or_filled f) [
      | inl none ↦ elim (blank_or_filled g) [ inl blank ↦ none_is f none ∙ sym (none_is g blank) | inr some ↦ a.all g b.good (b.some some) ]
      | inr some ↦ sym (b.all f a.good (a.some some))
    ]

one_offset : IsOne IsOffsetIn
one_offset columns f g a b =
    elim (blank_or_filled f) [
      | inl none ↦ elim (blank_or_filled g) [ inl blank ↦ none_is f none ∙ sym (none_is g blank) | inr some ↦ a.all g (b.good some) (b.some some) ]
      | inr some ↦ sym (b.all f (a.good some) (a.some some))
    ]

one_number : IsOne IsNumberIn
one_number line f g a b =
    elim (blank_or_filled f) [
      | inl none ↦ elim (blank_or_filled g) [ inl blank ↦ none_is f none ∙ sym (none_is g blank) | inr some ↦ a.all g b.good some (b.some some) ]
      | inr some ↦ sym (b.all f a.good some (a.some some))
    ]

none_less : (n : ℕ) → n - 0 ≡ n
none_less n = omega arith

-- ---- plain columns of texts that are alike up to a line

made_alike : (In : List ℕ → List ℕ → Type 0) (F : List ℕ → List ℕ → List ℕ) (n c w : ℕ) (a b f g : List ℕ) → IsOne In → (n ≤ c) ⊎ (c + w ≤ n) → take n a ≡ take n b
    → In (take w (drop c a)) f → In (take w (drop c b)) g → take (n - c) (F f (take w (drop c a))) ≡ take (n - c) (F g (take w (drop c b)))
made_alike In F n c w a b f g one place e is other =
    elim place [
      | inl past ↦
          let none : n - c ≡ 0 = omega (arith, past) in
          ap (λ (k : ℕ). take k (F f (take w (drop c a)))) none ∙ sym (ap (λ (k : ℕ). take k (F g (take w (drop c b)))) none)
      | inr inside ↦
          let same : take w (drop c a) ≡ take w (drop c b) = same_columns n c w a b inside e in
          let told : f ≡ g = one (take w (drop c b)) f g (rw same at is) other in
          ap (λ (x : List ℕ). take (n - c) (F f x)) same ∙ ap (λ (h : List ℕ). take (n - c) (F h (take w (drop c b)))) told
    ]

-- plain columns past a line, where the label shows no field
made_from : (F : List ℕ → List ℕ → List ℕ) (n c w : ℕ) (f columns : List ℕ) → F [] columns ≡ columns → (n ≤ c) ⊎ (c + w ≤ n) → length (F f columns) ≡ w → length columns ≡ w
    → (n ≤ c → f ≡ []) → drop (n - c) (F f columns) ≡ drop (n - c) columns
made_from F n c w f columns nothing place size long blank =
    elim place [
      | inl past ↦ ap (λ (h : List ℕ). drop (n - c) (F h columns)) (blank past) ∙ ap (drop (n - c)) nothing
      | inr inside ↦ drop_all (n - c) (F f columns) (omega (arith, inside, size)) ∙ sym (drop_all (n - c) columns (omega (arith, inside, long)))
    ]

top_alike : (a b : List ℕ) (n k : ℕ) (l m : LabelView) → length a ≡ 243 → length b ≡ 243 → n ≡ 81 * k → take n a ≡ take n b
    → IsFieldIn 20 (take 20 (drop 101 a)) l.run_by → IsFieldIn 20 (take 20 (drop 101 b)) m.run_by → take n (plain_top l a) ≡ take n (plain_top m b)
top_alike a b n k l m la lb lines e is other =
    let x : List ℕ = plain_columns 20 l.run_by (take 20 (drop 101 a)) in
    let y : List ℕ = plain_columns 20 m.run_by (take 20 (drop 101 b)) in
    subst (λ (j : ℕ). take j (plain_top l a) ≡ take j (plain_top m b)) (none_less n)
    (ap (take (n - 0)) (glue_three (take 101 a) x (take 122 (drop 121 a)))
    ∙ alike_up_to n 0 top_widths (top_columns a x) (top_columns b y)
    (top_sizes a x la (length-plain_columns 20 l.run_by _ (length-piece 101 20 a (omega (arith, la)))))
    (top_sizes b y lb (length-plain_columns 20 m.run_by _ (length-piece 101 20 b (omega (arith, lb))))) (
      agree_piece n 0 101 a b e,
      (
        made_alike (IsFieldIn 20) (plain_columns 20) n 101 20 a b l.run_by m.run_by (one_field 20) (before_or_after n k 1 101 20 lines (omega arith) (omega arith)) e is other,
        (agree_piece n 121 122 a b e, tt),
      ),
    )
    ∙ sym (ap (take (n - 0)) (glue_three (take 101 b) y (take 122 (drop 121 b)))))

top_from : (a : List ℕ) (n k : ℕ) (l : LabelView) → length a ≡ 243 → n ≡ 81 * k → (n ≤ 101 → l.run_by ≡ []) → drop n (plain_top l a) ≡ drop n a
top_from a n k l la lines blank =
    let field : List ℕ = take 20 (drop 101 a) in
    let x : List ℕ = plain_columns 20 l.run_by field in
    let long : length field ≡ 20 = length-piece 101 20 a (omega (arith, la)) in
    let size : length x ≡ 20 = length-plain_columns 20 l.run_by field long in
    subst (λ (j : ℕ). drop j (plain_top l a) ≡ drop j a) (none_less n)
    (ap (drop (n - 0)) (glue_three (take 101 a) x (take 122 (drop 121 a)))
    ∙ alike_from n 0 top_widths (top_columns a x) (top_columns a field) (top_sizes a x la size) (top_sizes a field la long)
    (refl, (made_from (plain_columns 20) n 101 20 l.run_by field refl (before_or_after n k 1 101 20 lines (omega arith) (omega arith)) size long blank, (refl, tt)))
    ∙ ap (drop (n - 0)) (sym (top_cut a la)))

middle_alike : (a b ta tb na nb : List ℕ) (n k : ℕ) (l m : LabelView) → length a ≡ 486 → length b ≡ 486 → n ≡ 81 * k → take n a ≡ take n b
    → IsLabelIn ta na a l → IsLabelIn tb nb b m → take n (plain_middle l a) ≡ take n (plain_middle m b)
middle_alike a b ta tb na nb n k l m la lb lines e is other =
    let x = plain_cells l a in
    let y = plain_cells m b in
    subst (λ (j : ℕ). take j (plain_middle l a) ≡ take j (plain_middle m b)) (none_less n)
    (ap (take (n - 0)) (plain_middle_is l a)
    ∙ alike_up_to n 0 middle_widths (middle_columns a x) (middle_columns b y) (middle_sizes a x la (plain_cells_are l a la)) (middle_sizes b y lb (plain_cells_are m b lb)) (
      agree_piece n 0 81 a b e,
      (
        made_alike (IsFieldIn 20) (plain_columns 20) n 81 20 a b l.observer m.observer (one_field 20) (before_or_after n k 1 81 20 lines (omega arith) (omega arith)) e is.observer other.observer,
        (
          made_alike (IsFieldIn 40) (plain_columns 40) n 101 40 a b l.agency m.agency (one_field 40) (before_or_after n k 1 101 40 lines (omega arith) (omega arith)) e is.agency other.agency,
          (
            agree_piece n 141 21 a b e,
            (
              made_alike (IsFieldIn 20) (plain_columns 20) n 162 20 a b l.receiver_number m.receiver_number (one_field 20) (before_or_after n k 2 162 20 lines (omega arith) (omega arith)) e is.receiver_number other.receiver_number,
              (
                made_alike (IsFieldIn 20) (plain_columns 20) n 182 20 a b l.receiver_type m.receiver_type (one_field 20) (before_or_after n k 2 182 20 lines (omega arith) (omega arith)) e is.receiver_type other.receiver_type,
                (
                  made_alike (IsFieldIn 20) (plain_columns 20) n 202 20 a b l.receiver_version m.receiver_version (one_field 20) (before_or_after n k 2 202 20 lines (omega arith) (omega arith)) e is.receiver_version other.receiver_version,
                  (
                    agree_piece n 222 21 a b e,
                    (
                      made_alike (IsFieldIn 20) (plain_columns 20) n 243 20 a b l.antenna_number m.antenna_number (one_field 20) (before_or_after n k 3 243 20 lines (omega arith) (omega arith)) e is.antenna_number other.antenna_number,
                      (
                        made_alike (IsFieldIn 20) (plain_columns 20) n 263 20 a b l.antenna_type m.antenna_type (one_field 20) (before_or_after n k 3 263 20 lines (omega arith) (omega arith)) e is.antenna_type other.antenna_type,
                        (
                          agree_piece n 283 122 a b e,
                          (
                            made_alike IsOffsetIn plain_offset n 405 14 a b l.height m.height one_offset (before_or_after n k 5 405 14 lines (omega arith) (omega arith)) e is.height other.height,
                            (
                              made_alike IsOffsetIn plain_offset n 419 14 a b l.east m.east one_offset (before_or_after n k 5 419 14 lines (omega arith) (omega arith)) e is.east other.east,
                              (
                                made_alike IsOffsetIn plain_offset n 433 14 a b l.north m.north one_offset (before_or_after n k 5 433 14 lines (omega arith) (omega arith)) e is.north other.north,
                                (agree_piece n 447 39 a b e, tt),
                              ),
                            ),
                          ),
                        ),
                      ),
                    ),
                  ),
                ),
              ),
            ),
          ),
        ),
      ),
    )
    ∙ sym (ap (take (n - 0)) (plain_middle_is m b)))

-- ---- a label without fields past a line of six

record IsBlankFrom (n : ℕ) (l : LabelView) : Type 0 where
  pub observer : n ≤ 81 → l.observer ≡ []
  pub agency : n ≤ 101 → l.agency ≡ []
  pub receiver_number : n ≤ 162 → l.receiver_number ≡ []
  pub receiver_type : n ≤ 182 → l.receiver_type ≡ []
  pub receiver_version : n ≤ 202 → l.receiver_version ≡ []
  pub antenna_number : n ≤ 243 → l.antenna_number ≡ []
  pub antenna_type : n ≤ 263 → l.antenna_type ≡ []
  pub height : n ≤ 405 → l.height ≡ []
  pub east : n ≤ 419 → l.east ≡ []
  pub north : n ≤ 433 → l.north ≡ []

-- as in the lines of a plain text
blank_from : (a p ta tp na np : List ℕ) (n : ℕ) (l : LabelView) → drop n a ≡ drop n p → IsLabelIn ta na a l → IsLabelIn tp np p blank_label → IsBlankFrom n l
blank_from a p ta tp na np n l e is none = record {
  observer = blank_past (IsFieldIn 20) n 81 20 a p l.observer (one_field 20) e is.observer none.observer;
  agency = blank_past (IsFieldIn 40) n 101 40 a p l.agency (one_field 40) e is.agency none.agency;
  receiver_number = blank_past (IsFieldIn 20) n 162 20 a p l.receiver_number (one_field 20) e is.receiver_number none.receiver_number;
  receiver_type = blank_past (IsFieldIn 20) n 182 20 a p l.receiver_type (one_field 20) e is.receiver_type none.receiver_type;
  receiver_version = blank_past (IsFieldIn 20) n 202 20 a p l.receiver_version (one_field 20) e is.receiver_version none.receiver_version;
  antenna_number = blank_past (IsFieldIn 20) n 243 20 a p l.antenna_number (one_field 20) e is.antenna_number none.antenna_number;
  antenna_type = blank_past (IsFieldIn 20) n 263 20 a p l.antenna_type (one_field 20) e is.antenna_type none.antenna_type;
  height = blank_past IsOffsetIn n 405 14 a p l.height one_offset e is.height none.height;
  east = blank_past IsOffsetIn n 419 14 a p l.east one_offset e is.east none.east;
  north = blank_past IsOffsetIn n 433 14 a p l.north one_offset e is.north none.north;
}

middle_from : (a : List ℕ) (n k : ℕ) (l : LabelView) → length a ≡ 486 → n ≡ 81 * k → IsBlankFrom n l → drop n (plain_middle l a) ≡ drop n a
middle_from a n k l la lines b =
    let x = plain_cells l a in
    let y = cells_of a in
    let s = plain_cells_are l a la in
    let t = cells_are a la in
    subst (λ (j : ℕ). drop j (plain_middle l a) ≡ drop j a) (none_less n)
    (ap (drop (n - 0)) (plain_middle_is l a)
    ∙ alike_from n 0 middle_widths (middle_columns a x) (middle_columns a y) (middle_sizes a x la s) (middle_sizes a y la t) (
      refl,
      (
        made_from (plain_columns 20) n 81 20 l.observer y.observer refl (before_or_after n k 1 81 20 lines (omega arith) (omega arith)) s.observer t.observer b.observer,
        (
          made_from (plain_columns 40) n 101 40 l.agency y.agency refl (before_or_after n k 1 101 40 lines (omega arith) (omega arith)) s.agency t.agency b.agency,
          (
            refl,
            (
              made_from (plain_columns 20) n 162 20 l.receiver_number y.receiver_number refl (before_or_after n k 2 162 20 lines (omega arith) (omega arith)) s.receiver_number t.receiver_number b.receiver_number,
              (
                made_from (plain_columns 20) n 182 20 l.receiver_type y.receiver_type refl (before_or_after n k 2 182 20 lines (omega arith) (omega arith)) s.receiver_type t.receiver_type b.receiver_type,
                (
                  made_from (plain_columns 20) n 202 20 l.receiver_version y.receiver_version refl (before_or_after n k 2 202 20 lines (omega arith) (omega arith)) s.receiver_version t.receiver_version b.receiver_version,
                  (
                    refl,
                    (
                      made_from (plain_columns 20) n 243 20 l.antenna_number y.antenna_number refl (before_or_after n k 3 243 20 lines (omega arith) (omega arith)) s.antenna_number t.antenna_number b.antenna_number,
                      (
                        made_from (plain_columns 20) n 263 20 l.antenna_type y.antenna_type refl (before_or_after n k 3 263 20 lines (omega arith) (omega arith)) s.antenna_type t.antenna_type b.antenna_type,
                        (
                          refl,
                          (
                            made_from plain_offset n 405 14 l.height y.height refl (before_or_after n k 5 405 14 lines (omega arith) (omega arith)) s.height t.height b.height,
                            (
                              made_from plain_offset n 419 14 l.east y.east refl (before_or_after n k 5 419 14 lines (omega arith) (omega arith)) s.east t.east b.east,
                              (
                                made_from plain_offset n 433 14 l.north y.north refl (before_or_after n k 5 433 14 lines (omega arith) (omega arith)) s.north t.north b.north,
                                (refl, tt),
                              ),
                            ),
                          ),
                        ),
                      ),
                    ),
                  ),
                ),
              ),
            ),
          ),
        ),
      ),
    )
    ∙ ap (drop (n - 0)) (sym (middle_cut a la)))

-- six lines of which the first show this label, as others do, and the last are plain
middle_shows : (a b x ta tb tx na nb : List ℕ) (n k : ℕ) (l : LabelView) → n ≡ 81 * k → take n x ≡ take n a → drop n x ≡ drop n b
    → IsLabelIn ta na a l → IsLabelIn tb nb b blank_label → IsBlankFrom n l → IsFieldIn 20 (take 20 (drop 101 tx)) l.run_by → IsLabelIn tx na x l
middle_shows a b x ta tb tx na nb n k l lines up past is none blank run = record {
  run_by = run;
  marker_number = is.marker_number;
  observer = shown_in (IsFieldIn 20) n 81 20 a b x l.observer (before_or_after n k 1 81 20 lines (omega arith) (omega arith)) up past is.observer none.observer blank.observer;
  agency = shown_in (IsFieldIn 40) n 101 40 a b x l.agency (before_or_after n k 1 101 40 lines (omega arith) (omega arith)) up past is.agency none.agency blank.agency;
  receiver_number = shown_in (IsFieldIn 20) n 162 20 a b x l.receiver_number (before_or_after n k 2 162 20 lines (omega arith) (omega arith)) up past is.receiver_number none.receiver_number blank.receiver_number;
  receiver_type = shown_in (IsFieldIn 20) n 182 20 a b x l.receiver_type (before_or_after n k 2 182 20 lines (omega arith) (omega arith)) up past is.receiver_type none.receiver_type blank.receiver_type;
  receiver_version = shown_in (IsFieldIn 20) n 202 20 a b x l.receiver_version (before_or_after n k 2 202 20 lines (omega arith) (omega arith)) up past is.receiver_version none.receiver_version blank.receiver_version;
  antenna_number = shown_in (IsFieldIn 20) n 243 20 a b x l.antenna_number (before_or_after n k 3 243 20 lines (omega arith) (omega arith)) up past is.antenna_number none.antenna_number blank.antenna_number;
  antenna_type = shown_in (IsFieldIn 20) n 263 20 a b x l.antenna_type (before_or_after n k 3 263 20 lines (omega arith) (omega arith)) up past is.antenna_type none.antenna_type blank.antenna_type;
  height = shown_in IsOffsetIn n 405 14 a b x l.height (before_or_after n k 5 405 14 lines (omega arith) (omega arith)) up past is.height none.height blank.height;
  east = shown_in IsOffsetIn n 419 14 a b x l.east (before_or_after n k 5 419 14 lines (omega arith) (omega arith)) up past is.east none.east blank.east;
  north = shown_in IsOffsetIn n 433 14 a b x l.north (before_or_after n k 5 433 14 lines (omega arith) (omega arith)) up past is.north none.north blank.north;
}

-- ---- nine lines without the fields of a label

few_or_four : (n k : ℕ) → n ≡ 81 * k → (n ≤ 243) ⊎ (324 ≤ n)
few_or_four n k lines = elim (cases_lt n 324) [ inl few ↦ inl (omega (arith, lines, few)) | inr four ↦ inr four ]

-- the first three lines of texts that are alike
three_alike : (n : ℕ) (s t : List ℕ) → take n s ≡ take n t → take n (take 243 s) ≡ take n (take 243 t)
three_alike n s t e = subst (λ (j : ℕ). take j (take 243 s) ≡ take j (take 243 t)) (none_less n) (agree_piece n 0 243 s t e)

-- so many of the first n bytes are of the six lines
lines_left : (number : List ℕ) (n from k : ℕ) → (length number ≡ 0 → from ≡ 0) → (0 < length number → from ≡ 81) → n ≡ 81 * k → (j : ℕ) × (n - (from + 243) ≡ 81 * j)
lines_left number n from k blank filled lines =
    elim (blank_or_filled number) [
      | inl none ↦ (k - 3, omega (arith, blank none, lines))
      | inr some ↦ (k - 4, omega (arith, filled some, lines))
    ]

front_cut : (p q : List ℕ) (n from : ℕ) → length p ≡ 243 → 243 ≤ n - from → take (n - from) (p ++ q) ≡ p ++ take (n - (from + 243)) q
front_cut p q n from size past =
    let left : n - from - length p ≡ n - (from + 243) = omega (arith, size) in
    take_append (n - from) p q ∙ ap (λ (x : List ℕ). x ++ take (n - from - length p) q) (take_all (n - from) p (omega (arith, size, past)))
    ∙ ap (λ (j : ℕ). p ++ take j q) left

four_alike : (s t ns nt : List ℕ) (n from k : ℕ) (l m : LabelView) → IsRead s ns from l → IsRead t nt from m → n ≡ 81 * k → take n s ≡ take n t → 324 ≤ n
    → take (n - from) (plain_front s from l) ≡ take (n - from) (plain_front t from m)
four_alike s t ns nt n from k l m r q lines e four =
    let low : from ≤ 81 = within s ns from l r in
    let j = lines_left ns n from k r.blank r.filled lines in
    let six : ℕ = n - (from + 243) in
    let ps : List ℕ = plain_top l (take 243 s) in
    let pt : List ℕ = plain_top m (take 243 t) in
    let ms : List ℕ = plain_middle l (take 486 (drop (from + 243) s)) in
    let mt : List ℕ = plain_middle m (take 486 (drop (from + 243) t)) in
    let size : length ps ≡ 243 = length-plain_top l (take 243 s) (length-first s r.long) in
    let long : length pt ≡ 243 = length-plain_top m (take 243 t) (length-first t q.long) in
    let top : ps ≡ pt =
    sym (take_all n ps (omega (arith, size, four)))
    ∙ top_alike (take 243 s) (take 243 t) n k l m (length-first s r.long) (length-first t q.long) lines (three_alike n s t e) r.label.run_by q.label.run_by
    ∙ take_all n pt (omega (arith, long, four)) in
    let middle : take six ms ≡ take six mt =
    middle_alike _ _ _ _ _ _ six j.0 l m (length-next s from r.long low) (length-next t from q.long low) j.1 (agree_piece n (from + 243) 486 s t e) r.label q.label in
    front_cut ps ms n from size (omega (arith, low, four)) ∙ ap (λ (x : List ℕ). x ++ take six ms) top ∙ ap (λ (x : List ℕ). pt ++ x) middle
    ∙ sym (front_cut pt mt n from long (omega (arith, low, four)))

few_alike : (s t ns nt : List ℕ) (n fs ft k : ℕ) (l m : LabelView) → IsRead s ns fs l → IsRead t nt ft m → n ≡ 81 * k → take n s ≡ take n t → n ≤ 243 → fs ≡ 0
    → take (n - fs) (plain_front s fs l) ≡ take (n - fs) (plain_front t ft m)
few_alike s t ns nt n fs ft k l m r q lines e few zero =
    let same : n - fs ≡ n = omega (arith, zero) in
    let ps : List ℕ = plain_top l (take 243 s) in
    let pt : List ℕ = plain_top m (take 243 t) in
    let ms : List ℕ = plain_middle l (take 486 (drop (fs + 243) s)) in
    let mt : List ℕ = plain_middle m (take 486 (drop (ft + 243) t)) in
    let size : length ps ≡ 243 = length-plain_top l (take 243 s) (length-first s r.long) in
    let long : length pt ≡ 243 = length-plain_top m (take 243 t) (length-first t q.long) in
    ap (λ (j : ℕ). take j (ps ++ ms)) same ∙ take-append-le n ps ms (omega (arith, size, few))
    ∙ top_alike (take 243 s) (take 243 t) n k l m (length-first s r.long) (length-first t q.long) lines (three_alike n s t e) r.label.run_by q.label.run_by
    ∙ sym (take-append-le n pt mt (omega (arith, long, few))) ∙ sym (ap (λ (j : ℕ). take j (pt ++ mt)) same)

one_from : (ns nt : List ℕ) (fs ft : ℕ) → ns ≡ nt → (length ns ≡ 0 → fs ≡ 0) → (0 < length ns → fs ≡ 81) → (length nt ≡ 0 → ft ≡ 0) → (0 < length nt → ft ≡ 81) → ft ≡ fs
one_from ns nt fs ft e blank filled other full =
    let size : length ns ≡ length nt = ap length e in
    elim (blank_or_filled ns) [
      | inl none ↦ other (omega (arith, size, none)) ∙ sym (blank none)
      | inr some ↦ full (omega (arith, size, some)) ∙ sym (filled some)
    ]

-- whole lines that are alike have one plain text, whatever stands after them
front_alike : (s t ns nt : List ℕ) (n fs ft k : ℕ) (l m : LabelView) → IsRead s ns fs l → IsRead t nt ft m → n ≡ 81 * k → take n s ≡ take n t → (n < 324 → fs ≡ 0)
    → take (n - fs) (plain_front s fs l) ≡ take (n - fs) (plain_front t ft m)
front_alike s t ns nt n fs ft k l m r q lines e zero =
    elim (few_or_four n k lines) [
      | inl few ↦ few_alike s t ns nt n fs ft k l m r q lines e few (zero (omega (arith, few)))
      | inr four ↦
          let fourth : take 81 (drop 243 s) ≡ take 81 (drop 243 t) = same_columns n 243 81 s t (omega (arith, four)) e in
          let same : ft ≡ fs = one_from ns nt fs ft (one_number (take 81 (drop 243 t)) ns nt (rw fourth at r.line) q.line) r.blank r.filled q.blank q.filled in
          four_alike s t ns nt n fs k l m r (subst (λ (f : ℕ). IsRead t nt f m) same q) lines e four
          ∙ ap (λ (f : ℕ). take (n - fs) (plain_front t f m)) (sym same)
    ]

-- ---- whole lines, and lines of a plain text in the place of those that they lack

-- what is read of the whole lines of a text: the lines of a file without a label stand after them
pub record IsReadWhole (whole ten number front : List ℕ) (from k : ℕ) (l : LabelView) : Type 0 where
  pub many : length whole ≡ 81 * k
  pub few : length whole ≤ 729
  pub ten_is : ten ≡ take 810 (whole ++ drop (length whole - from) plain_file)
  pub none : length whole < 324 → number ≡ []
  pub read : IsRead ten number from l
  pub front_is : front ≡ plain_front ten from l

zero_from : (whole ten number front : List ℕ) (from k : ℕ) (l : LabelView) → IsReadWhole whole ten number front from k l → length whole < 324 → from ≡ 0
zero_from whole ten number front from k l c few = c.read.blank (ap length (c.none few))

from_within : (whole ten number front : List ℕ) (from k : ℕ) (l : LabelView) → IsReadWhole whole ten number front from k l → from ≤ length whole
from_within whole ten number front from k l c =
    elim (few_or_four (length whole) k c.many) [
      | inl few ↦ omega (arith, zero_from whole ten number front from k l c (omega (arith, few)))
      | inr four ↦ omega (arith, four, within ten number from l c.read)
    ]

ten_begins : (whole ten number front : List ℕ) (from k : ℕ) (l : LabelView) → IsReadWhole whole ten number front from k l → take (length whole) ten ≡ whole
ten_begins whole ten number front from k l c =
    ap (take (length whole)) c.ten_is ∙ take-take (length whole) 810 (whole ++ drop (length whole - from) plain_file) (omega (arith, c.few))
    ∙ take_at whole (drop (length whole - from) plain_file) (length whole) refl

read_of : (g : LabelView) (p : FileParts) → IsLabel g → AreFileParts p → (f : ℕ) × IsRead (text_of_parts g p) g.marker_number f g
read_of g p is good =
    elim (blank_or_filled g.marker_number) [
      | inl none ↦ (0, read_blank (text_of_parts g p) g p is good refl none)
      | inr some ↦ (81, read_filled (text_of_parts g p) g p is good refl some)
    ]

-- the plain lines begin the plain text of parts, if the whole lines begin their text with a label
pub whole_begins : (whole ten number front : List ℕ) (from k : ℕ) (l : LabelView) → IsReadWhole whole ten number front from k l
    → BeginsEveryParts whole (take (length whole - from) front)
whole_begins whole ten number front from k l c p g rest good is for e =
    let text : List ℕ = text_of_parts g p in
    let w : ℕ = length whole in
    let n : ℕ = w - from in
    let r = read_of g p is good in
    let plain : List ℕ = plain_front text r.0 g in
    let tail : List ℕ = drop (r.0 + 729) text in
    let up : take w ten ≡ take w text = ten_begins whole ten number front from k l c ∙ sym (ap (take w) (sym e) ∙ take_at whole rest w refl) in
    let same : take n front ≡ take n plain =
    ap (take n) c.front_is ∙ front_alike ten text number g.marker_number w from r.0 k l g c.read r.1 c.many up (zero_from whole ten number front from k l c) in (
      drop n plain ++ tail,
      ap (λ (x : List ℕ). x ++ (drop n plain ++ tail)) same ∙ sym (append_assoc (take n plain) (drop n plain) tail) ∙ ap (λ (x : List ℕ). x ++ tail) (take-append-drop n plain)
          ∙ (is_plain text g.marker_number r.0 g g p r.1 good is for refl).plain,
    )

-- a plain text after whole lines, `from` bytes of which it has not
past : (whole plain : List ℕ) (from c : ℕ) → from ≤ length whole → length whole ≤ c → drop c (whole ++ drop (length whole - from) plain) ≡ drop (c - from) plain
past whole plain from c low high =
    let w : ℕ = length whole in
    let sum : w - from + (c - w) ≡ c - from = omega (arith, low, high) in
    drop_append c whole (drop (w - from) plain) ∙ ap (λ (x : List ℕ). x ++ drop (c - w) (drop (w - from) plain)) (drop_all c whole high)
    ∙ drop-drop (c - w) (w - from) plain ∙ ap (λ (j : ℕ). drop j plain) sum

drop_of_take : (n w : ℕ) (s : List ℕ) → n ≤ w → drop n (take w s) ≡ take (w - n) (drop n s)
drop_of_take n w s h = let sum : n + (w - n) ≡ w = omega (arith, h) in ap (λ (j : ℕ). drop n (take j s)) (sym sum) ∙ drop-take n (w - n) s

middle_past : (whole plain : List ℕ) (from : ℕ) → from ≤ length whole → length whole ≤ 729
    → drop (length whole - (from + 243)) (take 486 (drop (from + 243) (whole ++ drop (length whole - from) plain))) ≡ drop (length whole - (from + 243)) (take 486 (drop 243 plain))
middle_past whole plain from low few =
    let w : ℕ = length whole in
    let n : ℕ = w - (from + 243) in
    let all : List ℕ = whole ++ drop (w - from) plain in
    let sum : from + 243 + n - from ≡ 243 + n = omega arith in
    let same : drop n (drop (from + 243) all) ≡ drop n (drop 243 plain) =
    drop-drop n (from + 243) all ∙ past whole plain from (from + 243 + n) low (omega arith) ∙ ap (λ (j : ℕ). drop j plain) sum ∙ sym (drop-drop n 243 plain) in
    drop_of_take n 486 (drop (from + 243) all) (omega (arith, few)) ∙ ap (take (486 - n)) same ∙ sym (drop_of_take n 486 (drop 243 plain) (omega (arith, few)))

top_past : (whole plain : List ℕ) (from k : ℕ) → length whole ≡ 81 * k → (length whole < 324 → from ≡ 0)
    → drop (length whole) (take 243 (whole ++ drop (length whole - from) plain)) ≡ drop (length whole) (take 243 plain)
top_past whole plain from k lines zero =
    let w : ℕ = length whole in
    let all : List ℕ = whole ++ drop (w - from) plain in
    elim (few_or_four w k lines) [
      | inl few ↦
          let none : from ≡ 0 = zero (omega (arith, few)) in
          let same : w - from ≡ w = omega (arith, none) in
          drop_of_take w 243 all few ∙ ap (take (243 - w)) (past whole plain from w (omega (arith, none)) (omega arith) ∙ ap (λ (j : ℕ). drop j plain) same)
          ∙ sym (drop_of_take w 243 plain few)
      | inr four ↦ drop_all w (take 243 all) (omega (arith, four, length-take 243 all)) ∙ sym (drop_all w (take 243 plain) (omega (arith, four, length-take 243 plain)))
    ]

-- ---- the plain file of these lines

no_blank : (x : ℕ) → x ≡ 45 → x ≢ 32
no_blank x e f = absurd (omega (arith, e, f))

dash_marker : IsMarker (codes "-")
dash_marker = (
  (omega arith, omega arith),
  All-cons (λ x. IsInRange 32 126 x) 45 [] (omega arith, omega arith) (All-nil (λ x. IsInRange 32 126 x)),
  λ e. no_blank (get_or (codes "-") 0 0) refl (get_or_from_slice_get (codes "-") 0 32 0 e),
  λ e. no_blank (get_or (codes "-") 0 0) refl (get_or_from_slice_get (codes "-") 0 32 0 e),
)

abbrev plain_table : WellFormedTable
plain_table = record {
  head = record { marker = codes "-"; listed = G1C ∷ []; made = 0 };
  site = record { x = pos 0; y = pos 0; z = pos 0; height = 0 };
  first = 0;
  epochs = [];
}

plain_reads : IsRead plain_file [] 0 blank_label
plain_reads =
    let zero = height_coordinate 0 (omega arith) in
    read_blank plain_file blank_label (parts_of plain_table) blank_is_label (record { marker = dash_marker; site = (zero, zero, zero, omega arith); more = long-after plain_table })
    (sym (append-nil plain_file) ∙ plain_parts plain_table) refl

run_blank : (whole ten number front : List ℕ) (from k : ℕ) (l : LabelView) → IsReadWhole whole ten number front from k l → length whole ≤ 101 → l.run_by ≡ []
run_blank whole ten number front from k l c =
    let all : List ℕ = whole ++ drop (length whole - from) plain_file in
    let three : take 243 ten ≡ take 243 all = ap (take 243) c.ten_is ∙ take-take 243 810 all (omega arith) in
    blank_past (IsFieldIn 20) (length whole) 101 20 (take 243 ten) (take 243 plain_file) l.run_by (one_field 20)
    (ap (drop (length whole)) three ∙ top_past whole plain_file from k c.many (zero_from whole ten number front from k l c)) c.read.label.run_by plain_reads.label.run_by

middle_blank : (whole ten number front : List ℕ) (from k : ℕ) (l : LabelView) → IsReadWhole whole ten number front from k l → IsBlankFrom (length whole - (from + 243)) l
middle_blank whole ten number front from k l c =
    let all : List ℕ = whole ++ drop (length whole - from) plain_file in
    let n : ℕ = length whole - (from + 243) in
    let six : take 486 (drop (from + 243) ten) ≡ take 486 (drop (from + 243) all) =
    same_columns 810 (from + 243) 486 ten all (omega (arith, within ten number from l c.read)) (ap (take 810) c.ten_is ∙ take-take 810 810 all (omega arith)) in
    blank_from _ _ _ _ _ _ n l (ap (drop n) six ∙ middle_past whole plain_file from (from_within whole ten number front from k l c) c.few) c.read.label plain_reads.label

-- ---- any plain text after the whole lines

fourth_with : (whole ten number front plain : List ℕ) (from k : ℕ) (l : LabelView) → IsReadWhole whole ten number front from k l → IsRead plain [] 0 blank_label
    → take (length whole) (whole ++ drop (length whole - from) plain) ≡ take (length whole) ten
    → IsNumberIn (take 81 (drop 243 (whole ++ drop (length whole - from) plain))) number
fourth_with whole ten number front plain from k l c f up =
    let w : ℕ = length whole in
    let text : List ℕ = whole ++ drop (w - from) plain in
    elim (few_or_four w k c.many) [
      | inl few ↦
          let none : number ≡ [] = c.none (omega (arith, few)) in
          let zero : from ≡ 0 = c.read.blank (ap length none) in
          let same : 243 - from ≡ 243 = omega (arith, zero) in
          let line : take 81 (drop 243 text) ≡ take 81 (drop 243 plain) =
          ap (take 81) (past whole plain from 243 (omega (arith, zero)) few ∙ ap (λ (j : ℕ). drop j plain) same) in
          subst (λ (n : List ℕ). IsNumberIn (take 81 (drop 243 text)) n) (sym none) (rw line f.line)
      | inr four ↦ let line : take 81 (drop 243 text) ≡ take 81 (drop 243 ten) = same_columns w 243 81 text ten (omega (arith, four)) up in rw line c.read.line
    ]

read_with : (whole ten number front plain : List ℕ) (from k : ℕ) (l : LabelView) → IsReadWhole whole ten number front from k l → IsRead plain [] 0 blank_label
    → IsRead (whole ++ drop (length whole - from) plain) number from l
read_with whole ten number front plain from k l c f =
    let w : ℕ = length whole in
    let text : List ℕ = whole ++ drop (w - from) plain in
    let low : from ≤ w = from_within whole ten number front from k l c in
    let zero = zero_from whole ten number front from k l c in
    let up : take w text ≡ take w ten = take_at whole (drop (w - from) plain) w refl ∙ sym (ten_begins whole ten number front from k l c) in
    let j = lines_left number w from k c.read.blank c.read.filled c.many in
    let run : IsFieldIn 20 (take 20 (drop 101 (take 243 text))) l.run_by =
    shown_in (IsFieldIn 20) w 101 20 (take 243 ten) (take 243 plain) (take 243 text) l.run_by (before_or_after w k 1 101 20 c.many (omega arith) (omega arith))
    (three_alike w text ten up) (top_past whole plain from k c.many zero) c.read.label.run_by f.label.run_by (run_blank whole ten number front from k l c) in record {
      long = omega (arith, f.long, low, c.few, length-append whole (drop (w - from) plain), length-drop (w - from) plain);
      line = fourth_with whole ten number front plain from k l c f up;
      blank = c.read.blank;
      filled = c.read.filled;
      label = middle_shows _ _ _ _ _ _ _ _ (w - (from + 243)) j.0 l j.1 (agree_piece w (from + 243) 486 text ten up) (middle_past whole plain from low c.few)
          c.read.label f.label (middle_blank whole ten number front from k l c) run;
      good = c.read.good;
    }

-- what stands after the whole lines stays
few_stay : (whole number plain : List ℕ) (from k : ℕ) (l : LabelView) → length whole ≡ 81 * k → IsRead (whole ++ drop (length whole - from) plain) number from l → number ≡ []
    → (length whole ≤ 101 → l.run_by ≡ []) → IsBlankFrom (length whole - (from + 243)) l → length whole ≤ 243
    → drop (length whole - from) (plain_front (whole ++ drop (length whole - from) plain) from l) ++ drop (from + 729) (whole ++ drop (length whole - from) plain)
    ≡ drop (length whole - from) plain
few_stay whole number plain from k l lines r none run blank few =
    let w : ℕ = length whole in
    let n : ℕ = w - from in
    let text : List ℕ = whole ++ drop n plain in
    let zero : from ≡ 0 = r.blank (ap length none) in
    let same : n ≡ w = omega (arith, zero) in
    let left : w - (from + 243) ≡ 0 = omega (arith, few) in
    let three : List ℕ = take 243 text in
    let six : List ℕ = take 486 (drop (from + 243) text) in
    let tail : List ℕ = drop (from + 729) text in
    let top : List ℕ = plain_top l three in
    let middle : List ℕ = plain_middle l six in
    let size : length three ≡ 243 = length-first text r.long in
    let long : length top ≡ 243 = length-plain_top l three size in
    let upper : drop n top ≡ drop n three = subst (λ (j : ℕ). drop j top ≡ drop j three) (sym same) (top_from three w k l size lines run) in
    let lower : middle ≡ six =
    subst (λ (j : ℕ). drop j middle ≡ drop j six) left
    (middle_from six (w - (from + 243)) 0 l (length-next text from r.long (omega (arith, zero))) (omega (arith, left)) blank) in
    let cut : text ≡ three ++ (six ++ tail) = text_cut text number from l r ∙ ap (λ (m : List ℕ). three ++ (marker_number_line m ++ (six ++ tail))) none in
    ap (λ (x : List ℕ). x ++ tail) (drop-append-le n top middle (omega (arith, long, same, few)) ∙ ap (λ (x : List ℕ). x ++ middle) upper ∙ ap (λ (x : List ℕ). drop n three ++ x) lower)
    ∙ append_assoc (drop n three) six tail ∙ sym (drop-append-le n three (six ++ tail) (omega (arith, size, same, few))) ∙ ap (drop n) (sym cut)
    ∙ drop_at whole (drop n plain) n (sym same)

four_stay : (whole number plain : List ℕ) (from k : ℕ) (l : LabelView) → length whole ≡ 81 * k → IsRead (whole ++ drop (length whole - from) plain) number from l
    → IsBlankFrom (length whole - (from + 243)) l → 324 ≤ length whole → length whole ≤ 729
    → drop (length whole - from) (plain_front (whole ++ drop (length whole - from) plain) from l) ++ drop (from + 729) (whole ++ drop (length whole - from) plain)
    ≡ drop (length whole - from) plain
four_stay whole number plain from k l lines r blank four few =
    let w : ℕ = length whole in
    let n : ℕ = w - from in
    let text : List ℕ = whole ++ drop n plain in
    let low : from ≤ 81 = within text number from l r in
    let d : ℕ = w - (from + 243) in
    let j = lines_left number w from k r.blank r.filled lines in
    let six : List ℕ = take 486 (drop (from + 243) text) in
    let tail : List ℕ = drop (from + 729) text in
    let top : List ℕ = plain_top l (take 243 text) in
    let middle : List ℕ = plain_middle l six in
    let long : length top ≡ 243 = length-plain_top l (take 243 text) (length-first text r.long) in
    let size : length six ≡ 486 = length-next text from r.long low in
    let left : n - length top ≡ d = omega (arith, long) in
    let sum : from + 243 + d ≡ w = omega (arith, low, four) in
    let front : drop n (top ++ middle) ≡ drop d six =
    drop_append n top middle ∙ ap (λ (x : List ℕ). x ++ drop (n - length top) middle) (drop_all n top (omega (arith, long, low, four)))
    ∙ ap (λ (i : ℕ). drop i middle) left ∙ middle_from six d j.0 l size j.1 blank in
    ap (λ (x : List ℕ). x ++ tail) front ∙ sym (drop-append-le d six tail (omega (arith, size, few))) ∙ ap (drop d) (sym (six_cut text from))
    ∙ drop-drop d (from + 243) text ∙ ap (λ (i : ℕ). drop i text) sum ∙ drop_at whole (drop n plain) w refl

plain_with : (whole ten number front plain : List ℕ) (from k : ℕ) (l : LabelView) → IsReadWhole whole ten number front from k l
    → IsRead (whole ++ drop (length whole - from) plain) number from l
    → plain_front (whole ++ drop (length whole - from) plain) from l ++ drop (from + 729) (whole ++ drop (length whole - from) plain)
    ≡ take (length whole - from) front ++ drop (length whole - from) plain
plain_with whole ten number front plain from k l c r =
    let w : ℕ = length whole in
    let n : ℕ = w - from in
    let text : List ℕ = whole ++ drop n plain in
    let first : List ℕ = plain_front text from l in
    let tail : List ℕ = drop (from + 729) text in
    let up : take w ten ≡ take w text = ten_begins whole ten number front from k l c ∙ sym (take_at whole (drop n plain) w refl) in
    let same : take n first ≡ take n front =
    sym (ap (take n) c.front_is ∙ front_alike ten text number number w from from k l l c.read r c.many up (zero_from whole ten number front from k l c)) in
    let blank = middle_blank whole ten number front from k l c in
    let rest : drop n first ++ tail ≡ drop n plain =
    elim (few_or_four w k c.many) [
      | inl few ↦ few_stay whole number plain from k l c.many r (c.none (omega (arith, few))) (run_blank whole ten number front from k l c) blank few
      | inr four ↦ four_stay whole number plain from k l c.many r blank four c.few
    ] in
    ap (λ (x : List ℕ). x ++ tail) (sym (take-append-drop n first)) ∙ append_assoc (take n first) (drop n first) tail
    ∙ ap (λ (x : List ℕ). x ++ (drop n first ++ tail)) same ∙ ap (λ (x : List ℕ). take n front ++ x) rest

-- if the plain lines begin the plain text of parts, the whole lines begin their text with this label
pub whole_was : (whole ten number front : List ℕ) (from k : ℕ) (l : LabelView) → IsReadWhole whole ten number front from k l → (rest : List ℕ)
    → WasOfParts (whole ++ rest) (take (length whole - from) front ++ rest) l []
whole_was whole ten number front from k l c rest p good e =
    let n : ℕ = length whole - from in
    let plain : List ℕ = text_of_parts blank_label p in
    let long : length front ≡ 729 = ap length c.front_is ∙ length-front ten number from l c.read in
    let size : length (take n front) ≡ n = length-take-le n front (omega (arith, long, c.few)) in
    let rest_is : drop n plain ≡ rest = ap (drop n) (sym e) ∙ drop_at (take n front) rest n size in
    let r = read_with whole ten number front plain from k l c (read_blank plain blank_label p blank_is_label good refl refl) in
    let was = was_labelled (whole ++ drop n plain) number from l p r good
    (plain_with whole ten number front plain from k l c r ∙ ap (λ (x : List ℕ). take n front ++ x) rest_is ∙ e) in
    (ap (λ (x : List ℕ). whole ++ x) (sym rest_is) ∙ was.0, was.1)

pub cut_is : (text lines ten number front plain : List ℕ) (from k : ℕ) (l : LabelView) → lines ≡ whole_lines text → IsReadWhole lines ten number front from k l
    → plain ≡ take (length lines - from) front ++ drop (whole_len text) text → IsCutText text plain l
cut_is text lines ten number front plain from k l lines_are read parts =
    let c : IsReadWhole (whole_lines text) ten number front from k l = subst (λ (t : List ℕ). IsReadWhole t ten number front from k l) lines_are read in
    cut_text text (take (length (whole_lines text) - from) front) plain l
    (parts ∙ ap (λ (t : List ℕ). take (length t - from) front ++ drop (whole_len text) text) lines_are)
    (whole_was (whole_lines text) ten number front from k l c) (whole_begins (whole_lines text) ten number front from k l c)
