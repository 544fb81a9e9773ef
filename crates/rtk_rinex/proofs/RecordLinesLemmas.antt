-- The text of a record that is written satellite by satellite.
use Rattle.std.proofs.Common.{◌≡◌, ℕ, zero, suc, ◌+◌, ◌-◌, ◌*◌, ◌<◌, ◌≤◌, [], ◌∷◌, ◌++◌, List, length, replicate, take, drop, set, get_or, ap, arith, refl, sym, ◌∙◌, length-append, append_assoc, true, false, Bool, ◌||◌, flat_map, subst}
use Rattle.std.specs.Prelude.{max}
use Rattle.std.specs.List.{filter, list_any}
use Rattle.std.proofs.lemmas.Grind.{take_at_read, flat_map-append}
use Rattle.std.proofs.lemmas.List.{append-nil, drop_at, drop-drop, drop-replicate, drop-take, length-take, length-drop, length-set, length-replicate, replicate-append-replicate, take-append-drop, take-append-le}
use Rattle.std.proofs.lemmas.List.Elements.{filter-append}
use Rattle.std.proofs.lemmas.List.Sums.{length-filter, count_by-le-length}
use Rattle.std.proofs.Math.Seq.{take-append-add, drop-append-add, drop-append_seam, get_or-append_seam, set-append_seam}
use Rattle.rtk_obs.specs.declared.time.Civil.{Civil}
use Rattle.rtk_obs.specs.CivilText.{last_digits}
use Rattle.rtk_obs.specs.Reading.{reading_of}
use Rattle.rtk_rinex.specs.declared.epoch_table.Observed.{Observed}
use Rattle.rtk_rinex.specs.declared.epoch_table.SatelliteRow.{SatelliteRow}
use Rattle.rtk_rinex.specs.Record.{has_line, has_observation, code_text, code_width, is_shown, satellite_line, epoch_line, lines_of, no_observation, record_text}
use Rattle.rtk_rinex.specs.RecordLines.{RecordLinesView, HasOpenLine, HoldsLines, IsFreeIn, KeepsLines}
use Rattle.rtk_rinex.specs.Steps.WrittenLines.{named_line, AddsLine, PutsEpochLine}
use Rattle.rtk_rinex.proofs.RecordLemmas.{lines_of-none, lines_of-some}
use Rattle.rtk_rinex.proofs.WrittenLemmas.{lines_of_rows, over-front, code-put, code-blank, code-none, any-put, codes-blank, none-written, columns-length}

-- ---- blanks after a text

-- a text and the blanks after it
front-blanks : (text : List ℕ) (len : ℕ) → drop len text ≡ replicate (length text - len) 32 → take len text ++ replicate (length text - len) 32 ≡ text
front-blanks text len blank = ap (λ (xs : List ℕ). take len text ++ xs) (sym blank) ∙ take-append-drop len text

-- after a later place too
pub blank-later : (text : List ℕ) (len at : ℕ) → drop len text ≡ replicate (length text - len) 32 → len ≤ at → drop at text ≡ replicate (length text - at) 32
blank-later text len at blank later =
    let j = at - len in
    let place : len + j ≡ at = omega arith in
    let rest : length text - len - j ≡ length text - at = omega arith in
    ap (λ (n : ℕ). drop n text) (sym place) ∙ sym (drop-drop j len text) ∙ ap (drop j) blank ∙ drop-replicate {X = ℕ} j (length text - len) 32 ∙ ap (λ (n : ℕ). replicate n 32) rest

-- in a longer text too
pub blank-longer : (text more : List ℕ) (len : ℕ) → drop len text ≡ replicate (length text - len) 32 → len ≤ length text → more ≡ text ++ replicate (length more - length text) 32
    → drop len more ≡ replicate (length more - len) 32
blank-longer text more len blank inside longer =
    let m = length text - len in
    let k = length more - length text in
    let size : length (take len text) ≡ len = omega (arith, length-take len text) in
    let sum : m + k ≡ length more - len = omega (arith, ap length longer, length-append text (replicate {A = ℕ} k 32)) in
    let parts : more ≡ take len text ++ (replicate m 32 ++ replicate k 32) =
    longer ∙ ap (λ (xs : List ℕ). xs ++ replicate k 32) (sym (front-blanks text len blank)) ∙ simp append_assoc refl in
    ap (drop len) parts ∙ drop_at (take len text) (replicate m 32 ++ replicate k 32) len size ∙ replicate-append-replicate {A = ℕ} m k 32 ∙ ap (λ (n : ℕ). replicate n 32) sum

pub blanks-after : (text more : List ℕ) (k : ℕ) → more ≡ text ++ replicate k 32 → more ≡ text ++ replicate (length more - length text) 32
blanks-after text more k longer =
    let same : k ≡ length more - length text = omega (arith, ap length longer, length-append text (replicate {A = ℕ} k 32), length-replicate {A = ℕ} k 32) in
    longer ∙ ap (λ (n : ℕ). text ++ replicate n 32) same

-- a longer text has the same front
pub front-longer : (text more : List ℕ) (len : ℕ) → len ≤ length text → more ≡ text ++ replicate (length more - length text) 32 → take len more ≡ take len text
front-longer text more len inside longer = ap (take len) longer ∙ take-append-le len text (replicate (length more - length text) 32) inside

pub longer-than : (text more : List ℕ) → more ≡ text ++ replicate (length more - length text) 32 → length text ≤ length more
longer-than text more longer = omega (arith, ap length longer, length-append text (replicate {A = ℕ} (length more - length text) 32))

-- ---- the line that is open

-- an open line whose codes show nothing
pub open-line : (doppler : Bool) (l : RecordLinesView) (codes : ℕ) → codes ≤ 16 → 4 + code_width doppler * codes ≤ length l.rest → l.rest ≡ replicate (length l.rest) 32 → l.is_written ≡ false
    → HasOpenLine doppler l (replicate codes no_observation)
open-line doppler l codes few room blank none =
    let w = code_width doppler * codes in
    let m = length l.rest in
    let size : length (replicate codes no_observation) ≡ codes = length-replicate codes no_observation in
    let sum : 3 + (w + (m - (3 + w))) ≡ m = omega (arith, room) in
    record {
      few = rw size few;
      room = rw size room;
      columns = rw (size, codes-blank doppler codes, replicate-append-replicate {A = ℕ} w (m - (3 + w)) 32, replicate-append-replicate {A = ℕ} 3 (w + (m - (3 + w))) 32, sum) blank;
      written = none ∙ sym (none-written doppler codes);
    }

-- the blanks where the columns of a code go
free-blank : (doppler : Bool) (l : RecordLinesView) (os : List Observed) (k : ℕ) → HasOpenLine doppler l os → IsFreeIn doppler os k
    → take (code_width doppler) (drop (3 + code_width doppler * k) l.rest) ≡ replicate (code_width doppler) 32
free-blank doppler l os k h f =
    let rest : List ℕ = replicate (length l.rest - (3 + code_width doppler * length os)) 32 in
    ap (λ (xs : List ℕ). take (code_width doppler) (drop (3 + code_width doppler * k) xs)) h.columns
    ∙ ap (take (code_width doppler)) (drop-append-add (replicate 3 32) (flat_map (code_text doppler) os ++ rest) (code_width doppler * k))
    ∙ code-blank doppler os k no_observation rest f.inside (f.free no_observation)

-- they are blank in the text
pub free-in : (doppler : Bool) (l : RecordLinesView) (os : List Observed) (k : ℕ) (text : List ℕ) (at place : ℕ) → HasOpenLine doppler l os → IsFreeIn doppler os k → l.rest ≡ drop at text
    → place ≡ at + (3 + code_width doppler * k) → take (code_width doppler) (drop place text) ≡ replicate (code_width doppler) 32
free-in doppler l os k text at place h f rest e =
    let n = 3 + code_width doppler * k in
    ap (λ (m : ℕ). take (code_width doppler) (drop m text)) e ∙ ap (take (code_width doppler)) (sym (drop-drop n at text) ∙ ap (drop n) (sym rest)) ∙ free-blank doppler l os k h f

-- the columns of a code are written in a text
pub put-at : (doppler : Bool) (text now g : List ℕ) (at place n : ℕ) → place ≡ at + n → at ≤ length text → now ≡ take place text ++ (g ++ drop (code_width doppler) (drop place text))
    → now ≡ take at text ++ (take n (drop at text) ++ (g ++ drop (code_width doppler) (drop n (drop at text))))
put-at doppler text now g at place n e inside is =
    let size : place ≡ length (take at text) + n = omega (arith, length-take at text) in
    is ∙ ap (λ (xs : List ℕ). take place xs ++ (g ++ drop (code_width doppler) (drop place xs))) (sym (take-append-drop at text)) ∙ over-front doppler (take at text) (drop at text) g place n size

-- what the line shows after one more code
pub open-put : (doppler : Bool) (old new : RecordLinesView) (os : List Observed) (k : ℕ) (o : Observed) → HasOpenLine doppler old os → IsFreeIn doppler os k → is_shown doppler o ≡ true
    → new.rest ≡ take (3 + code_width doppler * k) old.rest ++ (code_text doppler o ++ drop (code_width doppler) (drop (3 + code_width doppler * k) old.rest)) → new.is_written ≡ true
    → HasOpenLine doppler new (set os k o)
open-put doppler old new os k o h f shown is written =
    let w = code_width doppler in
    let size : length (set os k o) ≡ length os = length-set os k o in
    let tail : List ℕ = replicate (length old.rest - (3 + w * length os)) 32 in
    let whole : new.rest ≡ replicate 3 32 ++ (flat_map (code_text doppler) (set os k o) ++ tail) =
    is ∙ ap (λ (xs : List ℕ). take (3 + w * k) xs ++ (code_text doppler o ++ drop w (drop (3 + w * k) xs))) h.columns
    ∙ over-front doppler (replicate 3 32) (flat_map (code_text doppler) os ++ tail) (code_text doppler o) (3 + w * k) (w * k) refl
    ∙ ap (λ (xs : List ℕ). replicate 3 32 ++ xs) (code-put doppler os k o tail f.inside) in
    let count : 3 + w * length (set os k o) + (length old.rest - (3 + w * length os)) ≡ length old.rest =
    let same : w * length (set os k o) ≡ w * length os = ap (λ (n : ℕ). w * n) size in omega (arith, same, h.room) in
    let long : length new.rest ≡ length old.rest = columns-length doppler new.rest (set os k o) (length old.rest - (3 + w * length os)) whole ∙ count in
    record {
      few = rw size h.few;
      room = rw (size, long) h.room;
      columns = rw (size, long) whole;
      written = written ∙ sym (any-put doppler os k o no_observation f.inside (f.free no_observation) ∙ ap (λ (b : Bool). b || list_any (is_shown doppler) os) shown);
    }

-- or if the code shows nothing
pub open-none : (doppler : Bool) (l : RecordLinesView) (os : List Observed) (k : ℕ) (o : Observed) → HasOpenLine doppler l os → IsFreeIn doppler os k → is_shown doppler o ≡ false
    → HasOpenLine doppler l (set os k o)
open-none doppler l os k o h f none =
    let size : length (set os k o) ≡ length os = length-set os k o in
    record {
      few = rw size h.few;
      room = rw size h.room;
      columns = rw (size, code-none doppler os k o no_observation (f.free no_observation) none f.inside) h.columns;
      written = h.written ∙ sym (any-put doppler os k o no_observation f.inside (f.free no_observation) ∙ ap (λ (b : Bool). b || list_any (is_shown doppler) os) none);
    }

nothing-shown : (doppler : Bool) → is_shown doppler no_observation ≡ false
nothing-shown false = refl
nothing-shown true = refl

-- the next of codes that are written in their order
pub next-free : (doppler : Bool) (os : List Observed) (i : ℕ) → i < length os → IsFreeIn doppler (take i os ++ replicate (length os - i) no_observation) i
next-free doppler os i lt =
    let m = length os - (i + 1) in
    let more : length os - i ≡ suc m = omega arith in
    let size : length (take i os) ≡ i = omega (arith, length-take i os) in
    let at = λ (d : Observed). rw size at (get_or-append_seam (take i os) no_observation (replicate m no_observation) d) in
    record {
      inside = rw more (omega (arith, length-append (take i os) (no_observation ∷ replicate m no_observation), size));
      free = λ d. rw (more, at d) (nothing-shown doppler);
    }

pub next-code : (os : List Observed) (i : ℕ) (o d : Observed) → i < length os → o ≡ get_or os i d
    → set (take i os ++ replicate (length os - i) no_observation) i o ≡ take (i + 1) os ++ replicate (length os - (i + 1)) no_observation
next-code os i o d lt e =
    let m = length os - (i + 1) in
    let more : length os - i ≡ suc m = omega arith in
    let size : length (take i os) ≡ i = omega (arith, length-take i os) in
    let seam : set (take i os ++ no_observation ∷ replicate m no_observation) i o ≡ take i os ++ o ∷ replicate m no_observation =
    rw size at (set-append_seam (take i os) no_observation (replicate m no_observation) o) in
    rw more (seam ∙ (rw ((take_at_read os i d lt).1, ← e) (sym (append_assoc (take i os) (o ∷ []) (replicate m no_observation)))))

-- ---- the line of one more satellite

pub kept-lines : (old new : RecordLinesView) (rows : List SatelliteRow) → KeepsLines old new → HoldsLines old rows → HoldsLines new rows
kept-lines old new rows k h = record { lines = ap (drop 36) k.text ∙ h.lines; count = k.count ∙ h.count }

-- the lines before the place of the next one
pub lines-before : (text : List ℕ) (len at count : ℕ) → (count ≡ 0 → len ≡ 0) → (0 < count → 36 ≤ len) → at ≡ max len 36 → drop 36 (take at text) ≡ drop 36 (take len text)
lines-before text len at zero none some e =
    let first : len ≡ 0 = none refl in
    let place : at ≡ 36 = omega (arith, e, first) in
    rw (place, first) (drop-take 36 0 text)
lines-before text len at (suc count) none some e =
    let place : at ≡ len = omega (arith, e, some (omega arith)) in
    rw place refl

pub filter-some : (rows : List SatelliteRow) (r : SatelliteRow) → has_line r ≡ true → filter has_line (rows ++ r ∷ []) ≡ filter has_line rows ++ r ∷ []
filter-some rows r has = filter-append has_line rows (r ∷ []) ∙ rw has refl

pub filter-none : (rows : List SatelliteRow) (r : SatelliteRow) → has_line r ≡ false → filter has_line (rows ++ r ∷ []) ≡ filter has_line rows
filter-none rows r none = filter-append has_line rows (r ∷ []) ∙ (rw none (append-nil (filter has_line rows)))

pub line-added : (old new : RecordLinesView) (rows : List SatelliteRow) (r : SatelliteRow) → HoldsLines old rows → has_line r ≡ true
    → drop 36 new.text ≡ drop 36 old.text ++ satellite_line r → new.count ≡ old.count + 1 → HoldsLines new (rows ++ r ∷ [])
line-added old new rows r h has is one =
    let all = filter-some rows r has in
    record {
      lines = is ∙ ap (λ (t : List ℕ). t ++ satellite_line r) h.lines
          ∙ sym (ap (λ (rs : List SatelliteRow). flat_map satellite_line rs) all ∙ flat_map-append satellite_line (filter has_line rows) (r ∷ [])
          ∙ ap (λ (t : List ℕ). lines_of_rows rows ++ t) (append-nil (satellite_line r)));
      count = rw all (omega (arith, one, h.count, length-append (filter has_line rows) (r ∷ [])));
    }

-- without a line the text stays
pub none-added : (l : RecordLinesView) (rows : List SatelliteRow) (r : SatelliteRow) → HoldsLines l rows → has_line r ≡ false → HoldsLines l (rows ++ r ∷ [])
none-added l rows r h none =
    let same = filter-none rows r none in
    record { lines = h.lines ∙ ap (λ (rs : List SatelliteRow). flat_map satellite_line rs) (sym same); count = h.count ∙ ap length (sym same) }

-- ---- the line of a satellite of any name

not-both : {P : Type 0} (b : Bool) → b ≡ true → b ≡ false → P
not-both true t e = absurd cc
not-both false t e = absurd cc

pub line-there : (doppler : Bool) (name : List ℕ) (os : List Observed) (old new : RecordLinesView) → list_any (is_shown doppler) os ≡ true
    → drop 36 new.text ≡ drop 36 old.text ++ named_line doppler name os → new.count ≡ old.count + 1 → AddsLine doppler name os old new
line-there doppler name os old new has is more = record {
  line = λ e. is;
  one = λ e. more;
  none = λ e. not-both (list_any (is_shown doppler) os) has e;
}

pub line-absent : (doppler : Bool) (name : List ℕ) (os : List Observed) (l : RecordLinesView) → list_any (is_shown doppler) os ≡ false → AddsLine doppler name os l l
line-absent doppler name os l none = record {
  line = λ e. not-both (list_any (is_shown doppler) os) e none;
  one = λ e. not-both (list_any (is_shown doppler) os) e none;
  none = λ e. record { text = refl; count = refl };
}

row-by : (old new : RecordLinesView) (rows : List SatelliteRow) (s : ℕ) (os : List Observed) (b : Bool) → list_any has_observation os ≡ b → HoldsLines old rows
    → AddsLine false (71 ∷ last_digits 2 s) os old new → HoldsLines new (rows ++ record { satellite = s; observed = record { items = os } } ∷ [])
row-by old new rows s os true e h a =
    let row : SatelliteRow = record { satellite = s; observed = record { items = os } } in
    line-added old new rows row h e (a.line e) (a.one e)
row-by old new rows s os false e h a =
    let row : SatelliteRow = record { satellite = s; observed = record { items = os } } in
    kept-lines old new (rows ++ row ∷ []) (a.none e) (none-added old rows row h e)

-- the line of a satellite of GPS
pub gps-row-added : (old new : RecordLinesView) (rows : List SatelliteRow) (s : ℕ) (name : List ℕ) (os : List Observed) → name ≡ 71 ∷ last_digits 2 s → HoldsLines old rows
    → AddsLine false name os old new → HoldsLines new (rows ++ record { satellite = s; observed = record { items = os } } ∷ [])
gps-row-added old new rows s name os is h a =
    row-by old new rows s os (list_any has_observation os) refl h (subst (λ (n : List ℕ). AddsLine false n os old new) is a)

-- ---- the epoch line

-- the epoch line over the first columns
pub line-put : (text line now : List ℕ) (len : ℕ) → length line ≡ 36 → 36 ≤ len → len ≤ length text → now ≡ line ++ drop 36 text
    → (length now ≡ length text) × (take len now ≡ line ++ drop 36 (take len text))
line-put text line now len l first inside is =
    let j = len - 36 in
    let place : length line + j ≡ len = omega arith in
    let place36 : 36 + j ≡ len = omega arith in (
      ap length is ∙ length-append line (drop 36 text) ∙ omega (arith, length-drop 36 text),
      ap (take len) is ∙ ap (λ (n : ℕ). take n (line ++ drop 36 text)) (sym place) ∙ take-append-add line (drop 36 text) j
          ∙ ap (λ (xs : List ℕ). line ++ xs) (sym (drop-take 36 j text) ∙ ap (λ (n : ℕ). drop 36 (take n text)) place36),
    )

-- what is after it stays
pub drop-line : (text line now : List ℕ) (end : ℕ) → length line ≡ 36 → 36 ≤ end → now ≡ line ++ drop 36 text → drop end now ≡ drop end text
drop-line text line now end l later is =
    let j = end - 36 in
    let place : length line + j ≡ end = omega arith in
    let place36 : 36 + j ≡ end = omega arith in
    ap (drop end) is ∙ ap (λ (n : ℕ). drop n (line ++ drop 36 text)) (sym place) ∙ drop-append-add line (drop 36 text) j ∙ drop-drop j 36 text ∙ ap (λ (n : ℕ). drop n text) place36

record-some : (time : Civil) (lines : List ℕ) (count : ℕ) (rows : List SatelliteRow) → lines ≡ lines_of_rows rows → count ≡ length (filter has_line rows) → 0 < count
    → epoch_line time count ++ lines ≡ lines_of time (filter has_line rows)
record-some time lines count rows e n some =
    rw (e, n) (sym (lines_of-some time (filter has_line rows) (λ z. omega arith)))

record-none : (time : Civil) (text : List ℕ) (count : ℕ) (rows : List SatelliteRow) → text ≡ [] → count ≡ length (filter has_line rows) → count ≡ 0 → text ≡ lines_of time (filter has_line rows)
record-none time text count rows e n none = e ∙ sym (lines_of-none time (filter has_line rows) (sym n ∙ none))

-- the epoch line over the first columns leaves the lines
lines-after : (line text : List ℕ) → length line ≡ 36 → drop 36 (line ++ drop 36 text) ≡ drop 36 text
lines-after line text l = ap (λ (n : ℕ). drop n (line ++ drop 36 text)) (sym l) ∙ drop-append_seam line (drop 36 text)

pub epoch-line-put : (time : ℕ) (c : Civil) (old new : RecordLinesView) → c ≡ reading_of time → length (epoch_line c old.count) ≡ 36 → 0 < old.count
    → new.text ≡ epoch_line c old.count ++ drop 36 old.text → new.count ≡ old.count → PutsEpochLine time old new
epoch-line-put time c old new is long some put same = record {
  count = same;
  lines = ap (drop 36) put ∙ lines-after (epoch_line c old.count) old.text long;
  some = λ lt. put ∙ ap (λ (x : Civil). epoch_line x old.count ++ drop 36 old.text) is;
  none = λ z. absurd (omega (arith, some, z));
}

-- without a line there is no epoch line
pub no-epoch-line : (time : ℕ) (l : RecordLinesView) → l.count ≡ 0 → l.text ≡ [] → PutsEpochLine time l l
no-epoch-line time l none empty = record {
  count = refl;
  lines = refl;
  some = λ lt. absurd (omega (arith, none, lt));
  none = λ z. empty;
}

record-by : (time : ℕ) (old new : RecordLinesView) (rows : List SatelliteRow) (n : ℕ) → old.count ≡ n → HoldsLines old rows → PutsEpochLine time old new
    → new.text ≡ lines_of (reading_of time) (filter has_line rows)
record-by time old new rows zero e h p = record-none (reading_of time) new.text old.count rows (p.none e) h.count e
record-by time old new rows (suc n) e h p =
    let some : 0 < old.count = omega (arith, e) in
    p.some some ∙ record-some (reading_of time) (drop 36 old.text) old.count rows h.lines h.count some

pub record-of : (time : ℕ) (old new : RecordLinesView) (rows : List SatelliteRow) → HoldsLines old rows → PutsEpochLine time old new
    → new.text ≡ record_text (record { time = time; rows = rows })
unfolding record_text
record-of time old new rows h p = record-by time old new rows old.count refl h p

-- ---- the rows of a table

row-taken : (rows : List SatelliteRow) (i : ℕ) (r d : SatelliteRow) → i < length rows → r ≡ get_or rows i d → take (i + 1) rows ≡ take i rows ++ r ∷ []
row-taken rows i r d lt e = (take_at_read rows i d lt).1 ∙ ap (λ (x : SatelliteRow). take i rows ++ x ∷ []) (sym e)

pub few-lines : (l : RecordLinesView) (rows : List SatelliteRow) (i : ℕ) → HoldsLines l (take i rows) → l.count ≤ i
few-lines l rows i h =
    omega (arith, h.count, length-filter has_line (take i rows), count_by-le-length has_line (take i rows), length-take i rows)

pub row-pushed : (l : RecordLinesView) (rows : List SatelliteRow) (i : ℕ) (r d : SatelliteRow) → HoldsLines l (take i rows ++ r ∷ []) → i < length rows → r ≡ get_or rows i d
    → HoldsLines l (take (i + 1) rows)
row-pushed l rows i r d h lt e = rw (row-taken rows i r d lt e) h

-- a row without a line
pub row-passed : (l : RecordLinesView) (rows : List SatelliteRow) (i : ℕ) (r d : SatelliteRow) → HoldsLines l (take i rows) → has_line r ≡ false → i < length rows → r ≡ get_or rows i d
    → HoldsLines l (take (i + 1) rows)
row-passed l rows i r d h none lt e = rw (row-taken rows i r d lt e) (none-added l (take i rows) r h none)
