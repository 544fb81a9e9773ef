-- The lines of codes, and of passes that ended, one after another.
use Rattle.std.proofs.Common.{◌≡◌, ◌≢◌, ◌<◌, ◌+◌, ◌++◌, ℕ, Bool, cond, List, [], ◌∷◌, length, take, drop, get_or, reverse, Option, None, Some, sym, ap, ◌∙◌, append_assoc}
use Rattle.std.specs.Prelude.{flat_map}
use Rattle.std.proofs.lemmas.Bool.{eq-eqb, ne_eqb}
use Rattle.std.proofs.lemmas.List.{append-nil, drop_more, take_more}
use Rattle.std.proofs.lemmas.Grind.{flat_map-append}
use Rattle.rtk_obs.specs.declared.any_code.AnyCode.{AnyCode}
use Rattle.rtk_quality.specs.Entries.{code_entry}
use Rattle.rtk_quality.specs.QualityText.{each_code}
use Rattle.rtk_quality.specs.Standing.{newest_pass, older_passes, ended_of}
use Rattle.rtk_quality.specs.declared.form.Form.{Form}
use Rattle.rtk_quality.specs.declared.code_numbers.CodeNumbers.{CodeNumbers}
use Rattle.rtk_quality.specs.declared.satellite_counts.PassCounts.{PassCounts}
use Rattle.rtk_quality.specs.declared.file_counts.EndedPass.{EndedPass}
use Rattle.rtk_quality.proofs.FileLemmas.{list_of, ended-append, older-and-newest}

-- the line of one code more
pub each-more : (line : ℕ → AnyCode → List ℕ) (i : ℕ) (codes : List AnyCode) (d : AnyCode) (all mid after : List ℕ) → i < length codes
    → all ≡ mid ++ each_code line i (drop i codes) → after ≡ mid ++ line i (get_or codes i d)
    → all ≡ after ++ each_code line (i + 1) (drop (i + 1) codes)
each-more line i codes d all mid after within so_far more =
    let c : AnyCode = get_or codes i d in
    let rest : List AnyCode = drop (i + 1) codes in
    so_far ∙ ap (λ (cs : List AnyCode). mid ++ each_code line i cs) (drop_more codes i d within)
    ∙ sym (append_assoc mid (line i c) (each_code line (i + 1) rest))
    ∙ ap (λ (t : List ℕ). t ++ each_code line (i + 1) rest) (sym more)

-- the line of one code more, with its numbers
pub numbers-more : (line : AnyCode → CodeNumbers → List ℕ) (number : ℕ → CodeNumbers) (i : ℕ) (codes : List AnyCode) (d : AnyCode) (n : CodeNumbers) (all mid after : List ℕ) → i < length codes
    → all ≡ mid ++ each_code (λ place code. line code (number place)) i (drop i codes) → after ≡ mid ++ line (get_or codes i d) n → n ≡ number i
    → all ≡ after ++ each_code (λ place code. line code (number place)) (i + 1) (drop (i + 1) codes)
numbers-more line number i codes d n all mid after within so_far more is =
    each-more (λ place code. line code (number place)) i codes d all mid after within so_far (more ∙ ap (λ (k : CodeNumbers). mid ++ line (get_or codes i d) k) is)

-- the line of one code of the station more, of so many satellites
pub station-more : (form : Form) (number : ℕ → CodeNumbers) (i : ℕ) (codes : List AnyCode) (d : AnyCode) (all_tracked tracked : ℕ) (n : CodeNumbers) (all mid after : List ℕ) → i < length codes
    → all ≡ mid ++ each_code (λ place code. code_entry form code all_tracked (number place)) i (drop i codes)
    → tracked ≡ all_tracked → after ≡ mid ++ code_entry form (get_or codes i d) tracked n → n ≡ number i
    → all ≡ after ++ each_code (λ place code. code_entry form code all_tracked (number place)) (i + 1) (drop (i + 1) codes)
station-more form number i codes d all_tracked tracked n all mid after within so_far is more own =
    numbers-more (λ code k. code_entry form code all_tracked k) number i codes d n all mid after within so_far
    (more ∙ ap (λ (k : ℕ). mid ++ code_entry form (get_or codes i d) k n) is) own

-- the line of one pass more of a satellite
pub passes-more : (line : PassCounts → List ℕ) (satellite i : ℕ) (ended : List EndedPass) (d : EndedPass) (own : List PassCounts) (start mid after : List ℕ) → i < length ended
    → ended_of satellite (get_or ended i d ∷ []) ≡ own
    → mid ≡ start ++ flat_map line (ended_of satellite (take i ended)) → after ≡ mid ++ flat_map line own
    → after ≡ start ++ flat_map line (ended_of satellite (take (i + 1) ended))
passes-more line satellite i ended d own start mid after within is so_far more =
    let had : List PassCounts = ended_of satellite (take i ended) in
    let longer : ended_of satellite (take (i + 1) ended) ≡ had ++ own =
    ap (λ (xs : List EndedPass). ended_of satellite xs) (take_more ended i d within) ∙ ended-append satellite (take i ended) (get_or ended i d ∷ []) ∙ ap (λ (ps : List PassCounts). had ++ ps) is in
    more ∙ ap (λ (t : List ℕ). t ++ flat_map line own) so_far ∙ append_assoc start (flat_map line had) (flat_map line own)
    ∙ ap (λ (t : List ℕ). start ++ t) (sym (ap (λ (ps : List PassCounts). flat_map line ps) longer ∙ flat_map-append line had own))

-- the lines of all passes: of those that ended, and of the last one
pub last-put : (line : PassCounts → List ℕ) (ps : List PassCounts) (ended own : List PassCounts) (start mid after : List ℕ)
    → ended ≡ reverse (older_passes ps) → reverse ps ≡ reverse (older_passes ps) ++ own
    → mid ≡ start ++ flat_map line ended → after ≡ mid ++ flat_map line own → after ≡ start ++ flat_map line (reverse ps)
last-put line ps ended own start mid after are all first last =
    last ∙ ap (λ (t : List ℕ). t ++ flat_map line own) first ∙ append_assoc start (flat_map line ended) (flat_map line own)
    ∙ ap (λ (t : List ℕ). start ++ t) (sym (flat_map-append line ended own) ∙ ap (λ (qs : List PassCounts). flat_map line (qs ++ own)) are ∙ ap (λ (qs : List PassCounts). flat_map line qs) (sym all))

pub pass-put : (line : PassCounts → List ℕ) (satellite i : ℕ) (ended : List EndedPass) (d : EndedPass) (start mid after : List ℕ) → i < length ended
    → (get_or ended i d).satellite ≡ satellite → mid ≡ start ++ flat_map line (ended_of satellite (take i ended)) → after ≡ mid ++ line (get_or ended i d).pass
    → after ≡ start ++ flat_map line (ended_of satellite (take (i + 1) ended))
pass-put line satellite i ended d start mid after within own so_far more =
    let e : EndedPass = get_or ended i d in
    passes-more line satellite i ended d (e.pass ∷ []) start mid after within
    (ap (λ (b : Bool). cond b (e.pass ∷ []) []) (eq-eqb e.satellite satellite own)) so_far
    (more ∙ ap (λ (t : List ℕ). mid ++ t) (sym (append-nil (line e.pass))))

pub pass-passed : (line : PassCounts → List ℕ) (satellite i : ℕ) (ended : List EndedPass) (d : EndedPass) (start mid after : List ℕ) → i < length ended
    → (get_or ended i d).satellite ≢ satellite → mid ≡ start ++ flat_map line (ended_of satellite (take i ended)) → after ≡ mid
    → after ≡ start ++ flat_map line (ended_of satellite (take (i + 1) ended))
pass-passed line satellite i ended d start mid after within other so_far same =
    let e : EndedPass = get_or ended i d in
    passes-more line satellite i ended d [] start mid after within
    (ap (λ (b : Bool). cond b (e.pass ∷ []) []) (ne_eqb e.satellite satellite other)) so_far
    (same ∙ sym (append-nil mid))

-- the last pass, if there is one, after those that ended
pub some-put : (line : PassCounts → List ℕ) (ps : List PassCounts) (last : Option PassCounts) (p : PassCounts) (ended : List PassCounts) (start mid after : List ℕ)
    → last ≡ newest_pass ps → last ≡ Some p → ended ≡ reverse (older_passes ps) → mid ≡ start ++ flat_map line ended → after ≡ mid ++ line p
    → after ≡ start ++ flat_map line (reverse ps)
some-put line ps last p ended start mid after is some are first more =
    last-put line ps ended (p ∷ []) start mid after are
    (older-and-newest ps ∙ ap (λ (o : Option PassCounts). reverse (older_passes ps) ++ list_of o) (sym is ∙ some)) first
    (more ∙ ap (λ (t : List ℕ). mid ++ t) (sym (append-nil (line p))))

pub none-put : (line : PassCounts → List ℕ) (ps : List PassCounts) (last : Option PassCounts) (ended : List PassCounts) (start mid : List ℕ)
    → last ≡ newest_pass ps → last ≡ None → ended ≡ reverse (older_passes ps) → mid ≡ start ++ flat_map line ended
    → mid ≡ start ++ flat_map line (reverse ps)
none-put line ps last ended start mid is none are first =
    last-put line ps ended [] start mid mid are
    (older-and-newest ps ∙ ap (λ (o : Option PassCounts). reverse (older_passes ps) ++ list_of o) (sym is ∙ none)) first
    (sym (append-nil mid))
