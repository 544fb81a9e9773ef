-- What is put part by part is put whole.
use Rattle.std.proofs.Common.{◌≡◌, ℕ, List, ◌++◌, ap, ◌∙◌, append_assoc}

pub three-parts : (old a b c : List ℕ) → ((old ++ a) ++ b) ++ c ≡ old ++ ((a ++ b) ++ c)
three-parts old a b c = ap (λ l. l ++ c) (append_assoc old a b) ∙ append_assoc old (a ++ b) c

pub four-parts : (old a b c d : List ℕ) → (((old ++ a) ++ b) ++ c) ++ d ≡ old ++ (((a ++ b) ++ c) ++ d)
four-parts old a b c d = ap (λ l. l ++ d) (three-parts old a b c) ∙ append_assoc old ((a ++ b) ++ c) d

pub five-parts : (old a b c d e : List ℕ) → ((((old ++ a) ++ b) ++ c) ++ d) ++ e ≡ old ++ ((((a ++ b) ++ c) ++ d) ++ e)
five-parts old a b c d e = ap (λ l. l ++ e) (four-parts old a b c d) ∙ append_assoc old (((a ++ b) ++ c) ++ d) e

six-parts : (old a b c d e f : List ℕ) → (((((old ++ a) ++ b) ++ c) ++ d) ++ e) ++ f ≡ old ++ (((((a ++ b) ++ c) ++ d) ++ e) ++ f)
six-parts old a b c d e f = ap (λ l. l ++ f) (five-parts old a b c d e) ∙ append_assoc old ((((a ++ b) ++ c) ++ d) ++ e) f

pub seven-parts : (old a b c d e f g : List ℕ) → ((((((old ++ a) ++ b) ++ c) ++ d) ++ e) ++ f) ++ g ≡ old ++ ((((((a ++ b) ++ c) ++ d) ++ e) ++ f) ++ g)
seven-parts old a b c d e f g = ap (λ l. l ++ g) (six-parts old a b c d e f) ∙ append_assoc old (((((a ++ b) ++ c) ++ d) ++ e) ++ f) g

-- a part more
pub then-put : (old l new a b : List ℕ) → l ≡ old ++ a → new ≡ l ++ b → new ≡ old ++ (a ++ b)
then-put old l new a b so_far more = more ∙ ap (λ (t : List ℕ). t ++ b) so_far ∙ append_assoc old a b
