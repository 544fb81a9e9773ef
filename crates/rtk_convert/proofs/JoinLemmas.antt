-- Texts that are appended one after another.
use Rattle.std.proofs.Common.{◌≡◌, ◌∙◌, ◌++◌, ℕ, List, ap, append_assoc}

-- one more text
more : (t all joined x : List ℕ) → all ≡ t ++ joined → all ++ x ≡ t ++ (joined ++ x)
more t all joined x h = ap (λ (y : List ℕ). y ++ x) h ∙ append_assoc t joined x

two : (t a b : List ℕ) → t ++ a ++ b ≡ t ++ (a ++ b)
two t a b = append_assoc t a b

pub three : (t a b c : List ℕ) → t ++ a ++ b ++ c ≡ t ++ (a ++ b ++ c)
three t a b c = more t (t ++ a ++ b) (a ++ b) c (two t a b)

four : (t a b c d : List ℕ) → t ++ a ++ b ++ c ++ d ≡ t ++ (a ++ b ++ c ++ d)
four t a b c d = more t (t ++ a ++ b ++ c) (a ++ b ++ c) d (three t a b c)

five : (t a b c d e : List ℕ) → t ++ a ++ b ++ c ++ d ++ e ≡ t ++ (a ++ b ++ c ++ d ++ e)
five t a b c d e = more t (t ++ a ++ b ++ c ++ d) (a ++ b ++ c ++ d) e (four t a b c d)

six : (t a b c d e f : List ℕ) → t ++ a ++ b ++ c ++ d ++ e ++ f ≡ t ++ (a ++ b ++ c ++ d ++ e ++ f)
six t a b c d e f = more t (t ++ a ++ b ++ c ++ d ++ e) (a ++ b ++ c ++ d ++ e) f (five t a b c d e)

seven : (t a b c d e f g : List ℕ) → t ++ a ++ b ++ c ++ d ++ e ++ f ++ g ≡ t ++ (a ++ b ++ c ++ d ++ e ++ f ++ g)
seven t a b c d e f g = more t (t ++ a ++ b ++ c ++ d ++ e ++ f) (a ++ b ++ c ++ d ++ e ++ f) g (six t a b c d e f)

eight : (t a b c d e f g h : List ℕ) → t ++ a ++ b ++ c ++ d ++ e ++ f ++ g ++ h ≡ t ++ (a ++ b ++ c ++ d ++ e ++ f ++ g ++ h)
eight t a b c d e f g h = more t (t ++ a ++ b ++ c ++ d ++ e ++ f ++ g) (a ++ b ++ c ++ d ++ e ++ f ++ g) h (seven t a b c d e f g)

pub nine : (t a b c d e f g h i : List ℕ) → t ++ a ++ b ++ c ++ d ++ e ++ f ++ g ++ h ++ i ≡ t ++ (a ++ b ++ c ++ d ++ e ++ f ++ g ++ h ++ i)
nine t a b c d e f g h i = more t (t ++ a ++ b ++ c ++ d ++ e ++ f ++ g ++ h) (a ++ b ++ c ++ d ++ e ++ f ++ g ++ h) i (eight t a b c d e f g h)
