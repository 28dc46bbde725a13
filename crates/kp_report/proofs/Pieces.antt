-- Pieces that are added to a text one after the other.
use Rattle.std.proofs.Common.{◌≡◌, ℕ, List, ◌++◌, sym, ap, ◌∙◌, append_assoc}

pub two_added : (old mid new a b : List ℕ) → mid ≡ old ++ a → new ≡ mid ++ b → new ≡ old ++ (a ++ b)
two_added old mid new a b first second = second ∙ ap (λ l. l ++ b) first ∙ append_assoc old a b

pub three_added : (old mid late new a b c : List ℕ) → mid ≡ old ++ a → late ≡ mid ++ b → new ≡ late ++ c → new ≡ old ++ (a ++ b ++ c)
three_added old mid late new a b c first second third = two_added old late new (a ++ b) c (two_added old mid late a b first second) third

-- words and numbers in turn
pub two_labelled : (old mid new a m b n : List ℕ) → mid ≡ old ++ (a ++ m) → new ≡ mid ++ (b ++ n) → new ≡ old ++ (a ++ m ++ b ++ n)
two_labelled old mid new a m b n first second =
    two_added old mid new (a ++ m) (b ++ n) first second ∙ ap (λ l. old ++ l) (sym (append_assoc (a ++ m) b n))

pub three_labelled : (old mid late new a m b n c o : List ℕ) → mid ≡ old ++ (a ++ m) → late ≡ mid ++ (b ++ n) → new ≡ late ++ (c ++ o) → new ≡ old ++ (a ++ m ++ b ++ n ++ c ++ o)
three_labelled old mid late new a m b n c o first second third =
    two_added old late new (a ++ m ++ b ++ n) (c ++ o) (two_labelled old mid late a m b n first second) third
    ∙ ap (λ l. old ++ l) (sym (append_assoc (a ++ m ++ b ++ n) c o))

-- what stood before a piece stands before what comes after it
pub front_on : (old mid new a : List ℕ) → mid ≡ old ++ a → (rest : List ℕ) × (new ≡ mid ++ rest) → (rest : List ℕ) × (new ≡ old ++ rest)
front_on old mid new a first (rest, later) = (a ++ rest, two_added old mid new a rest first later)
