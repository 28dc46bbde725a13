-- Pieces that are added to a text one after the other.
use Rattle.std.proofs.Common.{◌≡◌, ℕ, List, ◌++◌}
use Rattle.kp_report.proofs.Pieces.{three_added, two_added}

pub four_added :
    (old t1 t2 t3 new a b c d : List ℕ)
    → t1 ≡ old ++ a → t2 ≡ t1 ++ b → t3 ≡ t2 ++ c → new ≡ t3 ++ d
    → new ≡ old ++ (a ++ b ++ c ++ d)
four_added old t1 t2 t3 new a b c d first second third fourth =
    two_added old t3 new (a ++ b ++ c) d (three_added old t1 t2 t3 a b c first second third) fourth

pub five_added :
    (old t1 t2 t3 t4 new a b c d e : List ℕ)
    → t1 ≡ old ++ a → t2 ≡ t1 ++ b → t3 ≡ t2 ++ c → t4 ≡ t3 ++ d → new ≡ t4 ++ e
    → new ≡ old ++ (a ++ b ++ c ++ d ++ e)
five_added old t1 t2 t3 t4 new a b c d e first second third fourth fifth =
    two_added old t4 new (a ++ b ++ c ++ d) e
    (four_added old t1 t2 t3 t4 a b c d first second third fourth) fifth
