-- The pieces of the lines before a body, one after the other.
use Rattle.std.proofs.Common.{◌≡◌, ℕ, List, ◌++◌, sym, ap, ◌∙◌, append_assoc}
use Rattle.kp_report.proofs.Pieces.{two_added}

-- two lines: one of two pieces and one of one, each with its end
two_lines : (end protocol status kind old t1 t2 t3 t4 t5 : List ℕ)
    → t1 ≡ old ++ protocol → t2 ≡ t1 ++ status → t3 ≡ t2 ++ end → t4 ≡ t3 ++ kind
    → t5 ≡ t4 ++ end → t5 ≡ old ++ (protocol ++ status ++ end ++ kind ++ end)
two_lines end protocol status kind old t1 t2 t3 t4 t5 p1 p2 p3 p4 p5 =
    two_added old t4 t5 (protocol ++ status ++ end ++ kind) end
    (two_added old t3 t4 (protocol ++ status ++ end) kind
    (two_added old t2 t3 (protocol ++ status) end
    (two_added old t1 t2 protocol status p1 p2) p3) p4) p5

-- and behind them a line of words and a number, and an empty one
pub head_added : (end protocol status kind words number old t1 t2 t3 t4 t5 t6 t7 new : List ℕ)
    → t1 ≡ old ++ protocol → t2 ≡ t1 ++ status → t3 ≡ t2 ++ end → t4 ≡ t3 ++ kind
    → t5 ≡ t4 ++ end → t6 ≡ t5 ++ (words ++ number) → t7 ≡ t6 ++ end → new ≡ t7 ++ end
    → new
    ≡ old ++ (protocol ++ status ++ end ++ kind ++ end ++ words ++ number ++ end ++ end)
head_added end protocol status kind words number old t1 t2 t3 t4 t5 t6 t7 new p1 p2 p3 p4 p5 p6 p7
    p8 =
    let lines : List ℕ = protocol ++ status ++ end ++ kind ++ end in
    let length : List ℕ = lines ++ words ++ number in
    two_added old t7 new (length ++ end) end
    (two_added old t6 t7 length end
    (two_added old t5 t6 lines (words ++ number)
    (two_lines end protocol status kind old t1 t2 t3 t4 t5 p1 p2 p3 p4 p5) p6
    ∙ ap (λ rest. old ++ rest) (sym (append_assoc lines words number))) p7) p8
