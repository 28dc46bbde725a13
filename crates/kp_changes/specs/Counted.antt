-- How many endpoints sources inside have, as it is printed.
use Rattle.std.specs.Prelude.{ℕ, ◌==◌, Bool, List, ◌++◌, codes, cond, decimal}
use Rattle.kp_change_defs.specs.ValueText.{now_text, unless}

-- the words and the number
abbrev pub inside_count : ℕ → List ℕ
inside_count n = codes "inside open " ++ decimal n

-- how many there are after, by itself at a door that comes, or else where it differs from before
abbrev pub inside_counts : Bool → ℕ → ℕ → List ℕ
inside_counts comes before after =
    cond comes (inside_count after)
    (inside_count before ++ unless (before == after) (now_text (inside_count after)))
