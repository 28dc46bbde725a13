-- The number of rules of chains, one chain after another.
use Rattle.std.proofs.Common.{◌≡◌, ℕ, ◌+◌, ◌<◌, arith, List, [], ◌∷◌, ◌++◌, take, length, get_or, sym, ap, ◌∙◌}
use Rattle.std.proofs.lemmas.List.{take_more, map-append}
use Rattle.kp_types.specs.declared.chain.ChainAt.{ChainAt}
use Rattle.kp_types.specs.declared.rule.ChainText.{ChainText}
use Rattle.kp_types.specs.declared.rule.Rule.{Rule}
use Rattle.kp_chains.specs.Rows.{row_of, rows_of_texts, rule_count}

pub count-append : (rs ss : List (ChainAt × List Rule)) → rule_count (rs ++ ss) ≡ rule_count rs + rule_count ss
count-append [] ss = omega arith
count-append (r ∷ rs) ss = omega (arith, count-append rs ss)

count_more : (cs : List ChainText) (i : ℕ) (c : ChainText) → i < length cs → c ≡ get_or cs i c
    → rule_count (rows_of_texts (take (i + 1) cs)) ≡ rule_count (rows_of_texts (take i cs)) + length c.rules
count_more cs i c lt at =
    ap (λ t. rule_count (rows_of_texts t)) (take_more cs i c lt ∙ ap (λ x. take i cs ++ x ∷ []) (sym at))
    ∙ ap rule_count (map-append row_of (take i cs) (c ∷ []))
    ∙ count-append (rows_of_texts (take i cs)) (row_of c ∷ [])
    ∙ omega arith

-- one more chain was counted
pub next_count : (start before now : ℕ) (cs : List ChainText) (i : ℕ) (c : ChainText) (rules : List Rule)
    → before ≡ start + rule_count (rows_of_texts (take i cs)) → now ≡ before + length rules → rules ≡ c.rules
    → i < length cs → c ≡ get_or cs i c → now ≡ start + rule_count (rows_of_texts (take (i + 1) cs))
next_count start before now cs i c rules so_far counted is lt at =
    omega (arith, so_far, counted, ap length is, count_more cs i c lt at)
