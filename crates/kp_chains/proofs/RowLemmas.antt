-- Rows that are added one after another.
use Rattle.std.proofs.Common.{◌≡◌, ℕ, List, [], ◌∷◌, ◌++◌, ap, ◌∙◌, append_assoc}
use Rattle.kp_types.specs.declared.chain.ChainAt.{ChainAt}
use Rattle.kp_types.specs.declared.chain.TableName.{TableName}
use Rattle.kp_types.specs.declared.rule.Rule.{Rule}
use Rattle.kp_table_defs.specs.Layout.{row}

module _ (at table : TableName) (is : at ≡ table) where
  -- the first row of a table
  pub first_row : (new old : List (ChainAt × List Rule)) (chain : List ℕ) (rules rs : List Rule)
      → new ≡ old ++ row at chain rules ∷ [] → rules ≡ rs → new ≡ old ++ row table chain rs ∷ []
  first_row new old chain rules rs e q = e ∙ (λ i. old ++ row (is i) chain (q i) ∷ [])

  -- one more row after others
  pub next_row : (new old before front : List (ChainAt × List Rule)) (chain : List ℕ)
      (rules rs : List Rule) → new ≡ old ++ row at chain rules ∷ [] → rules ≡ rs
      → old ≡ before ++ front → new ≡ before ++ (front ++ row table chain rs ∷ [])
  next_row new old before front chain rules rs e q d =
      e ∙ (λ i. d i ++ row (is i) chain (q i) ∷ [])
      ∙ append_assoc before front (row table chain rs ∷ [])

-- more rows after others
pub more_rows : (new old before front more : List (ChainAt × List Rule)) → new ≡ old ++ more → old ≡ before ++ front → new ≡ before ++ (front ++ more)
more_rows new old before front more e d = e ∙ ap (λ r. r ++ more) d ∙ append_assoc before front more
