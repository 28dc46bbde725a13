-- What ports contribute, one port after another.
use Rattle.std.proofs.Common.{◌≡◌, ℕ, ◌+◌, ◌<◌, ◌≤◌, arith, List, [], ◌∷◌, ◌++◌, take, drop, length, get_or, sym, ap, subst, ◌∙◌}
use Rattle.std.proofs.lemmas.List.{take_more, take-append-drop}
use Rattle.kp_types.specs.Setting.{Setting}
use Rattle.kp_object_defs.specs.PortInfo.{PortInfo}
use Rattle.kp_full_table.specs.Parts.{IsPartOf, port_rule_count, all_rule_count}
use Rattle.kp_full_table.specs.declared.part.Part.{Part}

module _ (setting : Setting) where
  more_ports : (is : List PortInfo) (k : ℕ) (i : PortInfo) → k < length is → i ≡ get_or is k i
      → take (k + 1) is ≡ take k is ++ i ∷ []
  more_ports is k i lt at = take_more is k i lt ∙ ap (λ x. take k is ++ x ∷ []) (sym at)

  all_count-append : (xs ys : List PortInfo)
      → all_rule_count setting (xs ++ ys) ≡ all_rule_count setting xs + all_rule_count setting ys
  all_count-append [] ys = omega arith
  all_count-append (x ∷ xs) ys = omega (arith, all_count-append xs ys)

  -- one more port
  pub next_part : (is : List PortInfo) (k : ℕ) (i : PortInfo) (p : Part)
      → IsPartOf setting (take k is ++ i ∷ []) p → k < length is → i ≡ get_or is k i
      → IsPartOf setting (take (k + 1) is) p
  next_part is k i p h lt at = subst (λ xs. IsPartOf setting xs p) (sym (more_ports is k i lt at)) h

  pub next_count : (is : List PortInfo) (k : ℕ) (i : PortInfo) (start before now : ℕ)
      → before ≡ start + all_rule_count setting (take k is) → now ≡ before + port_rule_count setting i
      → k < length is → i ≡ get_or is k i → now ≡ start + all_rule_count setting (take (k + 1) is)
  next_count is k i start before now so_far counted lt at =
      omega (arith, so_far, counted, ap (all_rule_count setting) (more_ports is k i lt at), all_count-append (take k is) (i ∷ []))

  -- some of the ports have at most the rules of all
  pub some_count : (is : List PortInfo) (k : ℕ) → all_rule_count setting (take k is) ≤ all_rule_count setting is
  some_count is k = omega (arith, ap (all_rule_count setting) (take-append-drop k is), all_count-append (take k is) (drop k is))
