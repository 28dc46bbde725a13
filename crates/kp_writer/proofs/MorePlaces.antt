-- One place more among edits, and the places of a sorted map.
use Rattle.std.proofs.Common.{◌≡◌, List, [], ◌∷◌, ◌++◌, map, Option, append_assoc, sym, ap}
use Rattle.std.proofs.Common.{subst, ◌∙◌}
use Rattle.std.specs.List.{filter_map}
use Rattle.std.specs.List.Sorted.{IsStrictlySortedBy}
use Rattle.std.specs.Option.{option_to_list}
use Rattle.std.specs.FinMap.{entries, from_entries}
use Rattle.std.proofs.lemmas.List.{map-append}
use Rattle.std.proofs.lemmas.List.Elements.{filter_map-append}
use Rattle.kp_lemmas.proofs.ListFacts.{only_option}
use Rattle.kp_store.proofs.SortedEntries.{entries_of}
use Rattle.kp_types.specs.Places.{chain_cmp}
use Rattle.kp_types.specs.contracts.chain.ChainAtOrd.TheImpl as order
use Rattle.kp_types.specs.declared.chain.ChainAt.{ChainAt}
use Rattle.kp_types.proofs.ChainOrder.{chain_total, chain_exact, chain_matches}

-- what was added for the elements so far and for one more
pub added_one : {A P E : Type 0} (show : A → P) (h : P → Option E) (start made more : List E)
    (xs : List A) (x : A) → made ≡ start ++ filter_map h (map show xs)
    → more ≡ made ++ option_to_list (h (show x))
    → more ≡ start ++ filter_map h (map show (xs ++ x ∷ []))
added_one show h start made more xs x was is =
    is
    ∙ ap (λ es. es ++ option_to_list (h (show x))) was
    ∙ append_assoc start (filter_map h (map show xs)) (option_to_list (h (show x)))
    ∙ ap (λ es. start ++ (filter_map h (map show xs) ++ es)) (sym (only_option (h (show x))))
    ∙ ap (λ es. start ++ es) (sym (filter_map-append h (map show xs) (show x ∷ [])))
    ∙ ap (λ ys. start ++ filter_map h ys) (sym (map-append show xs (x ∷ [])))

-- the entries of a sorted map of places are those of its finite map
pub place_entries : {X : Type 0} (es : List (ChainAt × X))
    → IsStrictlySortedBy order.ghosts.cmp (map (λ e. e.0) es)
    → es ≡ entries (from_entries {R = chain_cmp} es)
place_entries es h =
    sym (entries_of chain_total chain_exact es (subst (λ R. IsStrictlySortedBy R (map (λ e. e.0) es))
    (λ i a b. chain_matches a b i) h))
