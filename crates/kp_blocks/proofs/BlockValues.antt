-- The ports and the blocks of a sorted map, in order.
use Rattle.std.proofs.Common.{◌≡◌, List, [], ◌∷◌, ◌++◌, map, flat_map, append-nil, sym, ap, ◌∙◌}
use Rattle.std.proofs.Common.{Bor}
use Rattle.std.specs.declared.cmp.Ordering.TheVariants.{Less}
use Rattle.std.specs.List.Sorted.{IsStrictlySortedBy}
use Rattle.std.specs.FinMap.{from_entries, keys, values}
use Rattle.std.proofs.lemmas.List.{map-append}
use Rattle.std.proofs.lemmas.List.Concat.{flat_map-append}
use Rattle.kp_lemmas.proofs.ListFacts.{all_weaker}
use Rattle.kp_base.specs.Keys.{port_key_cmp}
use Rattle.kp_base.specs.declared.key.PortKey.{PortKey}
use Rattle.kp_base.specs.contracts.key.PortKeyOrd.TheImpl as order
use Rattle.kp_base.proofs.KeyOrder.{port_key_total, port_key_exact, port_key_matches}
use Rattle.kp_types.specs.declared.rule.ChainText.{ChainText}
use Rattle.kp_store.proofs.SortedEntries.{entries_of}

-- what one element more adds
pub joined_more : {A B : Type 0} (f : A → List B) (xs : List (Bor A)) (x : Bor A)
    → flat_map f (map (λ b. b.now) xs) ++ f x.now
    ≡ flat_map f (map (λ b. b.now) (xs ++ x ∷ []))
joined_more f xs x =
    ap (λ r. flat_map f (map (λ b. b.now) xs) ++ r) (sym (append-nil (f x.now)))
    ∙ sym (flat_map-append f (map (λ b. b.now) xs) (x.now ∷ []))
    ∙ ap (flat_map f) (sym (map-append (λ b. b.now) xs (x ∷ [])))

-- names in the order that is derived rise
rises : (ks : List PortKey) → IsStrictlySortedBy order.ghosts.cmp ks
    → IsStrictlySortedBy port_key_cmp ks
unfolding IsStrictlySortedBy
rises [] h = tt
rises (k ∷ ks) h = (
  all_weaker (λ l. order.ghosts.cmp k l ≡ Less) (λ l. port_key_cmp k l
      ≡ Less) (λ l is. sym (port_key_matches k l) ∙ is) ks h.0,
  rises ks h.1,
)

-- the blocks of a sorted map, in order, are those of its finite map
pub block_values : (es : List (PortKey × List ChainText))
    → IsStrictlySortedBy order.ghosts.cmp (map (λ e. e.0) es)
    → map (λ e. e.1) es ≡ values (from_entries {R = port_key_cmp} es)
block_values es h =
    ap (map (λ e. e.1)) (sym (entries_of port_key_total port_key_exact es (rises (map
    (λ e. e.0) es) h)))

-- so are the ports that have one
pub block_ports : (es : List (PortKey × List ChainText))
    → IsStrictlySortedBy order.ghosts.cmp (map (λ e. e.0) es)
    → map (λ e. e.0) es ≡ keys (from_entries {R = port_key_cmp} es)
block_ports es h =
    ap (map (λ e. e.0)) (sym (entries_of port_key_total port_key_exact es (rises (map
    (λ e. e.0) es) h)))
