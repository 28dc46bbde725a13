-- The places of chains by place, in order, and what an insert makes of their entries.
use Rattle.std.proofs.Common.{◌≡◌, ◌≤◌, ◌<◌, ◌+◌, ◌-◌, ℕ, zero, suc, Bool, true, false, cond, List, [], ◌∷◌, drop, length, map, slice_get, Some, Result, Ok, Err, sym, ap, ◌∙◌, T, arith}
use Rattle.std.specs.declared.cmp.Ordering.TheVariants.{Less}
use Rattle.std.specs.Result.{IsOk, OnOk}
use Rattle.std.specs.List.{AllByRecursion}
use Rattle.std.proofs.lemmas.Bool.{false≢true}
use Rattle.std.proofs.lemmas.List.{length-map}
use Rattle.std.specs.List.Sorted.{IsStrictlySortedBy}
use Rattle.std.specs.FinMap.{FinMap, entries, keys, insert, is_sorted, from_entries, len, len-entries, len-empty, len-insert, contains_key, entries_sorted}
use Rattle.std.specs.FinMap.Entries.{below_all}
use Rattle.std.specs.Map.{lookup}
use Rattle.kp_base.proofs.Maps.{inserted}
use Rattle.kp_types.specs.Places.{chain_cmp}
use Rattle.kp_types.specs.declared.chain.ChainAt.{ChainAt}
use Rattle.kp_types.specs.declared.rule.Rule.{Rule}
use Rattle.kp_types.proofs.ChainOrder.{chain_total, chain_exact, chain_ties}
use Rattle.kp_types.specs.contracts.chain.ChainAtPartialEq.TheImpl as same
use Rattle.kp_lemmas.proofs.Booleans.{both_facts}
use Rattle.kp_lemmas.proofs.Orders.{less_from_fact}

-- chains, as their entries
abbrev Entries : Type 0
Entries = List (ChainAt × List Rule)

-- ---- all chains

below : (x : ChainAt) (es : Entries) → T (below_all chain_cmp x es) → AllByRecursion (λ y. chain_cmp x y ≡ Less) (map (λ e. e.0) es)
below x [] h = tt
below x (e ∷ es) h = (less_from_fact (chain_cmp x e.0) (both_facts _ _ h).0, below x es (both_facts _ _ h).1)

sorted_places : (es : Entries) → T (is_sorted chain_cmp es) → IsStrictlySortedBy chain_cmp (map (λ e. e.0) es)
unfolding IsStrictlySortedBy
sorted_places [] h = tt
sorted_places (e ∷ es) h = (below e.0 es (both_facts _ _ h).0, sorted_places es (both_facts _ _ h).1)

pub keys-sorted : (m : FinMap chain_cmp (List Rule)) → IsStrictlySortedBy chain_cmp (keys m)
keys-sorted m = sorted_places (entries m) (entries_sorted m)

no_more : (b : Bool) (n k : ℕ) → n ≤ k → cond b n (n + 1) ≤ k + 1
no_more true n k h = omega arith
no_more false n k h = omega arith

few : (es : Entries) → len (from_entries {R = chain_cmp} es) ≤ length es
few [] = omega (arith, len-empty chain_cmp (List Rule))
few (e ∷ es) = omega (arith, len-insert chain_total (from_entries es) e.0 e.1, no_more (contains_key (from_entries {R = chain_cmp} es) e.0) _ _ (few es))

pub length-keys-le : (es : Entries) → length (keys (from_entries {R = chain_cmp} es)) ≤ length es
length-keys-le es = omega (arith, length-map (entries (from_entries {R = chain_cmp} es)) (λ e. e.0), len-entries (from_entries {R = chain_cmp} es), few es)

-- ---- a copy, entry by entry from the last

entry_at : (es : Entries) (j : ℕ) (e : ChainAt × List Rule) → Some e ≡ slice_get es j → drop j es ≡ e ∷ drop (suc j) es
entry_at [] j e h = absurd (cc)
entry_at (x ∷ es) zero e h = let same : x ≡ e = cc in ap (λ y. y ∷ es) same
entry_at (x ∷ es) (suc j) e h = entry_at es j e h

-- the entries behind one and then it are those from it on
pub entry_added : (es : Entries) (i : ℕ) (at : ChainAt) (rules : List Rule) → 0 < i → Some (at, rules) ≡ slice_get es (i - 1)
    → insert (from_entries {R = chain_cmp} (drop i es)) at rules ≡ from_entries (drop (i - 1) es)
entry_added es i at rules some h =
    let next : suc (i - 1) ≡ i = omega arith in
    ap (λ k. insert (from_entries {R = chain_cmp} (drop k es)) at rules) (sym next)
    ∙ sym (ap (from_entries {R = chain_cmp}) (entry_at es (i - 1) (at, rules) h))

-- ---- what an insert with room answers

pub from_ok : {X E : Type 0} (r : Result X E) (P : Type 0) → IsOk r → OnOk r P → P
from_ok (Ok x) P ok h = h
from_ok (Err e) P ok h = absurd (false≢true ok)

-- entries that answer as others do, with rules at a place
pub written : (es fs : Entries) (at : ChainAt) (rules : List Rule) → ((q : ChainAt) → lookup (same.ghosts.eq q) fs ≡ cond (same.ghosts.eq at q) (Some rules) (lookup (same.ghosts.eq q) es))
    → from_entries {R = chain_cmp} fs ≡ insert (from_entries es) at rules
written es fs at rules h = inserted chain_total chain_ties chain_exact es fs at rules h
