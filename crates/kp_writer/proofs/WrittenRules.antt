-- The batch of a sync writes at most the rules of the own chains of ports that differ.
use Rattle.std.proofs.Common.{◌≡◌, ℕ, ◌+◌, ◌==◌, ◌≤◌, arith, Bool, true, false, cond, List, []}
use Rattle.std.proofs.Common.{◌∷◌, ◌++◌, length, Option, Some, None, is_some, refl, sym, ap, subst}
use Rattle.std.proofs.Common.{◌∙◌}
use Rattle.std.specs.declared.cmp.Ordering.{Ordering}
use Rattle.std.specs.declared.cmp.Ordering.TheVariants.{Less, Equal, Greater}
use Rattle.std.specs.List.{cons_option, filter_map, flat_map, fold}
use Rattle.std.specs.FinMap.{entries, entries-insert, get, insert}
use Rattle.std.specs.FinMap.Entries.{by_order, put}
use Rattle.kp_lemmas.proofs.Entries.{empty_entries}
use Rattle.kp_base.specs.declared.address.Family.{Family}
use Rattle.kp_base.specs.declared.address.Family.TheVariants.{V4, V6}
use Rattle.kp_base.specs.declared.key.PortKey.{PortKey}
use Rattle.kp_types.specs.Places.{chain_cmp, table_place}
use Rattle.kp_types.specs.Setting.{Setting}
use Rattle.kp_types.specs.declared.chain.ChainAt.{ChainAt}
use Rattle.kp_types.specs.declared.chain.TableName.{TableName}
use Rattle.kp_types.specs.declared.chain.TableName.TheVariants.{Nat, Filter, Nat6, Filter6}
use Rattle.kp_types.specs.declared.rule.Edit.{Edit}
use Rattle.kp_types.specs.declared.rule.Edit.TheVariants.{Write, Remove}
use Rattle.kp_types.specs.declared.rule.Rule.{Rule}
use Rattle.kp_types.proofs.ChainOrder.{chain_total, chain_exact}
use Rattle.kp_table_defs.specs.Layout.{port_rows}
use Rattle.kp_table_defs.specs.Edits.{is_found_with}
use Rattle.kp_table_defs.specs.Rebuild.{Chains}
use Rattle.kp_rules.specs.Changes.{is_in, write_if_found}
use Rattle.kp_chains.specs.Rows.{rule_count}
use Rattle.kp_blocks.specs.Joined.{BlocksByPort, fixed_chains, joined_rules}
use Rattle.kp_writer.specs.Batch.{is_fixed, own_rules_of, own_rules_written}
use Rattle.kp_writer.specs.Next.{NextParts, Place, edits_of, leave, remove_of, table_edits, write}
use Rattle.kp_writer.specs.Next.{write_of}
use Rattle.kp_writer.specs.Own.{left, own_rule_count, places_of, unchanged, with_own}
use Rattle.kp_writer.specs.Shared.{join_if, touched_by, with_shared}
use Rattle.kp_writer.specs.Sync.{changes_of, infos_at, sync_next}
use Rattle.kp_writer.specs.Written.{Ports}
use Rattle.kp_writer.specs.declared.shared.Touched.{Touched}
use Rattle.kp_writer.proofs.SharedPlaces.{IsFixed, through_joins}

-- ---- Places

-- how many rules of a port's own chain stand at a place
abbrev own_rules_at : Place → ℕ
own_rules_at (at, None) = 0
own_rules_at (at, Some rules) = cond (is_fixed at) 0 (length rules)

abbrev own_rules_in : List Place → ℕ
own_rules_in [] = 0
own_rules_in (p ∷ ps) = own_rules_at p + own_rules_in ps

-- ---- Edits at places

-- those that an edit writes, if there is one
abbrev if_written : Option Edit → ℕ
if_written None = 0
if_written (Some e) = own_rules_of e

one_more : (o : Option Edit) (es : List Edit)
    → own_rules_written (cons_option o es) ≡ if_written o + own_rules_written es
one_more None es = omega arith
one_more (Some e) es = refl

-- edits, one after another
pub own_rules_written-append : (es fs : List Edit)
    → own_rules_written (es ++ fs) ≡ own_rules_written es + own_rules_written fs
own_rules_written-append [] fs = omega arith
own_rules_written-append (e ∷ es) fs = omega (arith, own_rules_written-append es fs)

if_changed : (b : Bool) (at : ChainAt) (rules : List Rule)
    → if_written (cond b None (Some (Write at rules))) ≤ cond (is_fixed at) 0 (length rules)
if_changed true at rules = omega arith
if_changed false at rules = omega arith

if_found : (was : Chains) (at : ChainAt) (chain : Option (List Rule))
    → if_written (write_if_found was at chain) ≤ own_rules_at (at, chain)
if_found was at None = omega arith
if_found was at (Some rules) = if_changed (is_found_with rules (get was at)) at rules

-- a place is in one table
in_one : (t : TableName) (o : Option Edit)
    → if_written (cond (table_place t == table_place Nat) o None)
    + if_written (cond (table_place t == table_place Filter) o None)
    + if_written (cond (table_place t == table_place Nat6) o None)
    + if_written (cond (table_place t == table_place Filter6) o None) ≤ if_written o
in_one Nat o = omega arith
in_one Filter o = omega arith
in_one Nat6 o = omega arith
in_one Filter6 o = omega arith

no_rules : (a b c : Bool) (at : ChainAt)
    → if_written (cond a (cond b (cond c None (Some (Remove at))) None) None) ≡ 0
no_rules true true true at = refl
no_rules true true false at = refl
no_rules true false c at = refl
no_rules false b c at = refl

-- the rules that are written in a table
abbrev written_in : Chains → List Place → TableName → ℕ
written_in was ps t = own_rules_written (filter_map (write_of was t) ps)

writes : (was : Chains) (ps : List Place)
    → written_in was ps Nat + written_in was ps Filter + written_in was ps Nat6
    + written_in was ps Filter6 ≤ own_rules_in ps
writes was [] = omega arith
writes was (p ∷ ps) =
    omega (
      arith,
      one_more (write_of was Nat p) (filter_map (write_of was Nat) ps),
      one_more (write_of was Filter p) (filter_map (write_of was Filter) ps),
      one_more (write_of was Nat6 p) (filter_map (write_of was Nat6) ps),
      one_more (write_of was Filter6 p) (filter_map (write_of was Filter6) ps),
      in_one p.0.table (write_if_found was p.0 p.1),
      if_found was p.0 p.1,
      writes was ps,
    )

removes : (was : Chains) (t : TableName) (ps : List Place)
    → own_rules_written (filter_map (remove_of was t) ps) ≡ 0
removes was t [] = refl
removes was t (p ∷ ps) =
    omega (
      arith,
      one_more (remove_of was t p) (filter_map (remove_of was t) ps),
      no_rules (is_some (get was p.0)) (is_in t p.0) (is_some p.1) p.0,
      removes was t ps,
    )

-- the edits of a table write what its writes write
in_table : (was : Chains) (ps : List Place) (t : TableName)
    → own_rules_written (table_edits was ps t) ≡ written_in was ps t
in_table was ps t =
    omega (
      arith,
      own_rules_written-append (filter_map (write_of was t) ps) (filter_map (remove_of was t) ps),
      removes was t ps,
    )

in_both : (was : Chains) (ps : List Place) (t u : TableName)
    → written_in was ps t + written_in was ps u ≤ own_rules_in ps
    → own_rules_written (table_edits was ps t ++ table_edits was ps u) ≤ own_rules_in ps
in_both was ps t u few =
    let both = own_rules_written-append (table_edits was ps t) (table_edits was ps u) in
    omega (arith, few, both, in_table was ps t, in_table was ps u)

at_places : (family : Family) (was : Chains) (ps : List Place)
    → own_rules_written (edits_of family was ps) ≤ own_rules_in ps
at_places V4 was ps = in_both was ps Nat Filter (omega (arith, writes was ps))
at_places V6 was ps = in_both was ps Nat6 Filter6 (omega (arith, writes was ps))

-- ---- What stands after

put_by : (k : ChainAt) (v : Option (List Rule)) (e : Place) (es : List Place) (o : Ordering)
    → chain_cmp k e.0 ≡ o
    → own_rules_in (put chain_cmp k v es) ≤ own_rules_in es + own_rules_at (k, v)
    → own_rules_in (by_order o ((k, v) ∷ e ∷ es) ((e.0, v) ∷ es) (e ∷ put chain_cmp k v es))
    ≤ own_rules_in (e ∷ es) + own_rules_at (k, v)
put_by k v e es Less is h = omega arith
put_by k v e es Equal is h =
    omega (arith, ap (λ at. own_rules_at (at, v)) (chain_exact k e.0 is))
put_by k v e es Greater is h = omega (arith, h)

put_rules : (k : ChainAt) (v : Option (List Rule)) (es : List Place)
    → own_rules_in (put chain_cmp k v es) ≤ own_rules_in es + own_rules_at (k, v)
put_rules k v [] = omega arith
put_rules k v (e ∷ es) = put_by k v e es (chain_cmp k e.0) refl (put_rules k v es)

abbrev standing : NextParts → ℕ
standing n = own_rules_in (entries n.places)

more_at : (n : NextParts) (at : ChainAt) (chain : Option (List Rule))
    → own_rules_in (entries (insert n.places at chain)) ≤ standing n + own_rules_at (at, chain)
more_at n at chain =
    subst (λ es. own_rules_in es ≤ standing n + own_rules_at (at, chain))
    (sym (entries-insert chain_total n.places at chain)) (put_rules at chain (entries n.places))

all_left : (n : NextParts) (ps : List ChainAt) → standing (fold leave n ps) ≤ standing n
all_left n [] = omega arith
all_left n (p ∷ ps) = omega (arith, all_left (leave n p) ps, more_at n p None)

at_most : (b : Bool) (n : ℕ) → cond b 0 n ≤ n
at_most true n = omega arith
at_most false n = omega arith

all_written : (was : Chains) (n : NextParts) (rows : List (ChainAt × List Rule))
    → standing (fold (write was) n rows) ≤ standing n + rule_count rows
all_written was n [] = omega arith
all_written was n (r ∷ rows) =
    omega (
      arith,
      all_written was (write was n r) rows,
      more_at n r.0 (Some r.1),
      at_most (is_fixed r.0) (length r.1),
    )

module _ (family : Family) (blocks : BlocksByPort) where
  joined : (n : NextParts) (b : Bool) (at : ChainAt) → IsFixed family at
      → standing (join_if family blocks n b at) ≤ standing n
  joined n true at fixed =
      let mine : is_fixed at ≡ true =
      ap (λ f. is_some (get (fixed_chains f) at)) fixed.0 ∙ fixed.1 in
      omega (
        arith,
        more_at n at (Some (joined_rules family blocks at)),
        ap (λ f. cond f 0 (length (joined_rules family blocks at))) mine,
      )
  joined n false at fixed = omega arith

  all_joined : (n : NextParts) (t : Touched)
      → standing (with_shared family blocks t n) ≤ standing n
  all_joined n t =
      through_joins family blocks n (λ m. standing m ≤ standing n)
      (λ m b at fixed h. omega (arith, joined m b at fixed, h)) t (omega arith)

-- they are at most the rules of the ports that differ
pub written_rules : (was : Chains) (blocks : BlocksByPort) (s : Setting) (before after : Ports)
    (keys : List PortKey)
    → own_rules_written
    (edits_of s.family was (entries (sync_next was blocks s before after keys).places))
    ≤ own_rule_count s (infos_at after keys)
written_rules was blocks s before after keys =
    let gone = left s unchanged (infos_at before keys) in
    let own = with_own was s (infos_at before keys) (infos_at after keys) in
    omega (
      arith,
      at_places s.family was (entries (sync_next was blocks s before after keys).places),
      all_joined s.family blocks own (touched_by s (changes_of before after keys)),
      all_written was gone (flat_map (port_rows s) (infos_at after keys)),
      all_left unchanged (flat_map (places_of s) (infos_at before keys)),
      ap own_rules_in (empty_entries chain_cmp),
    )
