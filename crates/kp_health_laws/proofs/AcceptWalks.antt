-- Walks through a table with accept rules: no jump of a ranked table leads to their chain, and
-- where packets to the node pass them last, they change nothing but which rule accepts.
use Rattle.std.proofs.Common.{◌≡◌, ◌==◌, ◌&&◌, ◌||◌, ℕ, Bool, true, false, cond, List, [], ◌∷◌, ◌++◌, map, Option, Some, None, codes, is_some, refl, sym, ap, subst, ◌∙◌, arith}
use Rattle.std.specs.FinMap.{entries, find, get, get-entries, get-insert, insert}
use Rattle.std.specs.List.{list_all}
use Rattle.std.specs.Ordering.{eq_by_cmp, nat_cmp}
use Rattle.std.proofs.lemmas.Bool.{and_parts, or_parts, false≢true, false_from_ne_true, ltb-true}
use Rattle.kp_lemmas.proofs.Orders.{one_from_tie, tie_of_itself}
use Rattle.kp_base.specs.declared.address.Family.{Family}
use Rattle.kp_base.specs.declared.address.Family.TheVariants.{V4, V6}
use Rattle.kp_base.specs.declared.port.Proto.TheVariants.{Tcp}
use Rattle.kp_types.specs.Packets.{family_of_packet}
use Rattle.kp_types.specs.Places.{chain_cmp, place_in}
use Rattle.kp_types.specs.Ports.{same_proto}
use Rattle.kp_types.specs.declared.chain.ChainAt.{ChainAt}
use Rattle.kp_types.specs.declared.chain.TableName.TheVariants.{Nat, Filter, Nat6, Filter6}
use Rattle.kp_types.specs.declared.rule.Edit.TheVariants.{Write}
use Rattle.kp_types.specs.declared.rule.Match.TheVariants as match
use Rattle.kp_types.specs.declared.rule.Rule.{Rule}
use Rattle.kp_types.specs.declared.rule.Target.{Target}
use Rattle.kp_types.specs.declared.rule.Target.TheVariants as target
use Rattle.kp_types.specs.declared.walk.Ending.{Ending}
use Rattle.kp_types.specs.declared.walk.Ending.TheVariants as ending
use Rattle.kp_types.proofs.ChainOrder.{chain_exact, chain_total}
use Rattle.kp_object_defs.specs.Order.{distinct_in_order}
use Rattle.kp_table_defs.specs.Layout.{jump_to, kube_node_ports}
use Rattle.kp_table_defs.specs.Matching.{WalkState, Surroundings}
use Rattle.kp_table_defs.specs.Ranks.{goes_on, is_above, is_ranked_chain, jumps_go_on, rank_of}
use Rattle.kp_table_defs.specs.Rebuild.{Chains}
use Rattle.kp_table_defs.specs.Walk.{Outcome, and_then, chain_outcome, found_outcome, initial_state, journey_of, most_chains, returned_from, rules_outcome, surroundings_of, target_if, walked_by}
use Rattle.kp_table_defs.specs.Walk.Outcome.{Next, Left, Ended, Stuck}
use Rattle.kp_walk_laws.proofs.Matches.{rule_if, tried_alone}
use Rattle.kp_walk_laws.proofs.Outcomes.{and_then_next, rules_append}
use Rattle.kp_health_defs.specs.AcceptRules.{accept_chain, accept_rule, accept_rules, health_batch_of}
use Rattle.kp_health_laws.specs.AcceptLaws.{BatchDecidesAlike, DecideAlike, HaveOneEnd, JumpDecidesAlike, MayAccept, appended, input_chain, with_batch}
use Rattle.kp_health_laws.proofs.Jumps.{AllAvoid, AreApart, avoids, chains_alike, rules_alike, same_chains}
use Rattle.kp_health_laws.proofs.Trails.{ends_alike, filtered}

-- a chain of the filter of IPv4
abbrev in_filter : List ℕ → ChainAt
in_filter chain = record { table = Filter; chain = chain }

-- the chains in which a table with accept rules may differ
abbrev is_changed : List ℕ → Bool
is_changed chain =
    eq_by_cmp chain_cmp (in_filter chain) accept_chain
    || eq_by_cmp chain_cmp (in_filter chain) input_chain

-- ---- Ranked tables

-- a chain that is found among ranked ones is ranked
ranked_there : (chains : Chains) (q : ChainAt) (rules : List Rule)
    (rows : List (ChainAt × List Rule)) → list_all (is_ranked_chain chains) rows ≡ true
    → find chain_cmp q rows ≡ Some rules → is_ranked_chain chains (q, rules) ≡ true
ranked_there chains q rules [] h found = absurd (cc)
ranked_there chains q rules (r ∷ rows) h found =
    let both = and_parts (is_ranked_chain chains r) (list_all (is_ranked_chain chains) rows) h in
    by (eq_by_cmp chain_cmp q r.0) refl found both.0
    (ranked_there chains q rules rows both.1)
  where
    by : (b : Bool) → eq_by_cmp chain_cmp q r.0 ≡ b
        → cond b (Some r.1) (find chain_cmp q rows) ≡ Some rules
        → is_ranked_chain chains r ≡ true
        → (find chain_cmp q rows ≡ Some rules → is_ranked_chain chains (q, rules) ≡ true)
        → is_ranked_chain chains (q, rules) ≡ true
    by true tie found first rest =
        let here : q ≡ r.0 = one_from_tie chain_exact q r.0 tie in
        let same : r.1 ≡ rules = cc in
        ap (is_ranked_chain chains) (λ i. (here i, sym same i)) ∙ first
    by false tie found first rest = rest found

module _ (chains : Chains) (may : MayAccept chains) where
  -- a chain that a jump may go to is another one
  other_chain : (rank : ℕ) (chain : List ℕ) → is_some (get chains (in_filter chain)) ≡ true
      → is_above rank (rank_of (in_filter chain)) ≡ true → is_changed chain ≡ false
  other_chain rank chain there above =
      let unaccepted : eq_by_cmp chain_cmp (in_filter chain) accept_chain ≡ false =
      false_from_ne_true _ (λ tie. false≢true (sym (ap is_some (ap (get chains)
      (one_from_tie chain_exact (in_filter chain) accept_chain tie) ∙ may.free)) ∙ there)) in
      let unbuilt : eq_by_cmp chain_cmp (in_filter chain) input_chain ≡ false =
      false_from_ne_true _ (λ tie. absurd (omega (
        arith,
        ltb-true rank 0 (sym (ap (λ q. is_above
            rank (rank_of q)) (one_from_tie chain_exact (in_filter chain) input_chain tie))
            ∙ above),
      ))) in
      λ i. unaccepted i || unbuilt i

  avoids_by : (rank : ℕ) (t : Target) → goes_on chains Filter rank t ≡ true
      → avoids is_changed t
  avoids_by rank (target.Jump chain) h =
      let both = and_parts (is_some (get chains (in_filter chain)))
      (is_above rank (rank_of (in_filter chain))) h in
      other_chain rank chain both.0 both.1
  avoids_by rank target.Return h = tt
  avoids_by rank target.Accept h = tt
  avoids_by rank target.Drop h = tt
  avoids_by rank target.Reject h = tt
  avoids_by rank target.SetMark h = tt
  avoids_by rank target.FlipMark h = tt
  avoids_by rank (target.Dnat endpoint) h = tt
  avoids_by rank target.Masquerade h = tt

  all_avoid : (rank : ℕ) (rules : List Rule)
      → list_all (λ r. goes_on chains Filter rank r.target) rules ≡ true
      → AllAvoid is_changed rules
  all_avoid rank [] h = tt
  all_avoid rank (r ∷ rules) h =
      let both = and_parts _ _ h in
      (avoids_by rank r.target both.0, all_avoid rank rules both.1)

  ranked_avoid : (rank : Option ℕ) (rules : List Rule)
      → jumps_go_on chains Filter rank rules ≡ true → AllAvoid is_changed rules
  ranked_avoid None rules h = absurd (false≢true h)
  ranked_avoid (Some rank) rules h = all_avoid rank rules h

  -- no rule of the filter jumps to a chain that may differ
  avoided : (chain : List ℕ) (rules : List Rule)
      → get chains (in_filter chain) ≡ Some rules → AllAvoid is_changed rules
  avoided chain rules found =
      ranked_avoid (rank_of (in_filter chain)) rules
      (ranked_there chains (in_filter chain) rules (entries chains) may.ranked
      (sym (get-entries chains (in_filter chain)) ∙ found))

-- ---- The accept rules

-- a chain that is left goes on, or ends, as before
filtered_returned : (chain : List ℕ) (o : Outcome)
    → filtered (returned_from chain o) ≡ filtered o
filtered_returned chain (Next s) = refl
filtered_returned chain (Left s) = refl
filtered_returned chain (Ended end path s) = by end
  where
    by : (end : Ending) → filtered (Ended end (chain ∷ path) s) ≡ filtered (Ended end path s)
    by ending.Accept = refl
    by ending.Drop = refl
    by ending.Reject = refl
    by (ending.Dnat endpoint) = refl
    by ending.Masquerade = refl
filtered_returned chain Stuck = refl

module _ (e : Surroundings) (jump : List ℕ → WalkState → Outcome) (s : WalkState) where
  -- accept rules take a packet or not
  accepting : (ports : List ℕ)
      → filtered (rules_outcome e jump (map accept_rule ports) s) ≡ Next s
  accepting [] = refl
  accepting (port ∷ ports) =
      let takes : Bool = same_proto Tcp e.proto && (port == s.port) in
      ap (λ o. filtered (and_then o (rules_outcome e jump (map accept_rule ports))))
      (rule_if e jump s (match.Port Tcp port ∷ []) target.Accept takes (tried_alone s takes))
      ∙ by takes (accepting ports)
    where
      by : (b : Bool) → filtered (rules_outcome e jump (map accept_rule ports) s) ≡ Next s
          → filtered (and_then (target_if b jump target.Accept s)
          (rules_outcome e jump (map accept_rule ports))) ≡ Next s
      by true rest = refl
      by false rest = rest

-- what follows an outcome, where it changes nothing
filtered_then : (chain : List ℕ) (next : WalkState → Outcome)
    → ((s : WalkState) → filtered (next s) ≡ Next s) → (o : Outcome)
    → filtered (returned_from chain (and_then o next)) ≡ filtered (returned_from chain o)
filtered_then chain next h (Next s) = filtered_returned chain (next s) ∙ h s
filtered_then chain next h (Left s) = refl
filtered_then chain next h (Ended end path s) = refl
filtered_then chain next h Stuck = refl

-- ---- Tables that differ so

-- a table as IPv4 sees it
abbrev in_v4 : Chains → ChainAt → Option (List Rule)
in_v4 chains q = get chains (place_in V4 q)

module _ (chains new : Chains) (may : MayAccept chains)
    (elsewhere : (q : ChainAt) → eq_by_cmp chain_cmp q accept_chain ≡ false
    → eq_by_cmp chain_cmp q input_chain ≡ false → get new q ≡ get chains q) where
  apart : AreApart is_changed Filter (in_v4 new) (in_v4 chains)
  apart = record {
    same = λ chain h. let both = or_parts _ _ h in elsewhere (in_filter chain) both.0 both.1;
    avoided = avoided chains may;
  }

  module _ (e : Surroundings) where
    -- a jump from INPUT, in each of the tables
    abbrev after : List ℕ → WalkState → Outcome
    after = chain_outcome e (in_v4 new) Filter 7

    abbrev before : List ℕ → WalkState → Outcome
    before = chain_outcome e (in_v4 chains) Filter 7

    -- the rules of INPUT
    input_rules : (rules : List Rule) → get chains input_chain ≡ Some rules → (s : WalkState)
        → rules_outcome e after rules s ≡ rules_outcome e before rules s
    input_rules rules found s =
        rules_alike e is_changed after before
        (chains_alike e is_changed Filter (in_v4 new) (in_v4 chains) apart 7) rules
        (avoided chains may (codes "INPUT") rules found) s

    -- INPUT, where it stays
    input_kept : get new input_chain ≡ get chains input_chain → (s : WalkState)
        → filtered (chain_outcome e (in_v4 new) Filter most_chains (codes "INPUT") s)
        ≡ filtered (chain_outcome e (in_v4 chains) Filter most_chains (codes "INPUT") s)
    input_kept kept s =
        ap (λ o. filtered (found_outcome e after (codes "INPUT") o s)) kept
        ∙ by (get chains input_chain) refl
      where
        by : (o : Option (List Rule)) → get chains input_chain ≡ o
            → filtered (found_outcome e after (codes "INPUT") o s)
            ≡ filtered (found_outcome e before (codes "INPUT") o s)
        by None found = refl
        by (Some rules) found =
            ap (λ o. filtered (returned_from (codes "INPUT") o)) (input_rules rules found s)

    -- INPUT, where packets pass the accept rules last
    input_extended : (ports : List ℕ) (rules : List Rule)
        → get new accept_chain ≡ Some (map accept_rule ports)
        → get chains input_chain ≡ Some rules
        → get new input_chain ≡ Some (rules ++ jump_to kube_node_ports ∷ []) → (s : WalkState)
        → filtered (chain_outcome e (in_v4 new) Filter most_chains (codes "INPUT") s)
        ≡ filtered (chain_outcome e (in_v4 chains) Filter most_chains (codes "INPUT") s)
    input_extended ports rules accepts found extended s =
        ap (λ o. filtered (found_outcome e after (codes "INPUT") o s)) extended
        ∙ ap (λ o. filtered (returned_from (codes "INPUT") o))
        (rules_append e after rules (jump_to kube_node_ports ∷ []) s)
        ∙ filtered_then (codes "INPUT") (rules_outcome e after (jump_to kube_node_ports ∷ []))
        (λ t. ap filtered (and_then_next _)
        ∙ ap (λ o. filtered (found_outcome e (chain_outcome e (in_v4 new) Filter 6)
        kube_node_ports o t)) accepts
        ∙ filtered_returned kube_node_ports _
        ∙ accepting e (chain_outcome e (in_v4 new) Filter 6) t ports)
        (rules_outcome e after rules s)
        ∙ ap (λ o. filtered (returned_from (codes "INPUT") o)) (input_rules rules found s)
        ∙ ap (λ o. filtered (found_outcome e before (codes "INPUT") o s)) (sym found)

  by_family : (e : Surroundings) (s : WalkState)
      → ((t : WalkState)
      → filtered (chain_outcome e (in_v4 new) Filter most_chains (codes "INPUT") t)
      ≡ filtered (chain_outcome e (in_v4 chains) Filter most_chains (codes "INPUT") t))
      → (family : Family)
      → HaveOneEnd (walked_by (journey_of e (λ q. get new (place_in family q)) s))
      (walked_by (journey_of e (λ q. get chains (place_in family q)) s))
  by_family e s input V4 = ends_alike e (in_v4 new) (in_v4 chains) (record {
    nat = same_chains e Nat (in_v4 new) (in_v4 chains)
        (λ chain. elsewhere (record { table = Nat; chain = chain }) refl refl) most_chains;
    forward = chains_alike e is_changed Filter (in_v4 new) (in_v4 chains) apart most_chains
        (codes "FORWARD") refl;
    output = chains_alike e is_changed Filter (in_v4 new) (in_v4 chains) apart most_chains
        (codes "OUTPUT") refl;
    input = input;
  }) s
  by_family e s input V6 =
      let at : ChainAt → Option (List Rule) = λ q. get new (place_in V6 q) in
      let other : ChainAt → Option (List Rule) = λ q. get chains (place_in V6 q) in
      let filter_same = same_chains e Filter at other
      (λ chain. elsewhere (record { table = Filter6; chain = chain }) refl refl)
      most_chains in
      ends_alike e at other (record {
        nat = same_chains e Nat at other
            (λ chain. elsewhere (record { table = Nat6; chain = chain }) refl refl)
            most_chains;
        forward = filter_same (codes "FORWARD");
        output = filter_same (codes "OUTPUT");
        input = λ t. ap filtered (filter_same (codes "INPUT") t);
      }) s

  -- the tables decide alike where INPUT does
  decide_alike : ((e : Surroundings) (s : WalkState)
      → filtered (chain_outcome e (in_v4 new) Filter most_chains (codes "INPUT") s)
      ≡ filtered (chain_outcome e (in_v4 chains) Filter most_chains (codes "INPUT") s))
      → DecideAlike new chains
  decide_alike input addresses packet draws lists =
      by_family (surroundings_of addresses packet draws) (initial_state packet lists)
      (input (surroundings_of addresses packet draws)) (family_of_packet packet)

-- ---- The batch alone

-- a look-up past the accept rules
passed : (chains : Chains) (rules : List Rule) (q : ChainAt)
    → eq_by_cmp chain_cmp q accept_chain ≡ false
    → get (with_batch chains (Write accept_chain rules ∷ [])) q ≡ get chains q
passed chains rules q other =
    get-insert chain_total chains accept_chain rules q
    ∙ ap (λ b. cond b (Some rules) (get chains q)) other

one_end : (chains : Chains) → DecideAlike chains chains
one_end chains addresses packet draws lists = record { verdict = refl; lists = refl }

pub batch_decides_alike : BatchDecidesAlike
batch_decides_alike chains [] may = one_end chains
batch_decides_alike chains (port ∷ ports) may =
    let rules : List Rule = accept_rules (port ∷ ports) in
    let new : Chains = with_batch chains (Write accept_chain rules ∷ []) in
    decide_alike chains new may (λ q other kept. passed chains rules q other)
    (λ e. input_kept chains new may (λ q other kept. passed chains rules q other) e
    (passed chains rules input_chain refl))

-- ---- With the jump

module _ (chains : Chains) (may : MayAccept chains) (ports : List ℕ) where
  abbrev rules : List Rule
  rules = accept_rules ports

  abbrev made : Chains
  made = with_batch chains (Write accept_chain rules ∷ [])

  -- INPUT's rules, where it is there
  jump_by : (o : Option (List Rule)) → get chains input_chain ≡ o
      → DecideAlike (appended made input_chain (jump_to kube_node_ports) o) chains
  jump_by None found =
      decide_alike chains made may (λ q other kept. passed chains rules q other)
      (λ e. input_kept chains made may (λ q other kept. passed chains rules q other) e
      (passed chains rules input_chain refl))
  jump_by (Some old) found =
      let last : List Rule = old ++ jump_to kube_node_ports ∷ [] in
      let new : Chains = insert made input_chain last in
      let elsewhere : (q : ChainAt) → eq_by_cmp chain_cmp q accept_chain ≡ false
      → eq_by_cmp chain_cmp q input_chain ≡ false → get new q ≡ get chains q =
      λ q other kept. get-insert chain_total made input_chain last q
      ∙ ap (λ b. cond b (Some last) (get made q)) kept ∙ passed chains rules q other in
      decide_alike chains new may elsewhere
      (λ e. input_extended chains new may elsewhere e (distinct_in_order nat_cmp ports) old
      (get-insert chain_total made input_chain last accept_chain
      ∙ get-insert chain_total chains accept_chain rules accept_chain
      ∙ ap (λ b. cond b (Some rules) (get chains accept_chain))
      (tie_of_itself chain_total accept_chain))
      found
      (get-insert chain_total made input_chain last input_chain
      ∙ ap (λ b. cond b (Some last) (get made input_chain))
      (tie_of_itself chain_total input_chain)))

pub jump_decides_alike : JumpDecidesAlike
jump_decides_alike chains port ports may =
    let made : Chains = with_batch chains (health_batch_of (port ∷ ports)) in
    subst (λ o. DecideAlike (appended made input_chain (jump_to kube_node_ports) o) chains)
    (sym (passed chains (accept_rules (port ∷ ports)) input_chain refl))
    (jump_by chains may (port ∷ ports) (get chains input_chain) refl)
