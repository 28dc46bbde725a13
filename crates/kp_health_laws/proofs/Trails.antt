-- Journeys without their trails: what becomes of a packet doesn't depend on the trail before it,
-- and an end of a filter's hook by a rule that accepts is like the end of its chain.
use Rattle.std.proofs.Common.{◌≡◌, ℕ, Bool, true, false, List, [], Option, Some, None, codes, refl, sym, ap, ◌∙◌}
use Rattle.kp_types.specs.declared.chain.TableName.{TableName}
use Rattle.kp_types.specs.declared.chain.TableName.TheVariants.{Nat, Filter}
use Rattle.kp_types.specs.declared.chain.ChainAt.{ChainAt}
use Rattle.kp_types.specs.declared.packet.Origin.{Origin}
use Rattle.kp_types.specs.declared.packet.Origin.TheVariants.{Wire, Node}
use Rattle.kp_types.specs.declared.rule.Rule.{Rule}
use Rattle.kp_types.specs.declared.verdict.Verdict.{Verdict}
use Rattle.kp_types.specs.declared.walk.Ending.TheVariants as ending
use Rattle.kp_table_defs.specs.Matching.{WalkState, Surroundings}
use Rattle.kp_table_defs.specs.Walk.{Journey, Outcome, Stage, after_hook, chain_outcome, filter_hooks, first_hook, input_if, is_for_node, is_leaving, journey_of, most_chains, onward, postrouting_if, routed_hook, through, through_unless, walked_by}
use Rattle.kp_table_defs.specs.Walk.Outcome.{Next, Left, Ended, Stuck}
use Rattle.kp_table_defs.specs.Walk.Stage.{Translating, Filtering, Masquerading}
use Rattle.kp_health_laws.specs.AcceptLaws.{HaveOneEnd}

-- a journey without its trail
abbrev pub trailless : Journey → Journey
trailless j = record j { trail = [] }

-- what an outcome is to a hook of the filter, where it doesn't matter which rule accepts
abbrev pub filtered : Outcome → Outcome
filtered (Next s) = Next s
filtered (Left s) = Next s
filtered (Ended ending.Accept path s) = Next s
filtered (Ended ending.Drop path s) = Ended ending.Drop [] s
filtered (Ended ending.Reject path s) = Ended ending.Reject [] s
filtered (Ended (ending.Dnat endpoint) path s) = Next s
filtered (Ended ending.Masquerade path s) = Next s
filtered Stuck = Stuck

-- a hook of the filter
after_filter : (j : Journey) (o : Outcome)
    → trailless (after_hook Filtering j o) ≡ trailless (after_hook Filtering j (filtered o))
after_filter j (Next s) = refl
after_filter j (Left s) = refl
after_filter j (Ended ending.Accept path s) = refl
after_filter j (Ended ending.Drop path s) = refl
after_filter j (Ended ending.Reject path s) = refl
after_filter j (Ended (ending.Dnat endpoint) path s) = refl
after_filter j (Ended ending.Masquerade path s) = refl
after_filter j Stuck = refl

-- the last hook doesn't ask for the trail
after_last : (j : Journey) (o : Outcome)
    → trailless (after_hook Masquerading j o)
    ≡ trailless (after_hook Masquerading (trailless j) o)
after_last j (Next s) = refl
after_last j (Left s) = refl
after_last j (Ended ending.Accept path s) = refl
after_last j (Ended ending.Drop path s) = refl
after_last j (Ended ending.Reject path s) = refl
after_last j (Ended (ending.Dnat endpoint) path s) = refl
after_last j (Ended ending.Masquerade path s) = refl
after_last j Stuck = refl

-- Two look-ups between which walks of nat and of the filter's other hooks don't differ, and those
-- of INPUT in nothing but which rule accepts.
pub record AreAlike (e : Surroundings) (at other : ChainAt → Option (List Rule)) : Type 0 where
  pub nat : (chain : List ℕ) (s : WalkState)
      → chain_outcome e at Nat most_chains chain s ≡ chain_outcome e other Nat most_chains chain s
  pub forward : (s : WalkState)
      → chain_outcome e at Filter most_chains (codes "FORWARD") s
      ≡ chain_outcome e other Filter most_chains (codes "FORWARD") s
  pub output : (s : WalkState)
      → chain_outcome e at Filter most_chains (codes "OUTPUT") s
      ≡ chain_outcome e other Filter most_chains (codes "OUTPUT") s
  pub input : (s : WalkState)
      → filtered (chain_outcome e at Filter most_chains (codes "INPUT") s)
      ≡ filtered (chain_outcome e other Filter most_chains (codes "INPUT") s)

module _ (e : Surroundings) (at other : ChainAt → Option (List Rule)) where
  -- a hook whose chain does the same
  through_same : (stage : Stage) (table : TableName) (chain : List ℕ)
      → ((s : WalkState) → chain_outcome e at table most_chains chain s
      ≡ chain_outcome e other table most_chains chain s) → (j : Journey)
      → through e at stage table chain j ≡ through e other stage table chain j
  through_same stage table chain same j = by j.stopped
    where
      by : (v : Option Verdict) → through_unless v e at stage table chain j
          ≡ through_unless v e other stage table chain j
      by (Some v) = refl
      by None = ap (after_hook stage j) (same j.state)

  module _ (alike : AreAlike e at other) where
    -- INPUT
    input_alike : (j : Journey)
        → trailless (through e at Filtering Filter (codes "INPUT") j)
        ≡ trailless (through e other Filtering Filter (codes "INPUT") j)
    input_alike j = by j.stopped
      where
        by : (v : Option Verdict)
            → trailless (through_unless v e at Filtering Filter (codes "INPUT") j)
            ≡ trailless (through_unless v e other Filtering Filter (codes "INPUT") j)
        by (Some v) = refl
        by None =
            after_filter j (chain_outcome e at Filter most_chains (codes "INPUT") j.state)
            ∙ ap (λ o. trailless (after_hook Filtering j o)) (alike.input j.state)
            ∙ sym (after_filter j
            (chain_outcome e other Filter most_chains (codes "INPUT") j.state))

    routed_alike : (b : Bool) (j : Journey)
        → trailless (through e at Filtering Filter (routed_hook b) j)
        ≡ trailless (through e other Filtering Filter (routed_hook b) j)
    routed_alike true j = input_alike j
    routed_alike false j =
        ap trailless (through_same Filtering Filter (codes "FORWARD") alike.forward j)

    input_if_alike : (b : Bool) (j : Journey)
        → trailless (input_if b e at j) ≡ trailless (input_if b e other j)
    input_if_alike true j = input_alike j
    input_if_alike false j = refl

    -- the hooks of the filter
    filters_alike : (from : Origin) (j : Journey)
        → trailless (filter_hooks from e at j) ≡ trailless (filter_hooks from e other j)
    filters_alike Wire j = routed_alike (is_for_node e j) j
    filters_alike Node j =
        ap (λ k. trailless (input_if (is_for_node e j) e at k))
        (through_same Filtering Filter (codes "OUTPUT") alike.output j)
        ∙ input_if_alike (is_for_node e j) (through e other Filtering Filter (codes "OUTPUT") j)

    -- the last hook
    last_trailless : (j : Journey)
        → trailless (through e other Masquerading Nat (codes "POSTROUTING") j)
        ≡ trailless (through e other Masquerading Nat (codes "POSTROUTING") (trailless j))
    last_trailless j = by j.stopped
      where
        by : (v : Option Verdict)
            → trailless (through_unless v e other Masquerading Nat (codes "POSTROUTING") j)
            ≡ trailless (through_unless v e other Masquerading Nat (codes "POSTROUTING")
            (trailless j))
        by (Some v) = refl
        by None = after_last j _

    leaving_alike : (b : Bool) (j k : Journey) → trailless j ≡ trailless k
        → trailless (postrouting_if b e at j) ≡ trailless (postrouting_if b e other k)
    leaving_alike false j k same = same
    leaving_alike true j k same =
        ap trailless (through_same Masquerading Nat (codes "POSTROUTING")
        (alike.nat (codes "POSTROUTING")) j)
        ∙ last_trailless j
        ∙ ap (λ i. trailless (through e other Masquerading Nat (codes "POSTROUTING") i)) same
        ∙ sym (last_trailless k)

    -- the whole way
    journeys_alike : (s : WalkState) → trailless (journey_of e at s)
        ≡ trailless (journey_of e other s)
    journeys_alike s =
        let j : Journey = record {
          state = s;
          translated = None;
          masked = false;
          stopped = None;
          trail = [];
        } in
        let first : Journey = through e other Translating Nat (first_hook e.from) j in
        ap (λ k. trailless (onward e at k))
        (through_same Translating Nat (first_hook e.from) (alike.nat (first_hook e.from)) j)
        ∙ leaving_alike (is_leaving e.from (is_for_node e first)) (filter_hooks e.from e at first)
        (filter_hooks e.from e other first) (filters_alike e.from first)

    -- what becomes of a packet
    pub ends_alike : (s : WalkState)
        → HaveOneEnd (walked_by (journey_of e at s)) (walked_by (journey_of e other s))
    ends_alike s = record {
      verdict = ap (λ j. (walked_by j).verdict) (journeys_alike s);
      lists = ap (λ j. (walked_by j).lists) (journeys_alike s);
    }
