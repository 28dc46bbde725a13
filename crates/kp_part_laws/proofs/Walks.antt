-- A walk and a change of recent lists that its source can't tell.
use Rattle.std.proofs.Common.{◌≡◌, ℕ, suc, zero, Bool, true, false, List, [], ◌∷◌, Option, Some, None, refl, sym, ap, subst, ◌∙◌}
use Rattle.std.specs.Bool.{⊤}
use Rattle.kp_base.specs.Net.{AddressParts}
use Rattle.kp_types.specs.Packets.{family_of_packet}
use Rattle.kp_types.specs.Places.{place_in}
use Rattle.kp_types.specs.declared.chain.ChainAt.{ChainAt}
use Rattle.kp_types.specs.declared.chain.TableName.{TableName}
use Rattle.kp_types.specs.declared.chain.TableName.TheVariants.{Nat, Filter}
use Rattle.kp_types.specs.declared.packet.Origin.{Origin}
use Rattle.kp_types.specs.declared.packet.Origin.TheVariants.{Wire, Node}
use Rattle.kp_types.specs.declared.rule.Match.{Match}
use Rattle.kp_types.specs.declared.rule.Match.TheVariants as match
use Rattle.kp_types.specs.declared.rule.Rule.{Rule}
use Rattle.kp_types.specs.declared.rule.Target.{Target}
use Rattle.kp_types.specs.declared.rule.Target.TheVariants as target
use Rattle.kp_types.specs.declared.verdict.Verdict.{Verdict}
use Rattle.kp_types.specs.declared.walk.Ending.{Ending}
use Rattle.kp_types.specs.declared.walk.Ending.TheVariants as ending
use Rattle.kp_choice_defs.specs.Recent.{RecentParts}
use Rattle.kp_table_defs.specs.Matching.{WalkState, Surroundings, Tried, try_match, and_also, try_all, with_lists, tried_as}
use Rattle.kp_table_defs.specs.Walk.{Outcome, Journey, Stage, and_then, returned_from, target_outcome, target_if, rule_outcome, rules_outcome, found_outcome, chain_outcome, most_chains, ended_by, after_hook, through_unless, through, input_if, filter_hooks, postrouting_if, onward, walked_by, is_for_node, is_leaving, routed_hook, first_hook, initial_state, surroundings_of}
use Rattle.kp_table_defs.specs.Walk.Outcome.{Next, Left, Ended, Stuck}
use Rattle.kp_table_defs.specs.Walk.Stage.{Translating, Filtering, Masquerading}
use Rattle.std.specs.Prelude.{codes}
use Rattle.kp_part_laws.specs.Unseen.{IsUnseen, WalksUnseen}

module _ (source : AddressParts) (change : RecentParts → RecentParts) (unseen : IsUnseen source change) where
  -- ---- States

  -- a state whose recent lists were changed
  abbrev changed : WalkState → WalkState
  changed s = record s { lists = change s.lists }

  -- the packet of a state has the source
  abbrev IsOwn : WalkState → Type 0
  IsOwn s = s.source ≡ source

  -- ---- Matches

  abbrev changed_tried : Tried → Tried
  changed_tried t = record { holds = t.holds; state = changed t.state }

  -- a step does the same after the change as before it, and keeps the source
  abbrev Same : (WalkState → Tried) → Type 0
  Same step = (s : WalkState) → IsOwn s → (step (changed s) ≡ changed_tried (step s)) × IsOwn (step s).state

  match_same : (e : Surroundings) (m : Match) → Same (try_match e m)
  match_same e (match.Src range negated) s own = (refl, own)
  match_same e (match.Dst range negated) s own = (refl, own)
  match_same e (match.Proto proto) s own = (refl, own)
  match_same e (match.Port proto port) s own = (refl, own)
  match_same e match.SrcLocal s own = (refl, own)
  match_same e match.DstLocal s own = (refl, own)
  match_same e (match.Marked negated) s own = (refl, own)
  match_same e (match.Statistic p) s own = (refl, own)
  match_same e (match.Seen list seconds) s own =
      let same = subst (λ x. IsUnseen x change) (sym own) unseen in
      (λ i. tried_as (with_lists s (same.reaps s.lists list e.now seconds i)) (same.live s.lists list e.now seconds i), own)
  match_same e (match.SetSeen list) s own =
      let same = subst (λ x. IsUnseen x change) (sym own) unseen in
      (λ i. tried_as (with_lists s (same.sets s.lists list e.now i)) true, own)

  also_same : (b : Bool) (s : WalkState) (next : WalkState → Tried) → IsOwn s → Same next
      → (and_also (record { holds = b; state = changed s }) next ≡ changed_tried (and_also (record { holds = b; state = s }) next))
      × IsOwn (and_also (record { holds = b; state = s }) next).state
  also_same true s next own same = same s own
  also_same false s next own same = (refl, own)

  all_same : (e : Surroundings) (ms : List Match) → Same (try_all e ms)
  all_same e [] s own = (refl, own)
  all_same e (m ∷ ms) s own =
      let one = match_same e m s own in
      let t = try_match e m s in
      let both = also_same t.holds t.state (try_all e ms) one.1 (all_same e ms) in
      (ap (λ x. and_also x (try_all e ms)) one.0 ∙ both.0, both.1)

  -- ---- Rules and chains

  abbrev changed_outcome : Outcome → Outcome
  changed_outcome (Next s) = Next (changed s)
  changed_outcome (Left s) = Left (changed s)
  changed_outcome (Ended end path s) = Ended end path (changed s)
  changed_outcome Stuck = Stuck

  -- where it goes on, it has the source
  abbrev EndsOwn : Outcome → Type 0
  EndsOwn (Next s) = IsOwn s
  EndsOwn (Left s) = IsOwn s
  EndsOwn (Ended end path s) = IsOwn s
  EndsOwn Stuck = ⊤

  abbrev Follows : (WalkState → Outcome) → Type 0
  Follows step = (s : WalkState) → IsOwn s → (step (changed s) ≡ changed_outcome (step s)) × EndsOwn (step s)

  then_follows : (o : Outcome) (next : WalkState → Outcome) → EndsOwn o → Follows next
      → (and_then (changed_outcome o) next ≡ changed_outcome (and_then o next)) × EndsOwn (and_then o next)
  then_follows (Next s) next own follows = follows s own
  then_follows (Left s) next own follows = (refl, own)
  then_follows (Ended end path s) next own follows = (refl, own)
  then_follows Stuck next own follows = (refl, tt)

  returned_follows : (chain : List ℕ) (o : Outcome) → EndsOwn o
      → (returned_from chain (changed_outcome o) ≡ changed_outcome (returned_from chain o)) × EndsOwn (returned_from chain o)
  returned_follows chain (Next s) own = (refl, own)
  returned_follows chain (Left s) own = (refl, own)
  returned_follows chain (Ended end path s) own = (refl, own)
  returned_follows chain Stuck own = (refl, tt)

  module _ (e : Surroundings) (jump : List ℕ → WalkState → Outcome) (jumps : (chain : List ℕ) → Follows (jump chain)) where
    target_follows : (t : Target) → Follows (target_outcome jump t)
    target_follows (target.Jump chain) s own = jumps chain s own
    target_follows target.Return s own = (refl, own)
    target_follows target.Accept s own = (refl, own)
    target_follows target.Drop s own = (refl, own)
    target_follows target.Reject s own = (refl, own)
    target_follows target.SetMark s own = (refl, own)
    target_follows target.FlipMark s own = (refl, own)
    target_follows (target.Dnat endpoint) s own = (refl, own)
    target_follows target.Masquerade s own = (refl, own)

    matched_follows : (b : Bool) (t : Target) → Follows (target_if b jump t)
    matched_follows true t s own = target_follows t s own
    matched_follows false t s own = (refl, own)

    rule_follows : (r : Rule) → Follows (rule_outcome e jump r)
    rule_follows r s own =
        let tried = all_same e r.matches.items s own in
        let t = try_all e r.matches.items s in
        let on = matched_follows t.holds r.target t.state tried.1 in
        (ap (λ (x : Tried). target_if x.holds jump r.target x.state) tried.0 ∙ on.0, on.1)

    rules_follow : (rs : List Rule) → Follows (rules_outcome e jump rs)
    rules_follow [] s own = (refl, own)
    rules_follow (r ∷ rs) s own =
        let one = rule_follows r s own in
        let on = then_follows (rule_outcome e jump r s) (rules_outcome e jump rs) one.1 (rules_follow rs) in
        (ap (λ o. and_then o (rules_outcome e jump rs)) one.0 ∙ on.0, on.1)

    found_follows : (chain : List ℕ) (found : Option (List Rule)) → Follows (found_outcome e jump chain found)
    found_follows chain None s own = (refl, tt)
    found_follows chain (Some rules) s own =
        let one = rules_follow rules s own in
        let on = returned_follows chain (rules_outcome e jump rules s) one.1 in
        (ap (returned_from chain) one.0 ∙ on.0, on.1)

  module _ (e : Surroundings) (at : ChainAt → Option (List Rule)) where
    chain_follows : (table : TableName) (n : ℕ) (chain : List ℕ) → Follows (chain_outcome e at table n chain)
    chain_follows table zero chain s own = (refl, tt)
    chain_follows table (suc n) chain s own =
        found_follows e (chain_outcome e at table n) (chain_follows table n) chain (at (record { table = table; chain = chain })) s own

    -- ---- Hooks

    abbrev changed_journey : Journey → Journey
    changed_journey j = record j { state = changed j.state }

    abbrev Goes : (Journey → Journey) → Type 0
    Goes step = (j : Journey) → IsOwn j.state → (step (changed_journey j) ≡ changed_journey (step j)) × IsOwn (step j).state

    end_goes : (stage : Stage) (end : Ending) → Goes (ended_by stage end)
    end_goes Translating (ending.Dnat endpoint) j own = (refl, own)
    end_goes Filtering (ending.Dnat endpoint) j own = (refl, own)
    end_goes Masquerading (ending.Dnat endpoint) j own = (refl, own)
    end_goes Masquerading ending.Masquerade j own = (refl, own)
    end_goes Translating ending.Masquerade j own = (refl, own)
    end_goes Filtering ending.Masquerade j own = (refl, own)
    end_goes Translating ending.Accept j own = (refl, own)
    end_goes Filtering ending.Accept j own = (refl, own)
    end_goes Masquerading ending.Accept j own = (refl, own)
    end_goes Translating ending.Drop j own = (refl, own)
    end_goes Filtering ending.Drop j own = (refl, own)
    end_goes Masquerading ending.Drop j own = (refl, own)
    end_goes Translating ending.Reject j own = (refl, own)
    end_goes Filtering ending.Reject j own = (refl, own)
    end_goes Masquerading ending.Reject j own = (refl, own)

    hook_goes : (stage : Stage) (j : Journey) (o : Outcome) → IsOwn j.state → EndsOwn o
        → (after_hook stage (changed_journey j) (changed_outcome o) ≡ changed_journey (after_hook stage j o)) × IsOwn (after_hook stage j o).state
    hook_goes stage j (Next s) own ends = (refl, ends)
    hook_goes stage j (Left s) own ends = (refl, ends)
    hook_goes stage j (Ended end path s) own ends = end_goes stage end _ ends
    hook_goes stage j Stuck own ends = (refl, own)

    unless_goes : (stopped : Option Verdict) (stage : Stage) (table : TableName) (chain : List ℕ) → Goes (through_unless stopped e at stage table chain)
    unless_goes (Some v) stage table chain j own = (refl, own)
    unless_goes None stage table chain j own =
        let way = chain_follows table most_chains chain j.state own in
        let on = hook_goes stage j (chain_outcome e at table most_chains chain j.state) own way.1 in
        (ap (after_hook stage (changed_journey j)) way.0 ∙ on.0, on.1)

    through_goes : (stage : Stage) (table : TableName) (chain : List ℕ) → Goes (through e at stage table chain)
    through_goes stage table chain j own = unless_goes j.stopped stage table chain j own

    -- two steps in a row
    both_go : (f g : Journey → Journey) → Goes f → Goes g → Goes (λ j. g (f j))
    both_go f g goes on j own =
        let one = goes j own in
        let two = on (f j) one.1 in
        (ap g one.0 ∙ two.0, two.1)

    input_goes : (b : Bool) → Goes (input_if b e at)
    input_goes true j own = through_goes Filtering Filter (codes "INPUT") j own
    input_goes false j own = (refl, own)

    filter_goes : (from : Origin) → Goes (filter_hooks from e at)
    filter_goes Wire j own = through_goes Filtering Filter (routed_hook (is_for_node e j)) j own
    filter_goes Node j own =
        both_go (through e at Filtering Filter (codes "OUTPUT")) (input_if (is_for_node e j) e at)
        (through_goes Filtering Filter (codes "OUTPUT")) (input_goes (is_for_node e j)) j own

    leave_goes : (b : Bool) → Goes (postrouting_if b e at)
    leave_goes true j own = through_goes Masquerading Nat (codes "POSTROUTING") j own
    leave_goes false j own = (refl, own)

    onward_goes : Goes (onward e at)
    onward_goes j own =
        both_go (filter_hooks e.from e at) (postrouting_if (is_leaving e.from (is_for_node e j)) e at)
        (filter_goes e.from) (leave_goes (is_leaving e.from (is_for_node e j))) j own

    whole_goes : Goes (λ j. onward e at (through e at Translating Nat (first_hook e.from) j))
    whole_goes = both_go (through e at Translating Nat (first_hook e.from)) (onward e at)
        (through_goes Translating Nat (first_hook e.from)) onward_goes

pub walks_unseen : WalksUnseen
walks_unseen change at node packet draws lists unseen =
    ap walked_by (whole_goes packet.source change unseen (surroundings_of node packet draws)
    (λ place. at (place_in (family_of_packet packet) place))
    (record { state = initial_state packet lists; translated = None; masked = false; stopped = None; trail = [] })
    refl).0
