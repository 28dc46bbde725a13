-- Chains and rules, one step at a time.
use Rattle.std.proofs.lemmas.Bool.{eqb-true}
use Rattle.std.proofs.lemmas.Option.{unwrap_or-slice_get}
use Rattle.std.proofs.Common.{◌≡◌, ℕ, zero, suc, ◌+◌, Bool, true, false, List, [], ◌∷◌, ◌++◌, Option, Some, None, is_some, drop, get_or, length, ◌==◌, slice_get, unwrap_or, refl, sym, ap, ◌∙◌, arith}
use Rattle.kp_types.specs.declared.chain.ChainAt.{ChainAt}
use Rattle.kp_types.specs.declared.chain.TableName.{TableName}
use Rattle.kp_types.specs.declared.packet.Packet.{Packet}
use Rattle.kp_types.specs.declared.verdict.Verdict.{Verdict}
use Rattle.kp_types.specs.declared.walk.Ending.{Ending}
use Rattle.kp_types.specs.declared.rule.Rule.{Rule}
use Rattle.kp_choice_defs.specs.Recent.{RecentParts}
use Rattle.kp_table_defs.specs.Matching.{Surroundings, WalkState}
use Rattle.kp_table_defs.specs.Walk as walk
use Rattle.kp_table_defs.specs.Walk.{Outcome, chain_outcome, found_outcome, rules_outcome, and_then}
use Rattle.kp_rules.specs.Destinations.{next_for}
use Rattle.kp_rules.specs.Skipped.{destination_in}
use Rattle.kp_rules.specs.declared.destination.Destination.{Destination}
use Rattle.kp_rules.proofs.Skipping.{passed_all}
use Rattle.kp_walker.specs.Flow.{outcome_of}
use Rattle.kp_walker.specs.Journeys.{MovesAs, beginning}
use Rattle.kp_walker.specs.Shorn.{path_if, trail_if, shorn, told}
use Rattle.kp_walker.specs.declared.flow.Flow.{Flow}
use Rattle.kp_walker.specs.declared.header.Header.{Header}
use Rattle.kp_walker.specs.declared.flow.Flow.TheVariants.{Next, Left, Ended, Stuck}
use Rattle.kp_walker.specs.declared.progress.Progress.{Progress}

-- a chain with room for it is what its look-up finds, with room for one chain less
pub chain_found : (e : Surroundings) (at : ChainAt → Option (List Rule)) (table : TableName) (n less : ℕ) (chain : List ℕ) (s : WalkState) (found : Option (List Rule)) → less + 1 ≡ n → found ≡ at (record { table = table; chain = chain }) → found_outcome e (chain_outcome e at table less) chain found s ≡ chain_outcome e at table n chain s
chain_found e at table zero less chain s found room look = absurd (omega (arith, room))
chain_found e at table (suc n) less chain s found room look =
    let same : less ≡ n = omega (arith, room) in
    ap (λ m. found_outcome e (chain_outcome e at table m) chain found s) same
    ∙ ap (λ f. found_outcome e (chain_outcome e at table n) chain f s) look

-- a chain that is found without rules is left at once
pub nothing_done : (e : Surroundings) (at : ChainAt → Option (List Rule)) (table : TableName) (n less : ℕ) (chain : List ℕ) (s : WalkState) (rules : List Rule) → less + 1 ≡ n → (length rules == 0) ≡ true → Some rules ≡ at (record { table = table; chain = chain }) → walk.Next s ≡ chain_outcome e at table n chain s
nothing_done e at table n less chain s [] room none look = chain_found e at table n less chain s (Some []) room look
nothing_done e at table n less chain s (r ∷ rs) room none look = absurd (omega (arith, eqb-true _ _ none))

-- a rule that stands at a place
pub at_place : (rules : List Rule) (place : ℕ) (rule : Rule) → slice_get rules place ≡ Some rule → rule ≡ get_or rules place rule
at_place rules place rule here = sym (ap (λ o. unwrap_or o rule) here) ∙ unwrap_or-slice_get rules place rule

-- where no rule is left that may match the packet, all is done
pub none_left : (e : Surroundings) (jump : List ℕ → WalkState → Outcome) (s : WalkState) (to : Destination) (rules : List Rule) (from : ℕ) → to ≡ destination_in e s → next_for to rules from ≡ None → rules_outcome e jump (drop from rules) s ≡ walk.Next s
none_left e jump s to rules from heading none = passed_all e s jump rules from (ap (λ d. next_for d rules from) (sym heading) ∙ none)

-- an outcome that goes on is so, whether its way is kept or not
pub went_next : (keeps : Bool) (o : Outcome) (then : WalkState) → walk.Next then ≡ shorn keeps o → o ≡ walk.Next then
went_next keeps (walk.Next s) then is = sym is
went_next keeps (walk.Left s) then is = cc
went_next keeps (walk.Ended end path s) then is = cc
went_next keeps walk.Stuck then is = cc

-- an outcome other than Next stays
pub stays : (keeps : Bool) (header : Header) (flow : Flow) (p : Progress) (path : List (List ℕ)) (lists : RecentParts) (o : Outcome) (next : WalkState → Outcome) → (flow ≡ Next → ⊥) → outcome_of header flow p path lists ≡ shorn keeps o → outcome_of header flow p path lists ≡ shorn keeps (and_then o next)
stays keeps header Next p path lists o next other is = absurd (other refl)
stays keeps header Left p path lists (walk.Next s) next other is = cc
stays keeps header Ended p path lists (walk.Next s) next other is = cc
stays keeps header Stuck p path lists (walk.Next s) next other is = cc
stays keeps header flow p path lists (walk.Left s) next other is = is
stays keeps header flow p path lists (walk.Ended end way s) next other is = is
stays keeps header flow p path lists walk.Stuck next other is = is

-- behind a jump nothing more is told of an outcome
pub shorn_returned : (keeps : Bool) (chain : List ℕ) (o : Outcome) → shorn keeps (walk.returned_from chain (shorn keeps o)) ≡ shorn keeps (walk.returned_from chain o)
shorn_returned keeps chain (walk.Next s) = refl
shorn_returned keeps chain (walk.Left s) = refl
shorn_returned true chain (walk.Ended end path s) = refl
shorn_returned false chain (walk.Ended end path s) = refl
shorn_returned keeps chain walk.Stuck = refl

-- the trail with one way more
trail_added : (keeps : Bool) (old j : List (List (List ℕ))) (way path : List (List ℕ)) → old ≡ trail_if keeps j → way ≡ path_if keeps path → trail_if keeps (old ++ way ∷ []) ≡ trail_if keeps (j ++ path ∷ [])
trail_added true old j way path trail is = λ i. trail i ++ is i ∷ []
trail_added false old j way path trail is = refl

-- a rule ended the traversal of a hook, and then its way is the last of the trail
pub ended_taken : (keeps : Bool) (stage : walk.Stage) (end : Ending) (s : WalkState) (way : List (List ℕ)) (trail : List (List (List ℕ))) (old new j : walk.Journey) (o : Outcome) → old ≡ told keeps j → walk.Ended end way s ≡ shorn keeps o → trail ≡ trail_if keeps (old.trail ++ way ∷ []) → MovesAs keeps (record (walk.in_state old s) { trail = trail }) new (walk.ended_by stage end) → new ≡ told keeps (walk.after_hook stage j o)
ended_taken keeps stage end s way trail old new j (walk.Next t) start came kept moves = cc
ended_taken keeps stage end s way trail old new j (walk.Left t) start came kept moves = cc
ended_taken keeps stage end s way trail old new j walk.Stuck start came kept moves = cc
ended_taken keeps stage end s way trail old new j (walk.Ended other path t) start came kept moves =
    let same_end : end ≡ other = cc in
    let same_state : s ≡ t = cc in
    let same_way : way ≡ path_if keeps path = cc in
    let added = kept ∙ trail_added keeps old.trail j.trail way path (ap (λ w. w.trail) start) same_way in
    moves (record (walk.in_state j t) { trail = j.trail ++ path ∷ [] })
    (λ i. record (walk.in_state (start i) (same_state i)) { trail = added i })
    ∙ ap (λ (z : Ending). told keeps (walk.ended_by stage z (record (walk.in_state j t) { trail = j.trail ++ path ∷ [] }))) same_end

-- ---- hooks

-- how a journey that is told so far stands
pub told_state : (keeps : Bool) (old j : walk.Journey) → old ≡ told keeps j → old.state ≡ j.state
told_state keeps old j start = ap (λ w. w.state) start

-- a hook of a packet that was stopped before
pub passed_by : (keeps : Bool) (e : Surroundings) (at : ChainAt → Option (List Rule)) (stage : walk.Stage) (table : TableName) (chain : List ℕ) (old : walk.Journey) → is_some old.stopped ≡ true → MovesAs keeps old old (walk.through e at stage table chain)
passed_by keeps e at stage table chain old stopped j start =
    start ∙ ap (told keeps) (unmoved j.stopped (sym (ap (λ w. is_some w.stopped) start) ∙ stopped))
  where
    unmoved : (v : Option Verdict) → is_some v ≡ true → j ≡ walk.through_unless v e at stage table chain j
    unmoved (Some v) some = refl
    unmoved None some = cc

-- a hook of a packet that nothing stopped before
pub still_on : (keeps : Bool) (e : Surroundings) (at : ChainAt → Option (List Rule)) (stage : walk.Stage) (table : TableName) (chain : List ℕ) (old new : walk.Journey) → is_some old.stopped ≡ false → ((j : walk.Journey) → old ≡ told keeps j → new ≡ told keeps (walk.after_hook stage j (chain_outcome e at table walk.most_chains chain old.state))) → MovesAs keeps old new (walk.through e at stage table chain)
still_on keeps e at stage table chain old new on hook j start =
    hook j start
    ∙ ap (λ s. told keeps (walk.after_hook stage j (chain_outcome e at table walk.most_chains chain s))) (told_state keeps old j start)
    ∙ ap (told keeps) (moved j.stopped (sym (ap (λ w. is_some w.stopped) start) ∙ on))
  where
    moved : (v : Option Verdict) → is_some v ≡ false → walk.after_hook stage j (chain_outcome e at table walk.most_chains chain j.state) ≡ walk.through_unless v e at stage table chain j
    moved (Some v) none = cc
    moved None none = refl

-- a packet's journey begins with no trail
pub told_beginning : (keeps : Bool) (packet : Packet) (lists : RecentParts) → beginning packet lists ≡ told keeps (beginning packet lists)
told_beginning true packet lists = refl
told_beginning false packet lists = refl
