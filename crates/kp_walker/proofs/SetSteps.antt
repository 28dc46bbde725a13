-- Where a walk comes to a set that needs memory, one step at a time.
use Rattle.std.proofs.Common.{◌≡◌, ℕ, zero, suc, ◌+◌, ◌<◌, true, false, Bool, List, [], ◌∷◌, Option, Some, None, drop, length, get_or, refl, sym, ap, subst, ◌∙◌, arith, inl, inr, Result, Ok, Err, OnErr, is_some}
use Rattle.std.proofs.lemmas.List.{at_drop_more}
use Rattle.kp_types.specs.declared.chain.ChainAt.{ChainAt}
use Rattle.kp_types.specs.declared.chain.TableName.{TableName}
use Rattle.kp_types.specs.declared.rule.Match.{Match}
use Rattle.kp_types.specs.declared.rule.Rule.{Rule}
use Rattle.kp_types.specs.declared.verdict.Verdict.{Verdict}
use Rattle.kp_choice_defs.specs.Recent.{RecentParts, Shard, Sighting, with_sightings}
use Rattle.kp_table_defs.specs.Matching.{WalkState, Surroundings, Tried, try_match}
use Rattle.kp_table_defs.specs.Walk as walk
use Rattle.kp_table_defs.specs.Walk.{chain_outcome}
use Rattle.kp_walker.specs.Journeys.{StopsAs}
use Rattle.kp_walker.specs.Sets.{OnHeld, MatchSets, MatchesSet, FoundSets, ChainSets, ThroughSets, HookSets}

-- lists keep their size, whatever is to stand in a part of them
pub with_sized : (lists : RecentParts) (at : Shard) (found : List Sighting) → (with_sightings lists at found).size ≡ lists.size
with_sized lists at [] = refl
with_sized lists at (s ∷ ss) = refl

-- what stands behind an error
pub on_err : {A E P : Type 0} (r : Result A E) → P → OnErr r P
on_err (Ok a) p = tt
on_err (Err e) p = p

-- a match at a place comes to the set
pub match_here : (e : Surroundings) (ms : List Match) (i : ℕ) (m : Match) (s : WalkState) (left : RecentParts) → i < length ms → m ≡ get_or ms i m → MatchSets m s left → MatchesSet e (drop i ms) s left
match_here e ms i m s left more here sets =
    subst (λ xs. MatchesSet e xs s left) (sym (at_drop_more (λ xs. xs) ms i m more))
    (inl (subst (λ x. MatchSets x s left) here sets))

-- the matches behind one that holds come to the set
pub match_behind : (e : Surroundings) (ms : List Match) (i : ℕ) (m : Match) (s : WalkState) (t : Tried) (left : RecentParts) → i < length ms → m ≡ get_or ms i m → t ≡ try_match e m s → t.holds ≡ true → MatchesSet e (drop (i + 1) ms) t.state left → MatchesSet e (drop i ms) s left
match_behind e ms i m s t left more here tried holds sets =
    let held : OnHeld t.holds (MatchesSet e (drop (i + 1) ms) t.state left) =
    subst (λ b. OnHeld b (MatchesSet e (drop (i + 1) ms) t.state left)) (sym holds) sets in
    subst (λ xs. MatchesSet e xs s left) (sym (at_drop_more (λ xs. xs) ms i m more))
    (inr (subst (λ x. OnHeld (try_match e x s).holds (MatchesSet e (drop (i + 1) ms) (try_match e x s).state left)) here
    (subst (λ (z : Tried). OnHeld z.holds (MatchesSet e (drop (i + 1) ms) z.state left)) tried held)))

-- a chain comes to the set where the rules that its look-up finds do, with room for one chain less
pub chain_sets : (e : Surroundings) (at : ChainAt → Option (List Rule)) (table : TableName) (n less : ℕ) (chain : List ℕ) (s : WalkState) (left : RecentParts) (found : Option (List Rule)) → less + 1 ≡ n → found ≡ at (record { table = table; chain = chain }) → FoundSets e (chain_outcome e at table less) (ChainSets e at table less) found s left → ChainSets e at table n chain s left
chain_sets e at table zero less chain s left found room look set = absurd (omega (arith, room))
chain_sets e at table (suc n) less chain s left found room look set =
    let same : less ≡ n = omega (arith, room) in
    subst (λ f. FoundSets e (chain_outcome e at table n) (ChainSets e at table n) f s left) look
    (subst (λ m. FoundSets e (chain_outcome e at table m) (ChainSets e at table m) found s left) same set)

-- a hook of a packet that nothing stopped before comes to the set where its chain does
pub hook_sets : (keeps : Bool) (e : Surroundings) (at : ChainAt → Option (List Rule)) (table : TableName) (chain : List ℕ) (old : walk.Journey) (left : RecentParts) → is_some old.stopped ≡ false → ChainSets e at table walk.most_chains chain old.state left → StopsAs keeps old left (HookSets e at table chain)
hook_sets keeps e at table chain old left on set j start =
    through j.stopped (sym (ap (λ w. is_some w.stopped) start) ∙ on)
  where
    through : (v : Option Verdict) → is_some v ≡ false → ThroughSets v e at table chain j.state left
    through (Some v) none = cc
    through None none = subst (λ s. ChainSets e at table walk.most_chains chain s left) (ap (λ w. w.state) start) set
