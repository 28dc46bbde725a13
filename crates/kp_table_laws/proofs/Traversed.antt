-- The traversal of a chain as a relation is the walk of its rules with as many jumps as it takes.
use Rattle.std.proofs.Common.{◌≡◌, ℕ, zero, suc, ◌+◌, true, false, List, [], ◌∷◌, Option, Some, None, refl, sym, ap, subst, ◌∙◌, arith, not}
use Rattle.kp_types.specs.declared.chain.TableName.{TableName}
use Rattle.kp_types.specs.declared.chain.ChainAt.{ChainAt}
use Rattle.kp_types.specs.declared.rule.Rule.{Rule}
use Rattle.kp_types.specs.declared.rule.Target.{Target}
use Rattle.kp_types.specs.declared.rule.Target.TheVariants as target
use Rattle.kp_types.specs.declared.walk.Ending.{Ending}
use Rattle.kp_types.specs.declared.walk.Ending.TheVariants as ending
use Rattle.kp_table_defs.specs.Matching.{WalkState, Surroundings, try_all}
use Rattle.kp_table_defs.specs.Walk.{Outcome, Next, Left, Ended, Stuck, and_then, returned_from, target_outcome, target_if, rules_outcome, found_outcome, chain_outcome}
use Rattle.kp_table_defs.specs.Traversal as way
use Rattle.kp_table_defs.specs.Traversal.{Takes, Changes, Ends, ComesBack}
use Rattle.kp_table_laws.specs.Laws.{is_settled, TraversalIsWalk}
use Rattle.kp_table_laws.proofs.Deeper.{settled_first, settled_inside, deeper}

-- what a target does, where it isn't a jump
goes_on : (jump : List ℕ → WalkState → Outcome) {t : Target} {s u : WalkState} → Changes t s u → target_outcome jump t s ≡ Next u
goes_on jump (way.Sets s) = refl
goes_on jump (way.Flips s) = refl

stops : (jump : List ℕ → WalkState → Outcome) (s : WalkState) {t : Target} {end : Ending} → Ends t end → target_outcome jump t s ≡ Ended end [] s
stops jump s way.Accepts = refl
stops jump s way.Drops = refl
stops jump s way.Rejects = refl
stops jump s (way.Translates endpoint) = refl
stops jump s way.Masquerades = refl

-- a chain that comes back
back_to : (chain : List ℕ) {o : Outcome} {s : WalkState} → ComesBack o s → returned_from chain o ≡ Next s
back_to chain (way.AtLast s) = refl
back_to chain (way.ByReturn s) = refl

module _ (e : Surroundings) (at : ChainAt → Option (List Rule)) (table : TableName) where
  -- the walk of rules with so many jumps
  abbrev walked : ℕ → List Rule → WalkState → Outcome
  walked n = rules_outcome e (chain_outcome e at table n)

  -- a rule by its target, where its matches held
  by_target : (n : ℕ) (r : Rule) (rs : List Rule) (s : WalkState) → (try_all e r.matches.items s).holds ≡ true → walked n (r ∷ rs) s ≡ and_then (target_outcome (chain_outcome e at table n) r.target (try_all e r.matches.items s).state) (walked n rs)
  by_target n r rs s holds =
      ap (λ b. and_then (target_if b (chain_outcome e at table n) r.target (try_all e r.matches.items s).state) (walked n rs)) holds

  -- a jump to a chain that is there
  by_jump : (n : ℕ) (r : Rule) (rs inner : List Rule) (chain : List ℕ) (s : WalkState) (o : Outcome) → (try_all e r.matches.items s).holds ≡ true → r.target ≡ target.Jump chain → at (record { table = table; chain = chain }) ≡ Some inner → walked n inner (try_all e r.matches.items s).state ≡ o → walked (suc n) (r ∷ rs) s ≡ and_then (returned_from chain o) (walked (suc n) rs)
  by_jump n r rs inner chain s o holds is there goes =
      let tried = try_all e r.matches.items s in
      by_target (suc n) r rs s holds
      ∙ ap (λ t. and_then (target_outcome (chain_outcome e at table (suc n)) t tried.state) (walked (suc n) rs)) is
      ∙ ap (λ f. and_then (found_outcome e (chain_outcome e at table n) chain f tried.state) (walked (suc n) rs)) there
      ∙ ap (λ w. and_then (returned_from chain w) (walked (suc n) rs)) goes

  -- a walk with some number of jumps
  abbrev Walks : List Rule → WalkState → Outcome → Type 0
  Walks rules s o = (n : ℕ) × (walked n rules s ≡ o) × (is_settled o ≡ true)

  taken_walks : {rules : List Rule} {s : WalkState} {o : Outcome} → Takes e at table rules s o → Walks rules s o
  taken_walks (way.Over s) = (0, refl, refl)
  taken_walks (way.Misses r rs s o misses rest) =
      let (n, is, settled) = taken_walks rest in
      (n, ap (λ b. and_then (target_if b (chain_outcome e at table n) r.target (try_all e r.matches.items s).state) (walked n rs)) misses ∙ is, settled)
  taken_walks (way.Marks r rs s t o holds changes rest) =
      let (n, is, settled) = taken_walks rest in
      (n, by_target n r rs s holds ∙ ap (λ w. and_then w (walked n rs)) (goes_on (chain_outcome e at table n) changes) ∙ is, settled)
  taken_walks (way.Returns r rs s holds is) =
      (0, by_target 0 r rs s holds ∙ ap (λ t. and_then (target_outcome (chain_outcome e at table 0) t (try_all e r.matches.items s).state) (walked 0 rs)) is, refl)
  taken_walks (way.Stops r rs s end holds ends) =
      (0, by_target 0 r rs s holds ∙ ap (λ w. and_then w (walked 0 rs)) (stops (chain_outcome e at table 0) (try_all e r.matches.items s).state ends), refl)
  taken_walks (way.JumpsAndComesBack r rs inner chain s t back o holds is there goes comes rest) =
      let (n, inside, settled_in) = taken_walks goes in
      let (m, after, settled) = taken_walks rest in
      let turned : m + suc n ≡ suc (n + m) = omega arith in (
        suc (n + m),
        by_jump (n + m) r rs inner chain s back holds is there (deeper e at table m n inner (try_all e r.matches.items s).state back inside settled_in)
            ∙ ap (λ w. and_then w (walked (suc (n + m)) rs)) (back_to chain comes)
            ∙ subst (λ k. walked k rs t ≡ o) turned (deeper e at table (suc n) m rs t o after settled),
        settled,
      )
  taken_walks (way.JumpsAndStops r rs inner chain s t end path holds is there goes) =
      let (n, inside, settled_in) = taken_walks goes in
      (suc n, by_jump n r rs inner chain s (Ended end path t) holds is there inside, refl)

  -- ---- and back

  -- where a jump went that isn't stuck: a chain is there, and its rules take the state
  abbrev Jumped : List ℕ → WalkState → Outcome → Type 0
  Jumped chain s o =
      (inner : List Rule) × (at (record { table = table; chain = chain }) ≡ Some inner)
      × (back : Outcome) × Takes e at table inner s back × (o ≡ returned_from chain back)

  -- a rule that jumps, by how the chain came out
  jumped_on : (r : Rule) (rs inner : List Rule) (chain : List ℕ) (s : WalkState) (next : WalkState → Outcome) → (try_all e r.matches.items s).holds ≡ true → r.target ≡ target.Jump chain → at (record { table = table; chain = chain }) ≡ Some inner → (back : Outcome) → Takes e at table inner (try_all e r.matches.items s).state back → ((t : WalkState) → is_settled (next t) ≡ true → Takes e at table rs t (next t)) → is_settled (and_then (returned_from chain back) next) ≡ true → Takes e at table (r ∷ rs) s (and_then (returned_from chain back) next)
  jumped_on r rs inner chain s next holds is there (Next t) goes rest h = way.JumpsAndComesBack r rs inner chain s t (Next t) (next t) holds is there goes (way.AtLast t) (rest t h)
  jumped_on r rs inner chain s next holds is there (Left t) goes rest h = way.JumpsAndComesBack r rs inner chain s t (Left t) (next t) holds is there goes (way.ByReturn t) (rest t h)
  jumped_on r rs inner chain s next holds is there (Ended end path t) goes rest h = way.JumpsAndStops r rs inner chain s t end path holds is there goes
  jumped_on r rs inner chain s next holds is there Stuck goes rest h = absurd (cc)

  -- a rule whose matches held, by its target
  taken_on : (jump : List ℕ → WalkState → Outcome) → ((chain : List ℕ) (s : WalkState) → is_settled (jump chain s) ≡ true → Jumped chain s (jump chain s)) → (r : Rule) (rs : List Rule) (s : WalkState) (next : WalkState → Outcome) → (try_all e r.matches.items s).holds ≡ true → ((t : WalkState) → is_settled (next t) ≡ true → Takes e at table rs t (next t)) → (t : Target) → r.target ≡ t → is_settled (and_then (target_outcome jump t (try_all e r.matches.items s).state) next) ≡ true → Takes e at table (r ∷ rs) s (and_then (target_outcome jump t (try_all e r.matches.items s).state) next)
  taken_on jump jumps r rs s next holds rest (target.Jump chain) is h =
      let tried = (try_all e r.matches.items s).state in
      let (inner, there, back, goes, out) = jumps chain tried (settled_first (jump chain tried) next h) in
      subst (λ o. Takes e at table (r ∷ rs) s (and_then o next)) (sym out)
      (jumped_on r rs inner chain s next holds is there back goes rest (subst (λ o. is_settled (and_then o next) ≡ true) out h))
  taken_on jump jumps r rs s next holds rest target.Return is h = way.Returns r rs s holds is
  taken_on jump jumps r rs s next holds rest target.Accept is h = way.Stops r rs s ending.Accept holds (subst (λ t. Ends t ending.Accept) (sym is) way.Accepts)
  taken_on jump jumps r rs s next holds rest target.Drop is h = way.Stops r rs s ending.Drop holds (subst (λ t. Ends t ending.Drop) (sym is) way.Drops)
  taken_on jump jumps r rs s next holds rest target.Reject is h = way.Stops r rs s ending.Reject holds (subst (λ t. Ends t ending.Reject) (sym is) way.Rejects)
  taken_on jump jumps r rs s next holds rest target.SetMark is h =
      let tried = (try_all e r.matches.items s).state in
      let t = record tried { marked = true } in
      way.Marks r rs s t (next t) holds (subst (λ u. Changes u tried t) (sym is) (way.Sets tried)) (rest t h)
  taken_on jump jumps r rs s next holds rest target.FlipMark is h =
      let tried = (try_all e r.matches.items s).state in
      let t = record tried { marked = not tried.marked } in
      way.Marks r rs s t (next t) holds (subst (λ u. Changes u tried t) (sym is) (way.Flips tried)) (rest t h)
  taken_on jump jumps r rs s next holds rest (target.Dnat endpoint) is h = way.Stops r rs s (ending.Dnat endpoint) holds (subst (λ t. Ends t (ending.Dnat endpoint)) (sym is) (way.Translates endpoint))
  taken_on jump jumps r rs s next holds rest target.Masquerade is h = way.Stops r rs s ending.Masquerade holds (subst (λ t. Ends t ending.Masquerade) (sym is) way.Masquerades)

  rules_taken : (jump : List ℕ → WalkState → Outcome) → ((chain : List ℕ) (s : WalkState) → is_settled (jump chain s) ≡ true → Jumped chain s (jump chain s)) → (rules : List Rule) (s : WalkState) → is_settled (rules_outcome e jump rules s) ≡ true → Takes e at table rules s (rules_outcome e jump rules s)
  rules_taken jump jumps [] s h = way.Over s
  rules_taken jump jumps (r ∷ rs) s h =
      let tried = try_all e r.matches.items s in
      let next = rules_outcome e jump rs in
      elim tried.holds as (λ b. tried.holds ≡ b → is_settled (and_then (target_if b jump r.target tried.state) next) ≡ true → Takes e at table (r ∷ rs) s (and_then (target_if b jump r.target tried.state) next)) [
        | true ↦ λ holds settled. taken_on jump jumps r rs s next holds (rules_taken jump jumps rs) r.target refl settled
        | false ↦ λ misses settled. way.Misses r rs s (next tried.state) misses (rules_taken jump jumps rs tried.state settled)
      ] refl h

  found_jumped : (jump : List ℕ → WalkState → Outcome) → ((chain : List ℕ) (s : WalkState) → is_settled (jump chain s) ≡ true → Jumped chain s (jump chain s)) → (chain : List ℕ) (s : WalkState) (found : Option (List Rule)) → at (record { table = table; chain = chain }) ≡ found → is_settled (found_outcome e jump chain found s) ≡ true → Jumped chain s (found_outcome e jump chain found s)
  found_jumped jump jumps chain s None is h = absurd (cc)
  found_jumped jump jumps chain s (Some inner) is h =
      (inner, is, rules_outcome e jump inner s, rules_taken jump jumps inner s (settled_inside chain (rules_outcome e jump inner s) h), refl)

  chain_jumped : (n : ℕ) (chain : List ℕ) (s : WalkState) → is_settled (chain_outcome e at table n chain s) ≡ true → Jumped chain s (chain_outcome e at table n chain s)
  chain_jumped zero chain s h = absurd (cc)
  chain_jumped (suc n) chain s h = found_jumped (chain_outcome e at table n) (chain_jumped n) chain s (at (record { table = table; chain = chain })) refl h

  walks_taken : (rules : List Rule) (s : WalkState) (o : Outcome) → Walks rules s o → Takes e at table rules s o
  walks_taken rules s o (n, is, settled) =
      subst (Takes e at table rules s) is (rules_taken (chain_outcome e at table n) (chain_jumped n) rules s (ap is_settled is ∙ settled))

pub traversal_is_walk : TraversalIsWalk
traversal_is_walk e at table rules s o = (λ taken. taken_walks e at table taken, walks_taken e at table rules s o)
