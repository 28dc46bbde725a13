-- What the chains and the hooks of the filter do with a packet.
use Rattle.std.proofs.Common.{◌≡◌, ◌⊎◌, inl, inr, ℕ, suc, Bool, true, false, List, [], ◌∷◌, Contains, Option, Some, None, option_map, flat_map, refl, sym, ap, subst, ◌∙◌}
use Rattle.std.specs.List.{find}
use Rattle.std.specs.Option.{option_or}
use Rattle.std.proofs.lemmas.List.Folds.{find-append}
use Rattle.std.specs.Prelude.{codes}
use Rattle.kp_base.specs.declared.address.Family.{Family}
use Rattle.kp_types.specs.Setting.{FamilyConfig}
use Rattle.kp_types.specs.Rules.{rule_of}
use Rattle.kp_types.specs.declared.chain.TableName.TheVariants.{Filter}
use Rattle.kp_types.specs.declared.chain.ChainAt.{ChainAt}
use Rattle.kp_types.specs.declared.rule.Match.TheVariants as match
use Rattle.kp_types.specs.declared.rule.Rule.{Rule}
use Rattle.kp_types.specs.declared.rule.Target.TheVariants as target
use Rattle.kp_types.specs.declared.walk.Ending.TheVariants as ending
use Rattle.kp_object_defs.specs.PortInfo.{PortInfo}
use Rattle.kp_door_defs.specs.Filter.{Line, Hook, Input, Forward, Output, firewall_lines, external_lines, service_lines, hook_lines}
use Rattle.kp_table_defs.specs.Layout.{jump_to, kube_proxy_firewall, kube_external_services, kube_services, kube_forward, firewall_block, external_block, refusal_block}
use Rattle.kp_table_defs.specs.Matching.{WalkState, Surroundings}
use Rattle.kp_table_defs.specs.Walk.{Outcome, and_then, found_outcome, returned_from, target_if, rules_outcome, chain_outcome}
use Rattle.kp_table_defs.specs.Walk.Outcome.{Next, Ended}
use Rattle.kp_walk_laws.proofs.Outcomes.{or_next, and_then_next, pathless, next_of, ended_of, find_in_each}
use Rattle.kp_walk_laws.proofs.Matches.{rule_if, tried_alone}
use Rattle.kp_walk_laws.proofs.FilterBlocks.{ending_of, refusing, fits_line, Refuses, refusing_last, firewall_refuses, external_refuses, service_refuses}

-- the outcome of a chain of the filter by the first line that a packet fits: on, or the end by the
-- line
abbrev pub IsRefused : Option Line → WalkState → Outcome → Type 0
IsRefused None s o = o ≡ Next s
IsRefused (Some l) s o = (path : List (List ℕ)) × (o ≡ Ended (ending_of l.refusal) path s)

-- the same of a hook, which may also accept what no line has
abbrev pub IsFiltered : Option Line → WalkState → Outcome → Type 0
IsFiltered None s o = (o ≡ Next s) ⊎ ((path : List (List ℕ)) × (o ≡ Ended ending.Accept path s))
IsFiltered (Some l) s o = (path : List (List ℕ)) × (o ≡ Ended (ending_of l.refusal) path s)

-- rules that refuse, as a chain
refused_chain : (chain : List ℕ) (found : Option Line) (s : WalkState) (o : Outcome)
    → pathless o ≡ or_next (option_map (refusing s) found) s
    → IsRefused found s (returned_from chain o)
refused_chain chain None s o h = ap (returned_from chain) (next_of o s h)
refused_chain chain (Some l) s o h =
    let (path, is) = ended_of o _ s h in
    (chain ∷ path, ap (returned_from chain) is)

-- a chain before what is behind it in a hook
filtered_then : (a b : Option Line) (s : WalkState) (o : Outcome) (next : WalkState → Outcome)
    → IsRefused a s o → IsFiltered b s (next s) → IsFiltered (option_or a b) s (and_then o next)
filtered_then None b s o next h k = subst (IsFiltered b s) (sym (ap (λ p. and_then p next) h)) k
filtered_then (Some l) b s o next h k = (h.0, ap (λ p. and_then p next) h.1)

-- a hook's rules as its chain
filtered_hook : (chain : List ℕ) (a : Option Line) (s : WalkState) (o : Outcome) → IsFiltered a s o
    → IsFiltered a s (returned_from chain o)
filtered_hook chain None s o (inl h) = inl (ap (returned_from chain) h)
filtered_hook chain None s o (inr h) = inr (chain ∷ h.0, ap (returned_from chain) h.1)
filtered_hook chain (Some l) s o h = (chain ∷ h.0, ap (returned_from chain) h.1)

or_none : {X : Type 0} (o : Option X) → option_or o None ≡ o
or_none None = refl
or_none (Some x) = refl

or_assoc : {X : Type 0} (a b c : Option X)
    → option_or a (option_or b c) ≡ option_or (option_or a b) c
or_assoc None b c = refl
or_assoc (Some x) b c = refl

-- a look-up finds the chains of filter
pub record FindsFilter (family : Family) (infos : List PortInfo)
    (at : ChainAt → Option (List Rule)) : Type 0 where
  pub input : at (record { table = Filter; chain = codes "INPUT" })
      ≡ Some (jump_to kube_proxy_firewall ∷ jump_to kube_external_services ∷ [])
  pub forward : at (record { table = Filter; chain = codes "FORWARD" })
      ≡ Some (jump_to kube_proxy_firewall ∷ jump_to kube_external_services ∷ jump_to kube_services
      ∷ jump_to kube_forward ∷ [])
  pub output : at (record { table = Filter; chain = codes "OUTPUT" })
      ≡ Some (jump_to kube_proxy_firewall ∷ jump_to kube_services ∷ [])
  pub marked : at (record { table = Filter; chain = kube_forward })
      ≡ Some (rule_of (match.Marked false ∷ []) target.Accept ∷ [])
  pub firewall : at (record { table = Filter; chain = kube_proxy_firewall })
      ≡ Some (flat_map firewall_block infos)
  pub external : at (record { table = Filter; chain = kube_external_services })
      ≡ Some (flat_map (external_block family) infos)
  pub services : at (record { table = Filter; chain = kube_services })
      ≡ Some (flat_map refusal_block infos)

-- the first of some lines that a packet fits
abbrev pub first_line : FamilyConfig → Surroundings → WalkState → List Line → Option Line
first_line config e s lines = find (fits_line config e s) lines

-- the chain of a hook
abbrev pub hook_chain : Hook → List ℕ
hook_chain Input = codes "INPUT"
hook_chain Forward = codes "FORWARD"
hook_chain Output = codes "OUTPUT"

module _ (config : FamilyConfig) (family : Family) (infos : List PortInfo) (e : Surroundings)
    (at : ChainAt → Option (List Rule)) (finds : FindsFilter family infos at) (n : ℕ)
    (s : WalkState)
    (own : e.node_addresses ≡ config.addresses)
    (nodes : (i : PortInfo) (k : ℕ) → Contains infos i → i.node_port ≡ Some k
    → i.address.family ≡ family) where
  -- a chain with a block of each port
  blocks_chain : (chain : List ℕ) (block : PortInfo → List Rule) (lines : PortInfo → List Line)
      → at (record { table = Filter; chain = chain }) ≡ Some (flat_map block infos)
      → ((i : PortInfo) → Contains infos i → Refuses config family e (chain_outcome e at Filter n) s
      (block i) (lines i))
      → IsRefused (first_line config e s (flat_map lines infos)) s
      (chain_outcome e at Filter (suc n) chain s)
  blocks_chain chain block lines found h =
      subst (IsRefused (first_line config e s (flat_map lines infos)) s)
      (sym (ap (λ o. found_outcome e (chain_outcome e at Filter n) chain o s) found))
      (refused_chain chain _ s _
      (find_in_each (refusing_last config family e (chain_outcome e at Filter n) s) block lines infos
      h).same)

  firewall_chain : IsRefused (first_line config e s (flat_map firewall_lines infos)) s
      (chain_outcome e at Filter (suc n) kube_proxy_firewall s)
  firewall_chain = blocks_chain _ _ _ finds.firewall (λ i c. firewall_refuses config family e _ s i)

  external_chain : IsRefused (first_line config e s (flat_map external_lines infos)) s
      (chain_outcome e at Filter (suc n) kube_external_services s)
  external_chain =
      blocks_chain _ _ _ finds.external (λ i c. external_refuses config family e _ s own i
      (λ k. nodes i k c))

  services_chain : IsRefused (first_line config e s (flat_map service_lines infos)) s
      (chain_outcome e at Filter (suc n) kube_services s)
  services_chain = blocks_chain _ _ _ finds.services (λ i c. service_refuses config family e _ s i)

  -- the chain that accepts what is marked
  forward_chain : IsFiltered None s (chain_outcome e at Filter (suc n) kube_forward s)
  forward_chain =
      subst (IsFiltered None s)
      (sym (ap (λ o. found_outcome e (chain_outcome e at Filter n) kube_forward o s) finds.marked
      ∙ ap (λ o. returned_from kube_forward (and_then o (λ t. Next t)))
      (rule_if e _ s (match.Marked false ∷ []) _ s.marked (tried_alone s s.marked))))
      (by_mark s.marked)
    where
      by_mark : (b : Bool) → IsFiltered None s
          (returned_from kube_forward
          (and_then (target_if b (chain_outcome e at Filter n) target.Accept s) (λ t. Next t)))
      by_mark true = inr (kube_forward ∷ [], refl)
      by_mark false = inl refl

  -- a hook by its rules
  hook_by : (h : Hook) (rules : List Rule) (found : Option Line)
      → at (record { table = Filter; chain = hook_chain h }) ≡ Some rules
      → first_line config e s (hook_lines h infos) ≡ found
      → IsFiltered found s (rules_outcome e (chain_outcome e at Filter (suc n)) rules s)
      → IsFiltered (first_line config e s (hook_lines h infos)) s
      (chain_outcome e at Filter (suc (suc n)) (hook_chain h) s)
  hook_by h rules found stands same k =
      subst (IsFiltered (first_line config e s (hook_lines h infos)) s)
      (sym (ap (λ o. found_outcome e (chain_outcome e at Filter (suc n)) (hook_chain h) o s)
      stands)) (filtered_hook _ _ s _
      (subst (λ o. IsFiltered o s (rules_outcome e (chain_outcome e at Filter (suc n)) rules s))
      (sym same) k))

  -- a hook of the filter refuses by the first of its lines that the packet fits
  pub hook_filtered : (h : Hook) → IsFiltered (first_line config e s (hook_lines h infos)) s
      (chain_outcome e at Filter (suc (suc n)) (hook_chain h) s)
  hook_filtered h =
      let test : Line → Bool = fits_line config e s in
      let jump : List ℕ → WalkState → Outcome = chain_outcome e at Filter (suc n) in
      let fw : List Line = flat_map firewall_lines infos in
      let ext : List Line = flat_map external_lines infos in
      let svc : List Line = flat_map service_lines infos in
      let last : IsFiltered None s (rules_outcome e jump (jump_to kube_forward ∷ []) s) =
      subst (IsFiltered None s) (sym (and_then_next _)) forward_chain in
      elim h as (λ k. IsFiltered (first_line config e s (hook_lines k infos)) s
      (chain_outcome e at Filter (suc (suc n)) (hook_chain k) s)) [
        | Input ↦ hook_by Input _
            _ finds.input (find-append test fw ext ∙ ap (option_or (find test fw))
            (sym (or_none _))) (filtered_then _ _ s _ _ firewall_chain (filtered_then _ None s _
            (λ t. Next t) external_chain (inl refl)))
        | Forward ↦
            hook_by Forward _ _ finds.forward
            (find-append test _ svc ∙ ap (λ o. option_or o (find test svc))
            (find-append test fw ext) ∙ sym (or_assoc (find test fw) (find test ext)
            (find test svc))
            ∙ ap (λ o. option_or (find test fw) (option_or (find test ext) o)) (sym (or_none _)))
            (filtered_then _ _ s _ _ firewall_chain (filtered_then _ _ s _ _ external_chain
            (filtered_then _ None s _ _ services_chain last)))
        | Output ↦ hook_by Output _
            _ finds.output (find-append test fw svc ∙ ap (option_or (find test fw))
            (sym (or_none _))) (filtered_then _ _ s _ _ firewall_chain (filtered_then _ None s _
            (λ t. Next t) services_chain (inl refl)))
      ]
