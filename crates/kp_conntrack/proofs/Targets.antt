-- Endpoints that the rules of a table send packets of UDP to, chain by chain.
use Rattle.std.proofs.Common.{◌≡◌, ℕ, Bool, true, false, List, [], ◌∷◌, ◌++◌, map, Option, Some, None, cond, refl, sym, ap, ◌∙◌, subst, append-nil, Bor}
use Rattle.std.specs.FinMap.{get}
use Rattle.std.specs.List.{filter_map, flat_map}
use Rattle.std.specs.Option.{option_to_list}
use Rattle.std.proofs.lemmas.List.{flat_map_more, map-append}
use Rattle.kp_base.specs.declared.key.Endpoint.{Endpoint}
use Rattle.kp_types.specs.declared.chain.ChainAt.{ChainAt}
use Rattle.kp_types.specs.declared.rule.Rule.{Rule}
use Rattle.kp_table_defs.specs.Rebuild.{Chains}
use Rattle.kp_track_defs.specs.declared.flow.Entry.{Entry}
use Rattle.kp_conntrack.specs.Marked.{AreMarkedBy}
use Rattle.kp_conntrack.specs.Standing.{is_nat, udp_target, udp_targets_at, udp_targets_of}

module _ (rows : List Entry) (kept : List ℕ) (others : List Endpoint) (marks : List Bool) where
  -- where no more are marked
  pub none_more : AreMarkedBy rows kept others marks → (more : List Endpoint) → more ≡ [] → AreMarkedBy rows kept (others ++ more) marks
  none_more before more none =
      subst (λ es. AreMarkedBy rows kept es marks) (sym (ap (λ es. others ++ es) none ∙ append-nil others)) before

  module _ (chains : Chains) (at : ChainAt) where
    -- a table that doesn't translate destinations
    pub no_nat : is_nat at.table ≡ false → AreMarkedBy rows kept others marks
        → AreMarkedBy rows kept (others ++ udp_targets_at chains at) marks
    no_nat other before = none_more before (udp_targets_at chains at) (ap (λ b. cond b (udp_targets_of (get chains at)) []) other)

    -- a place without a chain
    pub no_chain : is_nat at.table ≡ true → None ≡ get chains at → AreMarkedBy rows kept others marks
        → AreMarkedBy rows kept (others ++ udp_targets_at chains at) marks
    no_chain nat none before =
        none_more before (udp_targets_at chains at)
        (ap (λ b. cond b (udp_targets_of (get chains at)) []) nat ∙ ap udp_targets_of (sym none))

    -- a chain
    pub chain_marked : is_nat at.table ≡ true → (rules : List Rule) → Some rules ≡ get chains at
        → AreMarkedBy rows kept (others ++ filter_map udp_target rules) marks
        → AreMarkedBy rows kept (others ++ udp_targets_at chains at) marks
    chain_marked nat rules found marked =
        subst (λ es. AreMarkedBy rows kept (others ++ es) marks)
        (sym (ap (λ b. cond b (udp_targets_of (get chains at)) []) nat ∙ ap udp_targets_of (sym found))) marked

-- one more place
pub places_more : (rows : List Entry) (kept : List ℕ) (chains : Chains) (places : List (Bor ChainAt)) (at : Bor ChainAt) (marks : List Bool)
    → AreMarkedBy rows kept (flat_map (udp_targets_at chains) (map (λ p. p.now) places) ++ udp_targets_at chains at.now) marks
    → AreMarkedBy rows kept (flat_map (udp_targets_at chains) (map (λ p. p.now) (places ++ at ∷ []))) marks
places_more rows kept chains places at marks marked =
    subst (λ es. AreMarkedBy rows kept es marks)
    (flat_map_more (udp_targets_at chains) [] (map (λ (p : Bor ChainAt). p.now) places) at.now
    ∙ ap (flat_map (udp_targets_at chains)) (sym (map-append (λ (p : Bor ChainAt). p.now) places (at ∷ [])))) marked
