-- What hooks make of a journey, and its verdict.
use Rattle.std.proofs.Common.{◌≡◌, inl, inr, ℕ, Bool, true, false, ◌&&◌, List, [], ◌∷◌, ◌++◌, Contains, Option, Some, None, option_map, flat_map, append-nil, codes, refl, sym, ap, ◌∙◌}
use Rattle.std.proofs.Math.Bool.{and-false, and-true}
use Rattle.std.specs.Option.{option_or}
use Rattle.std.proofs.lemmas.List.Folds.{find-append}
use Rattle.kp_base.specs.Net.{is_local_address}
use Rattle.kp_base.specs.declared.address.Family.{Family}
use Rattle.kp_base.specs.declared.key.Endpoint.{Endpoint}
use Rattle.kp_types.specs.Setting.{FamilyConfig, Setting}
use Rattle.kp_types.specs.declared.chain.TableName.TheVariants.{Filter}
use Rattle.kp_types.specs.declared.chain.ChainAt.{ChainAt}
use Rattle.kp_types.specs.declared.packet.Origin.{Origin}
use Rattle.kp_types.specs.declared.packet.Origin.TheVariants.{Wire, Node}
use Rattle.kp_types.specs.declared.rule.Rule.{Rule}
use Rattle.kp_types.specs.declared.verdict.Verdict.{Verdict}
use Rattle.kp_types.specs.declared.verdict.Verdict.TheVariants.{Rejected, Dropped}
use Rattle.kp_object_defs.specs.PortInfo.{PortInfo}
use Rattle.kp_door_defs.specs.Filter.{Refusal, Rejects, DropsClosed, DropsNoLocal, Line, Hook, Input, Forward, Output, hook_lines, hooks_by}
use Rattle.kp_table_defs.specs.Matching.{WalkState, Surroundings}
use Rattle.kp_table_defs.specs.Walk.{Outcome, Journey, Filtering, Masquerading, after_hook, through, routed_hook, input_if, filter_hooks, postrouting_if, verdict_by, walked_by}
use Rattle.kp_table_defs.specs.Walk.Outcome.{Ended}
use Rattle.kp_walk_laws.proofs.FilterBlocks.{ending_of, fits_line}
use Rattle.kp_walk_laws.proofs.FilterChains.{IsFiltered, FindsFilter, first_line, hook_chain, hook_filtered}
use Rattle.kp_walk_laws.proofs.FirstHook.{FindsNat}
use Rattle.kp_walk_laws.proofs.Postrouting.{masked_by, postrouting_outcome}

-- the verdict of a refusal
abbrev pub verdict_of : Refusal → Verdict
verdict_of Rejects = Rejected
verdict_of DropsClosed = Dropped
verdict_of DropsNoLocal = Dropped

-- the verdict of a line
abbrev pub line_verdict : Line → Verdict
line_verdict l = verdict_of l.refusal

-- a journey that isn't masqueraded yet
abbrev pub journey_at : WalkState → Option Endpoint → Option Verdict → List (List (List ℕ))
    → Journey
journey_at s to stopped trail =
    record { state = s; translated = to; masked = false; stopped = stopped; trail = trail }

-- the journey after a hook of the filter
after_filter : (s : WalkState) (to : Option Endpoint) (trail : List (List (List ℕ)))
    (found : Option Line) (o : Outcome) → IsFiltered found s o
    → (after : List (List (List ℕ))) × (after_hook Filtering (journey_at s to None trail) o
    ≡ journey_at s to (option_map line_verdict found) after)
after_filter s to trail None o (inl h) =
    (trail, ap (after_hook Filtering (journey_at s to None trail)) h)
after_filter s to trail None o (inr h) =
    (trail ++ h.0 ∷ [], ap (after_hook Filtering (journey_at s to None trail)) h.1)
after_filter s to trail (Some l) o h = (
  trail ++ h.0 ∷ [],
  ap (after_hook Filtering (journey_at s to None trail)) h.1
      ∙ by_refusal l.refusal,
)
  where
    by_refusal : (r : Refusal) → after_hook Filtering (journey_at s to None trail)
        (Ended (ending_of r) h.0 s) ≡ journey_at s to (Some (verdict_of r)) (trail ++ h.0 ∷ [])
    by_refusal Rejects = refl
    by_refusal DropsClosed = refl
    by_refusal DropsNoLocal = refl

module _ (config : FamilyConfig) (family : Family) (infos : List PortInfo) (e : Surroundings)
    (own : e.node_addresses ≡ config.addresses) (at : ChainAt → Option (List Rule))
    (finds : FindsFilter family infos at) (s : WalkState) (to : Option Endpoint)
    (nodes : (i : PortInfo) (k : ℕ) → Contains infos i → i.node_port ≡ Some k
    → i.address.family ≡ family) where
  -- what the lines of some hooks make of the journey
  abbrev refused_by_hooks : List Hook → Option Verdict
  refused_by_hooks hooks =
      option_map line_verdict (first_line config e s (flat_map (λ h. hook_lines h infos) hooks))

  -- one hook of the filter
  one_hook : (h : Hook) (trail : List (List (List ℕ)))
      → (after : List (List (List ℕ))) × (through e at Filtering Filter (hook_chain h)
      (journey_at s to None trail) ≡ journey_at s to
      (option_map line_verdict (first_line config e s (hook_lines h infos))) after)
  one_hook h trail =
      after_filter s to trail _ _ (hook_filtered config family infos e at finds 6 s own nodes h)

  -- one hook that is all of the filter
  only_hook : (h : Hook) (trail : List (List (List ℕ)))
      → (after : List (List (List ℕ))) × (through e at Filtering Filter (hook_chain h)
      (journey_at s to None trail) ≡ journey_at s to (refused_by_hooks (h ∷ [])) after)
  only_hook h trail =
      let (after, is) = one_hook h trail in (
        after,
        is ∙ ap (λ ls. journey_at s to
            (option_map line_verdict (first_line config e s ls)) after)
            (sym (append-nil (hook_lines h infos))),
      )

  routed : (local : Bool) (trail : List (List (List ℕ)))
      → (after : List (List (List ℕ))) × (through e at Filtering Filter (routed_hook local)
      (journey_at s to None trail) ≡ journey_at s to (refused_by_hooks (hooks_by Wire local)) after)
  routed true trail = only_hook Input trail
  routed false trail = only_hook Forward trail

  -- INPUT behind OUTPUT, which may have stopped the packet
  second_hook : (a : Option Line) (trail : List (List (List ℕ)))
      → (after : List (List (List ℕ))) × (through e at Filtering Filter (codes "INPUT")
      (journey_at s to (option_map line_verdict a) trail)
      ≡ journey_at s to (option_map line_verdict
      (option_or a (first_line config e s (hook_lines Input infos)))) after)
  second_hook None trail = one_hook Input trail
  second_hook (Some l) trail = (trail, refl)

  sent : (local : Bool) (trail : List (List (List ℕ)))
      → (after : List (List (List ℕ))) × (input_if local e at
      (through e at Filtering Filter (codes "OUTPUT") (journey_at s to None trail))
      ≡ journey_at s to (refused_by_hooks (hooks_by Node local)) after)
  sent false trail = only_hook Output trail
  sent true trail =
      let (middle, is) = one_hook Output trail in
      let (after, then) = second_hook _ middle in (
        after,
        ap (through e at Filtering Filter (codes "INPUT")) is ∙ then
            ∙ ap (λ o. journey_at s to (option_map line_verdict o) after)
            (sym (ap (λ ls. first_line config e s (hook_lines Output infos ++ ls))
            (append-nil (hook_lines Input infos)) ∙ find-append (fits_line config e s)
            (hook_lines Output infos) (hook_lines Input infos))),
      )

  -- the hooks of the filter refuse as their lines say
  pub filter_journey : (from : Origin) (trail : List (List (List ℕ)))
      → (after : List (List (List ℕ))) × (filter_hooks from e at (journey_at s to None trail)
      ≡ journey_at s to (option_map line_verdict
      (first_line config e s (flat_map (λ h. hook_lines h infos)
      (hooks_by from (is_local_address e.node_addresses s.target))))) after)
  filter_journey Wire trail = routed _ trail
  filter_journey Node trail = sent _ trail

module _ (setting : Setting) (infos : List PortInfo) (e : Surroundings)
    (at : ChainAt → Option (List Rule)) (finds : FindsNat setting infos at) (s : WalkState)
    (to : Option Endpoint) (trail : List (List (List ℕ))) where
  -- the mark counts where nothing stopped the packet
  masked_verdict : (b : Bool)
      → (walked_by (after_hook Masquerading (journey_at s to None trail) (masked_by b s))).verdict
      ≡ verdict_by None to b
  masked_verdict true = refl
  masked_verdict false = refl

  masked_lists : (b : Bool)
      → (walked_by (after_hook Masquerading (journey_at s to None trail) (masked_by b s))).lists
      ≡ s.lists
  masked_lists true = refl
  masked_lists false = refl

  -- the verdict at the end
  pub last_verdict : (stopped : Option Verdict) (leaving : Bool)
      → (walked_by (postrouting_if leaving e at (journey_at s to stopped trail))).verdict
      ≡ verdict_by stopped to (s.marked && leaving)
  last_verdict (Some v) true = refl
  last_verdict (Some v) false = refl
  last_verdict None true =
      ap (λ o. (walked_by (after_hook Masquerading (journey_at s to None trail) o)).verdict)
      (postrouting_outcome setting infos e at finds 6 s)
      ∙ masked_verdict s.marked ∙ ap (verdict_by None to) (sym (and-true s.marked))
  last_verdict None false = ap (verdict_by None to) (sym (and-false s.marked))

  -- and the recent lists
  pub last_lists : (stopped : Option Verdict) (leaving : Bool)
      → (walked_by (postrouting_if leaving e at (journey_at s to stopped trail))).lists ≡ s.lists
  last_lists (Some v) true = refl
  last_lists (Some v) false = refl
  last_lists None true =
      ap (λ o. (walked_by (after_hook Masquerading (journey_at s to None trail) o)).lists)
      (postrouting_outcome setting infos e at finds 6 s) ∙ masked_lists s.marked
  last_lists None false = refl
