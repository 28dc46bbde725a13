-- What POSTROUTING does: it masquerades what is marked.
use Rattle.std.proofs.Common.{◌≡◌, ℕ, suc, Bool, true, false, not, List, [], ◌∷◌, Option, codes, refl, ap, ◌∙◌}
use Rattle.kp_types.specs.Setting.{Setting}
use Rattle.kp_types.specs.Rules.{rule_of}
use Rattle.kp_types.specs.declared.chain.TableName.TheVariants.{Nat}
use Rattle.kp_types.specs.declared.chain.ChainAt.{ChainAt}
use Rattle.kp_types.specs.declared.rule.Match.TheVariants as match
use Rattle.kp_types.specs.declared.rule.Rule.{Rule}
use Rattle.kp_types.specs.declared.rule.Target.TheVariants as target
use Rattle.kp_types.specs.declared.walk.Ending.TheVariants as ending
use Rattle.kp_object_defs.specs.PortInfo.{PortInfo}
use Rattle.kp_table_defs.specs.Layout.{kube_postrouting}
use Rattle.kp_table_defs.specs.Matching.{WalkState, Surroundings}
use Rattle.kp_table_defs.specs.Walk.{Outcome, and_then, found_outcome, returned_from, target_if, rules_outcome, chain_outcome}
use Rattle.kp_table_defs.specs.Walk.Outcome.{Next, Ended}
use Rattle.kp_walk_laws.proofs.Matches.{rule_if, tried_alone}
use Rattle.kp_walk_laws.proofs.FirstHook.{FindsNat}

-- what POSTROUTING does by the mark
abbrev pub masked_by : Bool → WalkState → Outcome
masked_by true s = Ended ending.Masquerade (codes "POSTROUTING" ∷ kube_postrouting ∷ [])
    (record s { marked = not s.marked })
masked_by false s = Next s

module _ (setting : Setting) (infos : List PortInfo) (e : Surroundings)
    (at : ChainAt → Option (List Rule)) (finds : FindsNat setting infos at) (n : ℕ)
    (s : WalkState) where
  -- the hook masquerades by the mark
  pub postrouting_outcome : chain_outcome e at Nat (suc (suc n)) (codes "POSTROUTING") s
      ≡ masked_by s.marked s
  postrouting_outcome =
      let mask : List Rule = rule_of [] target.FlipMark ∷ rule_of [] target.Masquerade ∷ [] in
      ap (λ o. found_outcome e (chain_outcome e at Nat (suc n)) (codes "POSTROUTING") o s)
      finds.postrouting
      ∙ ap (λ o. returned_from (codes "POSTROUTING")
      (and_then (found_outcome e (chain_outcome e at Nat n) kube_postrouting o s) (λ t. Next t)))
      finds.masquerade
      ∙ ap (λ o. returned_from (codes "POSTROUTING") (and_then (returned_from kube_postrouting
      (and_then o (rules_outcome e (chain_outcome e at Nat n) mask))) (λ t. Next t)))
      (rule_if e (chain_outcome e at Nat n) s (match.Marked true ∷ []) target.Return (not s.marked)
      (tried_alone s _)) ∙ by_mark s.marked
    where
      by_mark : (b : Bool) → returned_from (codes "POSTROUTING")
          (and_then (returned_from kube_postrouting
          (and_then (target_if (not b) (chain_outcome e at Nat n) target.Return s)
          (rules_outcome e (chain_outcome e at Nat n)
          (rule_of [] target.FlipMark ∷ rule_of [] target.Masquerade ∷ [])))) (λ t. Next t))
          ≡ masked_by b s
      by_mark true = refl
      by_mark false = refl
