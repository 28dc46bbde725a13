-- A rule whose only match is a draw is tried by its limit.
use Rattle.std.proofs.Common.{◌≡◌, ℕ, nat_lt, nat_le, ◌^◌, Bool, true, false, cond, List, [], ◌∷◌, Some, None, refl, sym, ap, ◌∙◌}
use Rattle.kp_types.specs.declared.rule.Match.{Match}
use Rattle.kp_types.specs.declared.rule.Match.TheVariants.{Src, Dst, Proto, Port, SrcLocal, DstLocal, Marked, Statistic, Seen, SetSeen}
use Rattle.kp_choice_defs.specs.Draws.{draw_at, threshold_of}
use Rattle.kp_table_defs.specs.Matching.{WalkState, Surroundings, try_all, tried_as, with_draw, and_also}
use Rattle.kp_rules.specs.Limits.{only_limit}

module _ (e : Surroundings) (s : WalkState) (limit : ℕ) where
  alone : (b : Bool) → and_also (tried_as (with_draw s) b) (λ t. tried_as t true) ≡ tried_as (with_draw s) b
  alone true = refl
  alone false = refl

  by_threshold : (p : ℕ) (b : Bool) → cond b (Some (threshold_of p)) None ≡ Some limit → try_all e (Statistic p ∷ []) s ≡ tried_as (with_draw s) (nat_lt (draw_at e.draws s.used) limit)
  by_threshold p true is =
      let same : threshold_of p ≡ limit = cc in
      alone (nat_lt (draw_at e.draws s.used) (threshold_of p)) ∙ ap (λ n. tried_as (with_draw s) (nat_lt (draw_at e.draws s.used) n)) same
  by_threshold p false is = cc

  pub tried_by_limit : (ms : List Match) → only_limit ms ≡ Some limit → tried_as (with_draw s) (nat_lt (draw_at e.draws s.used) limit) ≡ try_all e ms s
  tried_by_limit [] is = cc
  tried_by_limit (Src range negated ∷ []) is = cc
  tried_by_limit (Dst range negated ∷ []) is = cc
  tried_by_limit (Proto proto ∷ []) is = cc
  tried_by_limit (Port proto port ∷ []) is = cc
  tried_by_limit (SrcLocal ∷ []) is = cc
  tried_by_limit (DstLocal ∷ []) is = cc
  tried_by_limit (Marked negated ∷ []) is = cc
  tried_by_limit (Statistic p ∷ []) is = sym (by_threshold p (nat_le p (10 ^ 10)) is)
  tried_by_limit (Seen list seconds ∷ []) is = cc
  tried_by_limit (SetSeen list ∷ []) is = cc
  tried_by_limit (m ∷ n ∷ ms) is = cc
