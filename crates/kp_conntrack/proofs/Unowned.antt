-- What is kept where nobody owns a flow, and where it opens then.
use Rattle.std.proofs.Common.{◌≡◌, ℕ, max, nat_lt, Bool, true, false, List, [], ◌∷◌, ◌++◌, filter, length, cond, Option, Some, None, is_some, refl, ap, ◌∙◌, arith}
use Rattle.std.specs.List.{find, list_any}
use Rattle.std.specs.Option.{option_to_list}
use Rattle.kp_types.specs.declared.verdict.Verdict.{Verdict}
use Rattle.kp_track_defs.specs.declared.flow.Entry.{Entry}
use Rattle.kp_track_defs.specs.declared.flow.Flow.{Flow}
use Rattle.kp_track_defs.specs.Entries.{answer_by, change_first, connection_of, has_connection, is_replied_by, is_within, renewed}
use Rattle.kp_track_defs.specs.Kept.{Kept, at_flow, keeps, kept_after_opened, kept_after_owned, kept_heard, kept_owned}
use Rattle.kp_track_defs.specs.Tracking.{entry_by, moment_at, most_openers}
use Rattle.kp_conntrack.proofs.Answered.{any_is, unchanged}

both_none : (a b : Option Entry) → answer_by a b ≡ None → (a ≡ None) × (b ≡ None)
both_none None None h = (refl, refl)
both_none None (Some e) h = cc
both_none (Some e) b h = cc

filter_twice : {X : Type 0} (p : X → Bool) (xs : List X) → filter p (filter p xs) ≡ filter p xs
filter_twice p [] = refl
filter_twice p (x ∷ xs) = step (p x) refl (filter_twice p xs)
  where
    step : (b : Bool) → p x ≡ b → filter p (filter p xs) ≡ filter p xs
        → filter p (cond b (x ∷ filter p xs) (filter p xs)) ≡ cond b (x ∷ filter p xs) (filter p xs)
    step true is more = (λ i. cond (is i) (x ∷ filter p (filter p xs)) (filter p (filter p xs))) ∙ ap (λ ys. x ∷ ys) more
    step false is more = more

max_twice : (m n : ℕ) → max (max m n) n ≡ max m n
max_twice m n = omega arith

at_flow_twice : (k : Kept) (f : Flow) → at_flow (at_flow k f) f ≡ at_flow k f
at_flow_twice k f =
    let now = max_twice k.moment f.packet.now in
    (λ i. record { entries = filter (is_within (now i)) (at_flow k f).entries; moment = now i })
    ∙ (λ i. record { entries = filter_twice (is_within (moment_at k.moment f)) k.entries i; moment = moment_at k.moment f })

-- what is kept of a flow that opens, by what is left at its moment
abbrev opened_from : Kept → Flow → Verdict → Option Entry
opened_from left f verdict =
    cond (nat_lt (length left.entries) most_openers) (entry_by left.moment f verdict) None

abbrev left_opened : Kept → Flow → Verdict → Kept
left_opened left f verdict =
    record left { entries = left.entries ++ option_to_list (opened_from left f verdict) }

module _ (k : Kept) (f : Flow) (none : kept_owned k f ≡ None) (s : Kept) (after : s ≡ kept_after_owned k f) where
  -- what has ended by then is gone
  pub ended : s ≡ at_flow k f
  ended =
      let es = (at_flow k f).entries in
      let now = (at_flow k f).moment in
      let c = connection_of f in
      let both = both_none (find (has_connection c) es) (find (is_replied_by c) es) none in
      let missed : list_any (has_connection c) es ≡ false = any_is (has_connection c) es ∙ ap is_some both.0 in
      let heard : kept_heard now c es ≡ es =
      (λ i. cond (missed i) (change_first (has_connection c) (renewed now) es) (change_first (is_replied_by c) (renewed now) es))
      ∙ unchanged (is_replied_by c) now es both.1 in
      after ∙ (λ i. record { entries = heard i; moment = now })

  -- which flows that open then are kept
  pub keeps_after : (verdict : Verdict) → keeps s f verdict ≡ keeps k f verdict
  keeps_after verdict =
      ap (λ left. is_some (opened_from left f verdict)) (ap (λ t. at_flow t f) ended ∙ at_flow_twice k f)

  -- and what stands after them
  pub opened_after : (verdict : Verdict) → kept_after_opened s f verdict ≡ kept_after_opened k f verdict
  opened_after verdict =
      ap (λ left. left_opened left f verdict) (ap (λ t. at_flow t f) ended ∙ at_flow_twice k f)
