-- Pending keys by the entries that were published.
use Rattle.std.proofs.Common.{◌≡◌, ◌==◌, ℕ, Bool, true, false, not, List, [], ◌∷◌, map, filter}
use Rattle.std.proofs.Common.{Option, refl, sym, ap, ◌∙◌}
use Rattle.std.specs.Prelude.{◌↔◌}
use Rattle.std.specs.List.{list_any}
use Rattle.std.specs.List.Sorted.{IsStrictlySortedBy}
use Rattle.std.specs.Option.{option_eq}
use Rattle.std.specs.Ordering.{eq_by_cmp, nat_cmp}
use Rattle.std.specs.declared.cmp.Ordering.TheVariants.{Less}
use Rattle.std.specs.Cmp.{nat_cmp_total, nat_eq_equiv}
use Rattle.std.specs.FinMap.{find, get-from_entries, nat_cmp-IsAntisymmetric}
use Rattle.std.proofs.lemmas.Map.Views.{exact_unsigned_eq}
use Rattle.kp_tracker.specs.Tracked.{is_other}
use Rattle.kp_tracker.specs.Worked.{ArePending, ChangedArePending, OutOfOrder, WithOld}
use Rattle.kp_tracker.specs.Worked.{WithoutLost, tracked}
use Rattle.kp_tracker.proofs.PendingKeys.{are_pending}

-- numbers that are equal
abbrev same : ℕ → ℕ → Bool
same a b = a == b

-- whether an update gives its key another value, by the entries
abbrev is_other_entry : ℕ × Option ℕ → Bool
is_other_entry (k, v) = not (option_eq same (find nat_cmp k tracked.entries) v)

tells : (a b : ℕ) → (same a b ≡ true) ↔ (a ≡ b)
tells a b = (exact_unsigned_eq a b, λ e. ap (same a) (sym e) ∙ nat_eq_equiv.refl a)

by_entries : filter (is_other nat_cmp same tracked.entries) tracked.updates
    ≡ filter is_other_entry tracked.updates
by_entries = λ i.
    filter
    (λ (e : ℕ × Option ℕ). not (option_eq same
    (get-from_entries nat_cmp_total tracked.entries e.0 i) e.1))
    tracked.updates

rising : IsStrictlySortedBy nat_cmp (map (λ e. e.0) tracked.updates)
unfolding IsStrictlySortedBy
rising = ((refl, (refl, (refl, (refl, tt)))), ((refl, (refl, (refl, tt))), ((refl, (refl, tt)), ((refl, tt), (tt, tt)))))

pub changed_are_pending : ChangedArePending
changed_are_pending =
    are_pending same tells nat_cmp_total nat_cmp-IsAntisymmetric nat_cmp (λ a b. refl)
    tracked (1 ∷ 3 ∷ 5 ∷ []) (sym (ap (map (λ e. e.0)) by_entries)) rising

-- lists that hold a key or don't aren't both pending
no_other : (keys : List ℕ) (k : ℕ) (b : Bool) → list_any (eq_by_cmp nat_cmp k) (1 ∷ 3 ∷ 5 ∷ []) ≡ b
    → list_any (eq_by_cmp nat_cmp k) keys ≡ not b → ArePending keys → ⊥
no_other keys k b here there pending =
    differ b (sym here ∙ changed_are_pending.each k ∙ sym (pending.each k) ∙ there)
  where
    differ : (b : Bool) → b ≡ not b → ⊥
    differ true h = absurd (cc)
    differ false h = absurd (cc)

pub without_lost : WithoutLost
without_lost = no_other (1 ∷ 5 ∷ []) 3 true refl refl

pub with_old : WithOld
with_old = no_other (1 ∷ 2 ∷ 3 ∷ 5 ∷ []) 2 false refl refl

not_rising : IsStrictlySortedBy nat_cmp (1 ∷ 5 ∷ 3 ∷ []) → ⊥
unfolding IsStrictlySortedBy
not_rising h = let turned : nat_cmp 5 3 ≡ Less = h.1.0.0 in absurd (cc)

pub out_of_order : OutOfOrder
out_of_order pending = not_rising pending.in_order
