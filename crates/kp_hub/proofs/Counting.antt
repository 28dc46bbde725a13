-- Passes of workers, one after the other.
use Rattle.std.proofs.Common.{◌≡◌, ℕ, zero, suc, ◌+◌, ◌<◌, List, [], ◌∷◌, ◌++◌, length, map, sum, take, drop, replicate, get_or, slice_set, slice_index_or, refl, ap, sym, subst, ◌∙◌, arith, append_assoc}
use Rattle.std.proofs.Math.Seq.{take-suc}
use Rattle.std.proofs.lemmas.List.{append-nil, map-append}
use Rattle.std.proofs.lemmas.List.Sums.{fold-append}
use Rattle.std.specs.List.{AllByRecursion}

module _ {W R : Type 0} (new : W) where
  -- one more is made, for one less that is left
  pub made_next : (ws now : List W) (w : W) (left rest : List R) (r : R) (n : ℕ) → ws ++ replicate (length left) new ≡ replicate n new
      → left ≡ r ∷ rest → w ≡ new → now ≡ ws ++ w ∷ [] → now ++ replicate (length rest) new ≡ replicate n new
  made_next ws now w left rest r n all one like more =
      ap (λ (l : List W). l ++ replicate (length rest) new) more
      ∙ (append_assoc ws (w ∷ []) (replicate (length rest) new)
      ∙ ((λ i. ws ++ like i ∷ replicate (length rest) new)
      ∙ (ap (λ (l : List R). ws ++ replicate (length l) new) (sym one) ∙ all)))

  -- and none is left
  pub made_all : (ws : List W) (left : List R) (n : ℕ) → ws ++ replicate (length left) new ≡ replicate n new → left ≡ [] → ws ≡ replicate n new
  made_all ws left n all none = sym (append-nil ws) ∙ (ap (λ (l : List R). ws ++ replicate (length l) new) (sym none) ∙ all)

next_is : (i : ℕ) → i + 1 ≡ suc i
next_is i = omega arith

module _ {W : Type 0} (P : W → Type 0) where
  first_hold : (ws : List W) (i : ℕ) (d : W) → i < length ws → P (get_or ws i d)
      → AllByRecursion P (take i ws) → AllByRecursion P (take (suc i) ws)
  first_hold [] i d lt one all = absurd (omega arith)
  first_hold (w ∷ ws) zero d lt one all = (one, tt)
  first_hold (w ∷ ws) (suc i) d lt one all = (all.0, first_hold ws i d (omega arith) one all.1)

  -- what holds of the first ones, and of the next
  pub all_next : (ws : List W) (i : ℕ) (w : W) → i < length ws → w ≡ get_or ws i w → P w
      → AllByRecursion P (take i ws) → AllByRecursion P (take (i + 1) ws)
  all_next ws i w lt at one all =
      subst (λ n. AllByRecursion P (take n ws)) (sym (next_is i))
      (first_hold ws i w lt (subst P at one) all)

module _ {W : Type 0} (f : W → ℕ) where
  counted : (ws : List W) (i : ℕ) (d : W) → i < length ws
      → sum (map f (take (suc i) ws)) ≡ sum (map f (take i ws)) + f (slice_index_or ws i d)
  counted ws i d lt =
      ap (λ l. sum (map f l)) (take-suc ws i d lt)
      ∙ (ap sum (map-append f (take i ws) (slice_index_or ws i d ∷ []))
      ∙ fold-append (λ (n m : ℕ). n + m) 0 (map f (take i ws)) (f (slice_index_or ws i d) ∷ []))

  -- the count of one more
  pub counted_next : (ws : List W) (i : ℕ) (d : W) → i < length ws
      → sum (map f (take (i + 1) ws)) ≡ sum (map f (take i ws)) + f (slice_index_or ws i d)
  counted_next ws i d lt = ap (λ n. sum (map f (take n ws))) (next_is i) ∙ counted ws i d lt

module _ {W : Type 0} (u : W → W) where
  -- the one at the index is as it was
  pub still_there : (ws : List W) (i : ℕ) (d : W) → i < length ws
      → slice_index_or (map u (take i ws) ++ drop i ws) i d ≡ slice_index_or ws i d
  still_there [] i d lt = absurd (omega arith)
  still_there (w ∷ ws) zero d lt = refl
  still_there (w ∷ ws) (suc i) d lt = still_there ws i d (omega arith)

  changed : (ws : List W) (i : ℕ) (d : W) → i < length ws
      → slice_set (map u (take i ws) ++ drop i ws) i (u (slice_index_or ws i d)) ≡ map u (take (suc i) ws) ++ drop (suc i) ws
  changed [] i d lt = absurd (omega arith)
  changed (w ∷ ws) zero d lt = refl
  changed (w ∷ ws) (suc i) d lt = ap (λ l. u w ∷ l) (changed ws i d (omega arith))

  -- and then has changed
  pub changed_next : (ws : List W) (i : ℕ) (d : W) → i < length ws
      → slice_set (map u (take i ws) ++ drop i ws) i (u (slice_index_or ws i d)) ≡ map u (take (i + 1) ws) ++ drop (i + 1) ws
  changed_next ws i d lt = changed ws i d lt ∙ ap (λ n. map u (take n ws) ++ drop n ws) (sym (next_is i))
