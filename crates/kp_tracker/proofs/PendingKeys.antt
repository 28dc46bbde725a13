-- The keys of updates that give another value are those whose newest value differs, in order.
use Rattle.std.proofs.Common.{◌≡◌, ◌||◌, Bool, true, false, cond, not, List, [], ◌∷◌, map, filter}
use Rattle.std.proofs.Common.{Option, Some, None, refl, sym, ap, subst, ◌∙◌}
use Rattle.std.specs.Prelude.{◌↔◌}
use Rattle.std.specs.declared.cmp.Ordering.{Ordering}
use Rattle.std.specs.declared.cmp.Ordering.TheVariants.{Less}
use Rattle.std.specs.List.{list_any, AllByRecursion}
use Rattle.std.specs.List.Sorted.{IsStrictlySortedBy}
use Rattle.std.specs.Option.{option_eq}
use Rattle.std.specs.Ordering.{eq_by_cmp, is_eq}
use Rattle.std.specs.Cmp.{IsTotalOrder}
use Rattle.std.specs.FinMap.{IsAntisymmetric, find, get}
use Rattle.kp_lemmas.proofs.ListFacts.{all_weaker}
use Rattle.kp_lemmas.proofs.Orders.{one_from_tie}
use Rattle.kp_tracker.specs.Tracked.{IsPending, Tracked, is_other, published}
use Rattle.kp_tracker.proofs.Newest.{got_updated, update_or}

-- ---- Keys of the entries that pass a test

module _ {K X : Type 0} (test : K × X → Bool) where
  -- these keys
  abbrev passing : List (K × X) → List K
  passing es = map (λ e. e.0) (filter test es)

  below_passing : (P : K → Type 0) (es : List (K × X)) → AllByRecursion P (map (λ e. e.0) es)
      → AllByRecursion P (passing es)
  below_passing P [] h = tt
  below_passing P (e ∷ es) h =
      elim (test e) as (λ b. AllByRecursion P (map (λ e. e.0) (cond b (e ∷ filter test es)
      (filter test es)))) [
        | true ↦ (h.0, below_passing P es h.1)
        | false ↦ below_passing P es h.1
      ]

  -- whether what was found passes
  abbrev passes : K → Option X → Bool
  passes k None = false
  passes k (Some x) = test (k, x)

-- a key below all others isn't one of them
others : {K : Type 0} (R : K → K → Ordering) (k : K) (ks : List K)
    → AllByRecursion (λ l. R k l ≡ Less) ks → list_any (eq_by_cmp R k) ks ≡ false
others R k [] h = refl
others R k (l ∷ ks) h =
    ap (λ o. is_eq o || list_any (eq_by_cmp R k) ks) h.0 ∙ others R k ks h.1

module _ {K X : Type 0} (R : K → K → Ordering) (test : K × X → Bool) where
  -- they are in order where all keys are
  passing_in_order : (es : List (K × X)) → IsStrictlySortedBy R (map (λ e. e.0) es)
      → IsStrictlySortedBy R (passing test es)
  unfolding IsStrictlySortedBy
  passing_in_order [] h = tt
  passing_in_order (e ∷ es) h =
      elim (test e) as (λ b. IsStrictlySortedBy R (map (λ e. e.0) (cond b (e ∷ filter test es)
      (filter test es)))) [
        | true ↦ (below_passing test (λ l. R e.0 l ≡ Less) es h.0, passing_in_order es h.1)
        | false ↦ passing_in_order es h.1
      ]

  module _ (exact : IsAntisymmetric R) where
    found_here : (k : K) (e : K × X) (es : List (K × X))
        → AllByRecursion (λ l. R e.0 l ≡ Less) (map (λ e. e.0) es)
        → list_any (eq_by_cmp R k) (passing test es) ≡ passes test k (find R k es)
        → (t b : Bool) → eq_by_cmp R k e.0 ≡ t → test e ≡ b
        → list_any (eq_by_cmp R k) (map (λ e. e.0) (cond b (e ∷ filter test es) (filter test es)))
        ≡ passes test k (cond t (Some e.1) (find R k es))
    found_here k e es below rest true true at is =
        ap (λ t. t || list_any (eq_by_cmp R k) (passing test es)) at
        ∙ sym (ap (λ l. test (l, e.1)) (one_from_tie exact k e.0 at) ∙ is)
    found_here k e es below rest true false at is =
        ap (λ l. list_any (eq_by_cmp R l) (passing test es)) (one_from_tie exact k e.0 at)
        ∙ others R e.0 (passing test es) (below_passing test (λ l. R e.0 l ≡ Less) es below)
        ∙ sym (ap (λ l. test (l, e.1)) (one_from_tie exact k e.0 at) ∙ is)
    found_here k e es below rest false true at is =
        ap (λ t. t || list_any (eq_by_cmp R k) (passing test es)) at ∙ rest
    found_here k e es below rest false false at is = rest

    -- a key is among them where what it finds passes
    found_passing : (k : K) (es : List (K × X)) → IsStrictlySortedBy R (map (λ e. e.0) es)
        → list_any (eq_by_cmp R k) (passing test es) ≡ passes test k (find R k es)
    unfolding IsStrictlySortedBy
    found_passing k [] h = refl
    found_passing k (e ∷ es) h =
        found_here k e es h.0 (found_passing k es h.1) (eq_by_cmp R k e.0) (test e) refl refl

-- an order that another one agrees with
in_other_order : {K : Type 0} (C R : K → K → Ordering) → ((a b : K) → C a b ≡ R a b)
    → (ks : List K) → IsStrictlySortedBy C ks → IsStrictlySortedBy R ks
unfolding IsStrictlySortedBy
in_other_order C R sorts [] h = tt
in_other_order C R sorts (k ∷ ks) h = (
  all_weaker (λ l. C k l ≡ Less) (λ l. R k l ≡ Less) (λ l is. sym (sorts k l) ∙ is) ks h.0,
  in_other_order C R sorts ks h.1,
)

-- ---- Pending keys

module _ {V : Type 0} (same : V → V → Bool) (tells : (a b : V) → (same a b ≡ true) ↔ (a ≡ b)) where
  itself : (o : Option V) → option_eq same o o ≡ true
  itself None = refl
  itself (Some v) = (tells v v).1 refl

  module _ {K : Type 0} (R : K → K → Ordering) (t : Tracked K V) (k : K) where
    -- a key without an update has the value that was published
    changed_then : (o : Option (Option V))
        → passes (is_other R same t.entries) k o
        ≡ not (option_eq same (get (published R t) k) (update_or o (get (published R t) k)))
    changed_then None = sym (ap not (itself (get (published R t) k)))
    changed_then (Some v) = refl

  pub are_pending : {K : Type 0} {R : K → K → Ordering} → IsTotalOrder R → IsAntisymmetric R
      → (C : K → K → Ordering) → ((a b : K) → C a b ≡ R a b) → (t : Tracked K V) (keys : List K)
      → keys ≡ map (λ e. e.0) (filter (is_other R same t.entries) t.updates)
      → IsStrictlySortedBy C (map (λ e. e.0) t.updates)
      → IsPending R same t keys
  are_pending {R = R} total exact C sorts t keys is ordered =
      let rising = in_other_order C R sorts (map (λ e. e.0) t.updates) ordered in
      record {
        each = λ k.
            ap (list_any (eq_by_cmp R k)) is
            ∙ found_passing R (is_other R same t.entries) exact k t.updates rising
            ∙ changed_then R t k (find R k t.updates)
            ∙ ap (λ o. not (option_eq same (get (published R t) k) o)) (sym (got_updated total
            (published R t) t.updates k));
        in_order = subst (IsStrictlySortedBy R) (sym is) (passing_in_order R
            (is_other R same t.entries) t.updates rising);
      }
