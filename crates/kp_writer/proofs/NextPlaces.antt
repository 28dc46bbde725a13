-- What stands at a place once chains are left, and once chains are written.
use Rattle.std.proofs.Common.{◌≡◌, ◌||◌, ◌⊎◌, inl, inr, Bool, true, false, cond, List, []}
use Rattle.std.proofs.Common.{◌∷◌, map, Contains, Option, Some, None, refl, sym, ap, ◌∙◌}
use Rattle.std.specs.List.{fold, list_any}
use Rattle.std.specs.Ordering.{eq_by_cmp}
use Rattle.std.specs.FinMap.{get, get-insert}
use Rattle.std.proofs.lemmas.Bool.{and_parts}
use Rattle.kp_lemmas.proofs.Members.{first_in, from_map, in_cases, in_map, later_in}
use Rattle.kp_lemmas.proofs.Members.{none_in}
use Rattle.kp_lemmas.proofs.Orders.{one_from_tie, tie_of_itself}
use Rattle.kp_types.specs.Places.{chain_cmp}
use Rattle.kp_types.specs.declared.chain.ChainAt.{ChainAt}
use Rattle.kp_types.specs.declared.rule.Rule.{Rule}
use Rattle.kp_types.proofs.ChainOrder.{chain_total, chain_exact}
use Rattle.kp_table_defs.specs.Rebuild.{Chains}
use Rattle.kp_writer.specs.Next.{NextParts, is_free_by, leave, write}

abbrev pub Row : Type 0
Row = ChainAt × List Rule

-- no element stands again behind itself
pub AreApart : {A : Type 0} → List A → Type 0
AreApart [] = Unit {0}
AreApart (x ∷ xs) = ((y : _) → Contains xs y → x ≡ y → ⊥) × AreApart xs

-- of elements whose values stand apart no two have one value
pub one_of_value : {A B : Type 0} (f : A → B) (xs : List A) → AreApart (map f xs) → (x y : A)
    → Contains xs x → Contains xs y → f x ≡ f y → x ≡ y
unfolding AreApart
one_of_value f [] h x y cx cy same = absurd (none_in x cx)
one_of_value f (z ∷ xs) h x y cx cy same =
    elim (in_cases x z xs cx) [
      | inl e ↦ elim (in_cases y z xs cy) [
        | inl d ↦ sym e ∙ d
        | inr d ↦ absurd (h.0 (f y) (in_map f y xs d) (ap f e ∙ same))
      ]
      | inr c ↦ elim (in_cases y z xs cy) [
        | inl d ↦ absurd (h.0 (f x) (in_map f x xs c) (ap f d ∙ sym same))
        | inr d ↦ one_of_value f xs h.1 x y c d same
      ]
    ]

-- ---- Chains that are left

left_by : (a b : Bool) (o : Option (Option (List Rule)))
    → cond b (Some None) (cond a (Some None) o) ≡ cond (a || b) (Some None) o
left_by true true o = refl
left_by true false o = refl
left_by false b o = refl

-- at their places none stands
pub found_left : (n : NextParts) (ps : List ChainAt) (q : ChainAt)
    → get (fold leave n ps).places q
    ≡ cond (list_any (eq_by_cmp chain_cmp q) ps) (Some None) (get n.places q)
found_left n [] q = refl
found_left n (p ∷ ps) q =
    found_left (leave n p) ps q
    ∙ ap (cond (list_any (eq_by_cmp chain_cmp q) ps) (Some None)) (get-insert chain_total n.places p
    None q)
    ∙ left_by (eq_by_cmp chain_cmp q p) (list_any (eq_by_cmp chain_cmp q) ps) (get n.places q)

-- ---- Chains that are written

module _ (before : Chains) where
  -- what stands at a place: a chain that was written, or what stood there
  abbrev pub Stands : NextParts → List Row → ChainAt → Type 0
  Stands n rows q =
      ((r : Row) × Contains rows r × (r.0 ≡ q)
      × (get (fold (write before) n rows).places q ≡ Some (Some r.1)))
      ⊎ ((list_any (eq_by_cmp chain_cmp q) (map (λ r. r.0) rows) ≡ false)
      × (get (fold (write before) n rows).places q ≡ get n.places q))

  first_by : (n : NextParts) (r : Row) (rows : List Row) (q : ChainAt)
      → list_any (eq_by_cmp chain_cmp q) (map (λ r. r.0) rows) ≡ false
      → get (fold (write before) n (r ∷ rows)).places q ≡ get (write before n r).places q
      → (b : Bool) → eq_by_cmp chain_cmp q r.0 ≡ b → Stands n (r ∷ rows) q
  first_by n r rows q none is true tie =
      inl (
        r,
        first_in r rows,
        sym (one_from_tie chain_exact q r.0 tie),
        is
            ∙ get-insert chain_total n.places r.0 (Some r.1) q
            ∙ ap (λ b. cond b (Some (Some r.1)) (get n.places q)) tie,
      )
  first_by n r rows q none is false tie =
      inr (
        ap (λ b. b || list_any (eq_by_cmp chain_cmp q) (map (λ r. r.0) rows)) tie ∙ none,
        is
            ∙ get-insert chain_total n.places r.0 (Some r.1) q
            ∙ ap (λ b. cond b (Some (Some r.1)) (get n.places q)) tie,
      )

  pub found_written : (n : NextParts) (rows : List Row) (q : ChainAt) → Stands n rows q
  found_written n [] q = inr (refl, refl)
  found_written n (r ∷ rows) q =
      elim (found_written (write before n r) rows q) [
        | inl h ↦ inl (h.0, later_in h.0 r rows h.1, h.2, h.3)
        | inr h ↦ first_by n r rows q h.0 h.1 (eq_by_cmp chain_cmp q r.0) refl
      ]

  -- ---- Free places

  -- each of some chains found its place free, as it stood before all, and none found another's
  abbrev pub Free : NextParts → List Row → Type 0
  Free n rows =
      (n.free ≡ true)
      × ((r : Row) → Contains rows r → is_free_by before r.0 (get n.places r.0) ≡ true)
      × AreApart (map (λ r. r.0) rows)

  -- a place that was written isn't free
  taken : (n : NextParts) (r s : Row) → r.0 ≡ s.0
      → is_free_by before s.0 (get (write before n r).places s.0) ≡ true → ⊥
  taken n r s same free =
      absurd (false_true (sym (ap (is_free_by before s.0)
      (get-insert chain_total n.places r.0 (Some r.1) s.0
      ∙ ap (λ b. cond b (Some (Some r.1)) (get n.places s.0)) (ap (eq_by_cmp chain_cmp s.0) same
      ∙ tie_of_itself chain_total s.0))) ∙ free))
    where
      false_true : false ≡ true → ⊥
      false_true h = absurd (cc)

  as_before : (n : NextParts) (r s : Row) (b : Bool) → eq_by_cmp chain_cmp s.0 r.0 ≡ b
      → is_free_by before s.0 (get (write before n r).places s.0) ≡ true
      → is_free_by before s.0 (get n.places s.0) ≡ true
  as_before n r s true tie free =
      absurd (taken n r s (sym (one_from_tie chain_exact s.0 r.0 tie)) free)
  as_before n r s false tie free =
      sym (ap (is_free_by before s.0) (get-insert chain_total n.places r.0 (Some r.1) s.0
      ∙ ap (λ b. cond b (Some (Some r.1)) (get n.places s.0)) tie)) ∙ free

  pub free_written : (n : NextParts) (rows : List Row)
      → (fold (write before) n rows).free ≡ true → Free n rows
  unfolding AreApart
  free_written n [] free = (free, (λ r c. absurd (none_in r c)), tt)
  free_written n (r ∷ rows) free =
      let (start, each, apart) = free_written (write before n r) rows free in
      let both = and_parts n.free (is_free_by before r.0 (get n.places r.0)) start in (
        both.0,
        (λ s c. elim (in_cases s r rows c) [
          | inl e ↦ ap (λ (t : Row). is_free_by before t.0 (get n.places t.0)) (sym e) ∙ both.1
          | inr d ↦ as_before n r s (eq_by_cmp chain_cmp s.0 r.0) refl (each s d)
        ]),
        (
          (λ q c same.
              let (s, d, is) = from_map (λ (t : Row). t.0) q rows c in
              taken n r s (same ∙ sym is) (each s d)),
          apart,
        ),
      )
