-- Rising lists of the same elements are one list.
use Rattle.std.proofs.Common.{◌≡◌, inl, inr, true, true≢false, List, [], ◌∷◌, Contains, refl, sym, ap, subst, ◌∙◌}
use Rattle.std.specs.Cmp.{IsTotalOrder}
use Rattle.std.specs.List.{list_all}
use Rattle.std.specs.Ordering.{is_lt}
use Rattle.std.specs.declared.cmp.Ordering.{Ordering}
use Rattle.std.proofs.lemmas.Bool.{and_parts}
use Rattle.kp_lemmas.proofs.Members.{first_in, from_all, in_cases, later_in, none_in}
use Rattle.kp_lemmas.proofs.Orders.{less_is_other, less_through, tie_of_itself}
use Rattle.kp_object_defs.specs.Order.{rises}

module _ {K : Type 0} (R : K → K → Ordering) (total : IsTotalOrder R) where
  -- nothing is below itself
  not_below_itself : (k : K) → is_lt (R k k) ≡ true → ⊥
  not_below_itself k h = true≢false (sym (tie_of_itself total k) ∙ less_is_other (R k k) h)

  -- what is behind is above
  above : (k : K) (ks : List K) → list_all (λ l. is_lt (R k l)) ks ≡ true → (l : K) → Contains ks l
      → is_lt (R k l) ≡ true
  above k ks h l c = from_all (λ l. is_lt (R k l)) ks h l c

  same_first : (x y : K) (xs ys : List K) → list_all (λ l. is_lt (R x l)) xs ≡ true
      → list_all (λ l. is_lt (R y l)) ys ≡ true
      → Contains (y ∷ ys) x → Contains (x ∷ xs) y → x ≡ y
  same_first x y xs ys h k c d =
      elim (in_cases x y ys c) [
        | inl e ↦ sym e
        | inr behind ↦
            elim (in_cases y x xs d) [
              | inl e ↦ e
              | inr also ↦ absurd (not_below_itself x
                  (less_through total x y x (above x xs h y also) (above y ys k x behind)))
            ]
      ]

  -- an element behind the first of one list is behind that of the other
  behind_too : (x : K) (xs ys : List K) → list_all (λ l. is_lt (R x l)) xs ≡ true
      → ((z : K) → Contains (x ∷ xs) z → Contains (x ∷ ys) z) → (z : K) → Contains xs z
      → Contains ys z
  behind_too x xs ys h sub z c =
      elim (in_cases z x ys (sub z (later_in z x xs c))) [
        | inl e ↦ absurd (not_below_itself x
            (subst (λ l. is_lt (R x l) ≡ true) (sym e) (above x xs h z c)))
        | inr d ↦ d
      ]

  pub one_list : (xs ys : List K) → rises R xs ≡ true → rises R ys ≡ true
      → ((z : K) → Contains xs z → Contains ys z) → ((z : K) → Contains ys z → Contains xs z) → xs
      ≡ ys
  one_list [] [] h k sub sup = refl
  one_list [] (y ∷ ys) h k sub sup = absurd (none_in y (sup y (first_in y ys)))
  one_list (x ∷ xs) [] h k sub sup = absurd (none_in x (sub x (first_in x xs)))
  one_list (x ∷ xs) (y ∷ ys) h k sub sup =
      let p = and_parts (list_all (λ l. is_lt (R x l)) xs) (rises R xs) h in
      let q = and_parts (list_all (λ l. is_lt (R y l)) ys) (rises R ys) k in
      let same = same_first x y xs ys p.0 q.0 (sub x (first_in x xs)) (sup y (first_in y ys)) in
      let from_x : (z : K) → Contains (x ∷ xs) z
      → Contains (x ∷ ys) z = λ z c. subst (λ w. Contains (w ∷ ys) z) (sym same) (sub z c) in
      let from_y : (z : K) → Contains (x ∷ ys) z
      → Contains (x ∷ xs) z = λ z c. sup z (subst (λ w. Contains (w ∷ ys) z) same c) in
      let q_x : list_all (λ l. is_lt (R x l)) ys
      ≡ true = subst (λ w. list_all (λ l. is_lt (R w l)) ys ≡ true) (sym same) q.0 in
      ap (λ w. w ∷ xs) same
      ∙ ap (λ rest. y ∷ rest)
      (one_list xs ys p.1 q.1 (behind_too x xs ys p.0 from_x) (behind_too x ys xs q_x from_y))
