-- Lists whose elements all pass a test: a record, so that antt reads the list off the fact.
use Rattle.std.proofs.Common.{◌≡◌, Bool, true, false, List, [], ◌∷◌, ◌++◌, map, Contains, flat_map, refl}
use Rattle.std.specs.List.{list_all}
use Rattle.std.proofs.lemmas.Bool.{and_from}
use Rattle.kp_lemmas.proofs.Members.{all_map, all_flat_map}
use Rattle.kp_lemmas.proofs.ListFacts.{test_append}
use Rattle.kp_types.specs.declared.rule.Rule.{Rule}
use Rattle.kp_table_defs.specs.Layout.{rules_if}

-- all elements of a list pass a test
pub record Pass {A : Type 0} (test : A → Bool) (xs : List A) : Type 0 where
  pub all : list_all test xs ≡ true

module _ {A : Type 0} {test : A → Bool} where
  -- no elements
  pub pass_none : Pass test []
  pass_none = record { all = refl }

  -- an element before others
  pub pass_first : (x : A) {xs : List A} → test x ≡ true → Pass test xs → Pass test (x ∷ xs)
  pass_first x {xs = xs} h rest = record { all = and_from (test x) (list_all test xs) h rest.all }

  -- one element
  pub pass_one : (x : A) → test x ≡ true → Pass test (x ∷ [])
  pass_one x h = pass_first x h pass_none

  -- a list behind another
  pub pass_both : {xs ys : List A} → Pass test xs → Pass test ys → Pass test (xs ++ ys)
  pass_both {xs = xs} {ys = ys} h k = record { all = test_append test xs ys h.all k.all }

  -- the values of elements
  pub pass_map : {X : Type 0} (f : X → A) (xs : List X)
      → ((x : X) → Contains xs x → test (f x) ≡ true) → Pass test (map f xs)
  pass_map f xs h = record { all = all_map test f xs h }

  -- the pieces of elements
  pub pass_pieces : {X : Type 0} (f : X → List A) (xs : List X)
      → ((x : X) → Contains xs x → Pass test (f x)) → Pass test (flat_map f xs)
  pass_pieces f xs h = record { all = all_flat_map test f xs (λ x c. (h x c).all) }

-- rules that stand under a condition
pub pass_if : {test : Rule → Bool} (b : Bool) {rules : List Rule}
    → (b ≡ true → Pass test rules) → Pass test (rules_if b rules)
pass_if true h = h refl
pass_if false h = pass_none
