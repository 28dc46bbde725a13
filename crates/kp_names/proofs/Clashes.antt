-- How the clashes of a list go on from those of its rest.
use Rattle.std.proofs.Common.{◌≡◌, ℕ, zero, suc, ◌<◌, Bool, true, false, cond, not, ◌&&◌, if◌then◌else◌, List, [], ◌∷◌, length, Option, Some, None, IfSome, IsSome, is_some, option_map, option_and_then, refl, ap, sym, ◌∙◌, subst, arith}
use Rattle.std.specs.List.{find, slice_get}
use Rattle.std.specs.Option.{option_map_or}
use Rattle.std.specs.Str.{bytes_eq}
use Rattle.std.specs.Cmp.Lexicographic.{nat_list_eq_equiv}
use Rattle.kp_types.specs.declared.chain.ChainKey.{ChainKey}
use Rattle.kp_choice_defs.specs.Names.{same_chain_key, is_clash, clash_or, first_clash}
use Rattle.kp_names.specs.Places.{clash_at, other_of, IsWithin}
use Rattle.kp_names.specs.declared.namesakes.Namesakes.{Namesakes}
use Rattle.kp_choice_defs.proofs.ChainKeys.{one_chain_key}

module _ (name : ChainKey → List ℕ) (keys : List ChainKey) where
  -- the first other key with the name of this one
  abbrev pub other_key : Option Namesakes → ChainKey → Option ChainKey
  other_key places q = option_and_then (slice_get keys) (other_of keys places q)

  -- the places tell of every key the first other one with its name among these
  abbrev pub Tells : (List ℕ → Option Namesakes) → List ChainKey → Type 0
  Tells places ks = (q : ChainKey) → find (is_clash name q) ks ≡ other_key (places (name q)) q

  -- which of the places it is goes by the test
  pub other_is : (n : Namesakes) (k a : ChainKey) (b : Bool) → slice_get keys n.first ≡ Some a → same_chain_key k a ≡ b → (if b then n.other else Some n.first) ≡ other_of keys (Some n) k
  other_is n k a b at same =
      sym (ap (λ o. option_map_or (λ x. if same_chain_key k x then n.other else Some n.first) o None) at
      ∙ ap (λ t. if t then n.other else Some n.first) same)

  module _ (k : ChainKey) (ks : List ChainKey) (n : Namesakes) (at : slice_get keys n.first ≡ Some k) where
    -- what the new places tell of a key of that name
    told : (q : ChainKey) → other_key (Some n) q ≡ option_and_then (slice_get keys) (if same_chain_key q k then n.other else Some n.first)
    told q = ap (λ o. option_and_then (slice_get keys) (option_map_or (λ a. if same_chain_key q a then n.other else Some n.first) o None)) at

    -- a key of that name: it is k, or k is the first other one
    with_name : (old : Option Namesakes) (q : ChainKey) (b : Bool) → same_chain_key q k ≡ b → find (is_clash name k) ks ≡ other_key old k → n.other ≡ other_of keys old k → cond (not b) (Some k) (find (is_clash name q) ks) ≡ option_and_then (slice_get keys) (if b then n.other else Some n.first)
    with_name old q true same before next =
        ap (λ x. find (is_clash name x) ks) (one_chain_key q k same) ∙ before ∙ ap (option_and_then (slice_get keys)) (sym next)
    with_name old q false other before next = sym at

    module _ (old : List ℕ → Option Namesakes) (tells : Tells old ks) (next : n.other ≡ other_of keys (old (name k)) k) where
      -- by whether a key has that name
      by_name : (q : ChainKey) (b : Bool) → bytes_eq (name q) (name k) ≡ b → find (is_clash name q) (k ∷ ks) ≡ other_key (cond b (Some n) (old (name q))) q
      by_name q true same =
          ap (λ b. cond (b && not (same_chain_key q k)) (Some k) (find (is_clash name q) ks)) same
          ∙ with_name (old (name k)) q (same_chain_key q k) refl (tells k) next
          ∙ sym (told q)
      by_name q false apart =
          ap (λ b. cond (b && not (same_chain_key q k)) (Some k) (find (is_clash name q) ks)) apart ∙ tells q

      -- with the places of k under its name, the places tell of one key more
      pub next_tells : (new : List ℕ → Option Namesakes) → ((s : List ℕ) → new s ≡ cond (bytes_eq (name k) s) (Some n) (old s)) → Tells new (k ∷ ks)
      next_tells new updates q =
          by_name q (bytes_eq (name q) (name k)) refl
          ∙ ap (λ b. other_key (cond b (Some n) (old (name q))) q) (nat_list_eq_equiv.symm (name q) (name k))
          ∙ ap (λ o. other_key o q) (sym (updates (name q)))

  -- the new places lie in the list
  pub next_inside : (n : Namesakes) (b : Bool) (o w : Option Namesakes) → w ≡ cond b (Some n) o → IsWithin (length keys) n → IfSome o (IsWithin (length keys)) → IfSome w (IsWithin (length keys))
  next_inside n true o w e here old = subst (λ x. IfSome x (IsWithin (length keys))) (sym e) here
  next_inside n false o w e here old = subst (λ x. IfSome x (IsWithin (length keys))) (sym e) old

  -- a place of a list has an element
  within_some : {X : Type 0} (xs : List X) (i : ℕ) → i < length xs → (x : X) × (slice_get xs i ≡ Some x)
  within_some [] i h = absurd (omega (arith, h))
  within_some (x ∷ xs) zero h = (x, refl)
  within_some (x ∷ xs) (suc i) h = within_some xs i (omega (arith, h))

  -- the clash of two places that have keys
  pub clash_of : (place second : ℕ) (a b : ChainKey) → slice_get keys place ≡ Some a → slice_get keys second ≡ Some b → clash_at name keys (place, second) ≡ Some (record { name = name a; first = a; second = b })
  clash_of place second a b at there =
      ap (λ o. option_and_then (λ x. option_map (λ y. record { name = name x; first = x; second = y }) (slice_get keys second)) o) at
      ∙ ap (λ o. option_map (λ y. record { name = name a; first = a; second = y }) o) there

  module _ (k : ChainKey) (ks : List ChainKey) where
    -- the first other key with the name of k makes the first clash
    clash_by : (place second : ℕ) (o : Option ChainKey) → slice_get keys place ≡ Some k → slice_get keys second ≡ o → IsSome o → clash_or name k o (first_clash name ks) ≡ clash_at name keys (place, second)
    clash_by place second None at there some = absurd (cc)
    clash_by place second (Some b) at there some = sym (clash_of place second k b at there)

    pub clash_here : (place second : ℕ) → slice_get keys place ≡ Some k → second < length keys → find (is_clash name k) ks ≡ slice_get keys second → first_clash name (k ∷ ks) ≡ clash_at name keys (place, second)
    clash_here place second at within found =
        let there = within_some keys second within in
        ap (λ o. clash_or name k o (first_clash name ks)) found
        ∙ clash_by place second (slice_get keys second) at refl (ap is_some there.1)

    -- without one the first clash is that of the rest
    pub clash_later : find (is_clash name k) ks ≡ None → first_clash name (k ∷ ks) ≡ first_clash name ks
    clash_later none = ap (λ o. clash_or name k o (first_clash name ks)) none
