-- Where the first clash of some keys is none, each name is one key's.
use Rattle.std.proofs.Common.{◌≡◌, inl, inr, ℕ, Bool, true, false, not, cond, ◌&&◌, List, [], ◌∷◌, Contains, Option, Some, None, refl, sym, ap, ap₂, ◌∙◌}
use Rattle.std.specs.List.{find}
use Rattle.std.specs.Str.{bytes_eq}
use Rattle.std.proofs.lemmas.Slice.Eq.{bytes_eq-Decides}
use Rattle.kp_lemmas.proofs.Members.{first_in, later_in, none_in, in_cases}
use Rattle.kp_types.specs.declared.chain.ChainKey.{ChainKey}
use Rattle.kp_types.specs.declared.chain.Clash.{Clash}
use Rattle.kp_choice_defs.proofs.ChainKeys.{key_itself, one_chain_key}
use Rattle.kp_choice_defs.specs.Names.{same_chain_key, is_clash, clash_or, first_clash}

none_passes : {X : Type 0} (x : X) (found : Option X) (b : Bool) → cond b (Some x) found ≡ None
    → (b ≡ false) × (found ≡ None)
none_passes x found true h = absurd (cc)
none_passes x found false h = (refl, h)

find_none : {X : Type 0} (p : X → Bool) (xs : List X) → ((x : X) → Contains xs x → p x ≡ false)
    → find p xs ≡ None
find_none p [] h = refl
find_none p (x ∷ xs) h = ap₂ (λ b found. cond b (Some x) found) (h x (first_in x xs))
    (find_none p xs (λ y c. h y (later_in y x xs c)))

-- where nothing is found, no element passes
not_found : {X : Type 0} (p : X → Bool) (xs : List X) → find p xs ≡ None → (x : X) → Contains xs x
    → p x ≡ false
not_found p [] h x c = absurd (none_in x c)
not_found p (y ∷ ys) h x c =
    let parts = none_passes y _ (p y) h in
    elim (in_cases x y ys c) [ inl e ↦ ap p (sym e) ∙ parts.0 | inr d ↦ not_found p ys parts.1 x d ]

no_clash_parts : (name : ChainKey → List ℕ) (k : ChainKey) (other : Option ChainKey)
    (later : Option Clash) → clash_or name k other later ≡ None → (other ≡ None) × (later ≡ None)
no_clash_parts name k None later h = (refl, h)
no_clash_parts name k (Some other) later h = absurd (cc)

same_if : (named same : Bool) → (named && not same) ≡ false → named ≡ true → same ≡ true
same_if true true h k = refl
same_if true false h k = absurd (cc)
same_if false same h k = absurd (cc)

module _ (name : ChainKey → List ℕ) where
  no_clash_behind : (k b : ChainKey) → is_clash name k b ≡ false → name k ≡ name b → k ≡ b
  no_clash_behind k b h same = one_chain_key k b (same_if _ _ h ((bytes_eq-Decides _ _).1 same))

  -- without a clash each name is one key's
  pub one_of_name : (keys : List ChainKey) → first_clash name keys ≡ None → (a b : ChainKey)
      → Contains keys a → Contains keys b → name a ≡ name b → a ≡ b
  one_of_name [] h a b ca cb same = absurd (none_in a ca)
  one_of_name (k ∷ ks) h a b ca cb same =
      let parts = no_clash_parts name k (find _ ks) _ h in
      elim (in_cases a k ks ca) [
        | inl e ↦ elim (in_cases b k ks cb) [
          | inl f ↦ sym e ∙ f
          | inr d ↦ sym e ∙ no_clash_behind k b (not_found (is_clash name k) ks parts.0 b d)
              (ap name e ∙ same)
        ]
        | inr c ↦ elim (in_cases b k ks cb) [
          | inl f ↦
              sym (no_clash_behind k a (not_found (is_clash name k) ks parts.0 a c)
              (ap name f ∙ sym same)) ∙ f
          | inr d ↦ one_of_name ks parts.1 a b c d same
        ]
      ]

  no_clash_ahead : (k b : ChainKey) → (name k ≡ name b → k ≡ b) → (named : Bool)
      → bytes_eq (name k) (name b) ≡ named → is_clash name k b ≡ false
  no_clash_ahead k b h true t =
      ap (λ c. c && not (same_chain_key k b)) t
      ∙ ap (λ l. not (same_chain_key k l)) (sym (h ((bytes_eq-Decides _ _).0 t)))
      ∙ ap not (key_itself k)
  no_clash_ahead k b h false t = ap (λ c. c && not (same_chain_key k b)) t

  -- and where each name is one key's there is no clash
  pub no_clash : (keys : List ChainKey) → ((a b : ChainKey) → Contains keys a → Contains keys b
      → name a ≡ name b → a ≡ b) → first_clash name keys ≡ None
  no_clash [] h = refl
  no_clash (k ∷ ks) h =
      ap₂ (clash_or name k) (find_none _ ks
      (λ b c. no_clash_ahead k b (h k b (first_in k ks) (later_in b k ks c)) _ refl))
      (no_clash ks (λ a b ca cb. h a b (later_in a k ks ca) (later_in b k ks cb)))
