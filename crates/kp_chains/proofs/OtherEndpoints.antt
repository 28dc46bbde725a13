-- Endpoints that aren't among others, one after another.
use Rattle.std.proofs.Common.{◌≡◌, ℕ, ◌+◌, ◌<◌, ◌==◌, ◌&&◌, ◌||◌, Bool, true, false, cond, not, List, [], ◌∷◌, ◌++◌, map, take, length, get_or, refl, sym, ap, ◌∙◌, append_assoc}
use Rattle.std.specs.BTreeSet.{BTreeSet, Updates}
use Rattle.std.specs.List.{filter}
use Rattle.std.specs.Ordering.{eq_by_cmp}
use Rattle.std.proofs.Math.Bool.{or-false}
use Rattle.std.proofs.lemmas.List.{take_more, map-append}
use Rattle.std.proofs.lemmas.List.Elements.{filter-append}
use Rattle.std.proofs.lemmas.List.Folds.{list_any-append}
use Rattle.kp_base.specs.Net.{same_address}
use Rattle.kp_base.specs.declared.key.Endpoint.{Endpoint}
use Rattle.kp_base.specs.contracts.key.EndpointOrd.TheImpl as endpoint_ord
use Rattle.kp_base.proofs.KeyOrder.{endpoint_ties, endpoint_tree_ties}
use Rattle.kp_base.proofs.SameParts.{address_same}
use Rattle.kp_table_defs.specs.Keys.{has_endpoint}
use Rattle.kp_chains.specs.Named.{has}

abbrev one_endpoint : Endpoint → Endpoint → Bool
one_endpoint x e = same_address x.address e.address && (x.port == e.port)

-- the derived order ties the endpoints that are one
tied : (x e : Endpoint) → eq_by_cmp endpoint_ord.ghosts.cmp x e ≡ one_endpoint x e
tied x e =
    endpoint_tree_ties x e ∙ sym (endpoint_ties x e)
    ∙ ap (λ b. b && (x.port == e.port)) (address_same x.address e.address)

either : (b c : Bool) → cond b true c ≡ (c || b)
either true true = refl
either true false = refl
either false true = refl
either false false = refl

-- the set has one more endpoint
has_more : (e x : Endpoint) (old new : BTreeSet Endpoint) → Updates endpoint_ord.ghosts.cmp old new x true
    → has new e ≡ (has old e || one_endpoint x e)
has_more e x old new updated =
    updated.0 e ∙ ap (λ b. cond b true (has old e)) (tied x e) ∙ either (one_endpoint x e) (has old e)

more_taken : {X : Type 0} (es : List X) (i : ℕ) (x : X) → i < length es → x ≡ get_or es i x
    → take (i + 1) es ≡ take i es ++ x ∷ []
more_taken es i x lt at = take_more es i x lt ∙ ap (λ y. take i es ++ y ∷ []) (sym at)

pub next_in : (es : List Endpoint) (i : ℕ) (x : Endpoint) (old new : BTreeSet Endpoint)
    → ((e : Endpoint) → has old e ≡ has_endpoint (take i es) e)
    → Updates endpoint_ord.ghosts.cmp old new x true → i < length es → x ≡ get_or es i x
    → (e : Endpoint) → has new e ≡ has_endpoint (take (i + 1) es) e
next_in es i x old new so_far updated lt at e =
    has_more e x old new updated
    ∙ ap (λ b. b || one_endpoint x e) (so_far e)
    ∙ ap (λ b. has_endpoint (take i es) e || b) (sym (or-false (one_endpoint x e)))
    ∙ sym (list_any-append (λ f. one_endpoint f e) (take i es) (x ∷ []))
    ∙ ap (λ fs. has_endpoint fs e) (sym (more_taken es i x lt at))

module _ {X : Type 0} (test : X → Bool) where
  kept_one : (x : X) (b : Bool) → test x ≡ b → cond b [] (x ∷ []) ≡ cond (not b) (x ∷ []) []
  kept_one x true h = refl
  kept_one x false h = refl

  -- one more element is kept unless it passes the test
  kept_more : (es : List X) (i : ℕ) (x : X) → i < length es → x ≡ get_or es i x
      → filter (λ e. not (test e)) (take (i + 1) es)
      ≡ filter (λ e. not (test e)) (take i es) ++ cond (test x) [] (x ∷ [])
  kept_more es i x lt at =
      ap (filter (λ e. not (test e))) (more_taken es i x lt at)
      ∙ filter-append (λ e. not (test e)) (take i es) (x ∷ [])
      ∙ ap (λ xs. filter (λ e. not (test e)) (take i es) ++ xs) (sym (kept_one x (test x) refl))

  pub next_kept : (es : List X) (i : ℕ) (x : X) (start before now : List X) (b : Bool)
      → b ≡ test x → now ≡ before ++ cond b [] (x ∷ [])
      → before ≡ start ++ filter (λ e. not (test e)) (take i es)
      → i < length es → x ≡ get_or es i x
      → now ≡ start ++ filter (λ e. not (test e)) (take (i + 1) es)
  next_kept es i x start before now b known added so_far lt at =
      added
      ∙ (λ k. so_far k ++ cond (known k) [] (x ∷ []))
      ∙ append_assoc start (filter (λ e. not (test e)) (take i es)) (cond (test x) [] (x ∷ []))
      ∙ ap (λ xs. start ++ xs) (sym (kept_more es i x lt at))

  pub next_mapped : {Y : Type 0} (f : X → Y) (es : List X) (i : ℕ) (x : X) (start before now : List Y) (b : Bool)
      → b ≡ test x → now ≡ before ++ cond b [] (f x ∷ [])
      → before ≡ start ++ map f (filter (λ e. not (test e)) (take i es))
      → i < length es → x ≡ get_or es i x
      → now ≡ start ++ map f (filter (λ e. not (test e)) (take (i + 1) es))
  next_mapped f es i x start before now b known added so_far lt at =
      added
      ∙ (λ k. so_far k ++ cond (known k) [] (f x ∷ []))
      ∙ append_assoc start (map f (filter (λ e. not (test e)) (take i es))) (cond (test x) [] (f x ∷ []))
      ∙ ap (λ ys. start ++ (map f (filter (λ e. not (test e)) (take i es)) ++ ys)) (mapped_one f x (test x))
      ∙ ap (λ ys. start ++ ys) (sym (map-append f (filter (λ e. not (test e)) (take i es)) (cond (test x) [] (x ∷ []))))
      ∙ ap (λ xs. start ++ map f xs) (sym (kept_more es i x lt at))
    where
      mapped_one : {Y : Type 0} (f : X → Y) (x : X) (b : Bool) → cond b [] (f x ∷ []) ≡ map f (cond b [] (x ∷ []))
      mapped_one f x true = refl
      mapped_one f x false = refl
