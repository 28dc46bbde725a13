-- The map of the parts as contracts see it, and what a change of one part makes of it.
use Rattle.std.proofs.Common.{◌≡◌, ℕ, ◌<◌, ◌==◌, Bool, true, false, cond, List, [], ◌∷◌, map, length, Option, Some, None, Result, Ok, Err, OnOk, OnErr, IfSome, option_map, unwrap_or, refl, ap, sym, ◌∙◌, subst, arith}
use Rattle.std.specs.Ordering.{nat_cmp, eq_by_cmp, is_eq}
use Rattle.std.specs.Cmp.{IsTotalOrder}
use Rattle.std.specs.FinMap.{FinMap, IsAntisymmetric, from_entries, get, insert, remove, same_map, nat_cmp-IsAntisymmetric}
use Rattle.std.specs.List.{list_any}
use Rattle.std.specs.Map.{lookup}
use Rattle.std.proofs.lemmas.Bool.Decides.{nat_tests}
use Rattle.std.proofs.lemmas.List.{length-map}
use Rattle.std.proofs.lemmas.Cmp.{on_total, then_total, nat_cmp_total}
use Rattle.std.proofs.lemmas.Map.Lookups.{exact_pairs}
use Rattle.lru.specs.LruCache.{LruCache}
use Rattle.kp_base.proofs.KeyOrder.{text_total, text_exact}
use Rattle.kp_base.proofs.Maps.{inserted, removed, lookup-get}
use Rattle.kp_base.specs.Keys.{text_cmp}
use Rattle.kp_base.specs.Net.{AddressParts}
use Rattle.kp_choice_defs.specs.Recent.{Sighting, is_of, Shard, RecentParts, shard_cmp, sightings, with_sightings}
use Rattle.kp_recent.specs.Held.{shown, IsHeld}
use Rattle.kp_recent.specs.Moments.{sighting, sightings_of, shown_in}
use Rattle.kp_recent.specs.contracts.key.ListPartOrd.TheImpl as part_ord
use Rattle.kp_recent.specs.contracts.key.ListPartOrd.TheImpl.Laws as part_laws
use Rattle.kp_recent.specs.contracts.key.ListPartPartialEq.TheImpl as part_eq
use Rattle.kp_lemmas.proofs.Orders.{equal_from_test}

abbrev pub Cache : Type 0
Cache = LruCache AddressParts ℕ

-- ---- keys

part_total : IsTotalOrder shard_cmp
part_total = then_total (on_total (λ k. k.list) text_total) (on_total (λ k. k.part) nat_cmp_total)

part_exact : IsAntisymmetric shard_cmp
part_exact a b h = ap (λ (p : List ℕ × ℕ). record { list = p.0; part = p.1 }) (exact_pairs text_cmp nat_cmp text_exact nat_cmp-IsAntisymmetric (a.list, a.part) (b.list, b.part) h)

-- the derived order
part_matches : (a b : Shard) → part_ord.ghosts.cmp a b ≡ shard_cmp a b
part_matches a b = refl

-- the derived test
abbrev pub same_part : Shard → Shard → Bool
same_part = part_eq.ghosts.eq

pub part_ties : (a b : Shard) → same_part a b ≡ eq_by_cmp shard_cmp a b
part_ties a b = part_laws.matches_eq-law a b ∙ ap is_eq (part_matches a b)

part_test : (a : Shard) → ◌≡◌ {A = Shard → Bool} (same_part a) (eq_by_cmp shard_cmp a)
part_test a = λ i b. part_ties a b i

-- ---- the map

-- what a cache's sources are, if there is one
abbrev pub sources : Option Cache → Option (List Sighting)
sources o = option_map shown_in o

abbrev pub viewed : List (Shard × Cache) → FinMap shard_cmp (List Sighting)
viewed es = from_entries {R = shard_cmp} (map shown es)

shown_first : (b : Bool) (c : Cache) (o : Option Cache) → cond b (Some (shown_in c)) (sources o) ≡ sources (cond b (Some c) o)
shown_first true c o = refl
shown_first false c o = refl

shown_lookup : (test : Shard → Bool) (es : List (Shard × Cache)) → lookup test (map shown es) ≡ sources (lookup test es)
shown_lookup test [] = refl
shown_lookup test (e ∷ es) =
    ap (λ o. cond (test e.0) (Some (shown_in e.1)) o) (shown_lookup test es) ∙ shown_first (test e.0) e.1 (lookup test es)

-- a look-up in the map
got : (es : List (Shard × Cache)) (q : Shard) → get (viewed es) q ≡ sources (lookup (same_part q) es)
got es q = sym (lookup-get part_total part_ties (map shown es) q) ∙ shown_lookup (same_part q) es

shown_choice : (b : Bool) (o p : Option Cache) → sources (cond b o p) ≡ cond b (sources o) (sources p)
shown_choice true o p = refl
shown_choice false o p = refl

module _ (es fs : List (Shard × Cache)) (k : Shard) where
  -- after a change at one key a look-up finds this there, and elsewhere what it found before
  abbrev pub Changes : Option Cache → Type 0
  Changes o = (q : Shard) → lookup (same_part q) fs ≡ cond (same_part k q) o (lookup (same_part q) es)

  changed : (o : Option Cache) → Changes o → (q : Shard) → lookup (same_part q) (map shown fs) ≡ cond (same_part k q) (sources o) (lookup (same_part q) (map shown es))
  changed o h q =
      shown_lookup (same_part q) fs ∙ ap sources (h q) ∙ shown_choice (same_part k q) o (lookup (same_part q) es)
      ∙ ap (λ x. cond (same_part k q) (sources o) x) (sym (shown_lookup (same_part q) es))

  placed : (c : Cache) → Changes (Some c) → viewed fs ≡ insert (viewed es) k (shown_in c)
  placed c h = inserted part_total part_ties part_exact (map shown es) (map shown fs) k (shown_in c) (changed (Some c) h)

  dropped : Changes None → viewed fs ≡ remove (viewed es) k
  dropped h = removed part_total part_ties part_exact (map shown es) (map shown fs) k (changed None h)

-- the same look-ups make the same map
same_view : (es fs : List (Shard × Cache)) → ((q : Shard) → lookup (same_part q) fs ≡ lookup (same_part q) es) → viewed fs ≡ viewed es
same_view es fs h = same_map part_total part_exact _ _ (λ q. got fs q ∙ ap sources (h q) ∙ sym (got es q))

-- ---- look-ups at equal keys

one_part : (a b : Shard) → same_part a b ≡ true → a ≡ b
one_part a b h = part_exact a b (equal_from_test (shard_cmp a b) (sym (part_ties a b) ∙ h))

module _ (es : List (Shard × Cache)) (k : Shard) (o : Option Cache) (at : lookup (same_part k) es ≡ o) where
  found_by : (q : Shard) (b : Bool) → same_part k q ≡ b → lookup (same_part q) es ≡ cond b o (lookup (same_part q) es)
  found_by q true h = ap (λ x. lookup (same_part x) es) (sym (one_part k q h)) ∙ at
  found_by q false h = refl

  -- putting there what is there changes nothing
  pub stays : Changes es es k o
  stays q = found_by q (same_part k q) refl

  pub same_after : (fs : List (Shard × Cache)) → Changes es fs k o → viewed fs ≡ viewed es
  same_after fs h = same_view es fs (λ q. h q ∙ sym (stays q))

-- the last of two changes at a key counts
pub twice : (es ms fs : List (Shard × Cache)) (k : Shard) (o p : Option Cache) → Changes es ms k o → Changes ms fs k p → Changes es fs k p
twice es ms fs k o p h i q =
    i q ∙ ap (λ x. cond (same_part k q) p x) (h q) ∙ last_counts (same_part k q) (lookup (same_part q) es) where
      last_counts : (b : Bool) (x : Option Cache) → cond b p (cond b o x) ≡ cond b p x
      last_counts true x = refl
      last_counts false x = refl

-- ---- how the parts are held

abbrev pub Suits : ℕ → Cache → Type 0
Suits size c = (c.cap ≡ size) × (0 < length c.entries)

module _ (size : ℕ) (es : List (Shard × Cache)) where
  pub held_at : IsHeld size es → (k : Shard) (c : Cache) → lookup (same_part k) es ≡ Some c → Suits size c
  held_at h k c at =
      subst (λ o. IfSome o (Suits size)) at (subst (λ test. IfSome (lookup test es) (Suits size)) (sym (part_test k)) (h k))

  suits_choice : (b : Bool) (o p : Option Cache) → IfSome o (Suits size) → IfSome p (Suits size) → IfSome (cond b o p) (Suits size)
  suits_choice true o p h i = h
  suits_choice false o p h i = i

  pub held_after : (fs : List (Shard × Cache)) (k : Shard) (o : Option Cache) → Changes es fs k o → IfSome o (Suits size) → IsHeld size es → IsHeld size fs
  held_after fs k o h i held q =
      subst (λ test. IfSome (lookup test fs) (Suits size)) (part_test q)
      (subst (λ x. IfSome x (Suits size)) (sym (h q))
      (suits_choice (same_part k q) o (lookup (same_part q) es) i
      (subst (λ test. IfSome (lookup test es) (Suits size)) (sym (part_test q)) (held q))))

-- ---- what the calls do

abbrev pub lists_of : ℕ → List (Shard × Cache) → RecentParts
lists_of size es = record { size = size; parts = viewed es }

-- the sources of a part that a look-up finds
abbrev pub found_in : Option Cache → List Sighting
found_in o = unwrap_or (sources o) []

with_some : (r : RecentParts) (k : Shard) (ss : List Sighting) → 0 < length ss → with_sightings r k ss ≡ record { size = r.size; parts = insert r.parts k ss }
with_some r k [] some = absurd (omega (arith, some))
with_some r k (s ∷ ss) some = refl

module _ (size : ℕ) (es : List (Shard × Cache)) (k : Shard) (o : Option Cache) (at : lookup (same_part k) es ≡ o) where
  pub part_is : sightings (lists_of size es) k ≡ found_in o
  part_is = ap (λ x. unwrap_or x []) (got es k ∙ ap sources at)

  -- a part that isn't held has no source
  pub none_known : o ≡ None → (r : RecentParts) → lists_of size es ≡ r → (source : AddressParts) → list_any (is_of source) (sightings r k) ≡ true → ⊥
  none_known none r view source known =
      absurd (let no : false ≡ true = sym (ap (list_any (is_of source)) (part_is ∙ ap found_in none)) ∙ ap (λ x. list_any (is_of source) (sightings x k)) view ∙ known in cc)

  -- a part with sources is put
  pub part_put : (fs : List (Shard × Cache)) (c : Cache) (F : List Sighting → List Sighting) → Changes es fs k (Some c) → shown_in c ≡ F (found_in o) → 0 < length c.entries → lists_of size fs ≡ with_sightings (lists_of size es) k (F (sightings (lists_of size es) k))
  part_put fs c F h e some =
      ap (λ m. record { size = size; parts = m }) (placed es fs k c h)
      ∙ sym (with_some (lists_of size es) k (shown_in c) (subst (λ n. 0 < n) (sym (length-map c.entries sighting)) some))
      ∙ ap (with_sightings (lists_of size es) k) (e ∙ ap F (sym part_is))

  -- and one without any is dropped
  pub part_dropped : (fs : List (Shard × Cache)) (F : List Sighting → List Sighting) → Changes es fs k None → F (found_in o) ≡ [] → lists_of size fs ≡ with_sightings (lists_of size es) k (F (sightings (lists_of size es) k))
  part_dropped fs F h e =
      ap (λ m. record { size = size; parts = m }) (dropped es fs k h)
      ∙ ap (with_sightings (lists_of size es) k) (sym e ∙ ap F (sym part_is))

-- an empty cache shows nothing
pub none_shown : (c : Cache) → (length c.entries == 0) ≡ true → shown_in c ≡ []
none_shown c h = ap sightings_of (none_left c.entries (let none : length c.entries ≡ 0 = grind (arith, nat_tests) in none)) where
  none_left : (es : List (AddressParts × ℕ)) → length es ≡ 0 → es ≡ []
  none_left [] e = refl
  none_left (x ∷ es) e = absurd (omega (arith, e))

pub some_left : (c : Cache) → (length c.entries == 0) ≡ false → 0 < length c.entries
some_left c h = grind (arith, nat_tests)

-- ---- what a call on a part says of its result

module _ {T E : Type 0} {A B C : Type 0} where
  pub on_ok : (r : Result T E) → (A → B → C) → OnOk r A → OnOk r B → OnOk r C
  on_ok (Ok x) f a b = f a b
  on_ok (Err e) f a b = tt

module _ {T E : Type 0} {A B : Type 0} where
  pub on_err : (r : Result T E) → (A → B) → OnErr r A → OnErr r B
  on_err (Ok x) f a = tt
  on_err (Err e) f a = f a

-- after a set the part suits, whether it was done or refused
pub set_suits : {T E : Type 0} (size : ℕ) (r : Result T E) (old new : Cache) → Suits size old → new.cap ≡ old.cap → OnOk r (0 < length new.entries) → OnErr r (new ≡ old) → Suits size new
set_suits size (Ok x) old new suits cap some refused = (cap ∙ suits.0, some)
set_suits size (Err e) old new suits cap some refused = subst (Suits size) (sym refused) suits
