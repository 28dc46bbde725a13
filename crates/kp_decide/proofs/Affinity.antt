-- Session affinity by lists that stay as they are, or that are changed: dropping what is past the timeout
-- changes no look.
use Rattle.std.proofs.Common.{◌≡◌, ℕ, zero, suc, ◌||◌, Bool, true, false, cond, List, [], ◌∷◌, filter, slice_get, drop, length, Option, Some, None, refl, sym, ap, subst, ◌∙◌}
use Rattle.std.specs.Cmp.{IsTotalOrder}
use Rattle.std.specs.Ordering.{nat_cmp, eq_by_cmp}
use Rattle.std.specs.List.{list_any}
use Rattle.std.specs.Option.{unwrap_or}
use Rattle.std.proofs.lemmas.Option.{same_Some}
use Rattle.std.specs.FinMap.{get, get-insert, get-remove, IsAntisymmetric, nat_cmp-IsAntisymmetric}
use Rattle.std.proofs.lemmas.Cmp.{on_total, then_total, nat_cmp_total}
use Rattle.std.proofs.lemmas.Map.Lookups.{exact_pairs}
use Rattle.kp_lemmas.proofs.Orders.{one_from_tie}
use Rattle.kp_base.specs.Keys.{text_cmp}
use Rattle.kp_base.specs.Net.{AddressParts}
use Rattle.kp_base.specs.declared.key.Endpoint.{Endpoint}
use Rattle.kp_base.proofs.KeyOrder.{text_total, text_exact}
use Rattle.kp_choice_defs.specs.Recent.{RecentParts, Shard, Sighting, is_live, is_of, is_within, reaped, shard_cmp, shard_of, sightings, with_sightings}
use Rattle.kp_door_defs.specs.Choice.{Look, live_endpoint}

-- ---- one part

shard_total : IsTotalOrder shard_cmp
shard_total = then_total (on_total (λ s. s.list) text_total) (on_total (λ s. s.part) nat_cmp_total)

shard_exact : IsAntisymmetric shard_cmp
shard_exact a b h = ap (λ (p : List ℕ × ℕ). record { list = p.0; part = p.1 }) (exact_pairs text_cmp nat_cmp text_exact nat_cmp-IsAntisymmetric (a.list, a.part) (b.list, b.part) h)

or_none_removed : (b : Bool) (o : Option (List Sighting)) → unwrap_or (cond b None o) [] ≡ cond b [] (unwrap_or o [])
or_none_removed true o = refl
or_none_removed false o = refl

or_none_put : (b : Bool) (ss : List Sighting) (o : Option (List Sighting)) → unwrap_or (cond b (Some ss) o) [] ≡ cond b ss (unwrap_or o [])
or_none_put true ss o = refl
or_none_put false ss o = refl

-- what a part has once another or the same is set
set_sightings : (lists : RecentParts) (at q : Shard) (ss : List Sighting) → sightings (with_sightings lists at ss) q ≡ cond (eq_by_cmp shard_cmp q at) ss (sightings lists q)
set_sightings lists at q [] =
    ap (λ o. unwrap_or o []) (get-remove shard_total lists.parts at q)
    ∙ or_none_removed (eq_by_cmp shard_cmp q at) (get lists.parts q)
set_sightings lists at q (s ∷ ss) =
    ap (λ o. unwrap_or o []) (get-insert shard_total lists.parts at (s ∷ ss) q)
    ∙ or_none_put (eq_by_cmp shard_cmp q at) (s ∷ ss) (get lists.parts q)

module _ (p w : Sighting → Bool) where
  -- one more sighting, by whether it is within and whether it is looked for
  still_by : (s : Sighting) (ss : List Sighting) → list_any w (filter p (filter w ss)) ≡ list_any w (filter p ss) → (a b : Bool) → w s ≡ a → p s ≡ b → list_any w (filter p (cond a (s ∷ filter w ss) (filter w ss))) ≡ list_any w (cond b (s ∷ filter p ss) (filter p ss))
  still_by s ss same true true is has = ap (λ c. list_any w (cond c (s ∷ filter p (filter w ss)) (filter p (filter w ss)))) has ∙ ap (λ rest. w s || rest) same
  still_by s ss same true false is has = ap (λ c. list_any w (cond c (s ∷ filter p (filter w ss)) (filter p (filter w ss)))) has ∙ same
  still_by s ss same false true is has = same ∙ ap (λ c. c || list_any w (filter p ss)) (sym is)
  still_by s ss same false false is has = same

  -- dropping what isn't within leaves what is
  still_within : (ss : List Sighting) → list_any w (filter p (filter w ss)) ≡ list_any w (filter p ss)
  still_within [] = refl
  still_within (s ∷ ss) = still_by s ss (still_within ss) (w s) (p s) refl refl

module _ (lists : RecentParts) (m n : List ℕ) (source : AddressParts) (now seconds : ℕ) where
  abbrev reaped_at : Shard
  reaped_at = shard_of m source

  abbrev looked : Shard
  looked = shard_of n source

  abbrev recently : Sighting → Bool
  recently = is_within now seconds

  abbrev kept : List Sighting
  kept = filter recently (sightings lists reaped_at)

  by_shard : (b : Bool) → eq_by_cmp shard_cmp looked reaped_at ≡ b → list_any recently (filter (is_of source) (sightings (with_sightings lists reaped_at kept) looked)) ≡ list_any recently (filter (is_of source) (sightings lists looked))
  by_shard true e =
      ap (λ ss. list_any recently (filter (is_of source) ss)) (set_sightings lists reaped_at looked kept ∙ ap (λ b. cond b kept (sightings lists looked)) e)
      ∙ still_within (is_of source) recently (sightings lists reaped_at)
      ∙ ap (λ s. list_any recently (filter (is_of source) (sightings lists s))) (sym (one_from_tie shard_exact looked reaped_at e))
  by_shard false e = ap (λ ss. list_any recently (filter (is_of source) ss)) (set_sightings lists reaped_at looked kept ∙ ap (λ b. cond b kept (sightings lists looked)) e)

  -- a look after a list was reaped
  pub live_still : is_live (reaped lists m source now seconds) n source now seconds ≡ is_live lists n source now seconds
  live_still = by_shard (eq_by_cmp shard_cmp looked reaped_at) refl

-- ---- all endpoints

-- an element, and those behind it
drop_at : {X : Type 0} (xs : List X) (i : ℕ) (x : X) → slice_get xs i ≡ Some x → drop i xs ≡ x ∷ drop (suc i) xs
drop_at [] i x at = absurd (cc)
drop_at (y ∷ xs) zero x at = ap (λ z. z ∷ xs) (same_Some y x at)
drop_at (y ∷ xs) (suc i) x at = drop_at xs i x at

none_left : {X : Type 0} (xs : List X) → drop (length xs) xs ≡ []
none_left [] = refl
none_left (x ∷ xs) = none_left xs

module _ (changes : Bool) (name : Endpoint → List ℕ) (source : AddressParts) (now seconds : ℕ) (es : List Endpoint) (before : RecentParts) where
  -- the whole look
  abbrev pub all_looked : Look
  all_looked = live_endpoint name source now seconds 0 es before

  -- a look up to a place, which found none: what it left, and the lists as they are
  pub record IsLooking (place : ℕ) (after : RecentParts) : Type 0 where
    pub left : RecentParts
    pub rest : all_looked ≡ live_endpoint name source now seconds place (drop place es) left
    pub alike : (n : List ℕ) → is_live left n source now seconds ≡ is_live after n source now seconds
    pub kept : after ≡ cond changes left before

  abbrev gone : RecentParts → Endpoint → RecentParts
  gone lists e = reaped lists (name e) source now seconds

  -- the look at an endpoint
  at_one : (place : ℕ) (after : RecentParts) (e : Endpoint) (w : IsLooking place after) → slice_get es place ≡ Some e → all_looked ≡ cond (is_live after (name e) source now seconds) (record { found = Some (e, place); lists = gone w.left e }) (live_endpoint name source now seconds (suc place) (drop (suc place) es) (gone w.left e))
  at_one place after e w at =
      w.rest
      ∙ ap (λ xs. live_endpoint name source now seconds place xs w.left) (drop_at es place e at)
      ∙ ap (λ b. cond b (record { found = Some (e, place); lists = gone w.left e }) (live_endpoint name source now seconds (suc place) (drop (suc place) es) (gone w.left e))) (w.alike (name e))

-- the same in both cases
pub same_both : {X : Type 0} (b : Bool) (x : X) → x ≡ cond b x x
same_both true x = refl
same_both false x = refl

module _ (name : Endpoint → List ℕ) (source : AddressParts) (now seconds : ℕ) (es : List Endpoint) (before : RecentParts) where
  -- before the first
  pub begun : (changes : Bool) → IsLooking changes name source now seconds es before 0 before
  begun changes = record {
    left = before;
    rest = refl;
    alike = λ n. refl;
    kept = same_both changes before;
  }

  abbrev lost : RecentParts → Endpoint → RecentParts
  lost lists e = reaped lists (name e) source now seconds

  -- lists that are changed lose what is past the timeout, and others stay
  more_kept : (changes : Bool) (left after : RecentParts) (e : Endpoint) → after ≡ cond changes left before → cond changes (lost after e) after ≡ cond changes (lost left e) before
  more_kept true left after e is = ap (λ l. lost l e) is
  more_kept false left after e is = is

  still : (changes : Bool) (after : RecentParts) (e : Endpoint) (n : List ℕ) → is_live after n source now seconds ≡ is_live (cond changes (lost after e) after) n source now seconds
  still true after e n = sym (live_still after (name e) n source now seconds)
  still false after e n = refl

  more_looked : (changes : Bool) (place : ℕ) (after next : RecentParts) (e : Endpoint) → IsLooking changes name source now seconds es before place after → slice_get es place ≡ Some e → is_live after (name e) source now seconds ≡ false → next ≡ cond changes (lost after e) after → IsLooking changes name source now seconds es before (suc place) next
  more_looked changes place after next e w at dead is = record {
    left = lost w.left e;
    rest =
        at_one changes name source now seconds es before place after e w at
        ∙ ap (λ b. cond b (record { found = Some (e, place); lists = lost w.left e }) (live_endpoint name source now seconds (suc place) (drop (suc place) es) (lost w.left e))) dead;
    alike = λ n.
        live_still w.left (name e) n source now seconds ∙ w.alike n ∙ still changes after e n
        ∙ sym (ap (λ l. is_live l n source now seconds) is);
    kept = is ∙ more_kept changes w.left after e w.kept;
  }

  -- one more endpoint without the source
  pub one_more : (changes : Bool) (place n : ℕ) (after next : RecentParts) (e : Endpoint) → n ≡ suc place → IsLooking changes name source now seconds es before place after → slice_get es place ≡ Some e → is_live after (name e) source now seconds ≡ false → next ≡ cond changes (lost after e) after → IsLooking changes name source now seconds es before n next
  one_more changes place n after next e step w at dead is =
      subst (λ i. IsLooking changes name source now seconds es before i next) (sym step) (more_looked changes place after next e w at dead is)

  -- the endpoint that has the source
  module _ (changes : Bool) (place : ℕ) (after next : RecentParts) (e : Endpoint) (w : IsLooking changes name source now seconds es before place after) (at : slice_get es place ≡ Some e) (live : is_live after (name e) source now seconds ≡ true) (is : next ≡ cond changes (lost after e) after) where
    whole : all_looked changes name source now seconds es before ≡ record { found = Some (e, place); lists = lost w.left e }
    whole =
        at_one changes name source now seconds es before place after e w at
        ∙ ap (λ b. cond b (record { found = Some (e, place); lists = lost w.left e }) (live_endpoint name source now seconds (suc place) (drop (suc place) es) (lost w.left e))) live

    pub found_there : Some (e, place) ≡ (live_endpoint name source now seconds 0 es before).found
    found_there = sym (ap (λ (l : Look). l.found) whole)

    pub lists_there : next ≡ cond changes (live_endpoint name source now seconds 0 es before).lists before
    lists_there =
        is ∙ more_kept changes w.left after e w.kept
        ∙ sym (ap (λ (l : Look). cond changes l.lists before) whole)

  -- no endpoint has it
  module _ (changes : Bool) (place : ℕ) (after : RecentParts) (w : IsLooking changes name source now seconds es before place after) (end : place ≡ length es) where
    none : all_looked changes name source now seconds es before ≡ record { found = None; lists = w.left }
    none =
        w.rest
        ∙ ap (λ i. live_endpoint name source now seconds place (drop i es) w.left) end
        ∙ ap (λ xs. live_endpoint name source now seconds place xs w.left) (none_left es)

    pub found_nowhere : None ≡ (live_endpoint name source now seconds 0 es before).found
    found_nowhere = sym (ap (λ (l : Look). l.found) none)

    pub lists_nowhere : after ≡ cond changes (live_endpoint name source now seconds 0 es before).lists before
    lists_nowhere = w.kept ∙ sym (ap (λ (l : Look). cond changes l.lists before) none)
