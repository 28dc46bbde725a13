-- Changes of recent lists, part by part.
use Rattle.std.proofs.Common.{◌≡◌, ℕ, ◌%◌, Bool, true, false, cond, List, [], ◌∷◌, ◌++◌, Option, Some, None, unwrap_or, not, take, refl, sym, ap, ◌∙◌}
use Rattle.std.specs.List.{filter, list_any}
use Rattle.std.specs.Option.{option_or}
use Rattle.std.specs.Ordering.{nat_cmp, eq_by_cmp}
use Rattle.std.specs.Cmp.{IsTotalOrder}
use Rattle.std.specs.FinMap.{IsAntisymmetric, entries, find, get, get-entries, get-from_entries, get-insert, get-remove, get-retain_keys, insert, remove, same_map, nat_cmp-IsAntisymmetric}
use Rattle.std.proofs.lemmas.Cmp.{on_total, then_total, nat_cmp_total}
use Rattle.std.proofs.lemmas.Map.Lookups.{exact_pairs}
use Rattle.kp_base.proofs.KeyOrder.{text_total, text_exact}
use Rattle.kp_base.specs.Keys.{text_cmp}
use Rattle.kp_base.specs.Net.{AddressParts}
use Rattle.kp_lemmas.proofs.Orders.{equal_from_test}
use Rattle.kp_choice_defs.specs.Recent.{Sighting, Shard, RecentParts, is_of, is_within, shard_cmp, shard_of, sightings, with_sightings}
use Rattle.kp_part_laws.specs.Unseen.{IsUnseen, OthersUnseen, PartsUnseen, between, kept_parts}

pub part_total : IsTotalOrder shard_cmp
part_total = then_total (on_total (λ k. k.list) text_total) (on_total (λ k. k.part) nat_cmp_total)

pub part_exact : IsAntisymmetric shard_cmp
part_exact a b h = ap (λ (p : List ℕ × ℕ). record { list = p.0; part = p.1 }) (exact_pairs text_cmp nat_cmp text_exact nat_cmp-IsAntisymmetric (a.list, a.part) (b.list, b.part) h)

pub one_part : (a b : Shard) → eq_by_cmp shard_cmp a b ≡ true → a ≡ b
one_part a b h = part_exact a b (equal_from_test (shard_cmp a b) h)

abbrev pub Held : Type 0
Held = Option (List Sighting)

-- A change that does something of its own at each shard, and nothing at those of a source's part.
module _ (source : AddressParts) (change : RecentParts → RecentParts) (own : ℕ → Shard → Held → Held)
    (sized : (lists : RecentParts) → (change lists).size ≡ lists.size)
    (does : (lists : RecentParts) (q : Shard) → get (change lists).parts q ≡ own lists.size q (get lists.parts q))
    (stays : (size : ℕ) (q : Shard) (h : Held) → q.part ≡ source.number % 16 → own size q h ≡ h) where
  same_sightings : (lists : RecentParts) (list : List ℕ)
      → sightings (change lists) (shard_of list source) ≡ sightings lists (shard_of list source)
  same_sightings lists list = ap (λ h. unwrap_or h []) (does lists (shard_of list source) ∙ stays lists.size (shard_of list source) _ refl)

  module _ (k : Shard) (at : k.part ≡ source.number % 16) (h : Held) where
    -- at the shard itself what is put there is found, and elsewhere what the change does
    put_by : (size : ℕ) (b : Bool) (q : Shard) (old : Held) → eq_by_cmp shard_cmp q k ≡ b → cond b h (own size q old) ≡ own size q (cond b h old)
    put_by size true q old same = sym (stays size q h (ap (λ (x : Shard). x.part) (one_part q k same) ∙ at))
    put_by size false q old same = refl

  inserted_same : (lists : RecentParts) (k : Shard) → k.part ≡ source.number % 16 → (v : List Sighting)
      → insert (change lists).parts k v ≡ (change (record lists { parts = insert lists.parts k v })).parts
  inserted_same lists k at v =
      same_map part_total part_exact _ _ (λ q.
      get-insert part_total (change lists).parts k v q
      ∙ ap (λ o. cond (eq_by_cmp shard_cmp q k) (Some v) o) (does lists q)
      ∙ put_by k at (Some v) lists.size (eq_by_cmp shard_cmp q k) q (get lists.parts q) refl
      ∙ ap (own lists.size q) (sym (get-insert part_total lists.parts k v q))
      ∙ sym (does (record lists { parts = insert lists.parts k v }) q))

  removed_same : (lists : RecentParts) (k : Shard) → k.part ≡ source.number % 16
      → remove (change lists).parts k ≡ (change (record lists { parts = remove lists.parts k })).parts
  removed_same lists k at =
      same_map part_total part_exact _ _ (λ q.
      get-remove part_total (change lists).parts k q
      ∙ ap (λ o. cond (eq_by_cmp shard_cmp q k) None o) (does lists q)
      ∙ put_by k at None lists.size (eq_by_cmp shard_cmp q k) q (get lists.parts q) refl
      ∙ ap (own lists.size q) (sym (get-remove part_total lists.parts k q))
      ∙ sym (does (record lists { parts = remove lists.parts k }) q))

  with_same : (lists : RecentParts) (k : Shard) → k.part ≡ source.number % 16 → (ss : List Sighting)
      → with_sightings (change lists) k ss ≡ change (with_sightings lists k ss)
  with_same lists k at [] = λ i. record {
    size = (sized lists ∙ sym (sized (record lists { parts = remove lists.parts k }))) i;
    parts = removed_same lists k at i;
  }
  with_same lists k at (s ∷ ss) = λ i. record {
    size = (sized lists ∙ sym (sized (record lists { parts = insert lists.parts k (s ∷ ss) }))) i;
    parts = inserted_same lists k at (s ∷ ss) i;
  }

  pub pointwise_unseen : IsUnseen source change
  pointwise_unseen = record {
    live = λ lists list now seconds.
        ap (λ ss. list_any (is_within now seconds) (filter (is_of source) ss)) (same_sightings lists list);
    reaps = λ lists list now seconds.
        ap (λ ss. with_sightings (change lists) (shard_of list source) (filter (is_within now seconds) ss)) (same_sightings lists list)
        ∙ with_same lists (shard_of list source) refl _;
    sets = λ lists list now.
        (λ i. with_sightings (change lists) (shard_of list source)
        (take (sized lists i) (record { source = source; moment = now }
        ∷ filter (λ s. not (is_of source s)) (same_sightings lists list i))))
        ∙ with_same lists (shard_of list source) refl _;
  }

kept_by : (b : Bool) (h : Held) → b ≡ true → cond b h None ≡ h
kept_by true h e = refl
kept_by false h e = absurd (cc)

pub parts_unseen : PartsUnseen
parts_unseen keeps source kept =
    pointwise_unseen source (kept_parts keeps) (λ size q h. cond (keeps q.part) h None) (λ lists. refl)
    (λ lists q. get-retain_keys lists.parts (λ at. keeps at.part) q (λ x same. ap (λ (y : Shard). keeps y.part) (sym (part_exact q x same))))
    (λ size q h at. kept_by (keeps q.part) h (ap keeps at ∙ kept))

pub or_none : (h : Held) → option_or h None ≡ h
or_none None = refl
or_none (Some x) = refl

pub found_beside : (es fs : List (Shard × List Sighting)) (q : Shard)
    → find shard_cmp q (es ++ fs) ≡ option_or (find shard_cmp q es) (find shard_cmp q fs)
found_beside [] fs q = refl
found_beside (e ∷ es) fs q =
    ap (λ o. cond (eq_by_cmp shard_cmp q e.0) (Some e.1) o) (found_beside es fs q)
    ∙ first_of (eq_by_cmp shard_cmp q e.0) e.1 (find shard_cmp q es) (find shard_cmp q fs) where
      first_of : (b : Bool) (x : List Sighting) (o p : Held) → cond b (Some x) (option_or o p) ≡ option_or (cond b (Some x) o) p
      first_of true x o p = refl
      first_of false x o p = refl

-- what three lists of entries have
found_between : (es fs gs : List (Shard × List Sighting)) (q : Shard)
    → find shard_cmp q (es ++ fs ++ gs) ≡ option_or (option_or (find shard_cmp q es) (find shard_cmp q fs)) (find shard_cmp q gs)
found_between es fs gs q =
    found_beside (es ++ fs) gs q ∙ ap (λ o. option_or o (find shard_cmp q gs)) (found_beside es fs q)

pub others_unseen : OthersUnseen
others_unseen before behind source lack_before lack_behind =
    pointwise_unseen source (between before behind) (λ size q h. option_or (option_or (get before.parts q) h) (get behind.parts q)) (λ lists. refl)
    (λ lists q.
    get-from_entries part_total (entries before.parts ++ entries lists.parts ++ entries behind.parts) q
    ∙ found_between (entries before.parts) (entries lists.parts) (entries behind.parts) q
    ∙ (λ i. option_or (option_or (sym (get-entries before.parts q) i) (sym (get-entries lists.parts q) i)) (sym (get-entries behind.parts q) i)))
    (λ size q h at. (λ i. option_or (option_or (lack_before q at i) h) (lack_behind q at i)) ∙ or_none h)
