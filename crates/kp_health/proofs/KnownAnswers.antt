-- Answers that are known by the objects: what keeps them, and their order.
use Rattle.std.proofs.Common.{◌≡◌, ◌||◌, ◌++◌, Bool, true, false, cond, List, [], ◌∷◌, map, Option, Some, None, option_and_then, option_map, filter_map, is_some, inl, inr, ◌⊎◌, refl, sym, ap, ◌∙◌, T}
use Rattle.std.specs.FinMap.{contains_key, empty, entries, entries_sorted, find, get, get-empty, get-entries, get-insert, get-remove, insert, is_sorted, keys, remove, values}
use Rattle.std.specs.FinMap.Entries.{below_all, same_entries}
use Rattle.std.specs.List.{cons_option, list_any}
use Rattle.std.specs.Ordering.{eq_by_cmp, is_eq, is_lt}
use Rattle.std.proofs.lemmas.Bool.{false≢true}
use Rattle.std.proofs.lemmas.List.{append-nil}
use Rattle.std.proofs.lemmas.List.Folds.{list_any-append}
use Rattle.kp_lemmas.proofs.Booleans.{both_facts, fact_of_both}
use Rattle.kp_lemmas.proofs.Orders.{less_from_fact, one_from_tie, tie_of_itself}
use Rattle.kp_base.specs.Keys.{key_cmp}
use Rattle.kp_base.specs.declared.address.Family.TheVariants.{V4, V6}
use Rattle.kp_base.specs.declared.config.Config.{Config}
use Rattle.kp_base.specs.declared.key.ObjectKey.{ObjectKey}
use Rattle.kp_base.proofs.KeyOrder.{key_exact, key_total}
use Rattle.kp_types.specs.Setting.{config_for, node_config}
use Rattle.kp_types.specs.declared.lists.Candidate.{Candidate}
use Rattle.kp_types.specs.declared.service.Service.{Service}
use Rattle.kp_types.specs.declared.service.ServicePort.{ServicePort}
use Rattle.kp_object_defs.specs.Entries.{entries_from, entries_of_both, sources_of}
use Rattle.kp_object_defs.specs.Objects.{Objects, no_objects}
use Rattle.kp_object_defs.specs.PortInfo.{port_key_of}
use Rattle.kp_store.specs.Touched.{is_touched}
use Rattle.kp_store.specs.declared.touched.Touched.{Touched}
use Rattle.kp_store.proofs.Unions.{among_keys}
use Rattle.kp_health_defs.specs.HealthPorts.{health_at, health_in, healths}
use Rattle.kp_health_defs.specs.declared.health.Health.{Health}
use Rattle.kp_health.specs.BothFamilies.{entries_of_sources}
use Rattle.kp_health.specs.Known.{Answers, AreKnown, AreKnownBut, AreNewer, IsKnownAt}

-- ---- One answer

module _ (config : Config) (o : Objects) (answers : Answers) (key : ObjectKey) where
  -- what is known at a key is found under it, whatever is found of another
  tied : (b : Bool) (k : ObjectKey) → eq_by_cmp key_cmp k key ≡ b → (v old : Option Health)
      → v ≡ health_at config o key → (b ≡ false → old ≡ health_at config o k)
      → cond b v old ≡ health_at config o k
  tied true k tie v old here other =
      here ∙ ap (health_at config o) (sym (one_from_tie key_exact k key tie))
  tied false k tie v old here other = other refl

  -- an answer that is put
  pub put_kept : (health : Health) → Some health ≡ health_at config o key → (k : ObjectKey)
      → IsKnownAt config o answers k → IsKnownAt config o (insert answers key health) k
  put_kept health here k known =
      get-insert key_total answers key health k
      ∙ tied (eq_by_cmp key_cmp k key) k refl (Some health) (get answers k) here (λ other. known)

  pub put_made : (health : Health) → Some health ≡ health_at config o key
      → IsKnownAt config o (insert answers key health) key
  put_made health here =
      get-insert key_total answers key health key
      ∙ ap (λ b. cond b (Some health) (get answers key)) (tie_of_itself key_total key) ∙ here

  -- an answer that is taken out
  pub take_kept : None ≡ health_at config o key → (k : ObjectKey)
      → IsKnownAt config o answers k → IsKnownAt config o (remove answers key) k
  take_kept here k known =
      get-remove key_total answers key k
      ∙ tied (eq_by_cmp key_cmp k key) k refl None (get answers k) here (λ other. known)

  pub take_made : None ≡ health_at config o key → IsKnownAt config o (remove answers key) key
  take_made here =
      get-remove key_total answers key key
      ∙ ap (λ b. cond b None (get answers key)) (tie_of_itself key_total key) ∙ here

  -- what stands under another key is as before
  newer_at : (b : Bool) (k : ObjectKey) → eq_by_cmp key_cmp k key ≡ b → (v old new : Option Health)
      → new ≡ cond (eq_by_cmp key_cmp k key) v old → v ≡ health_at config o key
      → (new ≡ old) ⊎ (new ≡ health_at config o k)
  newer_at true k tie v old new is here =
      inr (is ∙ ap (λ b. cond b v old) tie ∙ here
      ∙ ap (health_at config o) (sym (one_from_tie key_exact k key tie)))
  newer_at false k tie v old new is here = inl (is ∙ ap (λ b. cond b v old) tie)

  pub put_newer : (health : Health) → Some health ≡ health_at config o key
      → AreNewer config o answers (insert answers key health)
  put_newer health here = record {
    each = λ k.
        newer_at (eq_by_cmp key_cmp k key) k refl (Some health) (get answers k)
        (get (insert answers key health) k) (get-insert key_total answers key health k) here;
  }

  pub take_newer : None ≡ health_at config o key
      → AreNewer config o answers (remove answers key)
  take_newer here = record {
    each = λ k.
        newer_at (eq_by_cmp key_cmp k key) k refl None (get answers k)
        (get (remove answers key) k) (get-remove key_total answers key k) here;
  }

-- ---- Answers that are as before or known

module _ (config : Config) (o : Objects) where
  -- all are as before
  pub newer_same : (old new : Answers) → new ≡ old → AreNewer config o old new
  newer_same old new same = record { each = λ k. inl (ap (λ m. get m k) same) }

  -- all are known
  pub newer_all : (old new : Answers) → AreKnown config o new → AreNewer config o old new
  newer_all old new known = record { each = λ k. inr (known k) }

  -- and so they are after two steps
  pub newer_on : (old middle new : Answers) → AreNewer config o old middle
      → AreNewer config o middle new → AreNewer config o old new
  newer_on old middle new first then = record { each = λ k. by k (first.each k) (then.each k) }
    where
      by : (k : ObjectKey) → (get middle k ≡ get old k) ⊎ IsKnownAt config o middle k
          → (get new k ≡ get middle k) ⊎ IsKnownAt config o new k
          → (get new k ≡ get old k) ⊎ IsKnownAt config o new k
      by k before (inr known) = inr known
      by k (inl before) (inl same) = inl (same ∙ before)
      by k (inr known) (inl same) = inr (same ∙ known)

-- ---- Services that aren't there

-- of a Service that isn't there nothing is known
no_service : (config : Config) (o : Objects) (found : Option Service)
    → is_some found ≡ false → None ≡ option_and_then (health_in config o) found
no_service config o None h = refl
no_service config o (Some s) h = absurd (cc)

-- and so no answers are known for those
pub none_known : (config : Config) (o : Objects) (k : ObjectKey)
    → contains_key o.services k ≡ false → IsKnownAt config o empty k
none_known config o k h =
    get-empty key_cmp k ∙ no_service config o (get o.services k) h

-- no answers are known by no objects
pub known_of_none : (config : Config) → AreKnown config no_objects empty
known_of_none config k =
    get-empty key_cmp k
    ∙ sym (ap (option_and_then (health_in config no_objects)) (get-empty key_cmp k))

-- ---- The order of answers

module _ (f : Service → Option Health) where
  -- an answer under the key of its Service
  abbrev keyed : ObjectKey → Option Health → Option (ObjectKey × Health)
  keyed k h = option_map (λ v. (k, v)) h

  abbrev answered : List (ObjectKey × Service) → List (ObjectKey × Health)
  answered es = filter_map (λ (e : ObjectKey × Service). keyed e.0 (f e.1)) es

  -- their values are the answers in order
  in_order : (es : List (ObjectKey × Service))
      → map (λ (e : ObjectKey × Health). e.1) (answered es)
      ≡ filter_map f (map (λ (e : ObjectKey × Service). e.1) es)
  in_order [] = refl
  in_order (e ∷ es) = by (f e.1) (in_order es)
    where
      by : (h : Option Health) → map (λ (e : ObjectKey × Health). e.1) (answered es)
          ≡ filter_map f (map (λ (e : ObjectKey × Service). e.1) es)
          → map (λ (e : ObjectKey × Health). e.1) (cons_option (keyed e.0 h) (answered es))
          ≡ cons_option h (filter_map f (map (λ (e : ObjectKey × Service). e.1) es))
      by None rest = rest
      by (Some v) rest = ap (λ vs. v ∷ vs) rest

  below : (k : ObjectKey) (es : List (ObjectKey × Service)) → T (below_all key_cmp k es)
      → T (below_all key_cmp k (answered es))
  below k [] h = tt
  below k (e ∷ es) h =
      let both = both_facts _ _ h in
      by (f e.1) both.0 (below k es both.1)
    where
      by : (v : Option Health) → T (is_lt (key_cmp k e.0))
          → T (below_all key_cmp k (answered es))
          → T (below_all key_cmp k (cons_option (keyed e.0 v) (answered es)))
      by None first rest = rest
      by (Some v) first rest = fact_of_both _ _ first rest

  sorted : (es : List (ObjectKey × Service)) → T (is_sorted key_cmp es)
      → T (is_sorted key_cmp (answered es))
  sorted [] h = tt
  sorted (e ∷ es) h =
      let both = both_facts _ _ h in
      by (f e.1) (below e.0 es both.0) (sorted es both.1)
    where
      by : (v : Option Health) → T (below_all key_cmp e.0 (answered es))
          → T (is_sorted key_cmp (answered es))
          → T (is_sorted key_cmp (cons_option (keyed e.0 v) (answered es)))
      by None first rest = rest
      by (Some v) first rest = fact_of_both _ _ first rest

  -- nothing is found of a key below all others
  unfound : (k q : ObjectKey) (es : List (ObjectKey × Service)) → eq_by_cmp key_cmp q k ≡ true
      → T (below_all key_cmp k es) → find key_cmp q (answered es) ≡ None
  unfound k q [] tie h = refl
  unfound k q (e ∷ es) tie h =
      let both = both_facts _ _ h in
      by (f e.1) (other both.0) (unfound k q es tie both.1)
    where
      other : T (is_lt (key_cmp k e.0)) → eq_by_cmp key_cmp q e.0 ≡ false
      other less =
          ap (λ p. eq_by_cmp key_cmp p e.0) (one_from_tie key_exact q k tie)
          ∙ ap is_eq (less_from_fact (key_cmp k e.0) less)

      by : (v : Option Health) → eq_by_cmp key_cmp q e.0 ≡ false
          → find key_cmp q (answered es) ≡ None
          → find key_cmp q (cons_option (keyed e.0 v) (answered es)) ≡ None
      by None first rest = rest
      by (Some v) first rest =
          ap (λ b. cond b (Some v) (find key_cmp q (answered es))) first ∙ rest

  -- what is found under a key is the answer for its Service
  found : (q : ObjectKey) (es : List (ObjectKey × Service)) → T (is_sorted key_cmp es)
      → find key_cmp q (answered es) ≡ option_and_then f (find key_cmp q es)
  found q [] h = refl
  found q (e ∷ es) h =
      let both = both_facts _ _ h in
      by (f e.1) (eq_by_cmp key_cmp q e.0) refl refl (λ tie. unfound e.0 q es tie both.0)
      (found q es both.1)
    where
      by : (v : Option Health) (b : Bool) → f e.1 ≡ v → eq_by_cmp key_cmp q e.0 ≡ b
          → (eq_by_cmp key_cmp q e.0 ≡ true → find key_cmp q (answered es) ≡ None)
          → find key_cmp q (answered es) ≡ option_and_then f (find key_cmp q es)
          → find key_cmp q (cons_option (keyed e.0 v) (answered es))
          ≡ option_and_then f (cond b (Some e.1) (find key_cmp q es))
      by None true is tie none rest = none tie ∙ sym is
      by None false is tie none rest = rest
      by (Some v) true is tie none rest =
          ap (λ b. cond b (Some v) (find key_cmp q (answered es))) tie ∙ sym is
      by (Some v) false is tie none rest =
          ap (λ b. cond b (Some v) (find key_cmp q (answered es))) tie ∙ rest

-- known answers are those of all health ports, in order
pub known_values : (config : Config) (o : Objects) (answers : Answers) → AreKnown config o answers
    → values answers ≡ healths config o
known_values config o answers known =
    let f : Service → Option Health = health_in config o in
    let es : List (ObjectKey × Service) = entries o.services in
    ap (map (λ (e : ObjectKey × Health). e.1))
    (same_entries key_cmp key_total key_exact (entries answers) (answered f es)
    (entries_sorted answers) (sorted f es (entries_sorted o.services)) (λ q.
    sym (get-entries answers q) ∙ known q
    ∙ ap (option_and_then f) (get-entries o.services q)
    ∙ sym (found f q es (entries_sorted o.services))))
    ∙ in_order f es

-- ---- Answers made one after the other

-- those for keys, and for one key more
pub one_more : (config : Config) (o : Objects) (old new : Answers) (keys : List ObjectKey)
    (key : ObjectKey)
    → ((k : ObjectKey) → list_any (eq_by_cmp key_cmp k) keys ≡ true → IsKnownAt config o old k)
    → IsKnownAt config o new key
    → ((k : ObjectKey) → IsKnownAt config o old k → IsKnownAt config o new k) → (k : ObjectKey)
    → list_any (eq_by_cmp key_cmp k) (keys ++ key ∷ []) ≡ true → IsKnownAt config o new k
one_more config o old new keys key before here kept k among =
    by (list_any (eq_by_cmp key_cmp k) keys) (eq_by_cmp key_cmp k key) (before k) refl
    (sym (list_any-append (eq_by_cmp key_cmp k) keys (key ∷ [])) ∙ among)
  where
    by : (a b : Bool) → (a ≡ true → IsKnownAt config o old k) → eq_by_cmp key_cmp k key ≡ b
        → a || (b || false) ≡ true → IsKnownAt config o new k
    by true b known tie h = kept k (known refl)
    by false true known tie h =
        ap (get new) (one_from_tie key_exact k key tie) ∙ here
        ∙ ap (health_at config o) (sym (one_from_tie key_exact k key tie))
    by false false known tie h = absurd (false≢true h)

-- those for all Services, where nothing is known of other keys
pub all_made : (config : Config) (o : Objects) (answers : Answers) (services : List ObjectKey)
    → services ≡ keys o.services
    → ((k : ObjectKey) → list_any (eq_by_cmp key_cmp k) services ≡ true
    → IsKnownAt config o answers k)
    → ((k : ObjectKey) → contains_key o.services k ≡ false → IsKnownAt config o answers k)
    → AreKnown config o answers
all_made config o answers services is made others k =
    by (contains_key o.services k) refl
  where
    by : (b : Bool) → contains_key o.services k ≡ b → IsKnownAt config o answers k
    by true there =
        made k (ap (list_any (eq_by_cmp key_cmp k)) is ∙ among_keys o.services k ∙ there)
    by false there = others k there

-- those for the Services that were touched, where those for the others are known
pub touched_made : (config : Config) (o : Objects) (old new : Answers) (touched : Touched)
    (services : List ObjectKey) → touched.all ≡ false → services ≡ keys touched.keys
    → AreKnownBut (is_touched touched) config o old
    → ((k : ObjectKey) → list_any (eq_by_cmp key_cmp k) services ≡ true
    → IsKnownAt config o new k)
    → ((k : ObjectKey) → IsKnownAt config o old k → IsKnownAt config o new k)
    → AreKnown config o new
touched_made config o old new touched services few is known made kept k =
    by (contains_key touched.keys k) refl
  where
    by : (b : Bool) → contains_key touched.keys k ≡ b → IsKnownAt config o new k
    by true there =
        made k (ap (list_any (eq_by_cmp key_cmp k)) is ∙ among_keys touched.keys k ∙ there)
    by false there = kept k (known k (λ i. few i || there i))

-- ---- Texts and batches

-- the endpoints of ports in both families, by what they are taken from in each
pub by_sources : (config : Config) (o : Objects) (s : Service) (ports : List ServicePort)
    → map (λ p. entries_of_sources config.node (sources_of V4 (config_for V4 config) o s)
    (sources_of V6 (config_for V6 config) o s) (port_key_of s p)) ports
    ≡ map (λ p. entries_of_both (node_config config) o s (port_key_of s p)) ports
by_sources config o s ports =
    ap (λ (f : ServicePort → List Candidate). map f ports) (λ i p.
    entries_from V4 config.node (sources_of V4 (config_for V4 config) o s) (port_key_of s p)
    ++ sym (append-nil (entries_from V6 config.node (sources_of V6 (config_for V6 config) o s)
    (port_key_of s p))) i)
