-- Ports in order of their names, as the map from these.
use Rattle.std.proofs.Common.{◌≡◌, suc, Bool, true, false, cond, not, List, [], ◌∷◌, map, filter}
use Rattle.std.proofs.Common.{insert, Option, Some, None, refl, sym, ap, ◌∙◌}
use Rattle.std.specs.declared.cmp.Ordering.{Ordering}
use Rattle.std.specs.declared.cmp.Ordering.TheVariants.{Less, Equal, Greater}
use Rattle.std.specs.Ordering.{eq_by_cmp, is_eq, is_lt, ordering_reverse}
use Rattle.std.specs.FinMap as finite
use Rattle.std.specs.FinMap.{entries-insert, find, get, get-from_entries, get-insert, get-remove}
use Rattle.std.specs.FinMap.{is_sorted, put, same_entries_map, same_map}
use Rattle.std.specs.FinMap.Entries.{by_order, find-where_key, is_sorted-put, is_sorted-where_key}
use Rattle.std.specs.FinMap.Entries.{where_key}
use Rattle.kp_lemmas.proofs.Booleans.{fact_from_true, true_from_fact}
use Rattle.kp_lemmas.proofs.Entries.{empty_entries}
use Rattle.kp_lemmas.proofs.Orders.{tie_of_itself}
use Rattle.kp_base.specs.Keys.{port_key_cmp}
use Rattle.kp_base.specs.declared.key.PortKey.{PortKey}
use Rattle.kp_base.proofs.KeyOrder.{port_key_exact, port_key_total}
use Rattle.kp_object_defs.specs.PortInfo.{PortInfo}
use Rattle.kp_table_laws.specs.Laws.{AreInOrder}
use Rattle.kp_vmap_defs.proofs.KnownPorts.{entries_by_name, values_by_name}
use Rattle.kp_vmap_defs.specs.VerdictMap.{by_name}
use Rattle.kp_vmap.specs.Places.{PortMap, others, place_in, with_port}

-- ports under their names
abbrev keyed : List PortInfo → List (PortKey × PortInfo)
keyed infos = map (λ i. (i.key, i)) infos

-- ---- one more port

-- behind a port that is put at the place of its name
keyed_put : (port : PortInfo) (xs : List PortInfo) → find port_key_cmp port.key (keyed xs) ≡ None
    → keyed (insert xs (place_in port.key xs) port) ≡ put port_key_cmp port.key port (keyed xs)
keyed_put port [] h = refl
keyed_put port (x ∷ xs) h =
    elim (port_key_cmp port.key x.key) as (λ o. port_key_cmp port.key x.key ≡ o
    → keyed (insert (x ∷ xs)
    (cond (is_lt (port_key_cmp x.key port.key)) (suc (place_in port.key xs)) 0) port)
    ≡ by_order o ((port.key, port) ∷ (x.key, x) ∷ keyed xs) ((x.key, port) ∷ keyed xs)
    ((x.key, x) ∷ put port_key_cmp port.key port (keyed xs))) [
      | Less ↦ λ p. ap (λ b. keyed (insert (x ∷ xs) (cond b (suc (place_in port.key xs)) 0) port))
          (ap is_lt (back p))
      | Equal ↦ λ p.
          let no : Some x ≡ None =
          sym (ap (λ o. cond (is_eq o) (Some x) (find port_key_cmp port.key (keyed xs))) p) ∙ h in
          absurd (cc)
      | Greater ↦ λ p.
          ap (λ b. keyed (insert (x ∷ xs) (cond b (suc (place_in port.key xs)) 0) port))
          (ap is_lt (back p))
          ∙ ap (λ rest. (x.key, x) ∷ rest)
          (keyed_put port xs (sym (ap (λ o. cond (is_eq o) (Some x)
          (find port_key_cmp port.key (keyed xs))) p) ∙ h))
    ] refl
  where
    back : {o : Ordering} → port_key_cmp port.key x.key ≡ o
        → port_key_cmp x.key port.key ≡ ordering_reverse o
    back p = port_key_total.antisymm x.key port.key ∙ ap ordering_reverse p

-- it keeps the order
pub put_in_order : (port : PortInfo) (xs : List PortInfo) → AreInOrder xs
    → find port_key_cmp port.key (keyed xs) ≡ None
    → AreInOrder (insert xs (place_in port.key xs) port)
put_in_order port xs h none =
    ap (is_sorted port_key_cmp) (keyed_put port xs none)
    ∙ true_from_fact _ (is_sorted-put port_key_cmp port_key_total port.key port (keyed xs)
    (fact_from_true h))

-- and is the port in the map
pub put_is_insert : (port : PortInfo) (xs : List PortInfo) → AreInOrder xs
    → find port_key_cmp port.key (keyed xs) ≡ None
    → by_name (insert xs (place_in port.key xs) port) ≡ finite.insert (by_name xs) port.key port
put_is_insert port xs h none =
    same_entries_map _ _
    (entries_by_name _ (put_in_order port xs h none)
    ∙ keyed_put port xs none
    ∙ ap (put port_key_cmp port.key port) (sym (entries_by_name xs h))
    ∙ sym (entries-insert port_key_total (by_name xs) port.key port))

-- ---- one port less

-- the test of ports of other names
abbrev is_other : PortKey → PortInfo → Bool
is_other key i = not (eq_by_cmp port_key_cmp i.key key)

keyed_filter : (key : PortKey) (xs : List PortInfo)
    → keyed (filter (is_other key) xs)
    ≡ where_key port_key_cmp (λ k. not (eq_by_cmp port_key_cmp k key)) (keyed xs)
keyed_filter key [] = refl
keyed_filter key (x ∷ xs) =
    elim (is_other key x) as
    (λ b. keyed (cond b (x ∷ filter (is_other key) xs) (filter (is_other key) xs))
    ≡ cond b ((x.key, x) ∷ where_key port_key_cmp (λ k. not (eq_by_cmp port_key_cmp k key))
    (keyed xs)) (where_key port_key_cmp (λ k. not (eq_by_cmp port_key_cmp k key)) (keyed xs))) [
      | true ↦ ap (λ rest. (x.key, x) ∷ rest) (keyed_filter key xs)
      | false ↦ keyed_filter key xs
    ]

-- the others keep their order
pub others_in_order : (key : PortKey) (xs : List PortInfo) → AreInOrder xs
    → AreInOrder (filter (is_other key) xs)
others_in_order key xs h =
    ap (is_sorted port_key_cmp) (keyed_filter key xs)
    ∙ true_from_fact _ (is_sorted-where_key port_key_cmp (λ k. not (eq_by_cmp port_key_cmp k key))
    (keyed xs) (fact_from_true h))

turned : {A : Type 0} (b : Bool) (x y : A) → cond (not b) x y ≡ cond b y x
turned true x y = refl
turned false x y = refl

-- the map without the port
pub others_are_removed : (key : PortKey) (xs : List PortInfo)
    → by_name (filter (is_other key) xs) ≡ finite.remove (by_name xs) key
others_are_removed key xs =
    same_map port_key_total port_key_exact _ _ (λ q.
    let p : PortKey → Bool = λ k. not (eq_by_cmp port_key_cmp k key) in
    get-from_entries port_key_total (keyed (filter (is_other key) xs)) q
    ∙ ap (find port_key_cmp q) (keyed_filter key xs)
    ∙ find-where_key port_key_cmp p q (λ x tie. ap p (sym (port_key_exact q x tie))) (keyed xs)
    ∙ turned (eq_by_cmp port_key_cmp q key) (find port_key_cmp q (keyed xs)) None
    ∙ ap (cond (eq_by_cmp port_key_cmp q key) None)
    (sym (get-from_entries port_key_total (keyed xs) q))
    ∙ sym (get-remove port_key_total (by_name xs) key q))

-- it isn't there any more
pub none_of_others : (key : PortKey) (xs : List PortInfo)
    → find port_key_cmp key (keyed (filter (is_other key) xs)) ≡ None
none_of_others key xs =
    sym (get-from_entries port_key_total (keyed (filter (is_other key) xs)) key)
    ∙ ap (λ m. get m key) (others_are_removed key xs)
    ∙ get-remove port_key_total (by_name xs) key key
    ∙ ap (λ b. cond b None (get (by_name xs) key)) (tie_of_itself port_key_total key)

-- ---- the whole list

-- ports of which none is known
pub none_known : (xs : List PortInfo) → AreInOrder xs → by_name xs ≡ finite.empty → xs ≡ []
none_known xs h is =
    sym (values_by_name xs h) ∙ ap finite.values is
    ∙ ap (map (λ (e : PortKey × PortInfo). e.1)) (empty_entries port_key_cmp)

-- ---- a port instead of the one of its name

-- ports with another one keep their order
pub with_port_in_order : (port : PortInfo) (xs : List PortInfo) → AreInOrder xs
    → AreInOrder (with_port port xs)
with_port_in_order port xs h =
    put_in_order port (others port.key xs) (others_in_order port.key xs h)
    (none_of_others port.key xs)

inserted_anyway : (m : PortMap) (key : PortKey) (i : PortInfo)
    → finite.insert (finite.remove m key) key i ≡ finite.insert m key i
inserted_anyway m key i =
    same_map port_key_total port_key_exact _ _ (λ q.
    get-insert port_key_total (finite.remove m key) key i q
    ∙ ap (cond (eq_by_cmp port_key_cmp q key) (Some i)) (get-remove port_key_total m key q)
    ∙ hidden (eq_by_cmp port_key_cmp q key) (get m q)
    ∙ sym (get-insert port_key_total m key i q))
  where
    hidden : (b : Bool) (o : Option PortInfo) → cond b (Some i) (cond b None o) ≡ cond b (Some i) o
    hidden true o = refl
    hidden false o = refl

-- and are the map with it
pub with_port_inserted : (port : PortInfo) (xs : List PortInfo) → AreInOrder xs
    → by_name (with_port port xs) ≡ finite.insert (by_name xs) port.key port
with_port_inserted port xs h =
    put_is_insert port (others port.key xs) (others_in_order port.key xs h)
    (none_of_others port.key xs)
    ∙ ap (λ m. finite.insert m port.key port) (others_are_removed port.key xs)
    ∙ inserted_anyway (by_name xs) port.key port
