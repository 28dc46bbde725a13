-- Ports that are staged one after another, in the order of their names.
use Rattle.std.proofs.Common.{◌≡◌, ℕ, zero, suc, ◌+◌, ◌<◌, ◌≤◌, length, get_or, arith, Bool, true}
use Rattle.std.proofs.Common.{false, cond, ◌||◌, List, [], ◌∷◌, ◌++◌, map, take, slice_get, Option}
use Rattle.std.proofs.Common.{Some, None, refl, sym, ap, ◌∙◌}
use Rattle.std.specs.FinMap.{find, get}
use Rattle.std.specs.List.{list_all, sum_by}
use Rattle.std.specs.Ordering.{eq_by_cmp, is_eq, is_lt, ordering_reverse}
use Rattle.std.proofs.lemmas.Bool.{and_parts}
use Rattle.std.proofs.lemmas.Option.{same_Some}
use Rattle.std.proofs.lemmas.List.{map-append, take_more}
use Rattle.std.proofs.lemmas.List.Sums.{sum_by_push}
use Rattle.std.proofs.lemmas.List.Folds.{list_any-append}
use Rattle.kp_lemmas.proofs.Orders.{less_from_test, one_from_tie}
use Rattle.kp_base.specs.Keys.{port_key_cmp}
use Rattle.kp_base.specs.declared.address.Family.{Family}
use Rattle.kp_base.specs.declared.key.PortKey.{PortKey}
use Rattle.kp_base.proofs.KeyOrder.{port_key_exact, port_key_total}
use Rattle.kp_types.specs.Setting.{FamilyConfig}
use Rattle.kp_object_defs.specs.Objects.{Objects}
use Rattle.kp_object_defs.specs.Order.{rises}
use Rattle.kp_object_defs.specs.PortByKey.{info_at}
use Rattle.kp_object_defs.specs.PortInfo.{PortInfo}
use Rattle.kp_history_laws.specs.EventLaws.{has_port}
use Rattle.kp_tracker.specs.Tracked.{updated}
use Rattle.kp_tracker.proofs.Newest.{got_updated, update_or}
use Rattle.kp_vmap_defs.specs.declared.door.Destination.{Destination}
use Rattle.kp_vmap.specs.Family.{AreStaged, IsNext, IsPlaced, known_in}
use Rattle.kp_vmap.specs.Places.{Answers, PortMap, at_place, if_at, staged_at}
use Rattle.kp_vmap.specs.declared.family.FamilyPorts.{FamilyPorts}
use Rattle.kp_vmap.specs.declared.family.Next.{Next}

-- ---- names in order

found_below : (k key : PortKey) (ks : List PortKey) (i : ℕ)
    → list_all (λ l. is_lt (port_key_cmp k l)) ks ≡ true
    → slice_get ks i ≡ Some key → is_lt (port_key_cmp k key) ≡ true
found_below k key [] i h at = absurd (cc)
found_below k key (l ∷ ks) zero h at =
    ap (λ o. is_lt (port_key_cmp k o)) (sym (same_Some l key at))
    ∙ (and_parts (is_lt (port_key_cmp k l)) _ h).0
found_below k key (l ∷ ks) (suc i) h at =
    found_below k key ks i (and_parts (is_lt (port_key_cmp k l)) _ h).1 at

other_below : (k key : PortKey) → is_lt (port_key_cmp k key) ≡ true
    → eq_by_cmp port_key_cmp key k ≡ false
other_below k key h =
    ap is_eq (port_key_total.antisymm key k
    ∙ ap ordering_reverse (less_from_test (port_key_cmp k key) h))

neither : (a b : Bool) → a ≡ false → b ≡ false → a || b ≡ false
neither a b g h = (λ i. g i || h i)

-- of names in order, none stands before itself
pub not_before : (ks : List PortKey) (i : ℕ) (key : PortKey) → rises port_key_cmp ks ≡ true
    → slice_get ks i ≡ Some key
    → has_port (take i ks) key ≡ false
not_before ks zero key h at = refl
not_before [] (suc i) key h at = refl
not_before (k ∷ ks) (suc i) key h at =
    let parts = and_parts (list_all (λ l. is_lt (port_key_cmp k l)) ks) (rises port_key_cmp ks) h in
    neither (eq_by_cmp port_key_cmp key k) (has_port (take i ks) key)
    (other_below k key (found_below k key ks i parts.0 at))
    (not_before ks i key parts.1 at)

or_nothing : (a b : Bool) → a || (b || false) ≡ a || b
or_nothing true b = refl
or_nothing false true = refl
or_nothing false false = refl

has_more : (ks : List PortKey) (key q : PortKey)
    → has_port (ks ++ key ∷ []) q ≡ has_port ks q || eq_by_cmp port_key_cmp q key
has_more ks key q =
    list_any-append (eq_by_cmp port_key_cmp q) ks (key ∷ [])
    ∙ or_nothing (has_port ks q) (eq_by_cmp port_key_cmp q key)

-- ---- one more dirty port

either_way : {X : Type 0} (a t : Bool) (v w was : X) → (t ≡ true → w ≡ v)
    → cond t w (cond a v was) ≡ cond (a || t) v was
either_way true true v w was h = h refl
either_way true false v w was h = refl
either_way false true v w was h = h refl
either_way false false v w was h = refl

pub staged_one_more : (family : Family) (config : FamilyConfig) (o : Objects)
    (kept before after : List (Destination × PortMap)) (ks more : List PortKey) (key : PortKey)
    → ks ++ key ∷ [] ≡ more
    → AreStaged family config o ks kept before
    → ((d : Destination) → Answers key (if_at d (info_at family config o key))
    (staged_at kept before d) (staged_at kept after d))
    → AreStaged family config o more kept after
staged_one_more family config o kept before after ks more key is so_far step d q =
    let tie = eq_by_cmp port_key_cmp q key in
    let known : PortKey → Option PortInfo = λ k. if_at d (info_at family config o k) in
    step d q
    ∙ ap (cond tie (known key)) (so_far d q)
    ∙ either_way (has_port ks q) tie (known q) (known key) (get (at_place kept d) q)
    (λ h. ap known (sym (one_from_tie port_key_exact q key h)))
    ∙ ap (λ b. cond b (known q) (get (at_place kept d) q))
    (sym (has_more ks key q) ∙ ap (λ l. has_port l q) is)

-- with what is known of it
pub known_one_more : {X : Type 0} (known : PortKey → X) (before after : List (PortKey × X))
    (ks more : List PortKey) (key : PortKey)
    → ks ++ key ∷ [] ≡ more
    → before ≡ map (λ k. (k, known k)) ks
    → after ≡ before ++ (key, known key) ∷ []
    → after ≡ map (λ k. (k, known k)) more
known_one_more known before after ks more key is so_far step =
    step
    ∙ ap (λ es. es ++ (key, known key) ∷ []) so_far
    ∙ sym (map-append (λ k. (k, known k)) ks (key ∷ []))
    ∙ ap (map (λ k. (k, known k))) is

-- a port that isn't staged yet is where it was kept
pub untouched_yet : (family : Family) (config : FamilyConfig) (o : Objects) (f : FamilyPorts)
    (staged : List (Destination × PortMap)) (ks : List PortKey) (key : PortKey)
    → IsPlaced f
    → AreStaged family config o ks f.places.entries staged
    → has_port ks key ≡ false
    → (d : Destination)
    → get (staged_at f.places.entries staged d) key ≡ if_at d (get (known_in f) key)
untouched_yet family config o f staged ks key h so_far new d =
    so_far d key
    ∙ ap (λ b. cond b (if_at d (info_at family config o key))
    (get (at_place f.places.entries d) key)) new
    ∙ h.places d key

-- ---- what is kept then

-- what the changes of dirty ports answer
pub changes_found : {X : Type 0} (known : PortKey → X) (ks : List PortKey) (q : PortKey)
    → find port_key_cmp q (map (λ k. (k, known k)) ks) ≡ cond (has_port ks q) (Some (known q)) None
changes_found known [] q = refl
changes_found {X} known (k ∷ ks) q = by (eq_by_cmp port_key_cmp q k) refl (changes_found known ks q)
  where
    by : (t : Bool) → eq_by_cmp port_key_cmp q k ≡ t
        → find port_key_cmp q (map (λ l. (l, known l)) ks)
        ≡ cond (has_port ks q) (Some (known q)) None
        → cond t (Some (known k)) (find port_key_cmp q (map (λ l. (l, known l)) ks))
        ≡ cond (t || has_port ks q) (Some (known q)) None
    by true tie rest = ap (λ l. Some (known l)) (sym (one_from_tie port_key_exact q k tie))
    by false other rest = rest

updated_if : {X : Type 0} (b : Bool) (v was : Option X)
    → update_or (cond b (Some v) None) was ≡ cond b v was
updated_if true v was = refl
updated_if false v was = refl

pub kept_ports : (known : PortKey → Option PortInfo) (m : PortMap) (ks : List PortKey) (q : PortKey)
    → get (updated port_key_cmp m (map (λ k. (k, known k)) ks)) q
    ≡ cond (has_port ks q) (known q) (get m q)
kept_ports known m ks q =
    got_updated port_key_total m (map (λ k. (k, known k)) ks) q
    ∙ ap (λ o. update_or o (get m q)) (changes_found known ks q)
    ∙ updated_if (has_port ks q) (known q) (get m q)

through : (d : Destination) (b : Bool) (v was : Option PortInfo)
    → cond b (if_at d v) (if_at d was) ≡ if_at d (cond b v was)
through d true v was = refl
through d false v was = refl

-- ports are at the destinations of their doors again, once what was staged is kept
pub placed_again : (family : Family) (config : FamilyConfig) (o : Objects) (dirty : List PortKey)
    (f g : FamilyPorts) (next : Next)
    → IsPlaced f
    → IsNext family config o dirty f.places.entries next
    → known_in g ≡ updated port_key_cmp (known_in f) next.ports.items
    → ((d : Destination) → at_place g.places.entries d
    ≡ staged_at f.places.entries next.places.entries d)
    → (d : Destination) (key : PortKey)
    → get (at_place g.places.entries d) key ≡ if_at d (get (known_in g) key)
placed_again family config o dirty f g next h is ports places d key =
    let known : PortKey → Option PortInfo = info_at family config o in
    let now : get (known_in g) key ≡ cond (has_port dirty key) (known key) (get (known_in f) key) =
    ap (λ m. get m key) (ports ∙ ap (updated port_key_cmp (known_in f)) is.ports)
    ∙ kept_ports known (known_in f) dirty key in
    ap (λ m. get m key) (places d)
    ∙ is.places d key
    ∙ ap (cond (has_port dirty key) (if_at d (known key))) (h.places d key)
    ∙ through d (has_port dirty key) (known key) (get (known_in f) key)
    ∙ ap (if_at d) (sym now)

-- ---- one after another

-- the element at a place of a list
pub slice_of_item : {X : Type 0} (xs : List X) (i : ℕ) (x : X) → i < length xs → x ≡ get_or xs i x
    → slice_get xs i ≡ Some x
slice_of_item [] i x low is = absurd (omega (arith, low))
slice_of_item (y ∷ xs) zero x low is = ap Some (sym is)
slice_of_item (y ∷ xs) (suc i) x low is = slice_of_item xs i x (omega (arith, low)) is

-- the steps of one more element
pub sum_of_more : {X : Type 0} (f : X → ℕ) (xs : List X) (i : ℕ) (x : X) (start before after : ℕ)
    → i < length xs → x ≡ get_or xs i x
    → before ≤ start + sum_by f (take i xs) → after ≤ before + f x
    → after ≤ start + sum_by f (take (i + 1) xs)
sum_of_more f xs i x start before after low is h g =
    let next : take (i + 1) xs ≡ take i xs ++ x ∷ [] =
    take_more xs i x low ∙ ap (λ q. take i xs ++ q ∷ []) (sym is) in
    omega (arith, h, g, ap (sum_by f) next, sum_by_push f (take i xs) x)
