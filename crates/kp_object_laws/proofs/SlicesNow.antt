-- The slices as they are now.
use Rattle.std.proofs.Common.{◌≡◌, ◌+◌, ◌-◌, ◌≤◌, Bool, true, false, cond, not, ◌&&◌, ℕ, List, [], ◌∷◌, ◌++◌, map, take, drop, length, bytes_eq, filter, refl, sym, ap, subst, ◌∙◌, Less, Equal, is_lt, arith, take-append-drop, length-drop}
use Rattle.std.specs.Prelude.{sum}
use Rattle.std.specs.List.{fold, list_all, list_any, AllByRecursion}
use Rattle.std.specs.Cmp.{tied_itself}
use Rattle.std.specs.FinMap as finite
use Rattle.std.specs.FinMap.{is_sorted, entries, get-entries, entries_sorted}
use Rattle.std.specs.FinMap.Entries.{below_all}
use Rattle.std.proofs.lemmas.Bool.{and_from, and_parts, or_from, false_from_ne_true}
use Rattle.std.proofs.lemmas.List.{take-append-le, drop-append-le, take_all, drop_all}
use Rattle.std.proofs.lemmas.List.Sums.{fold-append, sum_by-cons}
use Rattle.std.proofs.lemmas.Slice.Eq.{bytes_eq-Decides}
use Rattle.kp_lemmas.proofs.Booleans.{true_from_fact}
use Rattle.kp_lemmas.proofs.ListFacts.{all_append, all_filter}
use Rattle.kp_lemmas.proofs.Members.{in_filter, from_filter, in_map, any_from, all_from, filter_passes}
use Rattle.kp_lemmas.proofs.Orders.{less_from_test}
use Rattle.kp_base.specs.Keys.{key_cmp}
use Rattle.kp_base.specs.declared.address.Family.{Family}
use Rattle.kp_base.specs.declared.config.Config.{Config}
use Rattle.kp_base.specs.declared.key.ObjectKey.{ObjectKey}
use Rattle.kp_base.proofs.KeyOrder.{key_total, key_exact}
use Rattle.kp_types.specs.declared.event.Event.{Event}
use Rattle.kp_types.specs.declared.event.Event.TheVariants.{Apply, Delete}
use Rattle.kp_types.specs.declared.event.Kind.TheVariants as kind
use Rattle.kp_types.specs.declared.event.Object.TheVariants as object
use Rattle.kp_types.specs.declared.service.Service.{Service}
use Rattle.kp_types.specs.declared.slice.Slice.{Slice}
use Rattle.kp_object_defs.specs.Desired.{has_selector}
use Rattle.kp_object_defs.specs.Entries.{is_of_service, is_named, is_type_of}
use Rattle.kp_object_defs.specs.Objects.{Objects, no_objects, objects_step}
use Rattle.kp_object_defs.specs.OwnKeys.{IsUnderOwnKeys}
use Rattle.kp_object_defs.specs.PackingLaws.{have_own_names, are_managed_for, is_managed_for}
use Rattle.kp_object_defs.specs.SlicesNow.{Slices, slices_step, is_leftover, managed_slices, names_in, packed_now, after_packing, after_controller, controller_step, Synced, sync_step, synced, slices_now}
use Rattle.kp_object_laws.specs.SliceLaws.{SlicesAsFed, SlicesWithoutController, SlicesAfterEvent, SlicesAfterSync, SlicesUnderOwnKeys, ManagedCanBePacked}
use Rattle.kp_object_laws.proofs.OwnEntries.{owned, AreOwn, own_entries, filter_in_order}
use Rattle.kp_object_laws.proofs.OwnKeys.{of_none, of_inserted, own_at_first, own_after_event, values_in_order}

-- ---- Slices as they were fed

step_same : (o : Objects) (event : Event) → (objects_step o event).slices ≡ slices_step o.slices event
step_same o (Apply (object.Service s)) = refl
step_same o (Apply (object.EndpointSlice s)) = refl
step_same o (Apply (object.Pod p)) = refl
step_same o (Apply (object.Node n)) = refl
step_same o (Delete kind.Service key) = refl
step_same o (Delete kind.EndpointSlice key) = refl
step_same o (Delete kind.Pod key) = refl
step_same o (Delete kind.Node key) = refl

fed : (events : List Event) (o : Objects) → fold slices_step o.slices events ≡ (fold objects_step o events).slices
fed [] o = refl
fed (e ∷ es) o = ap (λ m. fold slices_step m es) (sym (step_same o e)) ∙ fed es _

pub as_fed : SlicesAsFed
as_fed families config events = fed events no_objects

-- ---- Syncs

split_fold : {A B : Type 0} (f : B → A → B) (a : B) (n : ℕ) (xs : List A) → fold f (fold f a (take n xs)) (drop n xs) ≡ fold f a xs
split_fold f a n xs = sym (fold-append f a (take n xs) (drop n xs)) ∙ ap (fold f a) (take-append-drop n xs)

-- the events that no sync covers lead from the objects of the last sync to all
covered : (families : List Family) (config : Config) (counts : List ℕ) (c : Synced)
    → let last = fold (sync_step families config) c counts in fold objects_step last.objects last.left ≡ fold objects_step c.objects c.left
covered families config [] c = refl
covered families config (n ∷ ns) c = covered families config ns _ ∙ split_fold objects_step c.objects n c.left

off_same : (families : List Family) (config : Config) (o : Objects) (slices : Slices) → config.controller ≡ false → controller_step families config o slices ≡ slices
off_same families config o slices off = ap (λ b. cond b (after_controller families config.max_per_slice o slices) slices) off

without_by : (families : List Family) (config : Config) → config.controller ≡ false → (counts : List ℕ) (c : Synced) → c.slices ≡ c.objects.slices
    → let last = fold (sync_step families config) c counts in last.slices ≡ last.objects.slices
without_by families config off [] c same = same
without_by families config off (n ∷ ns) c same =
    without_by families config off ns (sync_step families config c n)
    (off_same families config (fold objects_step c.objects (take n c.left)) _ off
    ∙ ap (λ m. fold slices_step m (take n c.left)) same ∙ fed (take n c.left) c.objects)

pub without_controller : SlicesWithoutController
without_controller families config events counts off =
    let last = synced families config events counts in
    ap (λ m. fold slices_step m last.left) (without_by families config off counts _ refl)
    ∙ fed last.left last.objects ∙ ap (λ (o : Objects). o.slices) (covered families config counts _)

-- ---- One more event

sum_cons : (n : ℕ) (ns : List ℕ) → sum (n ∷ ns) ≡ n + sum ns
sum_cons n ns = sum_by-cons (λ x. x) n ns

-- one more event that no sync covers
abbrev with_event : Synced → Event → Synced
with_event c e = record { left = c.left ++ e ∷ []; objects = c.objects; slices = c.slices }

with_event_step : (families : List Family) (config : Config) (c : Synced) (e : Event) (n : ℕ) → n ≤ length c.left
    → sync_step families config (with_event c e) n ≡ with_event (sync_step families config c n) e
with_event_step families config c e n few =
    let taken = take-append-le n c.left (e ∷ []) few in
    let behind = drop-append-le n c.left (e ∷ []) few in
    λ i. record {
      left = behind i;
      objects = fold objects_step c.objects (taken i);
      slices = controller_step families config (fold objects_step c.objects (taken i)) (fold slices_step c.slices (taken i));
    }

with_event_synced : (families : List Family) (config : Config) (counts : List ℕ) (c : Synced) (e : Event) → sum counts ≤ length c.left
    → fold (sync_step families config) (with_event c e) counts ≡ with_event (fold (sync_step families config) c counts) e
with_event_synced families config [] c e few = refl
with_event_synced families config (n ∷ ns) c e few =
    let parts : sum (n ∷ ns) ≡ n + sum ns = sum_cons n ns in
    ap (λ d. fold (sync_step families config) d ns) (with_event_step families config c e n (omega arith))
    ∙ with_event_synced families config ns _ e (let left : length (drop n c.left) ≡ length c.left - n = length-drop n c.left in omega arith)

pub after_event : SlicesAfterEvent
after_event families config events counts event few =
    ap (λ (last : Synced). fold slices_step last.slices last.left) (with_event_synced families config counts _ event few)
    ∙ fold-append slices_step (synced families config events counts).slices (synced families config events counts).left _

-- ---- One more sync

length_left : (families : List Family) (config : Config) (counts : List ℕ) (c : Synced) → sum counts ≤ length c.left
    → length (fold (sync_step families config) c counts).left ≡ length c.left - sum counts
length_left families config [] c few = omega arith
length_left families config (n ∷ ns) c few =
    let parts : sum (n ∷ ns) ≡ n + sum ns = sum_cons n ns in
    let left : length (drop n c.left) ≡ length c.left - n = length-drop n c.left in
    let rest = length_left families config ns _ (omega arith) in
    rest ∙ omega arith

whole_step : (families : List Family) (config : Config) (c : Synced) (n : ℕ) → length c.left ≡ n
    → let next = sync_step families config c n in
    fold slices_step next.slices next.left ≡ controller_step families config (fold objects_step c.objects c.left) (fold slices_step c.slices c.left)
whole_step families config c n all =
    ap (fold slices_step (sync_step families config c n).slices) (drop_all n c.left (omega arith))
    ∙ ap (λ es. controller_step families config (fold objects_step c.objects es) (fold slices_step c.slices es)) (take_all n c.left (omega arith))

pub after_sync : SlicesAfterSync
after_sync families config events counts few =
    let last = synced families config events counts in
    ap (λ (next : Synced). fold slices_step next.slices next.left) (fold-append _ _ counts _)
    ∙ whole_step families config last _ (length_left families config counts _ few)
    ∙ ap (λ o. controller_step families config o (slices_now families config events counts)) (covered families config counts _)

-- ---- Own keys

own_step : (slices : Slices) (event : Event) → IsUnderOwnKeys (λ (s : Slice). s.key) slices → IsUnderOwnKeys (λ (s : Slice). s.key) (slices_step slices event)
own_step slices event own =
    (own_after_event (record no_objects { slices = slices }) event (record { services = own_at_first.services; slices = own; pods = own_at_first.pods; nodes = own_at_first.nodes })).slices

own_fed : (events : List Event) (slices : Slices) → IsUnderOwnKeys (λ (s : Slice). s.key) slices → IsUnderOwnKeys (λ (s : Slice). s.key) (fold slices_step slices events)
own_fed [] slices own = own
own_fed (e ∷ es) slices own = own_fed es _ (own_step slices e own)

-- entries under the keys of their slices
abbrev AreOwnSlices : List (ObjectKey × Slice) → Type 0
AreOwnSlices es = AllByRecursion (λ e. e.0 ≡ e.1.key) es

own_made : (es : List (ObjectKey × Slice)) → AreOwnSlices es → IsUnderOwnKeys (λ (s : Slice). s.key) (finite.from_entries es)
own_made [] own = of_none (λ (s : Slice). s.key)
own_made (e ∷ es) own =
    subst (λ k. IsUnderOwnKeys (λ (s : Slice). s.key) (finite.insert (finite.from_entries es) k e.1)) (sym own.0)
    (of_inserted (λ (s : Slice). s.key) _ e.1 (own_made es own.1))

-- what each step keeps holds at the end
kept_by : {A B : Type 0} (P : B → Type 0) (f : B → A → B) → ((b : B) (a : A) → P b → P (f b a)) → (xs : List A) (b : B) → P b → P (fold f b xs)
kept_by P f keep [] b h = h
kept_by P f keep (x ∷ xs) b h = kept_by P f keep xs (f b x) (keep b x h)

all_own : (es : List (ObjectKey × Slice)) → AreOwn key_total key_exact (λ s. s.key) es → AreOwnSlices es
all_own [] own = tt
all_own (e ∷ es) own = (own.0, all_own es own.1)

own_entries_of : (m : Slices) → IsUnderOwnKeys (λ (s : Slice). s.key) m → AreOwnSlices (entries m)
own_entries_of m own =
    all_own _
    (own_entries key_total key_exact (λ s. s.key) _ (true_from_fact _ (entries_sorted m)) (λ k x h. own k x (get-entries m k ∙ h)))

own_packed : (slices : List Slice) → AreOwnSlices (map (λ s. (s.key, s)) slices)
own_packed [] = tt
own_packed (s ∷ ss) = (refl, own_packed ss)

own_controlled : (families : List Family) (config : Config) (o : Objects) (slices : Slices) → IsUnderOwnKeys (λ (s : Slice). s.key) slices → IsUnderOwnKeys (λ (s : Slice). s.key) (controller_step families config o slices)
own_controlled families config o slices own = by _
  where
    filtered : (m : Slices) → IsUnderOwnKeys (λ (s : Slice). s.key) m → (test : ObjectKey × Slice → Bool) → AreOwnSlices (filter test (entries m))
    filtered m owned test = all_filter (λ e. e.0 ≡ e.1.key) test _ (own_entries_of m owned)

    packed : (s : Service) (family : Family) (m : Slices) → IsUnderOwnKeys (λ (s : Slice). s.key) m → IsUnderOwnKeys (λ (s : Slice). s.key) (after_packing config.max_per_slice o s m family)
    packed s family m owned =
        own_made _ (all_append (λ e. e.0 ≡ e.1.key) _ _
        (own_packed (packed_now family config.max_per_slice o s m).slices) (filtered m owned (λ e. not (is_managed_for family s.key e.1))))

    by : (b : Bool) → IsUnderOwnKeys (λ (s : Slice). s.key) (cond b (after_controller families config.max_per_slice o slices) slices)
    by true =
        kept_by (λ m. IsUnderOwnKeys (λ (s : Slice). s.key) m) (λ so_far s. fold (after_packing config.max_per_slice o s) so_far families)
        (λ m s owned. kept_by (λ n. IsUnderOwnKeys (λ (s : Slice). s.key) n) _ (λ n family. packed s family n) families m owned)
        (filter has_selector (finite.values o.services)) _ (own_made _ (filtered slices own (λ e. not (is_leftover o e.1))))
    by false = own

own_synced : (families : List Family) (config : Config) (counts : List ℕ) (c : Synced) → IsUnderOwnKeys (λ (s : Slice). s.key) c.slices → IsUnderOwnKeys (λ (s : Slice). s.key) (fold (sync_step families config) c counts).slices
own_synced families config [] c own = own
own_synced families config (n ∷ ns) c own =
    own_synced families config ns _
    (own_controlled families config (fold objects_step c.objects (take n c.left)) _ (own_fed (take n c.left) c.slices own))

pub under_own_keys : SlicesUnderOwnKeys
under_own_keys families config events counts =
    let last = synced families config events counts in
    own_fed last.left last.slices (own_synced families config counts _ own_at_first.slices)

-- ---- What packing asks

-- keys of one namespace, of which one is below the other, have different names
other_names : (a b : ObjectKey) → a.namespace ≡ b.namespace → key_cmp a b ≡ Less → bytes_eq a.name b.name ≡ false
other_names a b same less =
    false_from_ne_true _ (λ e.
    let names : a.name ≡ b.name = (bytes_eq-Decides a.name b.name).0 e in
    let keys : a ≡ b = λ i. record { namespace = same i; name = names i } in
    let tied : key_cmp a b ≡ Equal = ap (key_cmp a) (sym keys) ∙ tied_itself key_total a in
    cc)

module _ (namespace : List ℕ) where
  -- slices of the namespace
  abbrev AreThere : List Slice → Type 0
  AreThere slices = AllByRecursion (λ s. s.key.namespace ≡ namespace) slices

  later_names : (key : ObjectKey) → key.namespace ≡ namespace → (slices : List Slice) → AreThere slices → below_all key_cmp key (owned (λ s. s.key) slices) ≡ true
      → list_any (bytes_eq key.name) (map (λ s. s.key.name) slices) ≡ false
  later_names key here [] there h = refl
  later_names key here (s ∷ ss) there h =
      let parts = and_parts (is_lt (key_cmp key s.key)) (below_all key_cmp key (owned (λ t. t.key) ss)) h in
      or_from _ _ (other_names key s.key (here ∙ sym there.0) (less_from_test _ parts.0)) (later_names key here ss there.1 parts.1)

  own_names : (slices : List Slice) → AreThere slices → is_sorted key_cmp (owned (λ s. s.key) slices) ≡ true → have_own_names slices ≡ true
  own_names [] there h = refl
  own_names (s ∷ ss) there h =
      let parts = and_parts (below_all key_cmp s.key (owned (λ t. t.key) ss)) (is_sorted key_cmp (owned (λ t. t.key) ss)) h in
      and_from _ _ (ap not (later_names s.key there.0 ss there.1 parts.0)) (own_names ss there.1 parts.1)

managed_there : (family : Family) (service : ObjectKey) (s : Slice) → is_managed_for family service s ≡ true → bytes_eq s.key.namespace service.namespace ≡ true
managed_there family service s h =
    let of_service = and_parts (is_of_service service s) (s.managed && is_type_of family s.family) h in
    (and_parts (bytes_eq s.key.namespace service.namespace) (is_named service.name s.service) of_service.0).0

all_there : (family : Family) (service : ObjectKey) (slices : List Slice) → list_all (is_managed_for family service) slices ≡ true → AllByRecursion (λ s. s.key.namespace ≡ service.namespace) slices
all_there family service [] h = tt
all_there family service (s ∷ ss) h =
    let parts = and_parts (is_managed_for family service s) (list_all (is_managed_for family service) ss) h in
    ((bytes_eq-Decides _ _).0 (managed_there family service s parts.0), all_there family service ss parts.1)

pub managed_can_be_packed : ManagedCanBePacked
managed_can_be_packed family service slices own =
    let managed : List Slice = managed_slices family service slices in
    let pass : are_managed_for family service managed ≡ true = filter_passes (is_managed_for family service) (finite.values slices) in
    let in_order : is_sorted key_cmp (owned (λ s. s.key) managed) ≡ true = filter_in_order key_total key_exact (λ s. s.key) (is_managed_for family service) (finite.values slices) (values_in_order (λ s. s.key) slices own) in (
      pass,
      own_names service.namespace managed (all_there family service managed pass) in_order,
      all_from (λ s. list_any (bytes_eq s.key.name) (names_in service.namespace slices)) managed (λ s c.
          let (in_values, is) = from_filter (is_managed_for family service) s (finite.values slices) c in
          any_from _ s.key.name _
          (in_map (λ (t : Slice). t.key.name) s _ (in_filter (λ t. bytes_eq t.key.namespace service.namespace) s (finite.values slices) in_values (managed_there family service s is)))
          ((bytes_eq-Decides s.key.name s.key.name).1 refl)),
    )
