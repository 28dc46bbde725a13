-- The slices as they are now, where the maps of objects and slices are given as lists.
use Rattle.std.proofs.Common.{◌≡◌, ◌&&◌, ◌++◌, ℕ, Bool, false, not, List, [], ◌∷◌, map, take, drop, filter, bytes_eq, is_some, Option, Some, None, option_and_then, refl, ap, ◌∙◌}
use Rattle.std.specs.List.{fold}
use Rattle.std.specs.FinMap as finite
use Rattle.kp_base.proofs.KeyOrder.{key_total}
use Rattle.kp_base.specs.Keys.{key_cmp}
use Rattle.kp_base.specs.declared.address.Family.{Family}
use Rattle.kp_base.specs.declared.key.ObjectKey.{ObjectKey}
use Rattle.kp_types.specs.Setting.{both_families}
use Rattle.kp_types.specs.declared.event.Event.{Event}
use Rattle.kp_types.specs.declared.service.Service.{Service}
use Rattle.kp_types.specs.declared.slice.Slice.{Slice}
use Rattle.kp_types.specs.declared.slice.Wanted.{Wanted}
use Rattle.kp_object_defs.specs.Desired.{desired_from, has_selector}
use Rattle.kp_object_defs.specs.Objects.{node_key}
use Rattle.kp_object_defs.specs.Order.{in_order}
use Rattle.kp_object_defs.specs.Packing.{packed_slices}
use Rattle.kp_object_defs.specs.PackingLaws.{is_managed_for}
use Rattle.kp_object_defs.specs.SlicesNow.{slices_step, names_absent, without_leftovers, after_packing, after_controller, Synced, sync_step, slices_now}
use Rattle.kp_object_defs.proofs.InOrder.{entries_in_order}
use Rattle.kp_worked.proofs.Events.{Listed, as_objects, step, step_is, steps_are, in_key_order, values_are, found_are}
use Rattle.kp_worked.specs.SlicesNow.{config_of_two, seen_after}

abbrev Entries : Type 0
Entries = List (ObjectKey × Slice)

abbrev as_slices : Entries → finite.FinMap key_cmp Slice
as_slices es = finite.from_entries es

-- a fold over what stands for something else
folded_alike : {A B C : Type 0} (seen : C → B) (f : B → A → B) (g : C → A → C) → ((c : C) (a : A) → f (seen c) a ≡ seen (g c a)) → (xs : List A) (c : C) → fold f (seen c) xs ≡ seen (fold g c xs)
folded_alike seen f g alike [] c = refl
folded_alike seen f g alike (x ∷ xs) c = ap (λ b. fold f b xs) (alike c x) ∙ folded_alike seen f g alike xs (g c x)

-- ---- Events

abbrev slices_listed : Entries → Event → Entries
slices_listed es event = (step (record { services = []; slices = es; pods = []; nodes = [] }) event).slices

slices_alike : (es : Entries) (event : Event) → slices_step (as_slices es) event ≡ as_slices (slices_listed es event)
slices_alike es event = ap (λ o. o.slices) (step_is (record { services = []; slices = es; pods = []; nodes = [] }) event)

-- ---- The controller

abbrev names_absent_in : List (ObjectKey × Service) → List ℕ → Option (List ℕ) → Bool
names_absent_in services namespace None = false
names_absent_in services namespace (Some name) = not (is_some (finite.find key_cmp (record { namespace = namespace; name = name }) services))

abbrev without_left : Listed → Entries → Entries
without_left l es = filter (λ e. not (e.1.managed && names_absent_in l.services e.1.key.namespace e.1.service)) (in_order key_cmp es)

absent_alike : (l : Listed) (namespace : List ℕ) (name : Option (List ℕ)) → names_absent (as_objects l) namespace name ≡ names_absent_in l.services namespace name
absent_alike l namespace None = refl
absent_alike l namespace (Some name) = λ i. not (is_some (found_are l.services i (record { namespace = namespace; name = name })))

left_alike : (l : Listed) (es : Entries) → without_leftovers (as_objects l) (as_slices es) ≡ as_slices (without_left l es)
left_alike l es = λ i. finite.from_entries (filter (λ e. not (e.1.managed && absent_alike l e.1.key.namespace e.1.service i)) (entries_in_order key_total es i))

abbrev wanted_in : Listed → Family → Service → List Wanted
wanted_in l family s = desired_from family (λ name. option_and_then (λ n. n.zone) (finite.find key_cmp (node_key name) l.nodes)) s (in_key_order l.pods)

abbrev packed_in : ℕ → Listed → Service → Entries → Family → Entries
packed_in most l s es family =
    map (λ t. (t.key, t))
    (packed_slices family s.key (filter (is_managed_for family s.key) (in_key_order es)) (wanted_in l family s) most
    (map (λ t. t.key.name) (filter (λ t. bytes_eq t.key.namespace s.key.namespace) (in_key_order es)))).slices
    ++ filter (λ e. not (is_managed_for family s.key e.1)) (in_order key_cmp es)

packed_alike : (most : ℕ) (l : Listed) (s : Service) (es : Entries) (family : Family) → after_packing most (as_objects l) s (as_slices es) family ≡ as_slices (packed_in most l s es family)
packed_alike most l s es family =
    λ i. finite.from_entries
    (map (λ t. (t.key, t))
    (packed_slices family s.key (filter (is_managed_for family s.key) (values_are es i))
    (desired_from family (λ name. option_and_then (λ n. n.zone) (found_are l.nodes i (node_key name))) s (values_are l.pods i)) most
    (map (λ t. t.key.name) (filter (λ t. bytes_eq t.key.namespace s.key.namespace) (values_are es i)))).slices
    ++ filter (λ e. not (is_managed_for family s.key e.1)) (entries_in_order key_total es i))

abbrev controlled_in : List Family → ℕ → Listed → Entries → Entries
controlled_in families most l es = fold (λ so_far s. fold (packed_in most l s) so_far families) (without_left l es) (filter has_selector (in_key_order l.services))

controlled_alike : (families : List Family) (most : ℕ) (l : Listed) (es : Entries) → after_controller families most (as_objects l) (as_slices es) ≡ as_slices (controlled_in families most l es)
controlled_alike families most l es =
    (λ i. fold (λ so_far s. fold (after_packing most (as_objects l) s) so_far families) (left_alike l es i) (filter has_selector (values_are l.services i)))
    ∙ folded_alike as_slices (λ so_far s. fold (after_packing most (as_objects l) s) so_far families) (λ so_far s. fold (packed_in most l s) so_far families)
    (λ so_far s. folded_alike as_slices (after_packing most (as_objects l) s) (packed_in most l s) (packed_alike most l s) families so_far)
    (filter has_selector (in_key_order l.services)) (without_left l es)

-- ---- Syncs, with the controller on

record ListedSync : Type 0 where
  left : List Event
  objects : Listed
  slices : Entries

abbrev as_synced : ListedSync → Synced
as_synced c = record { left = c.left; objects = as_objects c.objects; slices = as_slices c.slices }

abbrev sync_in : List Family → ℕ → ListedSync → ℕ → ListedSync
sync_in families most c n =
    let objects = fold step c.objects (take n c.left) in
    record { left = drop n c.left; objects = objects; slices = controlled_in families most objects (fold slices_listed c.slices (take n c.left)) }

sync_alike : (c : ListedSync) (n : ℕ) → sync_step both_families config_of_two (as_synced c) n ≡ as_synced (sync_in both_families 2 c n)
sync_alike c n =
    let objects = fold step c.objects (take n c.left) in
    (λ i. record {
      left = drop n c.left;
      objects = steps_are c.objects (take n c.left) i;
      slices = after_controller both_families 2 (steps_are c.objects (take n c.left) i) (folded_alike as_slices slices_step slices_listed slices_alike (take n c.left) c.slices i);
    })
    ∙ ap (λ m. record { left = drop n c.left; objects = as_objects objects; slices = m }) (controlled_alike both_families 2 objects (fold slices_listed c.slices (take n c.left)))

-- the slices after events and syncs
abbrev slices_in : List Event → List ℕ → Entries
slices_in events counts =
    let last = fold (sync_in both_families 2) (record { left = events; objects = record { services = []; slices = []; pods = []; nodes = [] }; slices = [] }) counts in
    fold slices_listed last.slices last.left

slices_now_alike : (events : List Event) (counts : List ℕ) → slices_now both_families config_of_two events counts ≡ as_slices (slices_in events counts)
slices_now_alike events counts =
    let start : ListedSync = record { left = events; objects = record { services = []; slices = []; pods = []; nodes = [] }; slices = [] } in
    let last = fold (sync_in both_families 2) start counts in
    ap (λ (c : Synced). fold slices_step c.slices c.left) (folded_alike as_synced (sync_step both_families config_of_two) (sync_in both_families 2) sync_alike counts start)
    ∙ folded_alike as_slices slices_step slices_listed slices_alike last.left last.slices

-- what is seen of them
pub seen_alike : {A : Type 0} (view : Slice → A) (events : List Event) (counts : List ℕ) {seen : List A} → map view (in_key_order (slices_in events counts)) ≡ seen → seen_after view events counts ≡ seen
seen_alike view events counts is = ap (λ m. map view (finite.values m)) (slices_now_alike events counts) ∙ ap (map view) (values_are (slices_in events counts)) ∙ is
