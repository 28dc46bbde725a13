-- What a writer makes between what the last sync covers and all events.
use Rattle.std.proofs.Common.{Bool, false, cond, Option, None, Some, IfSome, is_some, ◌≡◌, ◌≤◌, ◌<◌, ◌+◌, ◌*◌, ◌++◌, ℕ, true, List, [], ◌∷◌, filter_map}
use Rattle.std.proofs.Common.{flat_map, length, map, not, slice_get, sum, sum_by, take, drop, refl, sym}
use Rattle.std.proofs.Common.{ap, subst, ◌∙◌, arith, le_refl, Result, Ok, Err, OnErr}
use Rattle.std.specs.List.{AllByRecursion, list_any}
use Rattle.std.proofs.lemmas.List.{length-map, take_all}
use Rattle.std.specs.FinMap as finite
use Rattle.std.proofs.lemmas.List.Kept.{IsStrictlySortedBy-filter}
use Rattle.kp_base.specs.Keys.{port_key_cmp}
use Rattle.kp_base.specs.Net.{same_family}
use Rattle.kp_base.specs.declared.address.Family.{Family}
use Rattle.kp_base.specs.declared.address.Family.TheVariants.{V4, V6}
use Rattle.kp_base.specs.declared.config.Config.{Config}
use Rattle.kp_base.specs.declared.key.PortKey.{PortKey}
use Rattle.kp_base.proofs.KeyOrder.{port_key_total}
use Rattle.kp_types.specs.Setting.{both_families, has_tables_of, table_families}
use Rattle.kp_types.specs.declared.chain.Clash.{Clash}
use Rattle.kp_types.specs.declared.event.Event.{Event}
use Rattle.kp_choice_defs.specs.Settings.{setting_of, settings_of}
use Rattle.kp_object_defs.specs.Objects.{Objects, objects_after}
use Rattle.kp_object_defs.specs.OwnKeys.{AreUnderOwnKeys}
use Rattle.kp_object_defs.specs.PortByKey.{port_keys_of}
use Rattle.kp_object_defs.specs.PortInfo.{PortInfo, infos_by_family}
use Rattle.kp_object_laws.specs.ObjectLaws.{OwnKeysAfterEvents}
use Rattle.kp_table_defs.specs.Edits.{SameRulesAreEqual, changes_of}
use Rattle.kp_table_defs.specs.Rebuild as rebuild
use Rattle.kp_table_defs.specs.Rebuild.{Chains, TableParts, clash_among, full_chains}
use Rattle.kp_table_laws.specs.Families.{ChangesOfNode, FamilyStandsAlone, NoClashInFamilies}
use Rattle.kp_history_defs.specs.DirtyPorts.{dirty_ports, keeps_info}
use Rattle.kp_history_defs.specs.Inputs.{ports_of_either}
use Rattle.kp_history_defs.specs.History.{covered}
use Rattle.kp_history_laws.specs.DirtyLaws.{CleanInfos, NoneDirty}
use Rattle.kp_history.specs.Invariant.{IsHistory}
use Rattle.kp_history.specs.Parts.{next_edits}
use Rattle.kp_history.specs.declared.history.History.{History}
use Rattle.kp_history.proofs.Synced.{within}
use Rattle.kp_touch_laws.specs.TouchLaws.{touches_one}
use Rattle.kp_store.specs.Touched.{is_touched}
use Rattle.kp_store.specs.declared.touched.Touched.{Touched}
use Rattle.kp_writer.specs.Known.{ArePortsOf, DirtyNewest, IsBetween, KnownDirtyPorts, KnownPorts}
use Rattle.kp_writer.specs.Known.{pending_ports}
use Rattle.kp_writer.specs.Own.{own_rule_count}
use Rattle.kp_writer.specs.Written as written
use Rattle.kp_writer.specs.Written.{Ports, WriterParts, chains_of, setting_in}
use Rattle.kp_writer.proofs.OneList.{distinct_rise}
use Rattle.kp_plane.specs.Counts.{IsCounted}
use Rattle.kp_plane.specs.Families.{Both, HasDirty, HasNoClash, IsNewest, IsWritten, Stands}
use Rattle.kp_plane.specs.Families.{listed, newest_clash}
use Rattle.kp_plane.specs.Families.{own_dirty_rules, per_family, rules_by, rules_in}
use Rattle.kp_plane.specs.declared.per_family.PerFamily.{PerFamily}
use Rattle.kp_table_laws.specs.Families.{HasTablesOf}
use Rattle.kp_object_defs.specs.PortByKey.{info_at}
use Rattle.kp_object_defs.specs.PortInfo.{port_infos}
use Rattle.kp_history_defs.specs.DirtyPorts.{dirty_keys}
use Rattle.kp_plane.specs.Invariant.{Holds, IsAtPlace, IsBroughtOn, IsMade, IsNext, IsPortsAt}
use Rattle.kp_plane.specs.Invariant.{IsUpToDate, touched_between}
use Rattle.kp_plane.specs.Known.{AreDirty, rules_of, touched_count}
use Rattle.kp_plane.specs.Parts.{PlaneParts, dirty_infos, is_touched_since, most_asked, most_steps}
use Rattle.kp_plane.specs.Parts.{next_dirty, objects_before, objects_in, settings_in, syncs_in}
use Rattle.kp_plane.specs.Past.{LeadPastOthers}
use Rattle.kp_plane.specs.declared.next.Next.{Next}
use Rattle.kp_plane.specs.declared.place.ObjectsAt.{ObjectsAt}
use Rattle.kp_plane.specs.declared.ports_at.PortsAt.{PortsAt}
use Rattle.kp_plane.proofs.Each.{all_listed, both_are, both_from, both_weaker, families_of}
use Rattle.kp_plane.proofs.Start.{none_dirty}
use Rattle.kp_plane.proofs.Synced.{at_end, leads_nowhere, none_left, nothing_new}
use Rattle.kp_plane.proofs.Unchanged.{none_of}
use Rattle.kp_plane.proofs.Writers.{filter_maps_by, flat_maps_by, sum_of_both, sums_by}

-- what is known of ports at a later place
pub brought_on : (p : PlaneParts) (s t : PortsAt) → IsPortsAt p s → IsBroughtOn p.config p.events s t
    → IsPortsAt p t
brought_on p s t is on = record {
  place = on.place;
  dual = on.dual ∙ is.dual;
  written = on.written (objects_in p) is.written;
  untouched = on.untouched;
  since = on.since (sum p.counts) is.since;
  past = λ k none.
      let left = on.past (objects_in p) k none in left.1 (is.past k left.0);
  last = subst (λ (t : Touched). LeadPastOthers (settings_in p) (objects_before p) (objects_in p)
      (is_touched t)) (sym on.last) is.last;
  dirty = on.dirty ∙ is.dirty;
}

-- a writer's setting is that of its family
setting_is : (config : Config) (o : Objects) (family : Family) (w : WriterParts)
    → IsWritten config o family w → setting_in w ≡ setting_of family config
setting_is config o family w is = λ i. setting_of (is.family i) (is.config i)

-- the node has tables of each family that there is something of
has_both : {T : Type 0} (config : Config) (x : PerFamily T) → is_some x.six ≡ config.dual
    → Both (λ family t. has_tables_of family (settings_of config) ≡ true) x
has_both {T} config x dual = (four config.dual, by x.six dual)
  where
    four : (b : Bool) → list_any (same_family V4) (cond b both_families (V4 ∷ [])) ≡ true
    four true = refl
    four false = refl

    by : (o : Option T) → is_some o ≡ config.dual
        → IfSome o (λ t. has_tables_of V6 (settings_of config) ≡ true)
    by None dual = tt
    by (Some t) dual =
        ap (λ d. list_any (same_family V6) (cond d both_families (V4 ∷ []))) (sym dual)

-- in each family the names of its dirty ports have those of which something else was written
pub are_dirty : CleanInfos → OwnKeysAfterEvents → (p : PlaneParts) (x : PerFamily WriterParts)
    → Both (IsWritten p.config (objects_in p)) x
    → Both (HasDirty (objects_after p.events) (λ family. next_dirty family p)) x
are_dirty clean own p x =
    both_weaker (IsWritten p.config (objects_in p))
    (HasDirty (objects_after p.events) (λ family. next_dirty family p)) x one
  where
    dirty : (family : Family) (m : Ports) → ArePortsOf (setting_of family p.config) (objects_in p) m
        → AreDirty (setting_of family p.config) m (objects_after p.events) (next_dirty family p)
    dirty family m are = record {
      in_order = IsStrictlySortedBy-filter port_key_cmp
          (λ key. not (keeps_info (setting_of family p.config) (objects_in p)
          (objects_after p.events) key))
          (ports_of_either (objects_in p) (objects_after p.events))
          (distinct_rise port_key_cmp port_key_total
          (flat_map port_keys_of (finite.values (objects_in p).services)
          ++ flat_map port_keys_of (finite.values (objects_after p.events).services)));
      rest = λ key h.
          are key
          ∙ sym (clean (setting_of family p.config) (objects_in p) (objects_after p.events) key
          (own (covered p.events p.counts (syncs_in p))) (own p.events) h);
    }

    one : (family : Family) (w : WriterParts) → IsWritten p.config (objects_in p) family w
        → HasDirty (objects_after p.events) (λ f. next_dirty f p) family w
    one family w is =
        subst (λ c. AreDirty (setting_of w.family c) w.written (objects_after p.events)
        (next_dirty w.family p)) (sym is.config) (dirty w.family w.written
        (subst (λ c. ArePortsOf (setting_of w.family c) (objects_in p) w.written) is.config
        is.written))

-- Services that events touched since the last sync
touched_since : (p : PlaneParts)
    → touched_between (settings_in p) p.events (sum p.counts) (length p.events)
    ≡ is_touched_since p
touched_since p =
    let counted = take_all (length p.counts) p.counts (le_refl (length p.counts)) in
    let all = take_all (length p.events) p.events (le_refl (length p.events)) in
    λ i. touches_one (settings_in p) (objects_after (take (sum (sym counted i)) p.events))
    (drop (sum p.counts) (all i))

module _ (known : KnownPorts) (own : OwnKeysAfterEvents) (p : PlaneParts) where
  own_last : AreUnderOwnKeys (objects_in p)
  own_last = own (covered p.events p.counts (syncs_in p))

  -- what a family knows of the ports of objects
  abbrev known_to : Objects → Family → List PortInfo
  known_to o = infos_by_family (settings_in p) o

  module _ (family : Family) (w : WriterParts) (is : IsWritten p.config (objects_in p) family w) where
    s : setting_in w ≡ setting_of family p.config
    s = setting_is p.config (objects_in p) family w is

    -- the family's tables of ports are those of the objects that tell of them
    same_chains : (o : Objects) (m : Ports) → AreUnderOwnKeys o → ArePortsOf (setting_in w) o m
        → chains_of w m ≡ full_chains (setting_of family p.config) (known_to o family)
    same_chains o m under are =
        ap (full_chains (setting_in w)) (known (setting_in w) o m under are)
        ∙ (λ i. full_chains (s i) (port_infos (s i).family (s i).config o))

    -- so is the clash
    same_clash : (o : Objects) (m : Ports) → AreUnderOwnKeys o → ArePortsOf (setting_in w) o m
        → written.clash_of w m ≡ clash_among (setting_of family p.config) (known_to o family)
    same_clash o m under are =
        ap (clash_among (setting_in w)) (known (setting_in w) o m under are)
        ∙ (λ i. clash_among (s i) (port_infos (s i).family (s i).config o))

    -- the family's tables that stand are those that were written, and have no clash
    stands : FamilyStandsAlone → NoClashInFamilies → has_tables_of family (settings_in p) ≡ true
        → (h : History) → IsHistory p h → Stands h.table.chains family w
    stands alone apart has h held = record {
      table = subst (λ f. HasTablesOf f h.table.chains (chains_of w w.written)) (sym is.family)
          (λ q at.
          ap (λ (t : TableParts). finite.get t.chains q) held.table
          ∙ alone (settings_in p) (known_to (objects_in p)) family has q at
          ∙ ap (λ (c : Chains). finite.get c q)
          (sym (same_chains (objects_in p) w.written own_last is.written)));
      apart = same_clash (objects_in p) w.written own_last is.written
          ∙ (apart (settings_in p) (known_to (objects_in p))).0 held.no_clash family has;
    }

    module _ (new : IsNewest (objects_after p.events) family w) where
      -- what it makes of a sync
      one_clash : written.clash_of w w.newest
          ≡ clash_among (setting_of family p.config) (known_to (objects_after p.events) family)
      one_clash = same_clash (objects_after p.events) w.newest (own p.events) new

      one_edits : written.next_edits w
          ≡ changes_of family
          (full_chains (setting_of family p.config) (known_to (objects_in p) family))
          (full_chains (setting_of family p.config) (known_to (objects_after p.events) family))
      one_edits = λ i.
          changes_of (is.family i) (same_chains (objects_in p) w.written own_last is.written i)
          (same_chains (objects_after p.events) w.newest (own p.events) new i)

      between : IsBetween (setting_in w) (objects_in p) (objects_after p.events) w
      between = record {
        own_before = own_last;
        own_after = own p.events;
        written = is.written;
        newest = new;
      }

      one_dirty : KnownDirtyPorts → pending_ports w
          ≡ dirty_ports (setting_of family p.config) (objects_in p) (objects_after p.events)
      one_dirty dirty =
          dirty (setting_in w) (objects_in p) (objects_after p.events) w between
          ∙ ap (λ t. dirty_ports t (objects_in p) (objects_after p.events)) s

      -- its edits are made from the dirty ports' own chains
      one_made : DirtyNewest → own_dirty_rules w
          ≡ own_rule_count (setting_of family p.config) (dirty_infos family p)
      one_made becomes =
          ap (own_rule_count (setting_in w))
          (becomes (setting_in w) (objects_in p) (objects_after p.events) w between)
          ∙ ap (λ t. own_rule_count t (filter_map (info_at t.family t.config (objects_after p.events))
          (dirty_keys t (objects_in p) (objects_after p.events)))) s

    -- blocks are made of the dirty ports
    one_rules : rules_by (objects_after p.events) (λ f. next_dirty f p) w
        ≡ rules_of (setting_of family p.config) (objects_after p.events) (next_dirty family p)
    one_rules = λ i. rules_of (s i) (objects_after p.events) (next_dirty (is.family i) p)

  module _ (x : PerFamily WriterParts) (dual : is_some x.six ≡ p.config.dual)
      (told : Both (IsWritten p.config (objects_in p)) x) where
    -- the tables that stand are those that were written
    pub all_stand : FamilyStandsAlone → NoClashInFamilies → (h : History) → IsHistory p h
        → Both (Stands h.table.chains) x
    all_stand alone apart h held =
        both_from (IsWritten p.config (objects_in p))
        (λ family w. has_tables_of family (settings_in p) ≡ true) (Stands h.table.chains) x
        (λ family w is has. stands family w is alone apart has h held) told
        (has_both p.config x dual)

    -- what each of the node's families makes
    families : map (λ w. w.family) (listed x) ≡ table_families p.config
    families =
        families_of p.config (λ w. w.family) x dual
        (both_weaker (IsWritten p.config (objects_in p)) (λ family w. w.family ≡ family) x
        (λ family w is. is.family) told)

    -- the ports of Services that events touched are the most that are asked about
    pub asked_since : length (listed x) * touched_count (objects_after p.events)
        (touched_between (settings_in p) p.events (sum p.counts) (length p.events))
        ≡ most_asked p
    asked_since =
        let as_many = sym (length-map (listed x) (λ w. w.family)) ∙ ap length families in
        λ i. as_many i * touched_count (objects_after p.events) (touched_since p i)

    -- the most blocks are made of the dirty ports
    pub rules_are : rules_in (objects_after p.events) (λ family. next_dirty family p) x
        ≡ sum_by (λ family. rules_of (setting_of family p.config) (objects_after p.events)
        (next_dirty family p)) (table_families p.config)
    rules_are =
        let o = objects_after p.events in
        let names : Family → List PortKey = λ family. next_dirty family p in
        let one = λ (family : Family). rules_of (setting_of family p.config) o (names family) in
        sums_by (λ w. w.family) (rules_by o names) one (listed x)
        (all_listed (IsWritten p.config (objects_in p)) (λ w. rules_by o names w ≡ one w.family) x
        (λ family w is. one_rules family w is ∙ ap one (sym is.family)) told)
        ∙ ap (sum_by one) families

    -- they alone are at most all steps
    pub few_made : rules_in (objects_after p.events) (λ family. next_dirty family p) x ≤ most_steps p
    few_made =
        let one = λ (family : Family). own_rule_count (setting_of family p.config)
        (dirty_infos family p) in
        let shared = λ (family : Family). rules_of (setting_of family p.config)
        (objects_after p.events) (next_dirty family p) in
        let both : most_steps p ≡ sum_by one (table_families p.config)
        + sum_by shared (table_families p.config) =
        sum_of_both one shared (table_families p.config) in
        omega (arith, both, rules_are)

    module _ (new : Both (IsNewest (objects_after p.events)) x) where
      -- what holds of each writer between the last sync and this one
      each : {X : Type 0} (f : WriterParts → X) (g : Family → X)
          → ((family : Family) (w : WriterParts) → IsWritten p.config (objects_in p) family w
          → IsNewest (objects_after p.events) family w → f w ≡ g family)
          → Both (λ family w. (f w ≡ g family) × (w.family ≡ family)) x
      each f g one =
          both_from (IsWritten p.config (objects_in p)) (IsNewest (objects_after p.events))
          (λ family w. (f w ≡ g family) × (w.family ≡ family)) x
          (λ family w is here. (one family w is here, is.family)) told new

      one_by_one : {X : Type 0} (f : WriterParts → X) (g : Family → X)
          → ((family : Family) (w : WriterParts) → IsWritten p.config (objects_in p) family w
          → IsNewest (objects_after p.events) family w → f w ≡ g family)
          → AllByRecursion (λ w. f w ≡ g w.family) (listed x)
      one_by_one f g one =
          all_listed (λ family w. (f w ≡ g family) × (w.family ≡ family)) (λ w. f w ≡ g w.family) x
          (λ family w both. both.0 ∙ ap g (sym both.1)) (each f g one)

      -- their clash is that of the objects of all events
      pub next_clash : newest_clash x ≡ rebuild.clash_of (settings_in p) (objects_after p.events)
      next_clash =
          let one = λ (family : Family). clash_among (setting_of family p.config)
          (known_to (objects_after p.events) family) in
          ap (λ (cs : List Clash). slice_get cs 0)
          (filter_maps_by (λ w. w.family) (λ w. written.clash_of w w.newest) one (listed x)
          (one_by_one (λ w. written.clash_of w w.newest) one one_clash)
          ∙ ap (filter_map one) families)

      -- their edits lead from the full table that stands to that of these objects
      next_changes : ChangesOfNode → flat_map written.next_edits (listed x) ≡ next_edits p
      next_changes changes =
          let one = λ (family : Family). changes_of family
          (full_chains (setting_of family p.config) (known_to (objects_in p) family))
          (full_chains (setting_of family p.config) (known_to (objects_after p.events) family)) in
          flat_maps_by (λ w. w.family) written.next_edits one (listed x)
          (one_by_one written.next_edits one one_edits)
          ∙ ap (flat_map one) families
          ∙ sym (changes p.config (known_to (objects_in p)) (known_to (objects_after p.events)))

      -- what writers make is what a sync keeps
      pub makes_next : ChangesOfNode → KnownDirtyPorts → (s : PortsAt)
          → IsUpToDate p.events s → (next : Next) → IsMade x next → IsNext p s next
      makes_next changes dirty s up next made = record {
        leads = record {
          no_clash = sym next_clash
              ∙ ap (λ (cs : List Clash). slice_get cs 0)
              (none_of (λ w. written.clash_of w w.newest) (listed x)
              (all_listed HasNoClash (λ w. written.clash_of w w.newest ≡ None) x
              (λ family w none. none) made.no_clash));
          edits = made.edits ∙ next_changes changes;
        };
        dirty = made.dirty ∙ both_are pending_ports p.config
            (λ family. dirty_ports (setting_of family p.config) (objects_in p)
            (objects_after p.events)) x dual
            (both_from (IsWritten p.config (objects_in p)) (IsNewest (objects_after p.events))
            (λ family w. pending_ports w ≡ dirty_ports (setting_of family p.config) (objects_in p)
            (objects_after p.events)) x (λ family w is here. one_dirty family w is here dirty) told
            new);
        newest = λ _. up;
      }

      -- the edits are made from the dirty ports' own chains, and blocks of these were made before
      pub most_made : DirtyNewest
          → rules_in (objects_after p.events) (λ family. next_dirty family p) x
          + sum_by own_dirty_rules (listed x) ≡ most_steps p
      most_made becomes =
          let one = λ (family : Family). own_rule_count (setting_of family p.config)
          (dirty_infos family p) in
          let shared = λ (family : Family). rules_of (setting_of family p.config)
          (objects_after p.events) (next_dirty family p) in
          let own_rules : sum_by own_dirty_rules (listed x) ≡ sum_by one (table_families p.config) =
          sums_by (λ w. w.family) own_dirty_rules one (listed x)
          (one_by_one own_dirty_rules one (λ family w is here. one_made family w is here becomes))
          ∙ ap (sum_by one) families in
          let both : most_steps p ≡ sum_by one (table_families p.config)
          + sum_by shared (table_families p.config) =
          sum_of_both one shared (table_families p.config) in
          omega (arith, own_rules, both, rules_are)

-- ---- Where no event came

-- nothing is kept then
pub nothing_next : SameRulesAreEqual → NoneDirty → (p : PlaneParts) (h : History) → IsHistory p h
    → length p.events ≡ h.covered → (s : PortsAt) (next : Next) → next.batch.edits ≡ []
    → next.dirty ≡ per_family p.config (λ family. []) → IsNext p s next
nothing_next rules clean p h is none s next edits dirty = record {
  leads = leads_nowhere rules p h is none edits;
  dirty = dirty ∙ (λ i. per_family p.config (λ family.
      (sym (none_dirty clean (setting_of family p.config) (objects_in p))
      ∙ ap (dirty_ports (setting_of family p.config) (objects_in p)) (nothing_new p h is none)) i));
  newest = λ some. let left = none_left p h is none in absurd (omega (arith, left, some));
}

-- ---- Counts

-- what is made at the end is at most what dirty ports have there
pub made_at_end : (x : PerFamily WriterParts) (events : List Event) (here : ObjectsAt)
    → IsAtPlace events here → here.at ≡ length events → (old new : ℕ)
    → ((dirty : Family → List PortKey) → Both (HasDirty here.objects dirty) x
    → new ≤ old + rules_in here.objects dirty x)
    → (dirty : Family → List PortKey) → Both (HasDirty (objects_after events) dirty) x
    → new ≤ old + rules_in (objects_after events) dirty x
made_at_end x events here place at old new =
    subst (λ o. (dirty : Family → List PortKey) → Both (HasDirty o dirty) x
    → new ≤ old + rules_in o dirty x) (at_end events events here place at refl)

-- what isn't counted
pub counted_none : (left most old : ℕ) → IsCounted left most old old
counted_none left most old = record { bound = omega arith; unchanged = λ none. refl }

-- what is counted at most where an event came
pub counted_within : {left most old new : ℕ} → 0 < left → new ≤ old + most
    → IsCounted left most old new
counted_within some bound = record {
  bound = bound;
  unchanged = λ none. absurd (omega (arith, none, some));
}

-- what is counted where an event came
pub counted_some : {left most few old new : ℕ} → 0 < left → few ≡ most → new ≤ old + few
    → IsCounted left most old new
counted_some {left} {most} {few} {old} {new} some is bound = record {
  bound = subst (λ n. new ≤ old + n) is bound;
  unchanged = λ none. absurd (omega (arith, none, some));
}

-- the last sync covers events that there are
pub covers_within : (p : PlaneParts) (h : History) → IsHistory p h → h.covered ≤ length p.events
covers_within p h is =
    let few = within p is.exact in let covered = is.covered in omega (arith, few, covered)

-- what is held is held where a call fails
pub still_held : {X E : Type 0} (r : Result X E) (p : PlaneParts) (h : History) (s : PortsAt)
    → Holds p h s → OnErr r (Holds p h s)
still_held (Ok x) p h s held = tt
still_held (Err e) p h s held = held
