-- What each mode makes of a sync.
use Rattle.std.proofs.Common.{◌≡◌, ◌-◌, ◌⊎◌, inl, inr, ℕ, Bool, List, ◌++◌, ap, sym}
use Rattle.std.proofs.Common.{subst, ◌∙◌}
use Rattle.std.specs.FinMap.{get}
use Rattle.std.specs.Prelude.{OnOk, Result}
use Rattle.std.proofs.lemmas.Result.{on_ok_weaker}
use Rattle.kp_base.specs.declared.address.Family.TheVariants.{V4, V6}
use Rattle.kp_base.specs.declared.config.Config.{Config}
use Rattle.kp_base.specs.declared.key.Endpoint.{Endpoint}
use Rattle.kp_base.specs.declared.key.ObjectKey.{ObjectKey}
use Rattle.kp_object_defs.specs.Objects.{Objects}
use Rattle.kp_object_defs.specs.OwnKeys.{AreUnderOwnKeys}
use Rattle.kp_object_laws.specs.ObjectLaws.{OwnKeysAfterEvents}
use Rattle.kp_history_defs.specs.History.{covered, objects_covered}
use Rattle.kp_history_defs.specs.declared.dirty.DirtyPort.{DirtyPort}
use Rattle.kp_changes.specs.Lines as changes
use Rattle.kp_health.specs.Known.{Answers, AreBetween, AreKnown, AreKnownBut, AreNewer, IsKnownAt}
use Rattle.kp_health_defs.specs.HealthPorts.{health_at}
use Rattle.kp_health_laws.specs.UntouchedHealth.{HealthByAll}
use Rattle.kp_plane.specs.Parts.{PlaneParts, dirty_in, objects_before, objects_in, settings_in}
use Rattle.kp_plane.specs.Parts.{syncs_in}
use Rattle.kp_plane.specs.Past.{LeadPastOthers}
use Rattle.kp_mode.specs.Calls.{before_sync, covered_by}
use Rattle.kp_mode.proofs.CallLemmas.{covered_then}
use Rattle.kp_mode_defs.specs.Mode.{objects_at}
use Rattle.kp_udp_endpoints.specs.Counts.{AreCounted, Counts, HaveFallen, IsFollowed}
use Rattle.kp_udp_endpoints.specs.Endpoints as endpoints
use Rattle.kp_modes.specs.Modes.{change_lines}

-- the objects that syncs cover stand under their own keys
pub own_covered : OwnKeysAfterEvents → (p : PlaneParts) (n : ℕ)
    → AreUnderOwnKeys (objects_covered p.events p.counts n)
own_covered own p n = own (covered p.events p.counts n)

-- the lines of what the last sync changed
abbrev pub changes_of : PlaneParts → List ℕ
changes_of p = change_lines p.config (objects_at (covered_by (before_sync p))) (objects_in p)

-- the lines of all dirty ports tell what the sync changed
pub changed : OwnKeysAfterEvents → (p : PlaneParts) (config : Config) (o : Objects)
    → (four six : List DirtyPort) {E : Type 0} (r : Result (Unit {0}) E) (old new : List ℕ)
    → config ≡ p.config → o ≡ objects_in p → four ≡ dirty_in V4 p → six ≡ dirty_in V6 p
    → ((before : Objects) → AreUnderOwnKeys before → AreUnderOwnKeys o
    → four ≡ changes.dirty_in config before o V4 → six ≡ changes.dirty_in config before o V6
    → OnOk r (new ≡ old ++ change_lines config before o))
    → OnOk r (new ≡ old ++ changes_of p)
changed own p config o four six r old new is are first second added =
    on_ok_weaker r
    (λ text. text ∙ (λ i. old ++ change_lines (is i) (sym (covered_then p) i) (are i)))
    (added (objects_before p) (own_covered own p (syncs_in p - 1))
    (subst AreUnderOwnKeys (sym are) (own_covered own p (syncs_in p)))
    (first ∙ (λ i. changes.dirty_in (sym is i) (objects_before p) (sym are i) V4))
    (second ∙ (λ i. changes.dirty_in (sym is i) (objects_before p) (sym are i) V6)))

module _ (p : PlaneParts) where
  -- what the others' health ports answered they still do
  pub known_but : OwnKeysAfterEvents → HealthByAll → (test : ObjectKey → Bool) (answers : Answers)
      → LeadPastOthers (settings_in p) (objects_before p) (objects_in p) test
      → AreKnown p.config (objects_before p) answers
      → AreKnownBut test p.config (objects_in p) answers
  known_but own by_all test answers past known = λ key none.
      let led = past key none in
      known key
      ∙ sym (ap (λ o. health_at p.config o key) led.leads
      ∙ by_all p.config (objects_before p) led.events key (own_covered own p (syncs_in p - 1))
      led.past)

  -- so all are known once those of the touched Services are made anew
  pub known_all : (config : Config) (o : Objects) (test : ObjectKey → Bool) (old new : Answers)
      → config ≡ p.config → o ≡ objects_in p
      → AreKnownBut test p.config (objects_in p) old
      → (AreKnownBut test config o old → AreKnown config o new)
      → AreKnown p.config (objects_in p) new
  known_all config o test old new is are known made =
      subst (λ q. AreKnown p.config q new) are
      (subst (λ c. AreKnown c o new) is
      (made (subst (λ c. AreKnownBut test c o old) (sym is)
      (subst (λ q. AreKnownBut test p.config q old) (sym are) known))))

  -- where some of these are made, each answer is that of the sync before or of this one
  pub between : (config : Config) (o : Objects) (old new : Answers)
      → config ≡ p.config → o ≡ objects_in p
      → AreKnown p.config (objects_before p) old → AreNewer config o old new
      → AreBetween p.config (objects_before p) (objects_in p) new
  between config o old new is are known newer =
      let made : AreNewer p.config (objects_in p) old new =
      subst (λ q. AreNewer p.config q old new) are
      (subst (λ c. AreNewer c o old new) is newer) in
      λ key. one key (made.each key)
    where
      one : (key : ObjectKey)
          → (get new key ≡ get old key) ⊎ IsKnownAt p.config (objects_in p) new key
          → IsKnownAt p.config (objects_before p) new key
          ⊎ IsKnownAt p.config (objects_in p) new key
      one key (inl same) = inl (same ∙ known key)
      one key (inr now) = inr now

-- ---- Counts of UDP endpoints

module _ (p : PlaneParts) where
  -- the counts of before are followed by the ports that the sync changed
  pub followed : OwnKeysAfterEvents → (config : Config) (o : Objects) (four six : List DirtyPort)
      → config ≡ p.config → o ≡ objects_in p → four ≡ dirty_in V4 p → six ≡ dirty_in V6 p
      → (c : Counts) → AreCounted p.config (objects_before p) c
      → IsFollowed config (objects_before p) o four six c
  followed own config o four six is are first second c counted = record {
    own = own_covered own p (syncs_in p - 1);
    own_after = subst AreUnderOwnKeys (sym are) (own_covered own p (syncs_in p));
    four = first ∙ (λ i. endpoints.dirty_in (sym is i) (objects_before p) (sym are i) V4);
    six = second ∙ (λ i. endpoints.dirty_in (sym is i) (objects_before p) (sym are i) V6);
    counted = subst (λ config. AreCounted config (objects_before p) c) (sym is) counted;
  }

  module _ (config : Config) (o : Objects) (is : config ≡ p.config) (are : o ≡ objects_in p) where
    -- to those of the objects that it covers
    pub counted_now : (c : Counts) → AreCounted config o c → AreCounted p.config (objects_in p) c
    counted_now c counted =
        subst (λ o. AreCounted p.config o c) are (subst (λ config. AreCounted config o c) is counted)

    pub fallen_now : (fallen : List Endpoint) → HaveFallen config (objects_before p) o fallen
        → HaveFallen p.config (objects_before p) (objects_in p) fallen
    fallen_now fallen fell =
        subst (λ o. HaveFallen p.config (objects_before p) o fallen) are
        (subst (λ config. HaveFallen config (objects_before p) o fallen) is fell)
