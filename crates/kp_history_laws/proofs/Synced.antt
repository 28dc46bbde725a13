-- What each step of a run keeps of the history, of the contributions and of the touched ports.
use Rattle.std.proofs.Common.{◌≡◌, suc, false, List, [], ◌∷◌, ◌++◌, length, None, refl, sym, ap, ◌∙◌}
use Rattle.std.specs.FinMap as finite
use Rattle.std.proofs.lemmas.Bool.{or_parts}
use Rattle.std.proofs.lemmas.List.Folds.{list_any-append}
use Rattle.std.proofs.lemmas.List.Sums.{fold_push}
use Rattle.kp_base.specs.declared.address.Family.{Family}
use Rattle.kp_base.specs.declared.key.PortKey.{PortKey}
use Rattle.kp_types.specs.Setting.{Settings, view_of}
use Rattle.kp_types.specs.declared.event.Event.{Event}
use Rattle.kp_types.specs.declared.sync.SyncRecord.{SyncRecord}
use Rattle.kp_object_defs.specs.Objects.{no_objects, objects_step, objects_after}
use Rattle.kp_object_laws.specs.ObjectLaws.{OwnKeysAfterEvents}
use Rattle.kp_table_defs.specs.Edits.{changes_between}
use Rattle.kp_table_defs.specs.Parts.{RulesByPort, rules_by_family, tables_of_ports}
use Rattle.kp_table_defs.specs.Rebuild.{clash_of}
use Rattle.kp_table_laws.specs.Families.{PortsOfObjectsMakeTheTable}
use Rattle.kp_history_defs.specs.Affected.{affected_ports}
use Rattle.kp_history_defs.specs.History.{counts_of, covered, IsExactRecord, IsExactHistory}
use Rattle.kp_history_defs.specs.Inputs.{inputs_of}
use Rattle.kp_history_defs.specs.KeptRules.{with_rules_of}
use Rattle.kp_history_laws.specs.HistoryLaws.{all_covered, CoversRest}
use Rattle.kp_history_laws.specs.EventLaws.{has_port, UnaffectedInputs}
use Rattle.kp_history_laws.specs.KeptLaws.{EnoughByRules}
use Rattle.kp_history_laws.proofs.Affected.{same_rules}
use Rattle.kp_history_laws.proofs.Histories.{no_rules, exact_without_records, exact_by_events, exact_by_record, covered_stays, covered_by_record}

-- ---- What a run keeps

-- The records are exact; what is kept is what the ports of the last record's objects contribute; and the ports that
-- aren't touched have the inputs that they had then.
module _ (settings : Settings) (events : List Event) (records : List SyncRecord) where
  pub record IsSynced (kept : Family → RulesByPort) (touched : List PortKey) : Type 0 where
    pub exact : IsExactHistory settings events records
    pub kept_rules : (family : Family)
        → kept family ≡ rules_by_family settings (all_covered events records) family
    pub untouched : (key : PortKey) → has_port touched key ≡ false → inputs_of settings (objects_after events) key ≡ inputs_of settings (all_covered events records) key

pub nothing_synced : (settings : Settings) → IsSynced settings [] [] (λ family. finite.empty) []
nothing_synced settings = record {
  exact = exact_without_records settings [];
  kept_rules = λ family. sym (no_rules (view_of family settings));
  untouched = λ key h. refl;
}

module _ (own : OwnKeysAfterEvents) (unaffected : UnaffectedInputs) (settings : Settings) (events : List Event) (records : List SyncRecord) (kept : Family → RulesByPort) (touched : List PortKey) (h : IsSynced settings events records kept touched) where
  -- one more event is taken
  taken_untouched : (e : Event) (key : PortKey) → has_port (touched ++ affected_ports settings (objects_after events) e) key ≡ false
      → inputs_of settings (objects_after (events ++ e ∷ [])) key ≡ inputs_of settings (all_covered (events ++ e ∷ []) records) key
  taken_untouched e key none =
      let parts = or_parts _ _ (sym (list_any-append _ touched _) ∙ none) in
      ap (λ o. inputs_of settings o key) (fold_push objects_step no_objects events e)
      ∙ unaffected settings (objects_after events) e key (own events) parts.1
      ∙ h.untouched key parts.0
      ∙ ap (λ o. inputs_of settings o key) (sym (covered_stays settings events (e ∷ []) records h.exact))

  pub taken_synced : (e : Event) → IsSynced settings (events ++ e ∷ []) records kept (touched ++ affected_ports settings (objects_after events) e)
  taken_synced e = record {
    exact = exact_by_events settings events (e ∷ []) records h.exact;
    kept_rules = λ family.
        h.kept_rules family
        ∙ ap (λ o. rules_by_family settings o family)
        (sym (covered_stays settings events (e ∷ []) records h.exact));
    untouched = taken_untouched e;
  }

  -- the contributions once those of the touched ports are made anew
  abbrev new_kept : Family → RulesByPort
  new_kept family = with_rules_of (view_of family settings) (objects_after events) touched (kept family)

  -- a sync is accepted, and makes this record
  module _ (enough : EnoughByRules) (joined : PortsOfObjectsMakeTheTable) (r : SyncRecord) (no_clash : clash_of settings (objects_after events) ≡ None)
      (numbered : r.sync ≡ suc (length records)) (rest : CoversRest events records r)
      (changes : r.batch.edits ≡ changes_between (tables_of_ports settings kept) (tables_of_ports settings new_kept)) where
    made_anew : (family : Family) → new_kept family ≡ rules_by_family settings (objects_after events) family
    made_anew family =
        ap (with_rules_of (view_of family settings) (objects_after events) touched) (h.kept_rules family)
        ∙ enough (view_of family settings) (all_covered events records) (objects_after events) touched
        (own (covered events (counts_of records) (length records))) (own events) (λ key none.
        same_rules settings family _ _ key (h.untouched key none))

    last_exact : IsExactRecord settings (all_covered events records) (objects_after events) (suc (length records)) r
    last_exact = record {
      is_numbered = numbered;
      has_no_clash = no_clash;
      is_changes = changes
          ∙ (λ i. changes_between (tables_of_ports settings (λ family. h.kept_rules family i))
          (tables_of_ports settings (λ family. made_anew family i)))
          ∙ (λ i. changes_between (joined settings (all_covered events records) i) (joined settings (objects_after events) i));
    }

    pub synced : IsSynced settings events (records ++ r ∷ []) new_kept []
    synced = record {
      exact = exact_by_record settings events records r h.exact rest last_exact;
      kept_rules = λ family.
          made_anew family
          ∙ ap (λ o. rules_by_family settings o family) (sym (covered_by_record events records r rest));
      untouched = λ key none. ap (λ o. inputs_of settings o key) (sym (covered_by_record events records r rest));
    }
