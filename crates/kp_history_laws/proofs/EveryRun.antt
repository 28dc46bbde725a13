-- Every interleaving: what each step keeps of the history, and what follows of tables and reads.
use Rattle.std.proofs.Common.{◌≡◌, ℕ, ◌+◌, ◌-◌, ◌≤◌, length, arith, Bool, true, false, List, [], ◌∷◌, ◌++◌, sum, refl, sym, ap, subst, ◌∙◌}
use Rattle.std.specs.FinMap as finite
use Rattle.std.proofs.lemmas.List.{length-map, map_push}
use Rattle.kp_types.specs.Setting.{Settings}
use Rattle.kp_types.specs.declared.sync.SyncRecord.{SyncRecord}
use Rattle.kp_object_defs.specs.Objects.{Objects}
use Rattle.kp_base.specs.declared.address.Family.{Family}
use Rattle.kp_base.specs.declared.config.Config.{Config}
use Rattle.kp_object_defs.specs.SlicesNow.{slices_now, controller_step}
use Rattle.kp_object_laws.specs.SliceLaws.{SlicesAfterEvent, SlicesAfterSync}
use Rattle.kp_object_laws.specs.ObjectLaws.{OwnKeysAfterEvents}
use Rattle.kp_table_laws.specs.Families.{PortsOfObjectsMakeTheTable}
use Rattle.kp_table_defs.specs.Walk.{walk_of}
use Rattle.kp_choice_defs.specs.Settings.{settings_of}
use Rattle.kp_door_defs.specs.Decision.{decision_of}
use Rattle.kp_walk_laws.specs.Laws.{Agree, HashedPrefixed, WalkDecidesObjects}
use Rattle.kp_history_defs.specs.History.{counts_of, objects_covered}
use Rattle.kp_history_defs.specs.declared.fed.Fed.{Fed}
use Rattle.kp_history_defs.specs.Runs.{RunState, Step, Feed, Take, Sync, IsRun, IsAllowed, initial, state_after, after_take, after_sync, events_of, objects_now}
use Rattle.kp_history_laws.specs.EventLaws.{has_port, UnaffectedInputs}
use Rattle.kp_history_laws.specs.HistoryLaws.{ExactTables}
use Rattle.kp_history_laws.specs.KeptLaws.{EnoughByRules}
use Rattle.kp_history_laws.specs.RunLaws.{HistoryIsExact, TouchedHoldChanged, TablesAreFull, ReadsDecide, ProductReadsDecide, SlicesOfSteps, slices_in, slices_after_take, objects_recorded}
use Rattle.kp_history_laws.proofs.Changed.{changed_inputs}
use Rattle.kp_history_laws.proofs.Synced.{IsSynced, nothing_synced, taken_synced, synced}
use Rattle.kp_history_laws.proofs.Steps.{kept_by_steps, run_seen}
use Rattle.kp_history_laws.proofs.Tables.{no_clash_covered}

-- ---- Steps

-- the rest of a count
rest_counted : (before all events : ℕ) → events ≡ all → before ≤ events → before + (all - before) ≡ events
rest_counted before all events same le = omega arith

module _ (own : OwnKeysAfterEvents) (unaffected : UnaffectedInputs) (enough : EnoughByRules) (joined : PortsOfObjectsMakeTheTable) (settings : Settings) where
  abbrev Synced : RunState → Type 0
  Synced s = IsSynced settings (events_of s.journal) s.records s.kept s.touched

  take_synced : (s : RunState) → Synced s → (queue : List Fed) → Synced (after_take settings queue s)
  take_synced s h [] = h
  take_synced s h (f ∷ rest) =
      subst (λ events. IsSynced settings events s.records s.kept (after_take settings (f ∷ rest) s).touched) (sym (map_push (λ (g : Fed). g.event) s.journal f))
      (taken_synced own unaffected settings _ s.records s.kept s.touched h f.event)

  step_synced : (s : RunState) (step : Step) → IsAllowed settings s step → Synced s → Synced (state_after settings s step)
  step_synced s (Feed by e) allowed h = h
  step_synced s Take allowed h = take_synced s h s.queue
  step_synced s Sync allowed h =
      synced own unaffected settings _ s.records s.kept s.touched h enough joined _ allowed refl
      (rest_counted _ _ _ (length-map s.journal (λ (f : Fed). f.event)) h.exact.within) refl
  step_synced s step allowed h = h

  run_synced : (steps : List Step) (s : RunState) → IsRun settings steps s → Synced s
  run_synced steps s run = kept_by_steps settings Synced step_synced steps initial s (nothing_synced settings) run

module _ (own : OwnKeysAfterEvents) (unaffected : UnaffectedInputs) (enough : EnoughByRules) (joined : PortsOfObjectsMakeTheTable) where
  pub history_is_exact : HistoryIsExact
  history_is_exact settings steps s run = (run_synced own unaffected enough joined settings steps s run).exact

  pub touched_hold_changed : TouchedHoldChanged
  touched_hold_changed settings steps s run key changed = by _ refl
    where
      by : (b : Bool) → has_port s.touched key ≡ b → b ≡ true
      by true is = refl
      by false is =
          absurd (changed_inputs settings (objects_recorded s) (objects_now s) key changed ((run_synced own unaffected enough joined settings steps s run).untouched key is))

  pub tables_are_full : ExactTables → TablesAreFull
  tables_are_full tables settings steps s run n le = tables settings (events_of s.journal) s.records n (history_is_exact settings steps s run) le

  pub reads_decide : ExactTables → WalkDecidesObjects → ReadsDecide
  reads_decide tables decides settings picks prefixed steps s t worker packet draws lists answer run step =
      let exact = history_is_exact settings steps s run in
      let le = (run_seen settings steps s run).published in
      let covers : Objects = objects_covered (events_of s.journal) (counts_of s.records) s.published in
      let full = tables settings (events_of s.journal) s.records s.published exact le in
      subst (λ a. Agree a (decision_of settings covers packet draws lists))
      (sym (step.allowed ∙ ap (λ chains. walk_of (λ at. finite.get chains at) settings.config.addresses packet draws lists) full))
      (decides settings covers packet draws lists picks prefixed (no_clash_covered settings _ s.records s.published exact le))

  pub product_reads_decide : ExactTables → WalkDecidesObjects → HashedPrefixed → ProductReadsDecide
  product_reads_decide tables decides prefixed config =
      reads_decide tables decides (settings_of config) refl (prefixed config.name_length)

-- ---- Slices

module _ (families : List Family) (config : Config) (settings : Settings) (s : RunState) (within : sum (counts_of s.records) ≤ length (events_of s.journal)) where
  slices_taken : SlicesAfterEvent → (queue : List Fed) → slices_in families config (after_take settings queue s) ≡ slices_after_take queue (slices_in families config s)
  slices_taken after_event [] = refl
  slices_taken after_event (f ∷ rest) =
      ap (λ events. slices_now families config events (counts_of s.records)) (map_push (λ (g : Fed). g.event) s.journal f)
      ∙ after_event families config (events_of s.journal) (counts_of s.records) f.event within

  slices_synced : SlicesAfterSync → slices_in families config (after_sync settings s) ≡ controller_step families config (objects_now s) (slices_in families config s)
  slices_synced at_sync =
      ap (slices_now families config (events_of s.journal)) (map_push (λ (r : SyncRecord). r.events) s.records _)
      ∙ ap (λ (n : ℕ). slices_now families config (events_of s.journal) (counts_of s.records ++ (n - sum (counts_of s.records)) ∷ [])) (sym (length-map s.journal (λ (f : Fed). f.event)))
      ∙ at_sync families config (events_of s.journal) (counts_of s.records) within

module _ (after_event : SlicesAfterEvent) (at_sync : SlicesAfterSync) (exact : HistoryIsExact) where
  pub slices_of_steps : SlicesOfSteps
  slices_of_steps families config settings steps s run (Feed stream e) allowed = refl
  slices_of_steps families config settings steps s run Take allowed = slices_taken families config settings s (exact settings steps s run).within after_event s.queue
  slices_of_steps families config settings steps s run Sync allowed = slices_synced families config settings s (exact settings steps s run).within at_sync
  slices_of_steps families config settings steps s run other allowed = refl
