-- What a hub does is steps of an interleaved run.
use Rattle.std.proofs.Common.{◌≡◌, ℕ, suc, ◌+◌, ◌-◌, ◌≤◌, is_some, List, Option, [], ◌∷◌, ◌++◌, length, replicate, sum, refl, ap, sym, subst, ◌∙◌, arith, length-append, append_assoc}
use Rattle.std.proofs.lemmas.List.{append-nil, append_cancel_left, map-append}
use Rattle.std.specs.FinMap.{get}
use Rattle.std.specs.Option.{option_to_list}
use mathlib.Core.List.{IsPrefix}
use Rattle.kp_choice_defs.specs.Settings.{settings_of}
use Rattle.kp_lemmas.specs.Lists.{is_empty}
use Rattle.kp_types.specs.Setting.{Settings}
use Rattle.kp_types.specs.declared.sync.SyncRecord.{SyncRecord}
use Rattle.kp_object_defs.specs.Objects.{objects_after}
use Rattle.kp_table_defs.specs.Rebuild.{clash_of}
use Rattle.kp_table_defs.specs.Walk.{walk_of}
use Rattle.kp_history_defs.specs.declared.fed.Fed.{Fed}
use Rattle.kp_history_defs.specs.History.{counts_of, sync_records, table_after}
use Rattle.kp_history_defs.specs.Runs.{RunState, Step, Take, Sync, Refuse, Publish, IsRun, IsRunFrom, after_sync, after_take, events_of, initial, next_record}
use Rattle.kp_history_laws.specs.HistoryLaws.{ExactIsRecords, RecordsHaveCounts, RecordsStay}
use Rattle.kp_history_laws.specs.RunLaws.{HistoryIsExact, PublishedAreRecords, RunsJoin}
use Rattle.kp_run_defs.specs.AnswerText.{draws_at}
use Rattle.kp_publish.specs.Entries.{records_of}
use Rattle.kp_hub.proofs.Intakes.{events_length}
use Rattle.kp_hub.specs.Interleaved.{NewHubsStandAtTheStart, FeedsAreSteps, SyncsAreSteps, RefusalsAreSteps, WalksAreReads}
use Rattle.kp_hub.specs.Taken.{records_at}

-- what is left of a queue of which events were taken
left_of : (journal fs grown queue waits more : List Fed) → journal ++ fs ≡ grown → (grown ++ waits) ++ more ≡ journal ++ queue
    → queue ≡ fs ++ (waits ++ more)
left_of journal fs grown queue waits more is all =
    append_cancel_left journal queue (fs ++ (waits ++ more))
    (sym all ∙ (append_assoc grown waits more ∙ (ap (λ js. js ++ (waits ++ more)) (sym is) ∙ append_assoc journal fs (waits ++ more))))

-- as many as were added to a journal
added : (journal fs grown : List Fed) → journal ++ fs ≡ grown → length fs ≡ length grown - length journal
added journal fs grown is =
    let longer : length journal + length fs ≡ length grown = sym (length-append journal fs) ∙ ap length is in omega (arith, longer)

module _ (settings : Settings) where
  -- events of the queue's front are taken
  record Takes (s : RunState) (fs rest : List Fed) : Type 0 where
    pub to : RunState
    pub run : IsRunFrom settings s (replicate (length fs) Take) to
    pub journal : to.journal ≡ s.journal ++ fs
    pub queue : to.queue ≡ rest
    pub records : to.records ≡ s.records
    pub published : to.published ≡ s.published

  takes : (s : RunState) (fs rest : List Fed) → s.queue ≡ fs ++ rest → Takes s fs rest
  takes s [] rest is = record {
    to = s;
    run = refl;
    journal = sym (append-nil s.journal);
    queue = is;
    records = refl;
    published = refl;
  }
  takes s (f ∷ fs) rest is =
      let next : RunState = after_take settings (f ∷ (fs ++ rest)) s in
      let more : Takes next fs rest = takes next fs rest refl in
      record {
        to = more.to;
        run = (next, record { allowed = ap is_empty is; leads = ap (λ q. after_take settings q s) (sym is) }, more.run);
        journal = more.journal ∙ append_assoc s.journal (f ∷ []) fs;
        queue = more.queue;
        records = more.records;
        published = more.published;
      }

module _ (exact : HistoryIsExact) (shown : PublishedAreRecords) (only : ExactIsRecords) (have : RecordsHaveCounts) (stay : RecordsStay) (join : RunsJoin) where
  -- a run goes on by steps behind events that are taken
  joined : (settings : Settings) (steps last : List Step) (s : RunState) (fs rest : List Fed) (n : ℕ) → length fs ≡ n → IsRun settings steps s
      → (more : Takes settings s fs rest) (t : RunState) → IsRunFrom settings more.to last t → IsRun settings (steps ++ (replicate n Take ++ last)) t
  joined settings steps last s fs rest n many run more t then =
      join settings steps (replicate n Take ++ last) initial s t run
      (subst (λ (m : ℕ). IsRunFrom settings s (replicate m Take ++ last) t) many
      (join settings (replicate (length fs) Take) last s more.to t more.run then))

  pub syncs_are_steps : SyncsAreSteps
  syncs_are_steps config steps s before after sync run at queued grows is =
      let settings : Settings = settings_of config in
      let fs : List Fed = grows.journal.0 in
      let waits : List Fed = option_to_list after.taken.waits in
      let grown : s.journal ++ fs ≡ after.taken.journal = ap (λ js. js ++ fs) at.journal ∙ grows.journal.1 in
      let more : Takes settings s fs (waits ++ queued.0) =
      takes settings s fs (waits ++ queued.0) (left_of s.journal fs after.taken.journal s.queue waits queued.0 grown queued.1) in
      let t : RunState = more.to in
      let here : t.journal ≡ after.taken.journal = more.journal ∙ grown in
      let u : RunState = after_sync settings t in
      let v : RunState = record u { published = length u.records } in
      let few : s.published ≤ length s.records = shown settings steps s run in
      let one : length u.records ≡ length t.records + 1 = length-append t.records (next_record settings t ∷ []) in
      let same : length t.records ≡ length s.records = ap length more.records in
      let stood = more.published in
      let whole : IsRun settings (steps ++ (replicate (length after.taken.journal - length before.taken.journal) Take ++ Sync ∷ Publish ∷ [])) v =
      joined settings steps (Sync ∷ Publish ∷ []) s fs (waits ++ queued.0) (length after.taken.journal - length before.taken.journal)
      (added before.taken.journal fs after.taken.journal grows.journal.1) run more v (
        u,
        record { allowed = ap (λ js. clash_of settings (objects_after (events_of js))) here ∙ is.no_clash; leads = refl },
        (v, record { allowed = omega (arith, few, one, same, stood); leads = refl }, refl),
      ) in
      let counted : counts_of t.records ≡ before.taken.counts =
      ap counts_of (more.records ∙ at.records) ∙ have settings (events_of before.taken.journal) before.taken.counts in
      let counts : counts_of v.records ≡ after.taken.counts =
      map-append (λ (r : SyncRecord). r.events) t.records (next_record settings t ∷ [])
      ∙ ((λ i. counted i ++ (length (here i) - sum (counted i)) ∷ [])
      ∙ (ap (λ (n : ℕ). before.taken.counts ++ (n - sum before.taken.counts) ∷ []) (sym (events_length after.taken.journal)) ∙ sym is.counts)) in
      let records : v.records ≡ records_at config after.taken =
      only settings (events_of v.journal) v.records (exact settings _ v whole) ∙ (λ i. sync_records settings (events_of (here i)) (counts i)) in (
        v,
        whole,
        record {
          journal = here;
          waits = (queued.0, sym more.queue);
          records = records;
          published = ap length (records ∙ sym is.records);
        },
      )

  pub refusals_are_steps : RefusalsAreSteps
  refusals_are_steps config steps s before after clash run at queued grows is =
      let settings : Settings = settings_of config in
      let fs : List Fed = grows.journal.0 in
      let waits : List Fed = option_to_list after.taken.waits in
      let grown : s.journal ++ fs ≡ after.taken.journal = ap (λ js. js ++ fs) at.journal ∙ grows.journal.1 in
      let more : Takes settings s fs (waits ++ queued.0) =
      takes settings s fs (waits ++ queued.0) (left_of s.journal fs after.taken.journal s.queue waits queued.0 grown queued.1) in
      let here : more.to.journal ≡ after.taken.journal = more.journal ∙ grown in
      let counted : counts_of s.records ≡ before.taken.counts = ap counts_of at.records ∙ have settings (events_of before.taken.journal) before.taken.counts in
      let covers : sum before.taken.counts ≤ length (events_of before.taken.journal) =
      subst (λ (x : List ℕ × List Fed). sum x.0 ≤ length (events_of x.1)) (λ i. (counted i, at.journal i)) (exact settings steps s run).within in
      let events : events_of before.taken.journal ++ events_of fs ≡ events_of after.taken.journal =
      sym (map-append (λ (f : Fed). f.event) before.taken.journal fs) ∙ ap events_of grows.journal.1 in (
        more.to,
        joined settings steps (Refuse ∷ []) s fs (waits ++ queued.0) (length after.taken.journal - length before.taken.journal)
            (added before.taken.journal fs after.taken.journal grows.journal.1) run more more.to (
              more.to,
              record { allowed = ap (λ js. is_some (clash_of settings (objects_after (events_of js)))) here ∙ ap is_some is.is_clash; leads = refl },
              refl,
            ),
        record {
          journal = here;
          waits = (queued.0, sym more.queue);
          records =
              more.records ∙ (at.records ∙ (sym (stay settings (events_of before.taken.journal) (events_of fs) before.taken.counts covers)
              ∙ (λ i. sync_records settings (events i) (sym is.counts i))));
          published = more.published ∙ (at.published ∙ ap (λ o. length (records_of o.published)) (sym is.outlet));
        },
      )

pub walks_are_reads : WalksAreReads
walks_are_reads config s seen number line lists same =
    ap (λ rs. walk_of (λ at. get (table_after (settings_of config) rs).chains at) config.addresses line.packet (draws_at number line.draws) lists) (sym same)

pub new_hubs_stand_at_the_start : NewHubsStandAtTheStart
new_hubs_stand_at_the_start config h journal none counts published = record {
  journal = sym journal;
  waits = subst (λ (w : Option Fed). IsPrefix (option_to_list w) []) (sym none) ([], refl);
  records = ap (λ cs. sync_records (settings_of config) (events_of h.taken.journal) cs) (sym counts);
  published = ap length (sym published);
}

pub feeds_are_steps : FeedsAreSteps
feeds_are_steps config s h stream event at =
    let f : Fed = record { feeder = stream; number = suc (length (s.fed stream)); event = event } in
    let waits : List Fed = option_to_list h.taken.waits in
    record {
      journal = at.journal;
      waits = (at.waits.0 ++ f ∷ [], sym (append_assoc waits at.waits.0 (f ∷ [])) ∙ ap (λ fs. fs ++ f ∷ []) at.waits.1);
      records = at.records;
      published = at.published;
    }
