-- What holds of a plane, a taker and the notes still does where an event is taken, and where a sync
-- is made.
use Rattle.std.proofs.Common.{◌≡◌, ℕ, suc, ◌+◌, ◌≤◌, ◌<◌, List, [], ◌∷◌, ◌++◌, Option, Some, None, IfSome, length, map, sum, refl, ap, sym, subst, ◌∙◌, arith, length-append}
use Rattle.std.proofs.lemmas.List.{append-nil, map-append}
use Rattle.std.proofs.lemmas.List.Sums.{fold-append}
use Rattle.std.specs.Option.{option_to_list}
use mathlib.Core.List.{IsPrefix}
use Rattle.kp_base.specs.declared.config.Config.{Config}
use Rattle.kp_types.specs.declared.sync.SyncRecord.{SyncRecord}
use Rattle.kp_choice_defs.specs.Settings.{settings_of}
use Rattle.kp_object_defs.specs.Objects.{objects_after}
use Rattle.kp_table_defs.specs.Rebuild.{clash_of}
use Rattle.kp_full_table.specs.declared.fault.TableFault.{TableFault}
use Rattle.kp_full_table.specs.Faults.{TellsClash}
use Rattle.kp_history_defs.specs.declared.fed.Fed.{Fed}
use Rattle.kp_history_defs.specs.Runs.{events_of}
use Rattle.kp_history_laws.specs.HistoryLaws.{RecordsStay}
use Rattle.kp_feed.specs.declared.rule.Ended.{Ended}
use Rattle.kp_feed.specs.Passes.{QueueId}
use Rattle.kp_feed.specs.Taking.{Taker}
use Rattle.kp_plane.specs.Parts.{IsNextRecord, PlaneParts, settings_in, records_in, synced, uncovered_in, with_events}
use Rattle.kp_hub.specs.declared.notes.RecordNote.{RecordNote}
use Rattle.kp_hub.specs.Growing.{TakesMore}
use Rattle.kp_hub.specs.Taken.{Taken, IsTaken, note_of, plane_of, records_at, with_sync}

-- as many events as journal entries
pub events_length : (fs : List Fed) → length (events_of fs) ≡ length fs
events_length [] = refl
events_length (f ∷ fs) = ap suc (events_length fs)

module _ (config : Config) (queue : QueueId) (t : Taken) (plane : PlaneParts) (taker : Taker) (notes : List RecordNote)
    (is : IsTaken config queue t plane taker notes) where
  -- the records stay where one more event is accepted
  pub records_stay : RecordsStay → (f : Fed) (journal : List Fed) (counts : List ℕ) → journal ≡ t.journal ++ f ∷ [] → counts ≡ t.counts
      → (waits : Option Fed) (feeders : ℕ) (ended : List Ended)
      → records_at config (record { journal = journal; waits = waits; counts = counts; feeders = feeders; ended = ended }) ≡ records_at config t
  records_stay stay f journal counts grown same waits feeders ended =
      let events : events_of journal ≡ events_of t.journal ++ f.event ∷ [] = ap events_of grown ∙ map-append (λ (x : Fed). x.event) t.journal (f ∷ []) in
      (λ i. records_in (record { config = config; events = events i; counts = same i }))
      ∙ stay (settings_in (plane_of config t)) (events_of t.journal) (f.event ∷ []) t.counts (omega (arith, is.covers, events_length t.journal))

  -- the plane has room for an event where the journal has
  pub plane_room : length t.journal < config.max_events
      → length plane.events < plane.config.max_events
  plane_room room =
      subst (λ (p : PlaneParts). length p.events < p.config.max_events) (sym is.plane_is)
      (omega (arith, events_length t.journal, room))

  -- more was taken, where the taker has taken more
  pub takes_from : (u : Taken) (plane' : PlaneParts) (taker' : Taker) (notes' : List RecordNote)
      → IsTaken config queue u plane' taker' notes' → IsPrefix t.journal u.journal
      → IsPrefix taker.taken taker'.taken → u.feeders ≡ t.feeders → u.ended ≡ t.ended → TakesMore t u
  takes_from u plane' taker' notes' now journal taken feeders ended = record {
    journal = journal;
    taken = subst (λ (p : List Fed × List Fed). IsPrefix p.0 p.1)
        (λ i. (ap (λ (k : Taker). k.taken) is.taker_is i, ap (λ (k : Taker). k.taken) now.taker_is i))
        taken;
    feeders = feeders;
    ended = ended;
  }

  -- an event is accepted
  pub taken_next : RecordsStay → (f : Fed) (journal : List Fed) (plane' : PlaneParts) (taker' : Taker) → journal ≡ t.journal ++ f ∷ []
      → length t.journal < config.max_events → plane' ≡ with_events plane (f.event ∷ [])
      → taker' ≡ record taker { taken = t.journal ++ f ∷ [] }
      → IsTaken config queue (record { journal = journal; waits = None; counts = plane'.counts; feeders = taker'.feeders; ended = taker'.ended }) plane' taker' notes
  taken_next stay f journal plane' taker' grown room more took =
      let led : plane' ≡ with_events (plane_of config t) (f.event ∷ []) = more ∙ ap (λ p. with_events p (f.event ∷ [])) is.plane_is in
      let counts : plane'.counts ≡ t.counts = ap (λ p. p.counts) led in
      let events : events_of journal ≡ events_of t.journal ++ f.event ∷ [] = ap events_of grown ∙ map-append (λ (x : Fed). x.event) t.journal (f ∷ []) in
      let longer : length journal ≡ length t.journal + 1 = ap length grown ∙ length-append t.journal (f ∷ []) in
      let fewer : sum plane'.counts ≤ length t.journal = subst (λ cs. sum cs ≤ length t.journal) (sym counts) is.covers in
      record {
        plane_is = led ∙ (λ i. record { config = config; events = sym events i; counts = sym counts i });
        taker_is = took ∙ (λ i. record {
          queue = ap (λ k. k.queue) is.taker_is i;
          feeders = ap (λ k. k.feeders) (sym took) i;
          taken = (sym grown ∙ sym (append-nil journal)) i;
          ended = ap (λ k. k.ended) (sym took) i;
        });
        notes_are = is.notes_are ∙ ap (map note_of) (sym (records_stay stay f journal plane'.counts grown counts None taker'.feeders taker'.ended));
        covers = omega (arith, longer, fewer);
        few = omega (arith, longer, room);
        room = tt;
      }

  -- an event waits
  pub taken_waits : (f : Fed) (plane' : PlaneParts) (taker' : Taker) (journal : List Fed) → journal ≡ t.journal → length t.journal < config.max_events
      → plane' ≡ plane → taker' ≡ record taker { taken = t.journal ++ f ∷ [] }
      → IsTaken config queue (record { journal = journal; waits = Some f; counts = plane'.counts; feeders = taker'.feeders; ended = taker'.ended }) plane' taker' notes
  taken_waits f plane' taker' journal same room stays took =
      let led : plane' ≡ plane_of config t = stays ∙ is.plane_is in
      let counts : plane'.counts ≡ t.counts = ap (λ p. p.counts) led in
      record {
        plane_is = led ∙ (λ i. record { config = config; events = events_of (sym same i); counts = sym counts i });
        taker_is = took ∙ (λ i. record {
          queue = ap (λ k. k.queue) is.taker_is i;
          feeders = ap (λ k. k.feeders) (sym took) i;
          taken = sym same i ++ f ∷ [];
          ended = ap (λ k. k.ended) (sym took) i;
        });
        notes_are = is.notes_are ∙ (λ i. map note_of (records_in (record { config = config; events = events_of (sym same i); counts = sym counts i })));
        covers = subst (λ (x : List ℕ × List Fed). sum x.0 ≤ length x.1) (λ i. (sym counts i, sym same i)) is.covers;
        few = subst (λ (l : List Fed). length l ≤ config.max_events) (sym same) is.few;
        room = subst (λ (l : List Fed). length l < config.max_events) (sym same) room;
      }

  -- a sync covers the whole journal
  pub synced_covers : sum (with_sync config t).counts ≡ length t.journal
  synced_covers =
      let more : ℕ = uncovered_in (plane_of config t) in
      let all : sum (with_sync config t).counts ≡ sum t.counts + more =
      fold-append (λ (n m : ℕ). n + m) 0 t.counts (more ∷ []) in
      let few = is.covers in
      let as_many = events_length t.journal in omega (arith, all, few, as_many)

  -- there is one record more
  pub records_synced : (r : SyncRecord) (plane' : PlaneParts) (u : Taken) → plane' ≡ plane_of config u
      → records_in plane' ≡ records_in plane ++ r ∷ [] → records_at config u ≡ records_at config t ++ r ∷ []
  records_synced r plane' u now grows =
      ap records_in (sym now) ∙ (grows ∙ ap (λ (p : PlaneParts). records_in p ++ r ∷ []) is.plane_is)

  -- whose objects have no clash
  pub no_clash : (r : SyncRecord) → IsNextRecord plane r
      → clash_of (settings_of config) (objects_after (events_of t.journal)) ≡ None
  no_clash r next =
      subst (λ (p : PlaneParts). clash_of (settings_in p) (objects_after p.events) ≡ None) is.plane_is
      next.exact.has_no_clash

  -- or there is a fault
  pub tells_clash : (fault : TableFault)
      → TellsClash (clash_of (settings_in plane) (objects_after plane.events)) fault
      → TellsClash (clash_of (settings_of config) (objects_after (events_of t.journal))) fault
  tells_clash fault tells =
      subst (λ (p : PlaneParts). TellsClash (clash_of (settings_in p) (objects_after p.events)) fault)
      is.plane_is tells

  -- a sync is made
  pub taken_synced : (r : SyncRecord) (plane' : PlaneParts) (journal : List Fed) (taker' : Taker) (notes' : List RecordNote)
      → journal ≡ t.journal → taker' ≡ taker → plane' ≡ synced plane → records_in plane' ≡ records_in plane ++ r ∷ [] → notes' ≡ notes ++ note_of r ∷ []
      → IsTaken config queue (record { journal = journal; waits = t.waits; counts = plane'.counts; feeders = taker'.feeders; ended = taker'.ended }) plane' taker' notes'
  taken_synced r plane' journal taker' notes' same kept leads grows noted =
      let led : plane' ≡ plane_of config (with_sync config t) = leads ∙ ap synced is.plane_is in
      let counts : plane'.counts ≡ (with_sync config t).counts = ap (λ p. p.counts) led in
      let whole : plane' ≡ record { config = config; events = events_of journal; counts = plane'.counts } =
      led ∙ (λ i. record { config = config; events = events_of (sym same i); counts = sym counts i }) in
      record {
        plane_is = whole;
        taker_is = kept ∙ (is.taker_is ∙ (λ i. record {
          queue = queue;
          feeders = ap (λ k. k.feeders) (sym is.taker_is ∙ sym kept) i;
          taken = sym same i ++ option_to_list t.waits;
          ended = ap (λ k. k.ended) (sym is.taker_is ∙ sym kept) i;
        }));
        notes_are = noted ∙ (ap (λ ns. ns ++ note_of r ∷ []) (is.notes_are ∙ ap (λ p. map note_of (records_in p)) (sym is.plane_is))
            ∙ (sym (map-append note_of (records_in plane) (r ∷ [])) ∙ ap (map note_of) (sym grows ∙ ap records_in whole)));
        covers = subst (λ (x : List ℕ × List Fed). sum x.0 ≤ length x.1) (λ i. (sym counts i, sym same i)) (omega (arith, synced_covers));
        few = subst (λ (l : List Fed). length l ≤ config.max_events) (sym same) is.few;
        room = subst (λ (l : List Fed). IfSome t.waits (λ f. length l < config.max_events)) (sym same) is.room;
      }
