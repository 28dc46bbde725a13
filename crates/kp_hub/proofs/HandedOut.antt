-- What a hub that ended hands out.
use Rattle.std.proofs.Common.{◌≡◌, ℕ, ◌≤◌, ◌<◌, inl, inr, true, List, [], ◌∷◌, ◌++◌, Option, None, filter, length, map, sum, refl, ap, sym, subst, ◌∙◌, append_assoc, arith}
use Rattle.std.proofs.lemmas.List.{append-nil, length-map}
use Rattle.std.proofs.lemmas.List.Elements.{filter-append}
use Rattle.std.proofs.lemmas.Simd.{map-map}
use Rattle.std.specs.List.{AllByRecursion}
use Rattle.std.specs.Option.{option_to_list}
use Rattle.kp_base.specs.declared.config.Config.{Config}
use Rattle.kp_types.specs.declared.chain.Clash.{Clash}
use Rattle.kp_table_defs.specs.Rebuild.{TableParts}
use Rattle.kp_history_defs.specs.declared.fed.Fed.{Fed}
use Rattle.kp_history_defs.specs.Runs.{events_of, is_of_stream}
use Rattle.kp_feed.specs.declared.rule.Ended.{Ended}
use Rattle.kp_feed.specs.Calls.{ended_of}
use Rattle.kp_feed.specs.Feeding.{AreWhole, Delivers}
use Rattle.kp_feed.specs.Passes.{Feeder, QueueId}
use Rattle.kp_feed.specs.Taking.{Taker}
use Rattle.kp_plane.specs.Parts.{HasExactHistory, records_in, table_in}
use Rattle.kp_publish.specs.declared.entry.Entry.{Entry}
use Rattle.kp_publish.specs.declared.entry.Entry.TheVariants.{End}
use Rattle.kp_publish.specs.Entries.{is_ended, records_of}
use Rattle.kp_publish.proofs.Beginnings.{ended_snoc, records_end}
use Rattle.kp_hub.specs.declared.notes.RecordNote.{RecordNote}
use Rattle.kp_hub.specs.declared.notes.Refusal.{Refusal}
use Rattle.kp_hub.specs.Finishing.{CoversAll, IsEnd, plane_told, records_told}
use Rattle.kp_hub.specs.Growing.{IsDone}
use Rattle.kp_hub.specs.State.{IsRefusal}
use Rattle.kp_hub.specs.Syncs.{clash_after}
use Rattle.kp_hub.specs.Taken.{Taken, all_taken, note_of, plane_of, records_at, taker_of}
use Rattle.kp_hub.proofs.States.{records_length}

-- ---- What is handed out

module _ (config : Config) (t : Taken) (journal : List Fed) (notes : List RecordNote)
    (exact : HasExactHistory (plane_of config t)) (journal_is : journal ≡ t.journal)
    (notes_are : notes ≡ map note_of (records_at config t)) where
  counts_are : map (λ n. n.events) notes ≡ t.counts
  counts_are =
      ap (map (λ (n : RecordNote). n.events)) notes_are
      ∙ (map-map (λ (n : RecordNote). n.events) note_of (records_at config t) ∙ exact.counted)

  plane_is : plane_told config journal notes ≡ plane_of config t
  plane_is = λ i. record { config = config; events = events_of (journal_is i); counts = counts_are i }

  pub records_are : records_at config t ≡ records_told config journal notes
  records_are = sym (ap records_in plane_is)

  pub notes_length : length notes ≡ length t.counts
  notes_length =
      ap length notes_are ∙ (length-map (records_at config t) note_of ∙ records_length config t)

  pub ends : length t.journal ≤ config.max_events
      → (refusals : List Refusal) (clash : Option Clash) (table : TableParts)
      → table ≡ table_in (plane_of config t) → AllByRecursion (IsRefusal config t.journal) refusals
      → clash ≡ clash_after config t.journal → (clash ≡ None → CoversAll t)
      → IsEnd config journal notes refusals clash table
  ends few refusals clash table table_is refused clash_is covers = record {
    exact = subst HasExactHistory (sym plane_is) exact;
    notes_are = notes_are ∙ ap (map note_of) records_are;
    table_is = table_is ∙ sym (ap table_in plane_is);
    clash_is = clash_is ∙ sym (ap (clash_after config) journal_is);
    covers = λ none. ap sum counts_are ∙ (covers none ∙ sym (ap length journal_is));
    refused = subst (λ (j : List Fed). AllByRecursion (IsRefusal config j) refusals) (sym journal_is) refused;
    few = subst (λ (j : List Fed). length j ≤ config.max_events) (sym journal_is) few;
  }

-- a closed history has the records from before
pub closed_records : (before now : List Entry) → now ≡ before ++ End ∷ []
    → records_of now ≡ records_of before
closed_records before now more = ap records_of more ∙ records_end before

pub closed_ended : (before now : List Entry) → now ≡ before ++ End ∷ [] → is_ended now ≡ true
closed_ended before now more = ap is_ended more ∙ ended_snoc before

-- ---- What the feeders have fed

-- where the journal isn't full it is whole
pub whole_journal : (config : Config) (t : Taken) (journal : List Fed) (streams : ℕ) → IsDone config t
    → journal ≡ t.journal → t.feeders ≡ streams → length journal < config.max_events
    → AreWhole journal t.ended streams
whole_journal config t journal streams (inl full) same feeders room =
    let as_long : length journal ≡ length t.journal = ap length same in
    absurd (omega (arith, full, room, as_long))
whole_journal config t journal streams (inr done) same feeders room =
    subst (λ (p : List Fed × ℕ). AreWhole p.0 t.ended p.1) (λ i. (sym same i, feeders i)) done.1

-- what waits and what is left come behind it
pub whole_later : (t : Taken) (journal left : List Fed) (streams : ℕ) → journal ≡ t.journal
    → t.feeders ≡ streams → AreWhole (all_taken t ++ left) t.ended t.feeders
    → AreWhole (journal ++ (option_to_list t.waits ++ left)) t.ended streams
whole_later t journal left streams same feeders whole =
    subst (λ (p : List Fed × ℕ). AreWhole p.0 t.ended p.1)
    (λ i. (
      (append_assoc t.journal (option_to_list t.waits) left
          ∙ ap (λ (j : List Fed). j ++ (option_to_list t.waits ++ left)) (sym same)) i,
      feeders i,
    )) whole

-- as the last look at the queue tells
pub left_whole : (queue : QueueId) (t : Taken) (taker : Taker) (passes : List Feeder) (journal left : List Fed) (streams : ℕ)
    → taker ≡ taker_of queue t → passes ≡ [] → journal ≡ t.journal → t.feeders ≡ streams
    → AreWhole (taker.taken ++ left) (taker.ended ++ map ended_of passes) taker.feeders
    → AreWhole (journal ++ (option_to_list t.waits ++ left)) t.ended streams
left_whole queue t taker passes journal left streams took none same feeders whole =
    whole_later t journal left streams same feeders
    (subst (λ (e : List Ended). AreWhole (all_taken t ++ left) e t.feeders) (append-nil t.ended)
    (subst (λ (p : Taker × List Feeder). AreWhole (p.0.taken ++ left) (p.0.ended ++ map ended_of p.1) p.0.feeders)
    (λ i. (took i, none i)) whole))

module _ (events : List Fed) where
  delivered : (passes : List Feeder)
      → AllByRecursion (λ (e : Ended). Delivers events e.feeder e.fed) (map ended_of passes)
      → AllByRecursion (λ (p : Feeder). Delivers events p.feeder p.fed) passes
  delivered [] all = tt
  delivered (p ∷ passes) all = (all.0, delivered passes all.1)

  behind : (ended : List Ended) (passes : List Feeder)
      → AllByRecursion (λ (e : Ended). Delivers events e.feeder e.fed) (ended ++ map ended_of passes)
      → AllByRecursion (λ (p : Feeder). Delivers events p.feeder p.fed) passes
  behind [] passes all = delivered passes all
  behind (e ∷ ended) passes all = behind ended passes all.1

  -- passes that ended have delivered what they fed
  pub all_delivered : (ended : List Ended) (passes : List Feeder) (made : ℕ)
      → AreWhole events (ended ++ map ended_of passes) made
      → AllByRecursion (λ (p : Feeder). Delivers events p.feeder p.fed) passes
  all_delivered ended passes made whole = behind ended passes whole.0

nothing_before : {A : Type 0} (xs ys : List A) → xs ++ ys ≡ [] → xs ≡ []
nothing_before [] ys none = refl
nothing_before (x ∷ xs) ys none = absurd (cc none)

-- and a stream that was not made has no event
pub none_made : (journal left : List Fed) (ended : List Ended) (made : ℕ)
    → AreWhole (journal ++ left) ended made → (p : ℕ) → made ≤ p
    → filter (is_of_stream p) journal ≡ []
none_made journal left ended made whole p le =
    nothing_before (filter (is_of_stream p) journal) (filter (is_of_stream p) left)
    (sym (filter-append (is_of_stream p) journal left) ∙ whole.1 p le)
