-- What holds of what the lock keeps still does behind each step.
use Rattle.std.proofs.Common.{◌≡◌, ℕ, ◌+◌, ◌≤◌, ◌<◌, false, List, [], ◌∷◌, ◌++◌, Some, length, take, ap, sym, subst, ◌∙◌, arith, length-append, append_assoc}
use Rattle.std.proofs.lemmas.List.{append-nil, map-append, take-append-le}
use Rattle.std.proofs.lemmas.List.FromFn.{length-map-range_with_len}
use Rattle.std.proofs.Math.Seq.{take-length}
use Rattle.std.specs.List.{AllByRecursion}
use mathlib.Core.List.{IsPrefix}
use Rattle.kp_lemmas.proofs.ListFacts.{all_append, all_weaker}
use Rattle.kp_base.specs.declared.config.Config.{Config}
use Rattle.kp_choice_defs.specs.Settings.{settings_of}
use Rattle.kp_types.specs.declared.chain.Clash.{Clash}
use Rattle.kp_types.specs.declared.sync.SyncRecord.{SyncRecord}
use Rattle.kp_object_defs.specs.Objects.{objects_after}
use Rattle.kp_table_defs.specs.Rebuild.{TableParts, clash_of}
use Rattle.kp_history_defs.specs.declared.fed.Fed.{Fed}
use Rattle.kp_history_defs.specs.History.{record_at, sync_records}
use Rattle.kp_history_defs.specs.Runs.{events_of}
use Rattle.kp_publish.specs.Entries.{records_of, is_ended}
use Rattle.kp_publish.specs.Pending.{Keeps}
use Rattle.kp_feed.specs.Passes.{Feeder}
use Rattle.kp_plane.specs.Parts.{settings_in, uncovered_in}
use Rattle.kp_hub.specs.declared.notes.Refusal.{Refusal}
use Rattle.kp_hub.specs.Taken.{Taken, plane_of, records_at, with_sync}
use Rattle.kp_hub.specs.Growing.{TakesMore}
use Rattle.kp_hub.specs.Finishing.{with_ended}
use Rattle.kp_hub.specs.State.{HubState, IsHubState, IsRefusal, first_table}
use Rattle.kp_hub.specs.Syncs.{clash_after, with_refusal}
use Rattle.kp_hub.proofs.Intakes.{events_length}

-- there are as many records as counts
pub records_length : (config : Config) (t : Taken) → length (records_at config t) ≡ length t.counts
records_length config t = length-map-range_with_len (record_at (settings_in (plane_of config t)) (events_of t.journal) t.counts) 0 (length t.counts)

-- a refusal stays one where the journal grows
refusal_stays : (config : Config) (journal more : List Fed) → IsPrefix journal more → (r : Refusal) → IsRefusal config journal r → IsRefusal config more r
refusal_stays config journal more p r is =
    let longer : length more ≡ length journal + length p.0 = ap length (sym p.1) ∙ length-append journal p.0 in
    let within : r.events ≤ length (events_of journal) = subst (λ (n : ℕ). r.events ≤ n) (sym (events_length journal)) is.within in
    let first : take r.events (events_of more) ≡ take r.events (events_of journal) =
    ap (λ l. take r.events (events_of l)) (sym p.1)
    ∙ (ap (take r.events) (map-append (λ (x : Fed). x.event) journal p.0)
    ∙ take-append-le r.events (events_of journal) (events_of p.0) within) in
    let here = is.within in record {
      within = omega (arith, longer, here);
      clash = ap (λ es. clash_of (settings_of config) (objects_after es)) first ∙ is.clash;
    }

-- nothing was taken or published yet
pub state_new : (config : Config) (streams : ℕ) (start : TableParts) (h : HubState)
    (waiting : List SyncRecord) → start ≡ first_table config → h.taken.feeders ≡ streams
    → h.taken.counts ≡ [] → h.outlet.newest ≡ [] → waiting ≡ [] → h.refusals ≡ [] → h.accepted ≡ 0
    → h.refused ≡ 0 → IsHubState config streams start h waiting
state_new config streams start h waiting first feeders counts newest none refusals accepted refused = record {
  start_is = first;
  feeders = feeders;
  publishes = record {
    is_open = ap is_ended newest;
    records = (λ i. records_of (newest i) ++ none i)
        ∙ sym (ap (λ cs. sync_records (settings_of config) (events_of h.taken.journal) cs) counts);
  };
  keeps = record {
    refusals = subst (AllByRecursion (IsRefusal config h.taken.journal)) (sym refusals) tt;
    accepted = omega (arith, accepted);
    refused = omega (arith, refused);
  };
}

module _ (config : Config) (streams : ℕ) (start : TableParts) (h : HubState) (waiting : List SyncRecord)
    (is : IsHubState config streams start h waiting) where
  -- events are taken
  pub state_takes : (t : Taken) → TakesMore h.taken t → t.counts ≡ h.taken.counts → records_at config t ≡ records_at config h.taken
      → IsHubState config streams start (record h { taken = t }) waiting
  state_takes t more counts records = record {
    start_is = is.start_is;
    feeders = more.feeders ∙ is.feeders;
    publishes = record { is_open = is.publishes.is_open; records = is.publishes.records ∙ sym records };
    keeps = record {
      refusals = all_weaker (IsRefusal config h.taken.journal) (IsRefusal config t.journal)
          (λ r x. refusal_stays config h.taken.journal t.journal more.journal r x) h.refusals is.keeps.refusals;
      accepted = subst (λ cs. h.accepted ≤ length cs) (sym counts) is.keeps.accepted;
      refused = is.keeps.refused;
    };
  }

  made : (r : SyncRecord)
      → records_at config (with_sync config h.taken) ≡ records_at config h.taken ++ r ∷ []
      → IsHubState config streams start (record h { taken = with_sync config h.taken }) (waiting ++ r ∷ [])
  made r grows = record {
    start_is = is.start_is;
    feeders = is.feeders;
    publishes = record {
      is_open = is.publishes.is_open;
      records = sym (append_assoc (records_of h.outlet.newest) waiting (r ∷ []))
          ∙ (ap (λ rs. rs ++ r ∷ []) is.publishes.records ∙ sym grows);
    };
    keeps = record {
      refusals = is.keeps.refusals;
      accepted =
          let few = is.keeps.accepted in
          let more = length-append h.taken.counts (uncovered_in (plane_of config h.taken) ∷ []) in
          omega (arith, few, more);
      refused = is.keeps.refused;
    };
  }

  -- a record is made, and waits
  pub state_records : (r : SyncRecord) (t : Taken) (waits : List SyncRecord) → t ≡ with_sync config h.taken
      → records_at config t ≡ records_at config h.taken ++ r ∷ [] → waits ≡ waiting ++ r ∷ []
      → IsHubState config streams start (record h { taken = t }) waits
  state_records r t waits makes grows more =
      subst (λ (p : Taken × List SyncRecord). IsHubState config streams start (record h { taken = p.0 }) p.1)
      (λ i. (sym makes i, sym more i)) (made r (sym (ap (records_at config) makes) ∙ grows))

  -- which no pass was told of
  pub untold : h.accepted < length (with_sync config h.taken).counts
  untold =
      let few = is.keeps.accepted in
      let more = length-append h.taken.counts (uncovered_in (plane_of config h.taken) ∷ []) in
      omega (arith, few, more)

  -- feeders end
  pub state_ends : (passes : List Feeder)
      → IsHubState config streams start (record h { taken = with_ended h.taken passes }) waiting
  state_ends passes = record {
    start_is = is.start_is;
    feeders = is.feeders;
    publishes = record { is_open = is.publishes.is_open; records = is.publishes.records };
    keeps = record {
      refusals = is.keeps.refusals;
      accepted = is.keeps.accepted;
      refused = is.keeps.refused;
    };
  }

  -- more syncs were told to passes
  pub state_tells : (accepted refused : ℕ) → accepted ≤ length h.taken.counts → refused ≤ length h.refusals
      → IsHubState config streams start (record h { accepted = accepted; refused = refused }) waiting
  state_tells accepted refused few fewer = record {
    start_is = is.start_is;
    feeders = is.feeders;
    publishes = record { is_open = is.publishes.is_open; records = is.publishes.records };
    keeps = record { refusals = is.keeps.refusals; accepted = few; refused = fewer };
  }

  -- records are published
  pub state_publishes : (outlet : Keeps) (left : List SyncRecord) → is_ended outlet.newest ≡ false
      → records_of outlet.newest ++ left ≡ records_of h.outlet.newest ++ waiting
      → IsHubState config streams start (record h { outlet = outlet }) left
  state_publishes outlet left is_open same = record {
    start_is = is.start_is;
    feeders = is.feeders;
    publishes = record { is_open = is_open; records = same ∙ is.publishes.records };
    keeps = record {
      refusals = is.keeps.refusals;
      accepted = is.keeps.accepted;
      refused = is.keeps.refused;
    };
  }

  -- there are records that wait where fewer are published or pending
  pub some_wait : length (records_of h.outlet.newest) < length h.taken.counts → 0 < length waiting
  some_wait fewer =
      let all : length (records_of h.outlet.newest) + length waiting ≡ length h.taken.counts =
      sym (length-append (records_of h.outlet.newest) waiting) ∙ (ap length is.publishes.records ∙ records_length config h.taken) in
      omega (arith, fewer, all)

  -- and where none waits all are
  pub newest_all : (outlet : Keeps) (left : List SyncRecord)
      → records_of outlet.newest ++ left ≡ records_of h.outlet.newest ++ waiting → left ≡ []
      → records_of outlet.newest ≡ records_at config h.taken
  newest_all outlet left same none =
      sym (append-nil (records_of outlet.newest))
      ∙ (ap (λ w. records_of outlet.newest ++ w) (sym none) ∙ (same ∙ is.publishes.records))

  pub published_all : (outlet : Keeps) (left : List SyncRecord)
      → records_of outlet.newest ++ left ≡ records_of h.outlet.newest ++ waiting → left ≡ []
      → outlet.published ≡ outlet.newest → records_of outlet.published ≡ records_at config h.taken
  published_all outlet left same none all = ap records_of all ∙ newest_all outlet left same none

  -- where one more waits fewer are
  pub fewer_published : (r : SyncRecord) (before : List SyncRecord) → waiting ≡ before ++ r ∷ [] → length (records_of h.outlet.newest) < length h.taken.counts
  fewer_published r before last =
      let all : length (records_of h.outlet.newest) + length waiting ≡ length h.taken.counts =
      sym (length-append (records_of h.outlet.newest) waiting) ∙ (ap length is.publishes.records ∙ records_length config h.taken) in
      let some : length waiting ≡ length before + 1 = ap length last ∙ length-append before (r ∷ []) in
      omega (arith, all, some)

  whole_refusal : (clash : Clash) → clash_after config h.taken.journal ≡ Some clash
      → IsRefusal config h.taken.journal (record { events = length h.taken.journal; clash = clash })
  whole_refusal clash found = record {
    within = omega arith;
    clash = ap (λ es. clash_of (settings_of config) (objects_after es))
        (ap (λ n. take n (events_of h.taken.journal)) (sym (events_length h.taken.journal))
        ∙ take-length (events_of h.taken.journal))
        ∙ found;
  }

  -- it is not counted yet
  pub refusal_uncounted : (clash : Clash) → h.refused < length (with_refusal h clash).refusals
  refusal_uncounted clash =
      let few = is.keeps.refused in
      let more = length-append h.refusals (record { events = length h.taken.journal; clash = clash } ∷ []) in
      omega (arith, few, more)

  -- a refusal of the whole journal is kept
  pub state_refuses : (clash : Clash) (refusals : List Refusal) → clash_after config h.taken.journal ≡ Some clash
      → refusals ≡ (with_refusal h clash).refusals
      → IsHubState config streams start (record h { refusals = refusals }) waiting
  state_refuses clash refusals found more = record {
    start_is = is.start_is;
    feeders = is.feeders;
    publishes = record { is_open = is.publishes.is_open; records = is.publishes.records };
    keeps = record {
      refusals = subst (AllByRecursion (IsRefusal config h.taken.journal)) (sym more)
          (all_append (IsRefusal config h.taken.journal) h.refusals (record { events = length h.taken.journal; clash = clash } ∷ [])
          is.keeps.refusals (whole_refusal clash found, tt));
      accepted = is.keeps.accepted;
      refused =
          let few = refusal_uncounted clash in
          let longer = ap length more in omega (arith, few, longer);
    };
  }
