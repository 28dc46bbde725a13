-- One more line of a stream.
use Rattle.std.proofs.Common.{◌≡◌, ◌≤◌, ◌+◌, ℕ, suc, max, Bool, true, false, cond, List, [], ◌∷◌, ◌++◌, map, length, take, ◌&&◌, refl, ap, sym, subst, ◌∙◌, arith, append-nil, inl, inr}
use Rattle.std.specs.Prelude.{nat_le, count_by}
use Rattle.std.specs.FinMap.{get}
use Rattle.std.proofs.Math.Seq.{take-append_seam}
use Rattle.std.proofs.lemmas.Bool.{and_from, le-leb}
use Rattle.std.proofs.lemmas.List.Sums.{fold-append, sum_by-append}
use Rattle.std.proofs.lemmas.List.{flat_map_more, map-append}
use mathlib.Core.List.{IsPrefix}
use Rattle.kp_lemmas.proofs.ListFacts.{prefix_through}
use Rattle.kp_base.specs.declared.config.Config.{Config}
use Rattle.kp_types.specs.declared.chain.Clash.{Clash}
use Rattle.kp_types.specs.declared.event.Event.{Event}
use Rattle.kp_types.specs.declared.sync.SyncRecord.{SyncRecord}
use Rattle.kp_choice_defs.specs.Recent.{RecentParts}
use Rattle.kp_table_defs.specs.Rebuild.{TableParts}
use Rattle.kp_history_defs.specs.History.{table_from}
use Rattle.kp_text_defs.specs.Live.{live_sync_text}
use Rattle.kp_text_defs.specs.declared.packet.PacketLine.{PacketLine}
use Rattle.kp_run_defs.specs.AnswerText.{walk_at}
use Rattle.kp_run_defs.specs.CountedRuns.{Seen, nothing_seen, seen_work}
use Rattle.kp_run_defs.specs.LegalRuns.{Mark, Shows, Refuses, is_sync}
use Rattle.kp_run_defs.specs.LiveLines.{events_fed}
use Rattle.kp_run_defs.specs.declared.live.StreamLine.{StreamLine}
use Rattle.kp_run_defs.specs.declared.live.Work.TheVariants.{Feeds, Syncs, Sends}
use Rattle.kp_publish.specs.declared.entry.Entry.{Entry}
use Rattle.kp_publish.specs.Entries.{records_of}
use Rattle.kp_publish.proofs.Beginnings.{begins_records, prefix_length}
use Rattle.kp_hub.specs.Known.{Worker}
use Rattle.kp_hub.specs.Reading.{Reads, walk_after}
use Rattle.kp_hub.specs.Syncs.{IsTold}
use Rattle.kp_live.specs.Told.{Told, Says, Denies, Holds, packet_told}
use Rattle.kp_live.specs.Stands.{Stand}
use Rattle.kp_live.specs.Streams.{Shown, Answering, GoesOnFromAll, known, FitsRecords, HasRun, HasFed, StandsBehind, SyncTold, PacketTold, nothing_told, answering, after_shown, with_shown, see_shown, seen_from, walk_from, is_accepted, is_denied}

-- ---- Beginnings

-- the first elements that a list begins with
pub take_beginning : {A : Type 0} (xs zs : List A) → IsPrefix xs zs → take (length xs) zs ≡ xs
take_beginning xs zs p = ap (take (length xs)) (sym p.1) ∙ take-append_seam xs p.0

-- a line that could show what it does, as those before it could
all_fit : (fits : Bool) (least n most : ℕ) → fits ≡ true → least ≤ n → n ≤ most
    → (fits && (nat_le least n && nat_le n most)) ≡ true
all_fit fits least n most f low high =
    and_from fits (nat_le least n && nat_le n most) f
    (and_from (nat_le least n) (nat_le n most) (le-leb least n low) (le-leb n most high))

-- how many pass, with one more
count_more : {A : Type 0} (p : A → Bool) (xs : List A) (x : A)
    → count_by p (xs ++ x ∷ []) ≡ count_by p xs + cond (p x) 1 0
count_more p xs x =
    let more : count_by p (xs ++ x ∷ []) ≡ count_by p xs + (0 + cond (p x) 1 0) =
    sum_by-append (λ y. cond (p y) 1 0) xs (x ∷ []) in
    omega (arith, more)

module _ (start : TableParts) (config : Config) where
  -- ---- Any line

  more_answers : (records : List SyncRecord) (shown : List Shown) (s : Shown)
      → answering start config records (shown ++ s ∷ [])
      ≡ after_shown start config records (answering start config records shown) s
  more_answers records shown s =
      fold-append (after_shown start config records) (nothing_told config) shown (s ∷ [])

  more_seen : (records : ℕ) (shown : List Shown) (s : Shown)
      → seen_from records (shown ++ s ∷ []) ≡ see_shown records (seen_from records shown) s
  more_seen records shown s = fold-append (see_shown records) nothing_seen shown (s ∷ [])

  -- one more line that could show what it does
  fits_more : (records : List SyncRecord) (shown : List Shown) (s : Shown) (now next : Answering)
      (w v : Worker) → FitsRecords start config records shown now w
      → next ≡ after_shown start config records now s → (seen : Seen)
      → see_shown (length records) (seen_from (length records) shown) s ≡ seen
      → seen.fits ≡ true → seen.most ≤ known v → seen.syncs ≡ v.accepted
      → FitsRecords start config records (shown ++ s ∷ []) next v
  fits_more records shown s now next w v old step seen is fits most syncs =
      let all = more_seen (length records) shown s ∙ is in record {
        answers = step ∙ ap (λ a. after_shown start config records a s) old.answers
            ∙ sym (more_answers records shown s);
        fits = ap (λ q. q.fits) all ∙ fits;
        most = subst (λ q. q.most ≤ known v) (sym all) most;
        syncs = ap (λ q. q.syncs) all ∙ syncs;
      }

  -- ---- Lines that feed

  fed_fits : (records : List SyncRecord) (shown : List Shown) (line : StreamLine)
      (events : List Event) → line.work ≡ Feeds events → (now : Answering) (w : Worker)
      → FitsRecords start config records shown now w
      → FitsRecords start config records (shown ++ (line, Shows 0) ∷ []) now w
  fed_fits records shown line events is now w old =
      let seen = seen_from (length records) shown in
      fits_more records shown (line, Shows 0) now now w w old
      (sym (ap (λ x. with_shown start config records line.number (Shows 0) x now) is)) seen
      (ap (λ x. seen_work (length records) (Shows 0) x seen) is) old.fits old.most old.syncs

  -- ---- Lines that sync

  -- a worker that was told of a sync
  told_most : (w v : Worker) (n most : ℕ) → IsTold n w v → most ≤ known w
      → max most n ≤ known v
  told_most w v n most told le =
      let learned = prefix_length (records_of v.learned) (records_of v.told)
      (begins_records v.learned v.told told.learned) in
      let more = prefix_length (records_of w.told) (records_of v.told)
      (begins_records w.told v.told told.told) in
      let same = ap (λ l. length (records_of l)) told.seen in
      omega (arith, learned, more, same, le, told.front)

  told_on : (records : List SyncRecord) (w v : Worker) (n : ℕ) → IsTold n w v
      → GoesOnFromAll records v → GoesOnFromAll records w
  told_on records w v n told on = (
    subst (λ l. IsPrefix (records_of l) records) told.seen on.0,
    prefix_through (records_of w.told) (records_of v.told) records
        (begins_records w.told v.told told.told) on.1,
  )

  accepted_fits : (records : List SyncRecord) (shown : List Shown) (line : StreamLine)
      → line.work ≡ Syncs → (n : ℕ) (now : Answering) (w v : Worker) → IsTold n w v
      → GoesOnFromAll records v → FitsRecords start config records shown now w
      → FitsRecords start config records (shown ++ (line, Shows n) ∷ [])
      (record now { told = now.told ++ Says (live_sync_text line.number n) ∷ [] }) v
  accepted_fits records shown line is n now w v told on old =
      let r = length records in
      let seen = seen_from r shown in
      let after : Seen = record {
        syncs = suc seen.syncs;
        most = max seen.most n;
        fits = seen.fits && (nat_le (suc seen.syncs) n && nat_le n r);
      } in
      let learned = prefix_length (records_of v.learned) (records_of v.told)
      (begins_records v.learned v.told told.learned) in
      let within = prefix_length (records_of v.told) records on.1 in
      let few : suc seen.syncs ≤ n = omega (arith, old.syncs, told.accepted, told.few) in
      let there : n ≤ r = omega (arith, learned, within, told.front) in
      fits_more records shown (line, Shows n) now
      (record now { told = now.told ++ Says (live_sync_text line.number n) ∷ [] }) w v old
      (sym (ap (λ x. with_shown start config records line.number (Shows n) x now) is)) after
      (ap (λ x. seen_work r (Shows n) x seen) is)
      (all_fit seen.fits (suc seen.syncs) n r old.fits few there)
      (told_most w v n seen.most told old.most)
      (omega (arith, old.syncs, told.accepted))

  denied_fits : (records : List SyncRecord) (shown : List Shown) (line : StreamLine)
      → line.work ≡ Syncs → (clash : Clash) (now : Answering) (w : Worker)
      → FitsRecords start config records shown now w
      → FitsRecords start config records (shown ++ (line, Refuses clash) ∷ [])
      (record now { told = now.told ++ Denies clash ∷ [] })
      (record w { refused = w.refused + 1 })
  denied_fits records shown line is clash now w old =
      let seen = seen_from (length records) shown in
      fits_more records shown (line, Refuses clash) now
      (record now { told = now.told ++ Denies clash ∷ [] }) w
      (record w { refused = w.refused + 1 }) old
      (sym (ap (λ x. with_shown start config records line.number (Refuses clash) x now) is)) seen
      (ap (λ x. seen_work (length records) (Refuses clash) x seen) is) old.fits old.most old.syncs

  -- ---- Lines that send a packet

  -- what is answered after the records that were seen, is answered from these many of more records
  answered_from : (records : List SyncRecord) (seen : List Entry) (number : ℕ) (p : PacketLine)
      (lists : RecentParts) → IsPrefix (records_of seen) records
      → walk_after start config seen number p lists
      ≡ walk_from start config records (length (records_of seen)) number p lists
  answered_from records seen number p lists begins =
      ap (λ rs. walk_at (get (table_from start rs).chains) config.addresses number p lists)
      (sym (take_beginning (records_of seen) records begins))

  -- what a pass that has read knew before
  read_on : (records : List SyncRecord) (w v : Worker) → Reads w v → GoesOnFromAll records v
      → GoesOnFromAll records w
  read_on records w v reads on = (
    prefix_through (records_of w.seen) (records_of v.seen) records reads.seen.begins on.0,
    prefix_through (records_of w.told) (records_of v.seen) records reads.told.begins on.0,
  )

  sent_fits : (records : List SyncRecord) (shown : List Shown) (line : StreamLine)
      (p : PacketLine) → line.work ≡ Sends p → (told : List Told) (lists left : RecentParts)
      (next : Told) (w v : Worker) → PacketTold start config line.number p w v lists left next
      → GoesOnFromAll records v
      → FitsRecords start config records shown (record { told = told; lists = lists }) w
      → FitsRecords start config records (shown ++ (line, Shows (length (records_of v.seen))) ∷ [])
      (record { told = told ++ next ∷ []; lists = left }) v
  sent_fits records shown line p is told lists left next w v sent on old =
      let n = length (records_of v.seen) in
      let r = length records in
      let now : Answering = record { told = told; lists = lists } in
      let seen = seen_from r shown in
      let after : Seen = record seen {
        most = max seen.most n;
        fits = seen.fits && (nat_le seen.most n && nat_le n r);
      } in
      let walks = answered_from records v.seen line.number p lists on.0 in
      let saw = prefix_length (records_of w.seen) (records_of v.seen) sent.reads.seen.begins in
      let knew = prefix_length (records_of w.told) (records_of v.seen) sent.reads.told.begins in
      let low : seen.most ≤ n = omega (arith, saw, knew, old.most) in
      let high : n ≤ r = prefix_length (records_of v.seen) records on.0 in
      let step : record { told = told ++ next ∷ []; lists = left }
      ≡ with_shown start config records line.number (Shows n) (Sends p) now =
      λ i. record {
        told = told
            ++ (sent.told_is
            ∙ ap (λ x. packet_told line.number n p x) walks) i ∷ [];
        lists = (sent.lists_are ∙ ap (λ x. x.lists) walks) i;
      } in
      fits_more records shown (line, Shows n) now (record { told = told ++ next ∷ []; lists = left })
      w v old
      (step ∙ sym (ap (λ x. with_shown start config records line.number (Shows n) x now) is)) after
      (ap (λ x. seen_work r (Shows n) x seen) is)
      (all_fit seen.fits seen.most n r old.fits low high)
      (omega (arith, low))
      (old.syncs ∙ sym (ap (λ x. x.accepted) sent.reads.stays))

  -- ---- What a stream's lines came to

  lines_more : (shown : List Shown) (lines : List StreamLine) (line : StreamLine) (m : Mark)
      → map (λ (s : Shown). s.0) shown ≡ lines
      → map (λ (s : Shown). s.0) (shown ++ (line, m) ∷ []) ≡ lines ++ line ∷ []
  lines_more shown lines line m are =
      map-append (λ (s : Shown). s.0) shown ((line, m) ∷ []) ∙ ap (λ l. l ++ line ∷ []) are

  count_is : (p : Shown → Bool) (shown : List Shown) (s : Shown) (b : Bool) (n m : ℕ)
      → p s ≡ b → count_by p shown ≡ n → n + cond b 1 0 ≡ m → count_by p (shown ++ s ∷ []) ≡ m
  count_is p shown s b n m is old new =
      count_more p shown s ∙ ap (λ k. k + cond (p s) 1 0) old ∙ ap (λ x. n + cond x 1 0) is ∙ new

  pub fed_run : (line : StreamLine) (events : List Event) → line.work ≡ Feeds events
      → (lines : List StreamLine) (now : Answering) (w : Worker)
      → HasRun start config lines now w → HasRun start config (lines ++ line ∷ []) now w
  fed_run line events is lines now w run = record {
    shown = run.shown ++ (line, Shows 0) ∷ [];
    lines_are = lines_more run.shown lines line (Shows 0) run.lines_are;
    accepted = count_is is_accepted run.shown (line, Shows 0) false w.accepted w.accepted
        (ap (λ x. is_sync x && true) is) run.accepted (omega arith);
    refused = count_is is_denied run.shown (line, Shows 0) false w.refused w.refused
        (ap (λ x. is_sync x && false) is) run.refused (omega arith);
    fits = λ records on. fed_fits records run.shown line events is now w (run.fits records on);
  }

  accepted_run : (line : StreamLine) → line.work ≡ Syncs → (n : ℕ) (lines : List StreamLine)
      (now : Answering) (w v : Worker) → IsTold n w v → HasRun start config lines now w
      → HasRun start config (lines ++ line ∷ [])
      (record now { told = now.told ++ Says (live_sync_text line.number n) ∷ [] }) v
  accepted_run line is n lines now w v told run = record {
    shown = run.shown ++ (line, Shows n) ∷ [];
    lines_are = lines_more run.shown lines line (Shows n) run.lines_are;
    accepted = count_is is_accepted run.shown (line, Shows n) true w.accepted v.accepted
        (ap (λ x. is_sync x && true) is) run.accepted (sym told.accepted);
    refused = count_is is_denied run.shown (line, Shows n) false w.refused v.refused
        (ap (λ x. is_sync x && false) is) run.refused (omega (arith, told.refused));
    fits = λ records on.
        accepted_fits records run.shown line is n now w v told on
        (run.fits records (told_on records w v n told on));
  }

  denied_run : (line : StreamLine) → line.work ≡ Syncs → (clash : Clash)
      (lines : List StreamLine) (now : Answering) (w : Worker) → HasRun start config lines now w
      → HasRun start config (lines ++ line ∷ [])
      (record now { told = now.told ++ Denies clash ∷ [] })
      (record w { refused = w.refused + 1 })
  denied_run line is clash lines now w run = record {
    shown = run.shown ++ (line, Refuses clash) ∷ [];
    lines_are = lines_more run.shown lines line (Refuses clash) run.lines_are;
    accepted = count_is is_accepted run.shown (line, Refuses clash) false w.accepted w.accepted
        (ap (λ x. is_sync x && false) is) run.accepted (omega arith);
    refused = count_is is_denied run.shown (line, Refuses clash) true w.refused (w.refused + 1)
        (ap (λ x. is_sync x && true) is) run.refused refl;
    fits = λ records on.
        denied_fits records run.shown line is clash now w (run.fits records on);
  }

  sent_run : (line : StreamLine) (p : PacketLine) → line.work ≡ Sends p
      → (lines : List StreamLine) (told : List Told) (lists left : RecentParts) (next : Told)
      (w v : Worker) → PacketTold start config line.number p w v lists left next
      → HasRun start config lines (record { told = told; lists = lists }) w
      → HasRun start config (lines ++ line ∷ []) (record { told = told ++ next ∷ []; lists = left })
      v
  sent_run line p is lines told lists left next w v sent run =
      let n = length (records_of v.seen) in record {
        shown = run.shown ++ (line, Shows n) ∷ [];
        lines_are = lines_more run.shown lines line (Shows n) run.lines_are;
        accepted = count_is is_accepted run.shown (line, Shows n) false w.accepted v.accepted
            (ap (λ x. is_sync x && true) is) run.accepted
            (omega (arith, ap (λ x. x.accepted) sent.reads.stays));
        refused = count_is is_denied run.shown (line, Shows n) false w.refused v.refused
            (ap (λ x. is_sync x && false) is) run.refused
            (omega (arith, ap (λ x. x.refused) sent.reads.stays));
        fits = λ records on.
            sent_fits records run.shown line p is told lists left next w v sent on
            (run.fits records (read_on records w v sent.reads on));
      }

  -- ---- Where a stream stands

  fed_more : (lines : List StreamLine) (line : StreamLine) (fed events more : List Event)
      → HasFed lines fed → events_fed line.work ≡ events → more ≡ fed ++ events
      → HasFed (lines ++ line ∷ []) more
  fed_more lines line fed events more old is new =
      new ∙ (λ i. old i ++ sym is i)
      ∙ flat_map_more (λ (x : StreamLine). events_fed x.work) [] lines line

  -- behind a line that feeds
  pub behind_fed : (line : StreamLine) (events : List Event) → line.work ≡ Feeds events
      → (lines : List StreamLine) (s t : Stand) → t.worker ≡ s.worker → t.lists ≡ s.lists
      → t.answers ≡ s.answers → t.feeder.fed ≡ s.feeder.fed ++ events
      → StandsBehind start config lines s → StandsBehind start config (lines ++ line ∷ []) t
  behind_fed line events is lines s t worker lists answers fed stands = record {
    told = stands.told;
    holds = subst (λ a. Holds a stands.told) (sym answers) stands.holds;
    ran =
        subst (λ w. HasRun start config (lines ++ line ∷ [])
        (record { told = stands.told; lists = t.lists }) w) (sym worker)
        (subst (λ l. HasRun start config (lines ++ line ∷ [])
        (record { told = stands.told; lists = l }) s.worker) (sym lists)
        (fed_run line events is lines (record { told = stands.told; lists = s.lists }) s.worker
        stands.ran));
    fed = fed_more lines line s.feeder.fed events t.feeder.fed stands.fed (ap events_fed is) fed;
  }

  synced_run : (line : StreamLine) → line.work ≡ Syncs → (lines : List StreamLine)
      (told : List Told) (lists : RecentParts) (next : Told) (w v : Worker)
      → SyncTold line.number w v next
      → HasRun start config lines (record { told = told; lists = lists }) w
      → HasRun start config (lines ++ line ∷ [])
      (record { told = told ++ next ∷ []; lists = lists }) v
  synced_run line is lines told lists next w v (inl one) run =
      subst (λ t. HasRun start config (lines ++ line ∷ [])
      (record { told = told ++ t ∷ []; lists = lists }) v) (sym one.2)
      (accepted_run line is one.0 lines (record { told = told; lists = lists }) w v one.1 run)
  synced_run line is lines told lists next w v (inr one) run =
      subst (λ t. HasRun start config (lines ++ line ∷ [])
      (record { told = told ++ t ∷ []; lists = lists }) v) (sym one.2)
      (subst (HasRun start config (lines ++ line ∷ [])
      (record { told = told ++ Denies one.0 ∷ []; lists = lists })) (sym one.1)
      (denied_run line is one.0 lines (record { told = told; lists = lists }) w run))

  -- behind a line that syncs
  pub behind_synced : (line : StreamLine) → line.work ≡ Syncs → (lines : List StreamLine)
      (s t : Stand) → t.feeder ≡ s.feeder → t.lists ≡ s.lists
      → ((told : List Told) → Holds s.answers told → (next : Told)
      × SyncTold line.number s.worker t.worker next × Holds t.answers (told ++ next ∷ []))
      → StandsBehind start config lines s → StandsBehind start config (lines ++ line ∷ []) t
  behind_synced line is lines s t feeder lists step stands =
      let one = step stands.told stands.holds in record {
        told = stands.told ++ one.0 ∷ [];
        holds = one.2;
        ran =
            subst (λ l. HasRun start config (lines ++ line ∷ [])
            (record { told = stands.told ++ one.0 ∷ []; lists = l }) t.worker) (sym lists)
            (synced_run line is lines stands.told s.lists one.0 s.worker t.worker one.1
            stands.ran);
        fed = fed_more lines line s.feeder.fed [] t.feeder.fed stands.fed (ap events_fed is)
            (ap (λ f. f.fed) feeder ∙ sym (append-nil s.feeder.fed));
      }

  -- behind a line that sends a packet
  pub behind_sent : (line : StreamLine) (p : PacketLine) → line.work ≡ Sends p
      → (lines : List StreamLine) (s t : Stand) → t.feeder ≡ s.feeder
      → ((told : List Told) → Holds s.answers told → (next : Told)
      × PacketTold start config line.number p s.worker t.worker s.lists t.lists next
      × Holds t.answers (told ++ next ∷ []))
      → StandsBehind start config lines s → StandsBehind start config (lines ++ line ∷ []) t
  behind_sent line p is lines s t feeder step stands =
      let one = step stands.told stands.holds in record {
        told = stands.told ++ one.0 ∷ [];
        holds = one.2;
        ran =
            sent_run line p is lines stands.told s.lists t.lists one.0 s.worker t.worker one.1
            stands.ran;
        fed = fed_more lines line s.feeder.fed [] t.feeder.fed stands.fed (ap events_fed is)
            (ap (λ f. f.fed) feeder ∙ sym (append-nil s.feeder.fed));
      }
