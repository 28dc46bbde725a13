-- What lines print is what a run answers them.
use Rattle.std.proofs.Common.{◌≡◌, ◌≤◌, ◌==◌, ℕ, Bool, true, false, cond, not, ◌&&◌, ◌||◌, List, [], ◌∷◌, ◌++◌, map, length, refl, ap, sym, subst, ◌∙◌, append_assoc, append-nil}
use Rattle.std.specs.List.{fold, filter, list_any, AllByRecursion}
use Rattle.std.proofs.lemmas.Bool.{eqb-true, eq-eqb}
use Rattle.kp_base.specs.declared.config.Config.{Config}
use Rattle.kp_types.specs.declared.event.Event.{Event}
use Rattle.kp_types.specs.declared.sync.SyncRecord.{SyncRecord}
use Rattle.kp_types.specs.declared.verdict.Verdict.{Verdict}
use Rattle.kp_choice_defs.specs.Recent.{RecentParts}
use Rattle.kp_table_defs.specs.Rebuild.{TableParts}
use Rattle.kp_table_defs.specs.Walk.{Walked}
use Rattle.kp_history_defs.specs.Runs.{at_number}
use Rattle.kp_text_defs.specs.Live.{live_sync_text}
use Rattle.kp_text_defs.specs.Printed.{packet_text}
use Rattle.kp_text_defs.specs.declared.packet.PacketLine.{PacketLine}
use Rattle.kp_run_defs.specs.AnswerText.{answer_text, trail_if}
use Rattle.kp_run_defs.specs.LegalRuns.{LiveRun, Mark, Shows, Refuses, is_sync, is_shown}
use Rattle.kp_run_defs.specs.LiveText.{Answered, after_answer, with_packet, with_work, decided_at, walked_at, sync_answer, packet_answer}
use Rattle.kp_run_defs.specs.declared.live.Work.{Work}
use Rattle.kp_run_defs.specs.declared.live.Work.TheVariants.{Feeds, Syncs, Sends}
use Rattle.kp_hub.specs.declared.notes.Refusal.{Refusal}
use Rattle.kp_live.specs.Told.{Told, Says, Decides, Denies, packet_told}
use Rattle.kp_live.specs.Streams.{Shown, Answering, after_shown, is_denied, with_shown, walk_from}
use Rattle.kp_live.specs.Runs.{Telling, after_line, is_denial, with_line, with_next, told_text, kept_clash}
use Rattle.kp_live.proofs.Merging.{line_of, is_shown_of}

-- what a refused sync prints is what its line shows
abbrev pub settled : List Refusal → Mark → Mark
settled refusals (Shows n) = Shows n
settled refusals (Refuses clash) = Refuses (kept_clash refusals clash)

-- a packet shows one of so many records
abbrev pub HasRecord : ℕ → Mark → Work → Type 0
HasRecord records mark (Feeds events) = Unit {0}
HasRecord records mark Syncs = Unit {0}
HasRecord records (Shows n) (Sends p) = n ≤ records
HasRecord records (Refuses clash) (Sends p) = ⊥

or_assoc : (a b c : Bool) → ((a || b) || c) ≡ (a || (b || c))
or_assoc true b c = refl
or_assoc false b c = refl

-- what a packet's line is told prints what it is answered
says_packet : (refusals : List Refusal) (number sync : ℕ) (p : PacketLine) (w : Walked) (b : Bool)
    → p.trail ≡ b
    → told_text refusals number
    (cond b (Says (answer_text number sync p w.verdict w.trail)) (Decides sync w.verdict))
    ≡ answer_text number sync p w.verdict w.trail
says_packet refusals number sync p w true is = refl
says_packet refusals number sync p w false is =
    sym (append-nil (packet_text number sync w.verdict))
    ∙ ap (λ t. packet_text number sync w.verdict ++ trail_if t number w.trail) (sym is)

-- and no refusal
is_no_denial : (b : Bool) (bytes : List ℕ) (sync : ℕ) (verdict : Verdict)
    → is_denial (cond b (Says bytes) (Decides sync verdict)) ≡ false
is_no_denial true bytes sync verdict = refl
is_no_denial false bytes sync verdict = refl

pub or_false : (a : Bool) → (a || false) ≡ a
or_false true = refl
or_false false = refl

module _ (start : TableParts) (config : Config) (records : List SyncRecord) where
  -- ---- One after the other

  -- what a line is told, if it is told anything
  abbrev pub next_told : ℕ → Mark → Work → RecentParts → List Told
  next_told number mark (Feeds events) lists = []
  next_told number (Shows n) Syncs lists = Says (live_sync_text number n) ∷ []
  next_told number (Refuses clash) Syncs lists = Denies clash ∷ []
  next_told number (Shows n) (Sends p) lists =
      packet_told number n p (walk_from start config records n number p lists) ∷ []
  next_told number (Refuses clash) (Sends p) lists = []

  -- and the recent lists behind it
  abbrev pub next_lists : ℕ → Mark → Work → RecentParts → RecentParts
  next_lists number mark (Feeds events) lists = lists
  next_lists number mark Syncs lists = lists
  next_lists number (Shows n) (Sends p) lists =
      (walk_from start config records n number p lists).lists
  next_lists number (Refuses clash) (Sends p) lists = lists

  -- what lines are told, from these recent lists on
  abbrev pub told_from : RecentParts → List Shown → List Told
  told_from lists [] = []
  told_from lists (s ∷ shown) =
      next_told s.0.number s.1 s.0.work lists
      ++ told_from (next_lists s.0.number s.1 s.0.work lists) shown

  step_is : (number : ℕ) (mark : Mark) (work : Work) (a : Answering)
      → with_shown start config records number mark work a
      ≡ record {
        told = a.told ++ next_told number mark work a.lists;
        lists = next_lists number mark work a.lists;
      }
  step_is number (Shows n) (Feeds events) a =
      λ i. record { told = sym (append-nil a.told) i; lists = a.lists }
  step_is number (Refuses clash) (Feeds events) a =
      λ i. record { told = sym (append-nil a.told) i; lists = a.lists }
  step_is number (Shows n) Syncs a = refl
  step_is number (Refuses clash) Syncs a = refl
  step_is number (Shows n) (Sends p) a = refl
  step_is number (Refuses clash) (Sends p) a =
      λ i. record { told = sym (append-nil a.told) i; lists = a.lists }

  pub told_is : (shown : List Shown) (a : Answering)
      → (fold (after_shown start config records) a shown).told
      ≡ a.told ++ told_from a.lists shown
  told_is [] a = sym (append-nil a.told)
  told_is (s ∷ shown) a =
      let next = next_told s.0.number s.1 s.0.work a.lists in
      let lists = next_lists s.0.number s.1 s.0.work a.lists in
      ap (λ x. (fold (after_shown start config records) x shown).told)
      (step_is s.0.number s.1 s.0.work a)
      ∙ told_is shown (record { told = a.told ++ next; lists = lists })
      ∙ append_assoc a.told next (told_from lists shown)

  -- ---- Runs

  -- A run walks and decides as tables of these records do.
  pub record Walks (run : LiveRun) : Type 0 where
    pub verdict : (n number : ℕ) (p : PacketLine) (lists : RecentParts) → n ≤ length records
        → (walk_from start config records n number p lists).verdict
        ≡ (decided_at run n number p lists).verdict
    pub trail : (n number : ℕ) (p : PacketLine) (lists : RecentParts) → n ≤ length records
        → (walk_from start config records n number p lists).trail
        ≡ (walked_at run n number p lists).trail
    pub lists : (n number : ℕ) (p : PacketLine) (lists : RecentParts) → n ≤ length records
        → (walk_from start config records n number p lists).lists
        ≡ (decided_at run n number p lists).lists

  module _ (run : LiveRun) (refusals : List Refusal) where
    -- what is left of each stream is what its lines are still told, from its recent lists on
    abbrev pub LeftAre : (ℕ → List Told) → (ℕ → RecentParts) → List Shown → Type 0
    LeftAre left lists all =
        (i : ℕ) → left i ≡ told_from (lists i) (filter (is_shown_of i) all)

    -- what holds of each line of the run
    abbrev pub IsOfRun : Shown → Type 0
    IsOfRun s = HasRecord (length records) s.1 s.0.work × (run.marks s.0.number ≡ settled refusals s.1)

    -- the telling and the answers stand alike, and in the end this says whether a sync was refused
    pub record Alike (whole : Bool) (t : Telling) (a : Answered) (all : List Shown) : Type 0 where
      pub text : t.text ≡ a.text
      pub left : LeftAre t.left a.lists all
      pub denied : (t.denied || list_any is_denied all) ≡ whole

    -- what is left behind a line of another stream
    left_other : (lists : RecentParts) (i : ℕ) (s : Shown) (all : List Shown)
        → (i == s.0.stream) ≡ false
        → told_from lists (filter (is_shown_of i) (s ∷ all))
        ≡ told_from lists (filter (is_shown_of i) all)
    left_other lists i s all is =
        ap (λ b. told_from lists
        (cond b (s ∷ filter (is_shown_of i) all) (filter (is_shown_of i) all))) is

    -- what is left of the line's own stream
    left_own : (lists : RecentParts) (i : ℕ) (s : Shown) (all : List Shown)
        → (i == s.0.stream) ≡ true
        → told_from lists (filter (is_shown_of i) (s ∷ all))
        ≡ next_told s.0.number s.1 s.0.work lists
        ++ told_from (next_lists s.0.number s.1 s.0.work lists) (filter (is_shown_of i) all)
    left_own lists i s all is =
        ap (λ b. told_from lists
        (cond b (s ∷ filter (is_shown_of i) all) (filter (is_shown_of i) all))) is

    own : (s : Shown) → (s.0.stream == s.0.stream) ≡ true
    own s = eq-eqb s.0.stream s.0.stream refl

    -- what is left where a line takes the next of its stream
    next_left : (left : ℕ → List Told) (lists : ℕ → RecentParts) (s : Shown)
        (all : List Shown) (t : Told) (new : RecentParts)
        → next_told s.0.number s.1 s.0.work (lists s.0.stream) ≡ t ∷ []
        → next_lists s.0.number s.1 s.0.work (lists s.0.stream) ≡ new
        → LeftAre left lists (s ∷ all)
        → left s.0.stream
        ≡ t ∷ told_from new (filter (is_shown_of s.0.stream) all)
    next_left left lists s all t new is now are =
        are s.0.stream ∙ left_own (lists s.0.stream) s.0.stream s all (own s)
        ∙ (λ k. is k ++ told_from (now k) (filter (is_shown_of s.0.stream) all))

    rest_left : (left : ℕ → List Told) (lists : ℕ → RecentParts) (s : Shown)
        (all : List Shown) (new : RecentParts) → LeftAre left lists (s ∷ all) → (i : ℕ) (b : Bool)
        → (i == s.0.stream) ≡ b
        → cond b (told_from new (filter (is_shown_of s.0.stream) all)) (left i)
        ≡ told_from (cond b new (lists i)) (filter (is_shown_of i) all)
    rest_left left lists s all new are i true is =
        ap (λ k. told_from new (filter (is_shown_of k) all)) (sym (eqb-true i s.0.stream is))
    rest_left left lists s all new are i false is =
        are i ∙ left_other (lists i) i s all is

    -- lists that stay are those with the same in its place
    same_lists : (lists : ℕ → RecentParts) (j i : ℕ) (b : Bool) → (i == j) ≡ b
        → cond b (lists j) (lists i) ≡ lists i
    same_lists lists j i true is = ap lists (sym (eqb-true i j is))
    same_lists lists j i false is = refl

    -- ---- One line

    denied_on : (before next shown rest whole : Bool) → next ≡ shown
        → (before || (shown || rest)) ≡ whole → ((before || next) || rest) ≡ whole
    denied_on before next shown rest whole is all =
        or_assoc before next rest ∙ ap (λ x. before || (x || rest)) is ∙ all

    fed_left : (lists : RecentParts) (s : Shown) (all : List Shown) (events : List Event)
        → s.0.work ≡ Feeds events → (i : ℕ) (b : Bool) → (i == s.0.stream) ≡ b
        → told_from lists (filter (is_shown_of i) (s ∷ all))
        ≡ told_from lists (filter (is_shown_of i) all)
    fed_left lists s all events w i true is =
        left_own lists i s all is
        ∙ ap (λ x. next_told s.0.number s.1 x lists
        ++ told_from (next_lists s.0.number s.1 x lists) (filter (is_shown_of i) all)) w
    fed_left lists s all events w i false is = left_other lists i s all is

    fed_alike : (whole : Bool) (s : Shown) (all : List Shown) (t : Telling) (a : Answered) (events : List Event)
        → s.0.work ≡ Feeds events → Alike whole t a (s ∷ all) → Alike whole t a all
    fed_alike whole s all t a events w alike = record {
      text = alike.text;
      denied =
          ap (λ x. t.denied || (is_sync x && not (is_shown s.1) || list_any is_denied all)) (sym w)
          ∙ alike.denied;
      left = λ i.
          alike.left i ∙ fed_left (a.lists i) s all events w i (i == s.0.stream) refl;
    }

    -- a line prints the next of its stream
    takes_next : (s : Shown) (t : Telling) (next : Told) (rest : List Told)
        → t.left s.0.stream ≡ next ∷ rest
        → with_next refusals s.0 (t.left s.0.stream) t
        ≡ with_next refusals s.0 (next ∷ rest) t
    takes_next s t next rest is = ap (λ l. with_next refusals s.0 l t) is

    -- the lists stay and a text is printed
    text_alike : (whole : Bool) (s : Shown) (all : List Shown) (t : Telling) (a : Answered) (next : Told)
        (text : List ℕ) → next_told s.0.number s.1 s.0.work (a.lists s.0.stream) ≡ next ∷ []
        → next_lists s.0.number s.1 s.0.work (a.lists s.0.stream) ≡ a.lists s.0.stream
        → told_text refusals s.0.number next ≡ text → is_denial next ≡ is_denied s
        → Alike whole t a (s ∷ all)
        → Alike whole (with_next refusals s.0 (t.left s.0.stream) t)
        (record a { text = a.text ++ text }) all
    text_alike whole s all t a next text is stays says denies alike =
        let new = a.lists s.0.stream in
        let rest = told_from new (filter (is_shown_of s.0.stream) all) in
        let there = next_left t.left a.lists s all next new is stays alike.left in
        let now : Alike whole (with_next refusals s.0 (next ∷ rest) t)
        (record a { text = a.text ++ text }) all = record {
          text = λ k. alike.text k ++ says k;
          denied = denied_on t.denied (is_denial next) (is_denied s) (list_any is_denied all) whole
              denies alike.denied;
          left = λ i.
              rest_left t.left a.lists s all new alike.left i (i == s.0.stream) refl
              ∙ ap (λ l. told_from l (filter (is_shown_of i) all))
              (same_lists a.lists s.0.stream i (i == s.0.stream) refl);
        } in
        subst (λ x. Alike whole x (record a { text = a.text ++ text }) all)
        (sym (takes_next s t next rest there)) now

    -- a packet's line
    sent_alike : (whole : Bool) (s : Shown) (all : List Shown) (t : Telling) (a : Answered) (n : ℕ)
        (p : PacketLine) → Walks run → n ≤ length records → s.0.work ≡ Sends p → s.1 ≡ Shows n
        → Alike whole t a (s ∷ all)
        → Alike whole (with_next refusals s.0 (t.left s.0.stream) t)
        (record {
          text = a.text ++ packet_answer run n s.0.number p (a.lists s.0.stream);
          lists = at_number a.lists s.0.stream
              (decided_at run n s.0.number p (a.lists s.0.stream)).lists;
        }) all
    sent_alike whole s all t a n p walks le w m alike =
        let lists = a.lists s.0.stream in
        let walk = walk_from start config records n s.0.number p lists in
        let decided = decided_at run n s.0.number p lists in
        let next = packet_told s.0.number n p walk in
        let new = decided.lists in
        let after : Answered = record {
          text = a.text ++ packet_answer run n s.0.number p lists;
          lists = at_number a.lists s.0.stream new;
        } in
        let rest = told_from new (filter (is_shown_of s.0.stream) all) in
        let is : next_told s.0.number s.1 s.0.work lists ≡ next ∷ [] =
        λ k. next_told s.0.number (m k) (w k) lists in
        let lists_are : next_lists s.0.number s.1 s.0.work lists ≡ new =
        (λ k. next_lists s.0.number (m k) (w k) lists) ∙ walks.lists n s.0.number p lists le in
        let there = next_left t.left a.lists s all next new is lists_are alike.left in
        let says : told_text refusals s.0.number next ≡ packet_answer run n s.0.number p lists =
        says_packet refusals s.0.number n p walk p.trail refl
        ∙ (λ k. answer_text s.0.number n p (walks.verdict n s.0.number p lists le k)
        (walks.trail n s.0.number p lists le k)) in
        let no_denial : is_denial next ≡ is_denied s =
        is_no_denial p.trail (answer_text s.0.number n p walk.verdict walk.trail) n walk.verdict
        ∙ sym (ap (λ x. is_sync x && not (is_shown s.1)) w) in
        let now : Alike whole (with_next refusals s.0 (next ∷ rest) t) after all = record {
          text = λ k. alike.text k ++ says k;
          denied = denied_on t.denied (is_denial next) (is_denied s) (list_any is_denied all) whole
              no_denial alike.denied;
          left = λ i. rest_left t.left a.lists s all new alike.left i (i == s.0.stream) refl;
        } in
        subst (λ x. Alike whole x after all) (sym (takes_next s t next rest there)) now

    line_alike : (whole : Bool) (s : Shown) (all : List Shown) (t : Telling) (a : Answered) → Walks run
        → (m : Mark) → s.1 ≡ m → (w : Work) → s.0.work ≡ w → HasRecord (length records) m w
        → run.marks s.0.number ≡ settled refusals m → Alike whole t a (s ∷ all)
        → Alike whole (with_line refusals s.0 w t) (with_work run s.0 w a) all
    line_alike whole s all t a walks m mark (Feeds events) work has shows alike =
        fed_alike whole s all t a events work alike
    line_alike whole s all t a walks (Shows n) mark Syncs work has shows alike =
        text_alike whole s all t a (Says (live_sync_text s.0.number n))
        (sync_answer s.0.number (run.marks s.0.number))
        (λ k. next_told s.0.number (mark k) (work k) (a.lists s.0.stream))
        (λ k. next_lists s.0.number (mark k) (work k) (a.lists s.0.stream))
        (sym (ap (sync_answer s.0.number) shows)) (sym (λ k. is_sync (work k) && not (is_shown (mark k))))
        alike
    line_alike whole s all t a walks (Refuses clash) mark Syncs work has shows alike =
        text_alike whole s all t a (Denies clash) (sync_answer s.0.number (run.marks s.0.number))
        (λ k. next_told s.0.number (mark k) (work k) (a.lists s.0.stream))
        (λ k. next_lists s.0.number (mark k) (work k) (a.lists s.0.stream))
        (sym (ap (sync_answer s.0.number) shows)) (sym (λ k. is_sync (work k) && not (is_shown (mark k))))
        alike
    line_alike whole s all t a walks (Shows n) mark (Sends p) work has shows alike =
        subst (λ x. Alike whole (with_next refusals s.0 (t.left s.0.stream) t)
        (with_packet run x s.0 p a) all) (sym shows)
        (sent_alike whole s all t a n p walks has work mark alike)
    line_alike whole s all t a walks (Refuses clash) mark (Sends p) work has shows alike = absurd has

    -- ---- All lines

    pub all_alike : (whole : Bool) (all : List Shown) (t : Telling) (a : Answered) → Walks run
        → AllByRecursion IsOfRun all → Alike whole t a all
        → ((fold (after_line refusals) t (map line_of all)).text
        ≡ (fold (after_answer run) a (map line_of all)).text)
        × ((fold (after_line refusals) t (map line_of all)).denied ≡ whole)
    all_alike whole [] t a walks are alike =
        (alike.text, sym (or_false t.denied) ∙ alike.denied)
    all_alike whole (s ∷ all) t a walks are alike =
        all_alike whole all (after_line refusals t s.0) (after_answer run a s.0) walks are.1
        (line_alike whole s all t a walks s.1 refl s.0.work refl are.0.0 are.0.1 alike)
