-- The text of a flow that opens, from what the calls add.
use Rattle.std.proofs.Common.{◌≡◌, ℕ, Bool, true, false, List, [], ◌∷◌, ◌++◌, append_assoc, append-nil, None, Ok, Err, ap, refl, sym, ◌∙◌}
use Rattle.std.specs.Prelude.{map, codes, decimal, string_bytes, OnErr, OnOk, Result, String}
use Rattle.std.specs.List.{flat_map}
use Rattle.kp_base.specs.declared.memory.NoMemory.{NoMemory}
use Rattle.kp_choice_defs.specs.Recent.{RecentParts}
use Rattle.kp_print.specs.Fronts.{HasFront}
use Rattle.kp_run_defs.specs.AnswerText.{draws_at, next_way_text, trail_if, ways_text}
use Rattle.kp_table_defs.specs.Walk.{Walked}
use Rattle.kp_text_defs.specs.Answers.{next_pass_text, pass_text, passes_text, trail_text}
use Rattle.kp_text_defs.specs.declared.packet.PacketLine.{PacketLine}
use Rattle.kp_types.specs.declared.verdict.Answer.{Answer}
use Rattle.kp_types.specs.declared.verdict.Pass.{Pass}
use Rattle.kp_types.specs.declared.verdict.Trail.{Trail}
use Rattle.kp_types.specs.declared.verdict.Verdict.{Verdict}
use Rattle.kp_walker.specs.Answers.{answered}
use Rattle.kp_walk_laws.specs.Laws.{Agree}
use Rattle.kp_answers.specs.Walks.{walk_in}
use Rattle.kp_answers.specs.declared.snapshot.Snapshot.{Snapshot}
use Rattle.kp_plane.specs.Parts.{PlaneParts, syncs_in, walked_in}
use Rattle.kp_track_defs.specs.declared.flow.Flow.{Flow}
use Rattle.kp_track_defs.specs.Kept.{Kept, keeps, kept_after_opened}
use Rattle.kp_track_mode_defs.specs.FlowText.{opened_text, opening_text}
use Rattle.kp_track_defs.specs.Tracking.{Tracked, after_opened, is_kept}
use Rattle.kp_track_mode_defs.specs.TrackMode.{flow_by, flow_of}
use Rattle.kp_mode.specs.Calls.{Answers, covered_by}
use Rattle.kp_modes.specs.Tracked.{decision_of_line, open_kept, open_text}

-- ---- Trails

-- the names on a way
abbrev way_of : Pass → List (List ℕ)
way_of pass = pass.chains.items

more_ways : (passes : List Pass) → flat_map next_pass_text passes ≡ flat_map next_way_text (map way_of passes)
more_ways [] = refl
more_ways (pass ∷ passes) = ap (λ x. next_pass_text pass ++ x) (more_ways passes)

same_ways : (passes : List Pass) → passes_text passes ≡ ways_text (map way_of passes)
same_ways [] = refl
same_ways (pass ∷ passes) = ap (λ x. pass_text pass ++ x) (more_ways passes)

same_trail : (number : ℕ) (trail : Trail) (ways : List (List (List ℕ))) → map way_of trail.passes.items ≡ ways
    → trail_text number trail ≡ trail_if true number ways
same_trail number trail ways same =
    ap (λ t. codes "trail " ++ decimal number ++ codes ": " ++ t ++ codes "\n")
    (same_ways trail.passes.items ∙ ap ways_text same)

-- ---- Lines

module _ (number sync : ℕ) (line : PacketLine) (w : Walked) (verdict : Verdict) (kept_by : Verdict → Bool) (before on now : List ℕ) where
  -- of a line that asks for the trail
  traced : w.verdict ≡ verdict → (answer : Answer) (lists : RecentParts) (kept : Bool) → line.trail ≡ true
      → answered answer lists ≡ w → kept ≡ kept_by answer.verdict
      → on ≡ before ++ opening_text number sync answer.verdict kept → now ≡ on ++ trail_text number answer.trail
      → now ≡ before ++ opened_text number sync line verdict w.trail (kept_by verdict)
  traced agree answer lists kept asked walk is first second =
      let trail : trail_text number answer.trail ≡ trail_if line.trail number w.trail =
      same_trail number answer.trail w.trail (ap (λ x. x.trail) walk) ∙ ap (λ b. trail_if b number w.trail) (sym asked) in
      let same : answer.verdict ≡ verdict = ap (λ x. x.verdict) walk ∙ agree in
      second ∙ ap (λ t. t ++ trail_text number answer.trail) (first ∙ ap (λ k. before ++ opening_text number sync answer.verdict k) is)
      ∙ append_assoc before (opening_text number sync answer.verdict (kept_by answer.verdict)) (trail_text number answer.trail)
      ∙ (λ i. before ++ (opening_text number sync (same i) (kept_by (same i)) ++ trail i))

  -- of a line that asks for the verdict alone
  untraced : w.verdict ≡ verdict → (told : Verdict) (kept : Bool) → line.trail ≡ false → told ≡ w.verdict
      → kept ≡ kept_by told → now ≡ before ++ opening_text number sync told kept
      → now ≡ before ++ opened_text number sync line verdict w.trail (kept_by verdict)
  untraced agree told kept asked same is text =
      let said : told ≡ verdict = same ∙ agree in
      text ∙ ap (λ k. before ++ opening_text number sync told k) is
      ∙ (λ i. before ++ opening_text number sync (said i) (kept_by (said i)))
      ∙ ap (λ t. before ++ t) (sym (append-nil (opening_text number sync verdict (kept_by verdict))))
      ∙ ap (λ b. before ++ (opening_text number sync verdict (kept_by verdict) ++ trail_if b number w.trail)) (sym asked)

-- ---- By what the last sync of a plane covers

module _ (p : PlaneParts) (s : Snapshot) (number : ℕ) (line : PacketLine) (lists : RecentParts) (k : Kept) (f : Flow)
    (flow : f ≡ flow_of line) (agree : Agree (walk_in s number line lists) (decision_of_line p number line lists)) where
  abbrev verdict_then : Verdict
  verdict_then = (decision_of_line p number line lists).verdict

  -- what is kept
  pub open_keeps : (told : Verdict) → told ≡ (walk_in s number line lists).verdict → (new : Kept)
      → new ≡ kept_after_opened k f told → new ≡ open_kept p number line lists k
  open_keeps told same new kept =
      let said = same ∙ agree.verdict in
      kept ∙ (λ i. kept_after_opened k (flow i) (said i))

  module _ (sync : s.sync ≡ syncs_in p) (walk : walk_in s number line lists ≡ walked_in p line.packet (draws_at number line.draws) lists) (before on now : List ℕ) where
    by_plane : opened_text number s.sync line verdict_then (walk_in s number line lists).trail (keeps k f verdict_then)
        ≡ open_text p number line lists k
    by_plane = λ i. opened_text number (sync i) line verdict_then (walk i).trail (keeps k (flow i) verdict_then)

    -- what is printed, with a trail
    pub open_traced : (answer : Answer) (left : RecentParts) (kept : Bool) → line.trail ≡ true
        → answered answer left ≡ walk_in s number line lists → kept ≡ keeps k f answer.verdict
        → on ≡ before ++ opening_text number s.sync answer.verdict kept → now ≡ on ++ trail_text number answer.trail
        → now ≡ before ++ open_text p number line lists k
    open_traced answer left kept asked told is first second =
        traced number s.sync line (walk_in s number line lists) verdict_then (keeps k f) before on now agree.verdict answer left
        kept asked told is first second
        ∙ ap (λ t. before ++ t) by_plane

    -- and without one
    pub open_untraced : (told : Verdict) (kept : Bool) → line.trail ≡ false → told ≡ (walk_in s number line lists).verdict
        → kept ≡ keeps k f told → now ≡ before ++ opening_text number s.sync told kept
        → now ≡ before ++ open_text p number line lists k
    open_untraced told kept asked same is text =
        untraced number s.sync line (walk_in s number line lists) verdict_then (keeps k f) before on now agree.verdict told kept
        asked same is text
        ∙ ap (λ t. before ++ t) by_plane

-- ---- In the mode

module _ (p : PlaneParts) (number : ℕ) (line : PacketLine) (lists : RecentParts) (t : Tracked) (k : Kept) where
  abbrev verdict_so : Verdict
  verdict_so = (decision_of_line p number line lists).verdict

  abbrev kept_so : Type 0
  kept_so = keeps k (flow_of line) verdict_so ≡ is_kept t (flow_of line) verdict_so

  same_text : kept_so → open_text p number line lists k ≡ (flow_by (covered_by p) number line lists t None).text
  same_text same = λ i.
      opened_text number (syncs_in p) line verdict_so (walked_in p line.packet (draws_at number line.draws) lists).trail
      (same i)

  -- a flow that nobody owns is answered as in the mode
  pub opens_so : {A B : Type 0} (result : Result (Unit {0}) NoMemory) (stands : Tracked → Type 0) (partly : Type 0)
      (left : RecentParts) (before : String A) (now : String B) → kept_so
      → OnOk result (string_bytes now ≡ string_bytes before ++ open_text p number line lists k)
      → OnOk result (left ≡ (decision_of_line p number line lists).lists)
      → OnOk result (stands (after_opened t (flow_of line) verdict_so))
      → OnErr result (HasFront now before) → OnErr result partly
      → Answers result stands partly (flow_by (covered_by p) number line lists t None) left before now
  opens_so (Ok done) stands partly left before now same text leaves stood front part =
      (text ∙ ap (λ added. string_bytes before ++ added) (same_text same), leaves, stood)
  opens_so (Err refused) stands partly left before now same text leaves stood front part = (front, part)
