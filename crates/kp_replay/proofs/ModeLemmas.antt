-- What a line does in a mode, by what the calls do that it makes.
use Rattle.std.proofs.Common.{◌≡◌, ◌-◌, ◌⊎◌, ℕ, List, [], ◌∷◌, ◌++◌, length, sum, take}
use Rattle.std.proofs.Common.{append_assoc, ap, inr, le_refl, refl, subst, sym, ◌∙◌, arith}
use Rattle.std.specs.Prelude.{None, Result, Ok, Err, String, string_bytes}
use Rattle.std.proofs.Math.Seq.{take-length}
use Rattle.std.proofs.lemmas.List.{length_push, take-append-le}
use Rattle.kp_base.specs.declared.config.Config.{Config}
use Rattle.kp_base.specs.declared.memory.NoMemory.{NoMemory}
use Rattle.kp_choice_defs.specs.Recent.{RecentParts}
use Rattle.kp_object_defs.specs.Objects.{Objects, objects_after}
use Rattle.kp_table_defs.specs.Rebuild.{clash_of}
use Rattle.kp_text_defs.specs.Printed.{sync_text}
use Rattle.kp_text_defs.specs.declared.script.Op.TheVariants as op
use Rattle.kp_plane.specs.Notes.{last_note}
use Rattle.kp_plane.specs.Parts as parts
use Rattle.kp_plane.specs.Parts.{PlaneParts}
use Rattle.kp_plane.specs.declared.note.SyncNote.{SyncNote}
use Rattle.kp_run_defs.specs.ReplayText.{Line, Standing, config_line, no_sources, objects_in, settings_in, sync_line}
use Rattle.kp_mode_defs.specs.Mode.{Covered, LineIn, Mode, op_in, sync_in}
use Rattle.kp_mode_defs.proofs.Alike.{line_of}
use Rattle.kp_mode.specs.Calls.{Adds, before_sync, covered_by}
use Rattle.kp_replay.specs.Steps.{HasNoEvents, Took, TookIn, place_of, standing_of}
use Rattle.kp_replay.specs.declared.replay.Replay.{Replay}
use Rattle.kp_replay.proofs.KeptLemmas.{begins_on, synced_kept}

-- ---- In a replay

-- a replay took what the mode took that answers as one
pub alone : (r : Result (Unit {0}) NoMemory) (partly : Type 0) (line : LineIn (Unit {0})) (whole : Line)
    (old new : Standing) (before now : List ℕ) → line_of line ≡ whole
    → TookIn r (λ config objects state. Unit {0}) partly line old new before now
    → Took r whole old new before now
alone (Ok done) partly line whole old new before now is did = record {
  stands = did.stands ∙ ap (λ l. l.next) is;
  text = did.text ∙ ap (λ l. before ++ l.text) is;
}
alone (Err refused) partly line whole old new before now is (kept, front, part) = (kept, front)

-- the replay goes on with another plane and other lists
pub config_taken : (r : Replay) (config : Config) (plane : PlaneParts) (lists : RecentParts) → HasNoEvents (standing_of r)
    → lists ≡ no_sources config.recent_size → plane ≡ record { config = config; events = []; counts = [] }
    → standing_of (record r { plane = plane; lists = lists }) ≡ (config_line config (standing_of r)).next
config_taken r config plane lists none sized started =
    let events = ap (λ p. p.events) started ∙ sym none.events in
    let counts = ap (λ p. p.counts) started ∙ sym none.counts in
    λ i. record {
      fresh = r.fresh;
      config = (started i).config;
      events = events i;
      counts = counts i;
      lists = sized i;
      refused = r.refused;
    }

-- ---- A sync

counts_before : (counts : List ℕ) (n : ℕ)
    → take (length (counts ++ n ∷ []) - 1) (counts ++ n ∷ []) ≡ counts
counts_before counts n =
    let longer = length_push counts n in
    let one : length (counts ++ n ∷ []) - 1 ≡ length counts = omega (arith, longer) in
    ap (λ k. take k (counts ++ n ∷ [])) one
    ∙ take-append-le (length counts) counts (n ∷ []) (le_refl (length counts)) ∙ take-length counts

-- before it the plane covered what it had covered
before_synced : (p : PlaneParts) → before_sync (parts.synced p) ≡ p
before_synced p = λ i. record p { counts = counts_before p.counts (parts.uncovered_in p) i }

-- what stands for that
pub stood_before : (stands : Config → Objects → Type 0) (old p : PlaneParts) → p ≡ parts.synced old
    → stands old.config (parts.objects_in old) → stands p.config (parts.objects_before p)
stood_before stands old p is stood =
    subst (λ q. stands q.config (parts.objects_before q)) (sym is)
    (subst (stands old.config)
    (sym (ap (λ counts. objects_after (take (sum counts) old.events))
    (counts_before old.counts (parts.uncovered_in old) ∙ sym (take-length old.counts)))) stood)

module _ {S A B : Type 0} (m : Mode S) (stands : Config → Objects → S → Type 0)
    (between : Config → Objects → Objects → Type 0) (same : Type 0) (r : Replay) (state : S)
    (number : ℕ) (before : List ℕ) (mid : String A) (now : String B) where
  -- what holds of what is kept where this plane is left
  abbrev Partly : PlaneParts → Type 0
  Partly p =
      same ⊎ between p.config (parts.objects_in p) (parts.objects_in p)
      ⊎ between p.config (parts.objects_before p) (parts.objects_in p)

  -- what a mode adds
  abbrev Tells : Result (Unit {0}) NoMemory → Covered → PlaneParts → Type 0
  Tells result c p =
      Adds result (stands p.config (parts.objects_in p))
      (between p.config (parts.objects_before p) (parts.objects_in p))
      (m.synced c (covered_by p) state).0 (m.synced c (covered_by p) state).1 mid now

  on_line : (result : Result (Unit {0}) NoMemory)
      → string_bytes mid ≡ before ++ (sync_line number None (standing_of r)).text
      → Tells result (covered_by r.plane) (parts.synced r.plane)
      → TookIn result stands (Partly (parts.synced r.plane)) (sync_in m number None (place_of r state))
      (standing_of r) (standing_of (record r { plane = parts.synced r.plane })) before (string_bytes now)
  on_line (Ok done) had (text, stood) =
      let line = (sync_line number None (standing_of r)).text in
      let more = (m.synced (covered_by r.plane) (covered_by (parts.synced r.plane)) state).0 in
      record {
        stands = refl;
        text = text ∙ ap (λ l. l ++ more) had ∙ append_assoc before line more;
        follows = stood;
      }
  on_line (Err refused) had (front, part) = (
    synced_kept r (parts.synced r.plane) refl,
    begins_on before (string_bytes mid) (string_bytes now)
        ((sync_line number None (standing_of r)).text, had) front,
    inr (inr part),
  )

  -- one that is accepted
  pub synced : (result : Result (Unit {0}) NoMemory) (p : PlaneParts) (note : SyncNote)
      → p ≡ parts.synced r.plane
      → clash_of (parts.settings_in r.plane) (objects_after r.plane.events) ≡ None
      → note ≡ last_note (parts.uncovered_in r.plane) p
      → string_bytes mid ≡ before ++ sync_text note.sync note.events note.written note.removed
      → Tells result (covered_by (before_sync p)) p
      → TookIn result stands (Partly p) (op_in m number op.Sync (place_of r state)) (standing_of r)
      (standing_of (record r { plane = p })) before (string_bytes now)
  synced result p note is none =
      let next = parts.synced r.plane in
      subst (λ q. note ≡ last_note (parts.uncovered_in r.plane) q
      → string_bytes mid ≡ before ++ sync_text note.sync note.events note.written note.removed
      → Tells result (covered_by (before_sync q)) q
      → TookIn result stands (Partly q) (op_in m number op.Sync (place_of r state)) (standing_of r)
      (standing_of (record r { plane = q })) before (string_bytes now)) (sym is)
      (λ told had tells.
      subst (λ clash. TookIn result stands (Partly next) (sync_in m number clash (place_of r state))
      (standing_of r) (standing_of (record r { plane = next })) before (string_bytes now)) (sym none)
      (on_line result
      (had ∙ ap (λ n. before ++ sync_text n.sync n.events n.written n.removed) told)
      (subst (λ q. Tells result (covered_by q) next) (before_synced r.plane) tells)))
