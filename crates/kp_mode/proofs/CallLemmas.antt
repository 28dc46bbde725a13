-- What calls of a mode do, by their results.
use Rattle.std.proofs.Common.{◌≡◌, ◌-◌, ◌++◌, ℕ, List, [], Ok, Err, ap, append-nil, length, sum, sym, take}
use Rattle.std.specs.Prelude.{Result, IsErrAnd, OnOk, OnErr, String, string_bytes}
use Rattle.std.proofs.Math.Seq.{take-length}
use Rattle.kp_base.specs.declared.memory.NoMemory.{NoMemory}
use Rattle.kp_choice_defs.specs.Recent.{RecentParts}
use Rattle.kp_object_defs.specs.Objects.{objects_after}
use Rattle.kp_mode_defs.specs.Mode.{Answered, objects_at}
use Rattle.kp_plane.specs.Parts.{PlaneParts, objects_before}
use Rattle.kp_print.specs.Fronts.{HasFront}
use Rattle.kp_mode.specs.Calls.{Adds, Answers, before_sync, covered_by}

-- the objects before the last sync are those that the plane covered then
pub covered_then : (p : PlaneParts) → objects_at (covered_by (before_sync p)) ≡ objects_before p
covered_then p =
    ap (λ counts. objects_after (take (sum counts) p.events)) (take-length (take (length p.counts - 1) p.counts))

module _ {S A B : Type 0} (result : Result (Unit {0}) NoMemory) (stands : S → Type 0) (partly : Type 0)
    (before : String A) (now : String B) where
  -- a text was added
  pub adds : (text : List ℕ) (state : S) → OnOk result (string_bytes now ≡ string_bytes before ++ text)
      → OnOk result (stands state) → OnErr result (HasFront now before) → OnErr result partly
      → Adds result stands partly text state before now
  adds text state = by result
    where
      by : (r : Result (Unit {0}) NoMemory) → OnOk r (string_bytes now ≡ string_bytes before ++ text)
          → OnOk r (stands state) → OnErr r (HasFront now before) → OnErr r partly
          → Adds r stands partly text state before now
      by (Ok done) is stood front part = (is, stood)
      by (Err refused) is stood front part = (front, part)

  -- a packet was answered
  pub answers : (answered : Answered S) (lists : RecentParts)
      → OnOk result (string_bytes now ≡ string_bytes before ++ answered.text)
      → OnOk result (lists ≡ answered.lists) → OnOk result (stands answered.state)
      → OnErr result (HasFront now before) → OnErr result partly
      → Answers result stands partly answered lists before now
  answers answered lists = by result
    where
      by : (r : Result (Unit {0}) NoMemory) → OnOk r (string_bytes now ≡ string_bytes before ++ answered.text)
          → OnOk r (lists ≡ answered.lists) → OnOk r (stands answered.state)
          → OnErr r (HasFront now before) → OnErr r partly
          → Answers r stands partly answered lists before now
      by (Ok done) is left stood front part = (is, left, stood)
      by (Err refused) is left stood front part = (front, part)

-- memory ran out before anything was done
module _ {S A : Type 0} (Q : NoMemory → Type 0) (stands : S → Type 0) (partly : Type 0) (before : String A) where
  pub adds_none : (text : List ℕ) (state : S) (r : Result (Unit {0}) NoMemory) → IsErrAnd r Q → partly
      → Adds r stands partly text state before before
  adds_none text state (Ok done) is part = absurd is
  adds_none text state (Err refused) is part = (([], sym (append-nil (string_bytes before))), part)

  pub answers_none : (answered : Answered S) (lists : RecentParts) (r : Result (Unit {0}) NoMemory) → IsErrAnd r Q
      → partly → Answers r stands partly answered lists before before
  answers_none answered lists (Ok done) is part = absurd is
  answers_none answered lists (Err refused) is part = (([], sym (append-nil (string_bytes before))), part)
