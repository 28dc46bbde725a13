-- The records of a plane may be published.
use Rattle.std.proofs.Common.{◌≡◌, suc, ◌+◌, ◌<◌, List, [], ◌∷◌, ◌++◌, length, take, slice_get, Some, refl, ap, subst, ◌∙◌, arith}
use Rattle.std.proofs.lemmas.Option.{slice_get_within}
use Rattle.kp_types.specs.declared.sync.SyncRecord.{SyncRecord}
use Rattle.kp_table_defs.specs.Ranks.{is_ranked}
use Rattle.kp_table_defs.specs.Rebuild.{TableParts}
use Rattle.kp_history_defs.specs.History.{counts_of, objects_covered, table_from}
use Rattle.kp_history_laws.specs.HistoryLaws.{ExactTables}
use Rattle.kp_walk_laws.specs.Laws.{FullTableRankedObjects, HashedPrefixed}
use Rattle.kp_publish.specs.Entries.{IsReady}
use Rattle.kp_plane.specs.Parts.{PlaneParts, HasExactHistory, records_in, settings_in}
use Rattle.kp_hub.specs.Ready.{AreReady}
use Rattle.kp_hub.specs.State.{first_table}

pub records_ready : ExactTables → FullTableRankedObjects → HashedPrefixed → (p : PlaneParts) → HasExactHistory p
    → AreReady (first_table p.config) (records_in p)
records_ready tables ranked prefixed p exact n r is =
    let rs = records_in p in
    let within : n < length rs = slice_get_within rs n r is in
    let covered = counts_of rs in (
      (exact.exact.each n r is).is_numbered,
      ap is_ranked (tables (settings_in p) p.events rs (suc n) exact.exact (omega (arith, within)))
          ∙ (ranked (settings_in p) (objects_covered p.events covered (suc n))
          (prefixed p.config.name_length)).ranked,
    )

-- the first record behind others is at their number
pub get_behind : {A : Type 0} (xs : List A) (y : A) (ys : List A) → slice_get (xs ++ y ∷ ys) (length xs) ≡ Some y
get_behind [] y ys = refl
get_behind (x ∷ xs) y ys = get_behind xs y ys

pub take_behind : {A : Type 0} (xs : List A) (y : A) (ys : List A) → take (suc (length xs)) (xs ++ y ∷ ys) ≡ xs ++ y ∷ []
take_behind [] y ys = refl
take_behind (x ∷ xs) y ys = ap (λ l. x ∷ l) (take_behind xs y ys)

pub ready_next : (start : TableParts) (xs : List SyncRecord) (y : SyncRecord) (ys : List SyncRecord) → AreReady start (xs ++ y ∷ ys)
    → (y.sync ≡ length xs + 1) × IsReady (table_from start (xs ++ y ∷ []))
ready_next start xs y ys ready =
    let is = ready (length xs) y (get_behind xs y ys) in
    (omega (arith, is.0), subst (λ rs. IsReady (table_from start rs)) (take_behind xs y ys) is.1)
