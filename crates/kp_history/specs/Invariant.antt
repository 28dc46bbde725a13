-- What holds of what is held of the syncs, and of what one more sync is to keep.
use Rattle.std.specs.Prelude.{◌≡◌, sum, None}
use Rattle.kp_types.specs.declared.rule.Batch.{Batch}
use Rattle.kp_object_defs.specs.Objects.{objects_after}
use Rattle.kp_table_defs.specs.Rebuild.{clash_of}
use Rattle.kp_history.specs.Parts.{PlaneParts, HasExactHistory, settings_in, objects_in}
use Rattle.kp_history.specs.Parts.{table_in, last_batch_in, next_edits}
use Rattle.kp_history.specs.declared.history.History.{History}

-- what is held of the syncs: how many events they cover, their table, and the batch of the last;
-- what they cover has no clash
pub record IsHistory (p : PlaneParts) (h : History) : Type 0 where
  pub counts : h.counts.items ≡ p.counts
  pub covered : h.covered ≡ sum p.counts
  pub table : h.table ≡ table_in p
  pub last : h.last ≡ last_batch_in p
  pub exact : HasExactHistory p
  pub no_clash : clash_of (settings_in p) (objects_in p) ≡ None

-- what one more sync keeps: all events' objects have no clash, and the batch has the changes from
-- the chains that stand to those of their full table
pub record LeadsToNext (p : PlaneParts) (batch : Batch) : Type 0 where
  pub no_clash : clash_of (settings_in p) (objects_after p.events) ≡ None
  pub edits : batch.edits ≡ next_edits p
