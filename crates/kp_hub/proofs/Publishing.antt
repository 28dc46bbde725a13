-- A record that is pushed behind the newest ones.
use Rattle.std.proofs.Common.{◌≡◌, false, List, [], ◌∷◌, ◌++◌, ap, sym, subst, ◌∙◌, append_assoc}
use Rattle.kp_base.specs.declared.memory.NoMemory.{NoMemory}
use Rattle.kp_types.specs.declared.sync.SyncRecord.{SyncRecord}
use Rattle.kp_publish.specs.declared.entry.Entry.{Entry}
use Rattle.kp_publish.specs.declared.entry.Entry.TheVariants.{Record}
use Rattle.kp_publish.specs.Faults.{IsKeptOrBack}
use Rattle.kp_publish.specs.Pending.{Keeps}
use Rattle.kp_publish.specs.declared.fault.PublishFault.{PublishFault}
use Rattle.kp_publish.specs.declared.fault.PublishFault.TheVariants.{NoMemoryPending}
use Rattle.kp_publish.specs.Entries.{is_ended, records_of}
use Rattle.kp_publish.proofs.Beginnings.{open_snoc, records_snoc}

-- what is kept is pending
pub kept_pending : (fault : PublishFault) (refused : NoMemory) (next : SyncRecord) (before now : Keeps)
    → fault ≡ NoMemoryPending refused → IsKeptOrBack fault next before now
    → now.newest ≡ before.newest ++ Record next ∷ []
kept_pending fault refused next before now is kept = subst (λ (f : PublishFault). IsKeptOrBack f next before now) is kept

module _ (newest pushed : List Entry) (next : SyncRecord) (is_open : is_ended newest ≡ false) (more : pushed ≡ newest ++ Record next ∷ []) where
  pub open_still : is_ended pushed ≡ false
  open_still = ap is_ended more ∙ open_snoc newest next is_open

  pub records_still : (rest waiting : List SyncRecord) → waiting ≡ next ∷ rest → records_of pushed ++ rest ≡ records_of newest ++ waiting
  records_still rest waiting first =
      ap (λ l. records_of l ++ rest) more
      ∙ (ap (λ rs. rs ++ rest) (records_snoc newest next is_open)
      ∙ (append_assoc (records_of newest) (next ∷ []) rest ∙ ap (λ ws. records_of newest ++ ws) (sym first)))
