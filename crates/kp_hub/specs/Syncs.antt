-- What one sync under the lock does, by its answer.
use Rattle.std.specs.Prelude.{◌≡◌, ◌≤◌, ◌<◌, ◌+◌, ◌⊎◌, ℕ, List, [], ◌∷◌, ◌++◌, Option, Some, None, length}
use mathlib.Core.List.{IsPrefix}
use Rattle.kp_base.specs.declared.config.Config.{Config}
use Rattle.kp_choice_defs.specs.Settings.{settings_of}
use Rattle.kp_types.specs.declared.chain.Clash.{Clash}
use Rattle.kp_object_defs.specs.Objects.{objects_after}
use Rattle.kp_table_defs.specs.Rebuild.{clash_of}
use Rattle.kp_history_defs.specs.declared.fed.Fed.{Fed}
use Rattle.kp_history_defs.specs.Runs.{events_of}
use Rattle.kp_io.specs.Faults.{Rose}
use Rattle.kp_publish.specs.Entries.{records_of}
use Rattle.kp_full_table.specs.declared.fault.TableFault.{TableFault}
use Rattle.kp_full_table.specs.declared.fault.TableFault.TheVariants.{ChainClash, NoMemory}
use Rattle.kp_hub.specs.Known.{Worker, known}
use Rattle.kp_hub.specs.State.{HubState}
use Rattle.kp_hub.specs.Taken.{Taken, records_at, with_sync}

-- the clash of the objects after all events of a journal, if there is one
abbrev pub clash_after : Config → List Fed → Option Clash
clash_after config journal = clash_of (settings_of config) (objects_after (events_of journal))

-- the counts of the syncs, with one more that covers the whole journal
abbrev pub counts_with_sync : Config → List ℕ → Taken → List ℕ
counts_with_sync config counts t = (with_sync config (record t { counts = counts })).counts

-- It was accepted: its record covers the whole journal, which has no clash, and is published with
-- all before it; its number is the count of the records.
pub record Accepts (config : Config) (sync : ℕ) (before after : HubState) : Type 0 where
  pub no_clash : clash_after config after.taken.journal ≡ None
  pub counts : after.taken.counts ≡ counts_with_sync config before.taken.counts after.taken
  pub number : sync ≡ length after.taken.counts
  pub published : after.outlet.published ≡ after.outlet.newest
  pub records : records_of after.outlet.published ≡ records_at config after.taken
  pub refusals : after.refusals ≡ before.refusals

-- a refusal of the whole journal is kept
abbrev pub with_refusal : HubState → Clash → HubState
with_refusal h clash = record h {
  refusals = h.refusals ++ record { events = length h.taken.journal; clash = clash } ∷ [];
}

-- It was refused: no record is made or published, and the clash is kept with the journal's length.
pub record Refuses (config : Config) (clash : Clash) (before after : HubState) : Type 0 where
  pub is_clash : clash_after config after.taken.journal ≡ Some clash
  pub counts : after.taken.counts ≡ before.taken.counts
  pub outlet : after.outlet ≡ before.outlet
  pub refusals : after.refusals
      ≡ before.refusals
      ++ record { events = length after.taken.journal; clash = clash } ∷ []

-- A record of the whole journal was made, and then the publisher had no memory.
pub record IsUnpublished (config : Config) (before after : HubState) : Type 0 where
  pub no_clash : clash_after config after.taken.journal ≡ None
  pub counts : after.taken.counts ≡ counts_with_sync config before.taken.counts after.taken
  pub cause : Rose before.outlet.refusals after.outlet.refusals

-- Memory ran out: the syncs stay, or there is one more, which then waits or is published later.
pub record GivesUp (config : Config) (before after : HubState) : Type 0 where
  pub counts : (after.taken.counts ≡ before.taken.counts) ⊎ IsUnpublished config before after
  pub refusals : after.refusals ≡ before.refusals

-- which of these a fault tells
abbrev pub Fails : Config → TableFault → HubState → HubState → Type 0
Fails config (ChainClash clash) before after = Refuses config clash before after
Fails config (NoMemory refused) before after = GivesUp config before after

-- a fault tells the clash of the objects after some events
abbrev pub IsClashOfSome : Config → TableFault → Type 0
IsClashOfSome config (ChainClash clash) =
    (journal : List Fed) × (clash_after config journal ≡ Some clash)
IsClashOfSome config (NoMemory refused) = Unit {0}

-- what the books then count
abbrev pub CountsAccepted : HubState → HubState → Type 0
CountsAccepted before after =
    (after.accepted ≡ before.accepted + 1) × (after.refused ≡ before.refused)

abbrev pub CountsFault : TableFault → HubState → HubState → Type 0
CountsFault (ChainClash clash) before after =
    (after.accepted ≡ before.accepted) × (after.refused ≡ before.refused + 1)
CountsFault (NoMemory refused) before after =
    (after.accepted ≡ before.accepted) × (after.refused ≡ before.refused)

-- a refused sync that was kept is not counted yet
abbrev pub IsUncounted : TableFault → HubState → Type 0
IsUncounted (ChainClash clash) h = h.refused < length h.refusals
IsUncounted (NoMemory refused) h = Unit {0}

-- The pass of an accepted sync, which is newer than all that it knew: the front that it learned
-- last has just so many records; it counts the sync, and has counted no more than there are records.
pub record IsTold (sync : ℕ) (before after : Worker) : Type 0 where
  pub newer : known before < sync
  pub front : length (records_of after.learned) ≡ sync
  pub learned : IsPrefix after.learned after.told
  pub told : IsPrefix before.told after.told
  pub seen : after.seen ≡ before.seen
  pub accepted : after.accepted ≡ before.accepted + 1
  pub few : after.accepted ≤ sync
  pub refused : after.refused ≡ before.refused

-- the pass of a sync that wasn't accepted: it counts a refused one
abbrev pub IsDenied : TableFault → Worker → Worker → Type 0
IsDenied (ChainClash clash) before after = after ≡ record before { refused = before.refused + 1 }
IsDenied (NoMemory refused) before after = after ≡ before
