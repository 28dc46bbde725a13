-- Changes of recent lists that a packet's walk can't tell.
use Rattle.std.specs.Prelude.{◌≡◌, ℕ, ◌%◌, Bool, true, List, ◌++◌, Option, None}
use Rattle.std.specs.FinMap.{from_entries, entries, get, retain_keys}
use Rattle.kp_base.specs.Net.{AddressParts}
use Rattle.kp_types.specs.declared.chain.ChainAt.{ChainAt}
use Rattle.kp_types.specs.declared.packet.Packet.{Packet}
use Rattle.kp_types.specs.declared.rule.Rule.{Rule}
use Rattle.kp_types.specs.Setting.{Settings}
use Rattle.kp_choice_defs.specs.Recent.{RecentParts, Shard, is_live, reaped, set_at, shard_cmp}
use Rattle.kp_object_defs.specs.Objects.{Objects}
use Rattle.kp_door_defs.specs.Decision.{Decided, decision_of}
use Rattle.kp_table_defs.specs.Walk.{Walked, walk_of}

-- A change of recent lists that the calls for one source can't tell: each of them answers the same
-- after it as before it, and does the same to what was changed.
pub record IsUnseen (source : AddressParts) (change : RecentParts → RecentParts) : Type 0 where
  pub live : (lists : RecentParts) (list : List ℕ) (now seconds : ℕ)
      → is_live (change lists) list source now seconds
      ≡ is_live lists list source now seconds
  pub reaps : (lists : RecentParts) (list : List ℕ) (now seconds : ℕ)
      → reaped (change lists) list source now seconds
      ≡ change (reaped lists list source now seconds)
  pub sets : (lists : RecentParts) (list : List ℕ) (now : ℕ)
      → set_at (change lists) list source now ≡ change (set_at lists list source now)

-- a walk whose recent lists were changed
abbrev pub with_change : (RecentParts → RecentParts) → Walked → Walked
with_change change w = record { verdict = w.verdict; trail = w.trail; lists = change w.lists }

-- a change that the packet's source can't tell makes no difference to its walk
abbrev pub WalksUnseen : Type 0
WalksUnseen =
    (change : RecentParts → RecentParts) (at : ChainAt → Option (List Rule))
    (node : List AddressParts) (packet : Packet) (draws : ℕ → ℕ) (lists : RecentParts)
    → IsUnseen packet.source change
    → walk_of at node packet draws (change lists)
    ≡ with_change change (walk_of at node packet draws lists)

-- a decision whose recent lists were changed
abbrev pub decided_with : (RecentParts → RecentParts) → Decided → Decided
decided_with change d = record { verdict = d.verdict; reason = d.reason; lists = change d.lists }

-- nor to the decision on it, and its reason
abbrev pub DecidesUnseen : Type 0
DecidesUnseen =
    (change : RecentParts → RecentParts) (settings : Settings) (objects : Objects)
    (packet : Packet) (draws : ℕ → ℕ) (lists : RecentParts)
    → IsUnseen packet.source change
    → decision_of settings objects packet draws (change lists)
    ≡ decided_with change (decision_of settings objects packet draws lists)

-- the parts of some numbers alone
abbrev pub kept_parts : (ℕ → Bool) → RecentParts → RecentParts
kept_parts keeps lists =
    record { size = lists.size; parts = retain_keys lists.parts (λ at. keeps at.part) }

-- lists between others: of what several have, the first counts
abbrev pub between : RecentParts → RecentParts → RecentParts → RecentParts
between before behind lists = record {
  size = lists.size;
  parts = from_entries {R = shard_cmp}
      (entries before.parts ++ entries lists.parts ++ entries behind.parts);
}

-- the parts that are kept have the source's among them
abbrev pub PartsUnseen : Type 0
PartsUnseen =
    (keeps : ℕ → Bool) (source : AddressParts) → keeps (source.number % 16) ≡ true
    → IsUnseen source (kept_parts keeps)

-- lists have nothing in the part of a source
abbrev pub LackPart : AddressParts → RecentParts → Type 0
LackPart source lists = (at : Shard) → at.part ≡ source.number % 16 → get lists.parts at ≡ None

-- the lists stand between others that have nothing of the source's part
abbrev pub OthersUnseen : Type 0
OthersUnseen =
    (before behind : RecentParts) (source : AddressParts)
    → LackPart source before → LackPart source behind
    → IsUnseen source (between before behind)
