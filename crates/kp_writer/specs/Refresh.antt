-- Ports where those of one Service are made anew.
use Rattle.std.specs.Prelude.{◌≡◌, ◌⊎◌, ℕ, false, cond, List, [], ◌∷◌, drop, Result, Ok, Err}
use Rattle.std.specs.FinMap as finite
use Rattle.kp_base.specs.declared.key.ObjectKey.{ObjectKey}
use Rattle.kp_base.specs.declared.key.PortKey.{PortKey}
use Rattle.kp_object_defs.specs.PortInfo.{PortInfo}
use Rattle.kp_writer_laws.specs.LocalLaws.{info_of}
use Rattle.kp_blocks.specs.Joined.{is_port_of}
use Rattle.kp_writer.specs.Written.{Ports}

-- ports without those of some names
abbrev pub without : Ports → List PortKey → Ports
without ports [] = ports
without ports (k ∷ ks) = finite.remove (without ports ks) k

-- ports with those of a Service that are given; of two of one name the first counts
abbrev pub with_infos : ObjectKey → Ports → List PortInfo → Ports
with_infos service ports [] = ports
with_infos service ports (i ∷ is) =
    cond (is_port_of service i.key) (finite.insert (with_infos service ports is) i.key i)
    (with_infos service ports is)

-- The ports of a Service are those that are given, and of others the same is known as before.
abbrev pub IsRefreshed : ObjectKey → List PortInfo → Ports → Ports → Type 0
IsRefreshed service infos before after =
    (key : PortKey)
    → finite.get after key
    ≡ cond (is_port_of service key) (info_of infos key) (finite.get before key)

-- Of the ports of other Services the same is known as before.
abbrev pub OthersStay : ObjectKey → Ports → Ports → Type 0
OthersStay service before after =
    (key : PortKey) → is_port_of service key ≡ false
    → finite.get after key ≡ finite.get before key

-- Each port is known as before, or as the last of those that are given tell, from one on.
abbrev pub IsPartlyRefreshed : List PortInfo → Ports → Ports → Type 0
IsPartlyRefreshed infos before after =
    (left : ℕ)
    × ((key : PortKey)
    → (finite.get after key ≡ finite.get before key)
    ⊎ (finite.get after key ≡ info_of (drop left infos) key))

-- The ports of a Service are made anew, or where memory is out, some of them are.
abbrev pub Refreshes :
    {X E : Type 0} → Result X E → ObjectKey → List PortInfo → Ports → Ports → Type 0
Refreshes (Ok done) service infos before after = IsRefreshed service infos before after
Refreshes (Err fault) service infos before after =
    IsPartlyRefreshed infos before after × OthersStay service before after
