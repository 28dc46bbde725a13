-- Worked readings of the members of packets and of settings (this project's choice).
use Rattle.std.specs.Prelude.{◌≡◌, ℕ, ◌+◌, ◌*◌, ◌^◌, Bool, true, false, List, [], ◌∷◌, ◌++◌, codes, Option, Some, None}
use Rattle.kp_base.specs.Net.{AddressParts, RangeParts, v4_address, v6_address}
use Rattle.kp_base.specs.declared.port.Proto.TheVariants.{Tcp, Udp}
use Rattle.kp_base.specs.declared.config.Config.{Config}
use Rattle.kp_json.specs.Answers.{fault_at}
use Rattle.kp_json.specs.declared.fault.Why.TheVariants.{BadAddress, BadCidr, WrongType}
use Rattle.kp_types.specs.declared.packet.Packet.{Packet}
use Rattle.kp_types.specs.declared.packet.Origin.TheVariants.{Wire, Node}
use Rattle.kp_text_defs.specs.declared.draws.Draws.{Draws}
use Rattle.kp_text_defs.specs.declared.draws.Draws.TheVariants as draws
use Rattle.kp_text_defs.specs.declared.packet.PacketLine.{PacketLine}
use Rattle.kp_text_defs.specs.PacketText.{read_packet}
use Rattle.kp_text_defs.specs.ConfigText.{default_config, read_config}
use Rattle.kp_worked_texts.specs.Readings.{Reads, Refuses}

-- what a packet line tells
abbrev pub told : PacketLine → Packet × (ℕ × (Draws × Bool))
told line = (line.packet, (line.source_port, (line.draws, line.trail)))

-- a packet line with each member; its list of draws goes before its seed
abbrev pub AllOfPacket : Type 0
AllOfPacket =
    Reads told read_packet
    (codes "{'from':'node','src':'10.244.9.9','dst':'10.96.0.10','proto':'UDP','sport':9,"
    ++ codes "'dport':53,'now':7,'draws':[5,6],'seed':1,'trail':true}") (
      record {
        from = Node;
        source = v4_address 183765257;
        target = v4_address 174063626;
        proto = Udp;
        port = 53;
        now = 7;
      },
      (9, (draws.List (5 ∷ 6 ∷ []), true)),
    )

-- a packet line without the members that may be left out, but with these, has these draws
abbrev pub DrawsAre : List ℕ → Draws → Type 0
DrawsAre more drawn =
    Reads told read_packet
    (codes "{'src':'10.244.9.9','dst':'10.96.0.10','dport':80" ++ more ++ codes "}") (
      record {
        from = Wire;
        source = v4_address 183765257;
        target = v4_address 174063626;
        proto = Tcp;
        port = 80;
        now = 0;
      },
      (0, (drawn, false)),
    )

-- with none
abbrev pub PlainPacket : Type 0
PlainPacket = DrawsAre [] (draws.List [])

-- with a seed, and a list, which counts though it is empty
abbrev pub ListBeforeSeed : Type 0
ListBeforeSeed = DrawsAre (codes ",'seed':9,'draws':[]") (draws.List [])

-- with a seed alone
abbrev pub SeedAlone : Type 0
SeedAlone = DrawsAre (codes ",'seed':9") (draws.Seed 9)

-- a packet line of IPv6
abbrev pub PacketOfSix : Type 0
PacketOfSix =
    Reads told read_packet (codes "{'src':'FD00::9','dst':'fd00:0:0::a','dport':80}") (
      record {
        from = Wire;
        source = v6_address (253 * 2 ^ 120 + 9);
        target = v6_address (253 * 2 ^ 120 + 10);
        proto = Tcp;
        port = 80;
        now = 0;
      },
      (0, (draws.List [], false)),
    )

-- what a setting tells, with its numbers in a list
abbrev pub Told : Type 0
Told =
    List ℕ
    × (List AddressParts
    × (Option RangeParts × (Option RangeParts × (Bool × (Bool × (Bool × List ℕ))))))

-- what a configuration tells
abbrev pub told_by : Config → Told
told_by c = (
  c.node,
  (
    c.addresses,
    (
      c.cluster,
      (
        c.cluster6,
        (
          c.masquerade_all,
          (
            c.dual,
            (
              c.controller,
              c.max_per_slice ∷ c.max_events ∷ c.recent_size ∷ c.name_length ∷ [],
            ),
          ),
        ),
      ),
    ),
  ),
)

-- a setting with each member, of both families
abbrev pub AllOfSetting : Type 0
AllOfSetting =
    Reads told_by read_config
    (codes "{'node':'n1','nodeAddresses':['10.0.0.1','fd00::1','10.0.0.2'],"
    ++ codes "'clusterCIDR':'fd00::9/8,10.244.9.9/16','masqueradeAll':true,'dualStack':true,"
    ++ codes "'controller':false,"
    ++ codes "'maxEndpointsPerSlice':2,'maxEvents':3,'recentSize':4,'nameLength':5}") (
      codes "n1",
      (
        v4_address 167772161 ∷ v6_address (253 * 2 ^ 120 + 1) ∷ v4_address 167772162 ∷ [],
        (
          Some (record { base = v4_address 183762944; bits = 16 }),
          (
            Some (record { base = v6_address (253 * 2 ^ 120); bits = 8 }),
            (
              true,
              (
                true,
                (
                  false,
                  2 ∷ 3 ∷ 4 ∷ 5 ∷ [],
                ),
              ),
            ),
          ),
        ),
      ),
    )

-- what a setting tells where nothing is said
abbrev pub default : Told
default =
    (codes "node", ([], (None, (None, (false, (false, (true, 100 ∷ 1000000 ∷ 100 ∷ 16 ∷ [])))))))

-- members that are empty
abbrev pub DefaultSetting : Type 0
DefaultSetting = Reads told_by read_config (codes "{'node':'','clusterCIDR':''}") default

-- no line at all
abbrev pub NoSetting : Type 0
NoSetting = told_by default_config ≡ default

-- addresses of two families in a packet, and texts outside both grammars
abbrev pub PacketFaults : Type 0
PacketFaults =
    Refuses read_packet (codes "{'src':'fd00::9','dst':'10.96.0.10','dport':80}")
    (fault_at BadAddress (codes "dst"))
    × (Refuses read_packet (codes "{'src':'10.244.9.9','dst':'fd00::a','dport':80}")
    (fault_at BadAddress (codes "dst"))
    × Refuses read_packet (codes "{'src':'fe80::1%eth0','dst':'10.96.0.10','dport':80}")
    (fault_at BadAddress (codes "src")))

-- two ranges of one family, an address outside both grammars, and a fault that comes before a later one
abbrev pub SettingFaults : Type 0
SettingFaults =
    Refuses read_config (codes "{'clusterCIDR':'10.244.0.0/16,10.96.0.0/16'}")
    (fault_at BadCidr (codes "clusterCIDR"))
    × (Refuses read_config (codes "{'nodeAddresses':['fd00::1','a:b']}")
    (fault_at BadAddress (codes "nodeAddresses[1]"))
    × Refuses read_config (codes "{'controller':2,'dualStack':1,'masqueradeAll':true}")
    (fault_at WrongType (codes "dualStack")))
