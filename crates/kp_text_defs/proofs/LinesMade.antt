-- Configurations and packet lines of the same fields are the same, however their bounds are shown.
use Rattle.std.proofs.Common.{◌≡◌, ◌≤◌, ℕ, Bool, List, Option, ap, subst}
use Rattle.std.proofs.Math.Bridge.{le_prop}
use Rattle.kp_base.specs.Net.{AddressParts, RangeParts}
use Rattle.kp_base.specs.declared.config.Config.{Config}
use Rattle.kp_types.specs.declared.packet.Packet.{Packet}
use Rattle.kp_text_defs.specs.ListedDraws.{AreLow, listed}
use Rattle.kp_text_defs.specs.declared.draws.Draws.{Draws}
use Rattle.kp_text_defs.specs.declared.packet.PacketLine.{PacketLine}

-- what is made of equal things is equal, however the facts that it takes are shown
of_facts : {A B : Type 0} (P : A → Type 0) → ((a : A) (x y : P a) → x ≡ y) → (make : (a : A) → P a → B) (a b : A) → a ≡ b
    → (x : P a) (y : P b) → make a x ≡ make b y
of_facts P single make a b same x =
    subst (λ c. (y : P c) → make a x ≡ make c y) same (λ y. ap (make a) (single a x y))

-- the fields of a configuration without their bounds
abbrev pub Fields : Type 0
Fields = List ℕ × List AddressParts × Option RangeParts × Option RangeParts × Bool × Bool × Bool × ℕ × ℕ × ℕ × ℕ

abbrev pub fields_of : Config → Fields
fields_of c =
    (c.node, c.addresses, c.cluster, c.cluster6, c.dual, c.masquerade_all, c.controller, c.max_per_slice, c.max_events, c.recent_size, c.name_length)

-- the bounds
abbrev AreBounded : Fields → Type 0
AreBounded (node, addresses, cluster, cluster6, dual, all, controller, slice, events, recent, name) =
    (1 ≤ slice) × (slice ≤ 1000) × (1 ≤ events) × (events ≤ 1000000) × (1 ≤ recent) × (recent ≤ 1000) × (name ≤ 16)

bounded_once : (f : Fields) (x y : AreBounded f) → x ≡ y
bounded_once f (a, b, c, d, e, g, h) (a', b', c', d', e', g', h') = λ i.
    (le_prop a a' i, le_prop b b' i, le_prop c c' i, le_prop d d' i, le_prop e e' i, le_prop g g' i, le_prop h h' i)

abbrev make_config : (f : Fields) → AreBounded f → Config
make_config (node, addresses, cluster, cluster6, dual, all, controller, slice, events, recent, name) (a, b, c, d, e, g, h) = record {
  node = node;
  addresses = addresses;
  cluster = cluster;
  cluster6 = cluster6;
  dual = dual;
  masquerade_all = all;
  controller = controller;
  max_per_slice = slice;
  max_events = events;
  recent_size = recent;
  name_length = name;
  slice_from = a;
  slice_to = b;
  events_from = c;
  events_to = d;
  recent_from = e;
  recent_to = g;
  name_to = h;
}

abbrev bounds_of : (c : Config) → AreBounded (fields_of c)
bounds_of c = (c.slice_from, c.slice_to, c.events_from, c.events_to, c.recent_from, c.recent_to, c.name_to)

pub same_config : (a b : Config) → fields_of a ≡ fields_of b → a ≡ b
same_config a b same = of_facts AreBounded bounded_once make_config (fields_of a) (fields_of b) same (bounds_of a) (bounds_of b)

-- the fields of a packet line without the bound of its draws
abbrev pub Parts : Type 0
Parts = Packet × ℕ × Draws × Bool

abbrev pub parts_of : PacketLine → Parts
parts_of l = (l.packet, l.source_port, l.draws, l.trail)

abbrev HasLow : Parts → Type 0
HasLow f = AreLow (listed f.2)

low_once : (f : Parts) (x y : HasLow f) → x ≡ y
low_once f x y = λ i k default within. le_prop (x k default within) (y k default within) i

abbrev make_line : (f : Parts) → HasLow f → PacketLine
make_line f low = record { packet = f.0; source_port = f.1; draws = f.2; trail = f.3; low = low }

pub same_packet_line : (a b : PacketLine) → parts_of a ≡ parts_of b → a ≡ b
same_packet_line a b same = of_facts HasLow low_once make_line (parts_of a) (parts_of b) same a.low b.low
