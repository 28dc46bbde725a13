-- Packets of lines (this project's choice): the first packet of a connection, as the rules see it, and the draws of its
-- statistic tests.
use Rattle.std.specs.Prelude.{get_or, ℕ, ◌<◌, ◌^◌, false, List, [], ◌∷◌, map, codes, Option, Some, None, option_map, unwrap_or, Result}
use Rattle.std.proofs.Common.{lit<, lit≤, lt_of_le_of_lt}
use Rattle.std.proofs.lemmas.List.Elements.{All-map, All-nil}
use Rattle.kp_base.specs.Net.{AddressParts, v4_address}
use Rattle.kp_base.specs.declared.port.Proto.TheVariants.{Tcp}
use Rattle.kp_json.specs.Places.{Place, member_at, elements_of}
use Rattle.kp_json.specs.declared.fault.BadField.{BadField}
use Rattle.kp_types.specs.declared.packet.Origin.{Origin}
use Rattle.kp_types.specs.declared.packet.Origin.TheVariants.{Wire, Node}
use Rattle.kp_types.specs.declared.packet.Packet.{Packet}
use Rattle.kp_row_defs.specs.Fields.{address_in, text_in, flag_in, whole_in, whole_of, chosen, texts_of, protocols}
use Rattle.kp_row_defs.specs.Rows.{Rows, done, ◌▸◌, field, each_up_to, address_like, itself, needed, optional, address_text, choice, whole, truth_value, rows_fault, unless_fault}
use Rattle.kp_text_defs.specs.Bounds.{between, between_to}
use Rattle.kp_text_defs.specs.ListedDraws.{AreLow, listed}
use Rattle.kp_text_defs.specs.declared.draws.Draws.{Draws}
use Rattle.kp_text_defs.specs.declared.draws.Draws.TheVariants as draws
use Rattle.kp_text_defs.specs.declared.packet.PacketLine.{PacketLine}

-- where a packet comes from
abbrev pub origins : List (List ℕ × Origin)
origins = (codes "wire", Wire) ∷ (codes "node", Node) ∷ []

-- the rows of a draw
abbrev pub draw_rows : Rows
draw_rows = itself (whole 0 2147483647) ▸ done

-- the rows of a packet; its addresses are of one family
abbrev pub packet_rows : Rows
packet_rows =
    field (codes "from") optional (choice (texts_of origins))
    ▸ field (codes "src") needed address_text
    ▸ address_like (codes "dst") (codes "src")
    ▸ field (codes "proto") optional (choice (texts_of protocols))
    ▸ field (codes "sport") optional (whole 0 65535)
    ▸ field (codes "dport") needed (whole 1 65535)
    ▸ field (codes "now") optional (whole 0 18446744073709551615)
    ▸ each_up_to 1000 (codes "draws") draw_rows
    ▸ field (codes "seed") optional (whole 0 18446744073709551615)
    ▸ field (codes "trail") optional truth_value
    ▸ done

-- the address of a member that is there
abbrev pub needed_address_in : List ℕ → Place → AddressParts
needed_address_in name p = unwrap_or (address_in name p) (v4_address 0)

-- a packet
abbrev pub packet_from : Place → Packet
packet_from p = record {
  from = chosen origins Wire (text_in (codes "from") p);
  source = needed_address_in (codes "src") p;
  target = needed_address_in (codes "dst") p;
  proto = chosen protocols Tcp (text_in (codes "proto") p);
  port = unwrap_or (whole_in (codes "dport") p) 0;
  now = unwrap_or (whole_in (codes "now") p) 0;
}

-- a draw
abbrev pub draw_from : Place → ℕ
draw_from p = between 0 2147483647 (unwrap_or (whole_of p) 0)

-- the draws of a list
abbrev pub draw_list : Place → List ℕ
draw_list p = map draw_from (elements_of p)

-- the draws that a packet lists, if it lists any
abbrev pub listed_in : Place → Option (List ℕ)
listed_in p = option_map draw_list (member_at p (codes "draws"))

-- a list of draws goes before a seed, and without both there are none
abbrev pub draws_of : Option (List ℕ) → Option ℕ → Draws
draws_of (Some list) seed = draws.List list
draws_of None (Some seed) = draws.Seed seed
draws_of None None = draws.List []

-- the draws of a packet
abbrev pub draws_from : Place → Draws
draws_from p = draws_of (listed_in p) (whole_in (codes "seed") p)

-- a draw is low
pub draw_is_low : (p : Place) → draw_from p < 2 ^ 31
draw_is_low p = lt_of_le_of_lt (between_to 0 2147483647 (unwrap_or (whole_of p) 0) (lit≤ tt)) (lit< tt)

-- the draws that are listed are low
pub draws_are_low : (list : Option Place) (seed : Option ℕ) → AreLow (listed (draws_of (option_map draw_list list) seed))
draws_are_low (Some list) seed =
    All-map (λ draw. draw < 2 ^ 31) draw_from (elements_of list) (λ i default _within. draw_is_low (get_or (elements_of list) i default))
draws_are_low None (Some seed) = All-nil _
draws_are_low None None = All-nil _

-- a packet, and what stands beside it
abbrev pub packet_line_from : Place → PacketLine
packet_line_from p = record {
  packet = packet_from p;
  source_port = unwrap_or (whole_in (codes "sport") p) 0;
  draws = draws_from p;
  trail = unwrap_or (flag_in (codes "trail") p) false;
  low = draws_are_low (member_at p (codes "draws")) (whole_in (codes "seed") p);
}

-- the packet line at a place, or the first fault of its rows
abbrev pub read_packet : Place → Result PacketLine BadField
read_packet p = unless_fault (rows_fault packet_rows p) (packet_line_from p)
