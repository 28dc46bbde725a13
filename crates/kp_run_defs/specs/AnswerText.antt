-- What a line that sends a packet is answered (this project's choice): the draws of its packet, its
-- walk through the chains of a table, and the text. It names no plane: a text of threads may cite
-- it too.
use Rattle.std.specs.Prelude.{ℕ, Bool, true, false, List, [], ◌∷◌, ◌++◌, Option, codes, decimal}
use Rattle.std.specs.List.{flat_map}
use Rattle.kp_base.specs.Net.{AddressParts}
use Rattle.kp_types.specs.declared.chain.ChainAt.{ChainAt}
use Rattle.kp_types.specs.declared.rule.Rule.{Rule}
use Rattle.kp_types.specs.declared.verdict.Verdict.{Verdict}
use Rattle.kp_choice_defs.specs.Draws.{draw_of_list, draw_of_seed}
use Rattle.kp_choice_defs.specs.Recent.{RecentParts}
use Rattle.kp_table_defs.specs.Walk.{Walked, walk_of}
use Rattle.kp_text_defs.specs.declared.draws.Draws.{Draws}
use Rattle.kp_text_defs.specs.declared.draws.Draws.TheVariants as draws
use Rattle.kp_text_defs.specs.declared.packet.PacketLine.{PacketLine}
use Rattle.kp_text_defs.specs.Answers.{chains_text}
use Rattle.kp_text_defs.specs.Printed.{packet_text}

-- the draws of the packet of a line, by the line's number
abbrev pub draws_at : ℕ → Draws → ℕ → ℕ
draws_at number (draws.List ds) = draw_of_list ds
draws_at number (draws.Seed seed) = draw_of_seed seed number

-- the walk of its packet through chains, on the node with these addresses
abbrev pub walk_at : (ChainAt → Option (List Rule)) → List AddressParts → ℕ → PacketLine
    → RecentParts → Walked
walk_at chain_at node number line lists =
    walk_of chain_at node line.packet (draws_at number line.draws) lists

-- a way behind another one
abbrev pub next_way_text : List (List ℕ) → List ℕ
next_way_text way = codes ", " ++ chains_text way

-- the ways of a walk
abbrev pub ways_text : List (List (List ℕ)) → List ℕ
ways_text [] = codes "none"
ways_text (way ∷ ways) = chains_text way ++ flat_map next_way_text ways

-- the trail of a packet, by its line, where it is asked for
abbrev pub trail_if : Bool → ℕ → List (List (List ℕ)) → List ℕ
trail_if true number ways =
    codes "trail " ++ decimal number ++ codes ": " ++ ways_text ways ++ codes "\n"
trail_if false number ways = []

-- what the line is answered: the verdict, by the number of the sync that it is answered from, and
-- the ways of its walk where the line asks for them
abbrev pub answer_text : ℕ → ℕ → PacketLine → Verdict → List (List (List ℕ)) → List ℕ
answer_text number sync line verdict ways =
    packet_text number sync verdict ++ trail_if line.trail number ways
