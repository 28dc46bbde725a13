-- The lines of flows (this project's choice).
use Rattle.std.specs.Prelude.{ℕ, Bool, true, false, List, [], ◌++◌, codes, decimal}
use Rattle.kp_types.specs.declared.verdict.Verdict.{Verdict}
use Rattle.kp_types.specs.declared.verdict.Verdict.TheVariants.{To, Rejected, Dropped, LeftAlone}
use Rattle.kp_choice_defs.specs.AddressText.{endpoint_text}
use Rattle.kp_text_defs.specs.Printed.{masked_text, verdict_text}
use Rattle.kp_text_defs.specs.declared.packet.PacketLine.{PacketLine}
use Rattle.kp_run_defs.specs.AnswerText.{trail_if}
use Rattle.kp_track_defs.specs.declared.flow.Owned.{Owned}
use Rattle.kp_track_defs.specs.declared.flow.Owned.TheVariants.{Later, Reply}

-- a packet, by its line and the sync that it is answered from, with what is said of it
abbrev pub flow_text : ℕ → ℕ → List ℕ → List ℕ
flow_text number sync words =
    codes "packet " ++ decimal number ++ codes " at " ++ decimal sync ++ codes ": " ++ words ++ codes "\n"

-- what a flow of an open connection is answered
abbrev pub owned_words : Owned → List ℕ
owned_words (Later endpoint masked) = codes "later to " ++ endpoint_text endpoint ++ masked_text masked
owned_words (Reply door) = codes "reply as " ++ endpoint_text door

-- its line; it passes no rule, so it has no way
abbrev pub owned_text : ℕ → ℕ → PacketLine → Owned → List ℕ
owned_text number sync line owned =
    flow_text number sync (owned_words owned) ++ trail_if line.trail number []

-- whether a flow that was sent to an endpoint isn't kept
abbrev pub untracked_text : Verdict → Bool → List ℕ
untracked_text (To endpoint masked) false = codes " untracked"
untracked_text (To endpoint masked) true = []
untracked_text Rejected kept = []
untracked_text Dropped kept = []
untracked_text LeftAlone kept = []

-- the line of a flow that opens, by its verdict and whether it is kept
abbrev pub opening_text : ℕ → ℕ → Verdict → Bool → List ℕ
opening_text number sync verdict kept =
    flow_text number sync (verdict_text verdict ++ untracked_text verdict kept)

-- that line, and the ways of the packet's walk where the line asks for them
abbrev pub opened_text : ℕ → ℕ → PacketLine → Verdict → List (List (List ℕ)) → Bool → List ℕ
opened_text number sync line verdict ways kept =
    opening_text number sync verdict kept ++ trail_if line.trail number ways
