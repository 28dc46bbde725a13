-- Trails and explained answers as the program prints them (this project's choice).
use Rattle.std.specs.Prelude.{ℕ, List, [], ◌∷◌, ◌++◌, codes, decimal}
use Rattle.std.specs.List.{flat_map}
use Rattle.kp_types.specs.declared.verdict.Pass.{Pass}
use Rattle.kp_types.specs.declared.verdict.Trail.{Trail}
use Rattle.kp_types.specs.declared.decision.DoorKind.{DoorKind}
use Rattle.kp_types.specs.declared.decision.DoorKind.TheVariants as door
use Rattle.kp_types.specs.declared.decision.ListKind.{ListKind}
use Rattle.kp_types.specs.declared.decision.ListKind.TheVariants as list
use Rattle.kp_types.specs.declared.decision.ChosenBy.{ChosenBy}
use Rattle.kp_types.specs.declared.decision.ChosenBy.TheVariants.{Affinity, Draws}
use Rattle.kp_types.specs.declared.decision.Reason.{Reason}
use Rattle.kp_types.specs.declared.decision.Reason.TheVariants.{Door, NoEndpoints, NoLocal, Closed, NoDoor}
use Rattle.kp_types.specs.declared.decision.Decision.{Decision}
use Rattle.kp_base.specs.declared.key.PortKey.{PortKey}
use Rattle.kp_text_defs.specs.Keys.{port_text}
use Rattle.kp_text_defs.specs.Printed.{verdict_text}

-- ---- Trails

-- a name behind another one
abbrev pub next_chain_text : List ℕ → List ℕ
next_chain_text chain = codes " " ++ chain

-- names with spaces between them
abbrev pub chains_text : List (List ℕ) → List ℕ
chains_text [] = []
chains_text (chain ∷ chains) = chain ++ flat_map next_chain_text chains

-- the chains of a traversal that a rule ended
abbrev pub pass_text : Pass → List ℕ
pass_text pass = chains_text pass.chains.items

-- a traversal behind another one
abbrev pub next_pass_text : Pass → List ℕ
next_pass_text pass = codes ", " ++ pass_text pass

-- the traversals that a rule ended
abbrev pub passes_text : List Pass → List ℕ
passes_text [] = codes "none"
passes_text (pass ∷ passes) = pass_text pass ++ flat_map next_pass_text passes

-- the trail of a packet, by its line
abbrev pub trail_text : ℕ → Trail → List ℕ
trail_text number trail = codes "trail " ++ decimal number ++ codes ": " ++ passes_text trail.passes.items ++ codes "\n"

-- ---- Explained answers

-- the kind of a door
abbrev pub door_kind_text : DoorKind → List ℕ
door_kind_text door.Cluster = codes "cluster"
door_kind_text door.External = codes "external"
door_kind_text door.Balancer = codes "balancer"
door_kind_text door.Node = codes "node"

-- a list of endpoints
abbrev pub list_kind_text : ListKind → List ℕ
list_kind_text list.Cluster = codes "cluster"
list_kind_text list.Local = codes "local"

-- how an endpoint was chosen
abbrev pub chosen_by_text : ChosenBy → List ℕ
chosen_by_text Affinity = codes "affinity"
chosen_by_text Draws = codes "draws"

-- a door of a Service port
abbrev pub door_text : DoorKind → PortKey → List ℕ
door_text kind port = codes "door " ++ door_kind_text kind ++ codes " " ++ port_text port

-- the choice in a door's list: how many endpoints it has, and which one was taken, from 1
abbrev pub choice_text : ListKind → ℕ → ChosenBy → ℕ → List ℕ
choice_text list size by place =
    codes " list " ++ list_kind_text list ++ codes " size " ++ decimal size ++ codes " by " ++ chosen_by_text by
    ++ codes " place " ++ decimal place

-- why a packet goes where it goes
abbrev pub reason_text : Reason → List ℕ
reason_text (Door kind port list size by place) = door_text kind port ++ choice_text list size by place
reason_text (NoEndpoints kind port) = door_text kind port ++ codes " has no endpoints"
reason_text (NoLocal kind port) = door_text kind port ++ codes " has no local endpoints"
reason_text (Closed kind port) = door_text kind port ++ codes " is closed to the source"
reason_text NoDoor = codes "no door decides"

-- the decision on a packet, by its line and the sync that it is answered from
abbrev pub explain_text : ℕ → ℕ → Decision → List ℕ
explain_text number sync decision =
    codes "explain " ++ decimal number ++ codes " at " ++ decimal sync ++ codes ": " ++ verdict_text decision.verdict
    ++ codes "; " ++ reason_text decision.reason ++ codes "\n"
