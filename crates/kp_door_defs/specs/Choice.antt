-- The choice of an endpoint: by session affinity where it is on and the source was seen lately, or else by
-- draws (Kubernetes documents on virtual IPs, "Session affinity"; iptables-extensions, recent and statistic).
use Rattle.std.specs.Prelude.{ℕ, suc, List, [], ◌∷◌, length, Option, Some, None, cond, slice_get, option_map}
use Rattle.kp_base.specs.Net.{AddressParts}
use Rattle.kp_base.specs.declared.key.PortKey.{PortKey}
use Rattle.kp_base.specs.declared.key.Endpoint.{Endpoint}
use Rattle.kp_types.specs.Setting.{Setting}
use Rattle.kp_types.specs.declared.chain.ChainKey.TheVariants.{Sep}
use Rattle.kp_types.specs.declared.decision.ChosenBy.{ChosenBy}
use Rattle.kp_types.specs.declared.decision.ChosenBy.TheVariants.{Affinity, Draws}
use Rattle.kp_choice_defs.specs.Recent.{RecentParts, is_live, reaped, set_at}

-- an endpoint of a list at its place, from 0, how it was chosen, and the recent lists afterwards
pub record Chosen : Type 0 where
  pub endpoint : Endpoint
  pub place : ℕ
  pub by : ChosenBy
  pub lists : RecentParts

-- the recent list of an endpoint of a port is named as its chain
abbrev pub recent_name : Setting → PortKey → Endpoint → List ℕ
recent_name setting port e = setting.name_of (Sep port e)

-- the place of the first endpoint whose recent list has the source within the timeout, if there is one, and
-- the recent lists, from which what is past the timeout was dropped at each endpoint that was looked at
pub record Look : Type 0 where
  pub found : Option (Endpoint × ℕ)
  pub lists : RecentParts

-- such a look at a list of endpoints, the first of which has this place
abbrev pub live_endpoint : (Endpoint → List ℕ) → AddressParts → ℕ → ℕ → ℕ → List Endpoint → RecentParts → Look
live_endpoint name source now seconds place [] lists = record { found = None; lists = lists }
live_endpoint name source now seconds place (e ∷ es) lists =
    cond (is_live lists (name e) source now seconds)
    (record { found = Some (e, place); lists = reaped lists (name e) source now seconds })
    (live_endpoint name source now seconds (suc place) es (reaped lists (name e) source now seconds))

-- an endpoint at a place, which came out of draws
abbrev pub drawn_as : ℕ → RecentParts → Endpoint → Chosen
drawn_as place lists e = record { endpoint = e; place = place; by = Draws; lists = lists }

-- the endpoint at a place, which came out of draws
abbrev pub drawn_at : List Endpoint → ℕ → RecentParts → Option Chosen
drawn_at endpoints place lists = option_map (drawn_as place lists) (slice_get endpoints place)

-- the endpoint that is picked by draws of a list that isn't empty
abbrev pub drawn : Setting → (ℕ → ℕ) → List Endpoint → RecentParts → Option Chosen
drawn setting draws endpoints lists = drawn_at endpoints (setting.pick draws (length endpoints)) lists

-- what was found by affinity, or else by draws
abbrev pub found_or : Setting → (ℕ → ℕ) → List Endpoint → RecentParts → Option (Endpoint × ℕ) → Option Chosen
found_or setting draws endpoints lists None = drawn setting draws endpoints lists
found_or setting draws endpoints lists (Some p) =
    Some (record { endpoint = p.0; place = p.1; by = Affinity; lists = lists })

-- the choice after a look
abbrev pub found_or_drawn : Setting → (ℕ → ℕ) → List Endpoint → Look → Option Chosen
found_or_drawn setting draws endpoints look = found_or setting draws endpoints look.lists look.found

-- the source is set in the chosen endpoint's recent list
abbrev pub remembered : (Endpoint → List ℕ) → AddressParts → ℕ → Option Chosen → Option Chosen
remembered name source now None = None
remembered name source now (Some c) = Some (record c { lists = set_at c.lists (name c.endpoint) source now })

-- the endpoint of a port's list that a packet goes to, under an affinity timeout or none
abbrev pub chosen_endpoint : Setting → PortKey → Option ℕ → AddressParts → ℕ → (ℕ → ℕ) → List Endpoint → RecentParts → Option Chosen
chosen_endpoint setting port None source now draws endpoints lists = drawn setting draws endpoints lists
chosen_endpoint setting port (Some seconds) source now draws endpoints lists =
    remembered (recent_name setting port) source now
    (found_or_drawn setting draws endpoints
    (live_endpoint (recent_name setting port) source now seconds 0 endpoints lists))
