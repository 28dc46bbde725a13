-- How many lists of UDP ports have each endpoint.
use Rattle.std.specs.Prelude.{◌≡◌, ◌≢◌, ℕ, ◌+◌, ◌-◌, ◌==◌, ◌≤◌, ◌&&◌, nat_le, List, [], ◌∷◌, not, cond, count_by, Some, unwrap_or}
use Rattle.std.specs.FinMap as finite
use Rattle.std.specs.List.{fold, list_any}
use Rattle.kp_base.specs.Keys.{endpoint_cmp}
use Rattle.kp_base.specs.declared.address.Family.TheVariants.{V4, V6}
use Rattle.kp_base.specs.declared.config.Config.{Config}
use Rattle.kp_base.specs.declared.key.Endpoint.{Endpoint}
use Rattle.kp_object_defs.specs.Objects.{Objects}
use Rattle.kp_object_defs.specs.OwnKeys.{AreUnderOwnKeys}
use Rattle.kp_history_defs.specs.declared.dirty.DirtyPort.{DirtyPort}
use Rattle.kp_track_defs.specs.Stands.{is_endpoint, stands_by}
use Rattle.kp_udp_endpoints.specs.Endpoints.{dirty_in, lists_with}

-- the counts of endpoints
abbrev pub Counts : Type 0
Counts = finite.FinMap endpoint_cmp ℕ

-- how many there are of an endpoint
abbrev pub count_of : Counts → Endpoint → ℕ
count_of c e = unwrap_or (finite.get c e) 0

-- one more of an endpoint
abbrev pub one_more : Counts → Endpoint → Counts
one_more c e = finite.insert c e (count_of c e + 1)

-- one fewer of an endpoint: what falls to none has no count
abbrev pub one_fewer : Counts → Endpoint → Counts
one_fewer c e =
    cond (nat_le (count_of c e) 1) (finite.remove c e) (finite.insert c e (count_of c e - 1))

-- the counts once these endpoints came
abbrev pub with_new : List Endpoint → Counts → Counts
with_new es c = fold one_more c es

-- and once these went
abbrev pub without_gone : List Endpoint → Counts → Counts
without_gone es c = fold one_fewer c es

-- of these those of which the last one goes, in their order
abbrev pub fallen_of : List Endpoint → Counts → List Endpoint
fallen_of [] c = []
fallen_of (e ∷ es) c =
    cond (count_of c e == 1) (e ∷ fallen_of es (one_fewer c e)) (fallen_of es (one_fewer c e))

-- what isn't there has no count
abbrev pub NoneIsZero : Counts → Type 0
NoneIsZero c = (e : Endpoint) → finite.get c e ≢ Some 0

-- what is kept: no count is 0, and none is greater than how many were ever counted
pub record AreSound (c : Counts) (added : ℕ) : Type 0 where
  pub none : NoneIsZero c
  pub low : (e : Endpoint) → count_of c e ≤ added

-- none of these is given twice
abbrev pub AreDistinct : List Endpoint → Type 0
AreDistinct es = (e : Endpoint) → count_by (is_endpoint e) es ≤ 1

-- as many are counted of each endpoint as the objects have lists with it
abbrev pub AreCounted : Config → Objects → Counts → Type 0
AreCounted config o c = (e : Endpoint) → count_of c e ≡ lists_with config o e

-- the counts of some objects, and the ports of which the two families know something else by others
pub record IsFollowed (config : Config) (before after : Objects) (fours sixes : List DirtyPort) (c : Counts) : Type 0 where
  pub own : AreUnderOwnKeys before
  pub own_after : AreUnderOwnKeys after
  pub four : fours ≡ dirty_in config before after V4
  pub six : sixes ≡ dirty_in config before after V6
  pub counted : AreCounted config before c

-- these endpoints fell to none: they stood by the objects before, and don't stand by those after
abbrev pub HaveFallen : Config → Objects → Objects → List Endpoint → Type 0
HaveFallen config before after fallen =
    (e : Endpoint)
    → list_any (is_endpoint e) fallen
    ≡ (stands_by config before e && not (stands_by config after e))
