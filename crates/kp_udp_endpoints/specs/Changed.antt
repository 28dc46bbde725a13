-- What lists of UDP ports lost and have got: as many as these are counted, each list for itself.
use Rattle.std.specs.Prelude.{◌≡◌, ℕ, ◌+◌, List, [], ◌++◌, count_by, Option, Some, None}
use Rattle.kp_base.specs.declared.key.Endpoint.{Endpoint}
use Rattle.kp_object_defs.specs.PortInfo.{PortInfo}
use Rattle.kp_track_defs.specs.Stands.{is_endpoint}
use Rattle.kp_udp_endpoints.specs.declared.changed.Changed.{Changed}

-- so many that stay are counted beside those that went, and beside those that came
pub record AreKept (was now went came : ℕ) : Type 0 where
  pub kept : ℕ
  pub before : was ≡ kept + went
  pub after : now ≡ kept + came

-- beside what had gone and come, the first endpoints went and the second came, but for some that are
-- counted on both sides
abbrev pub AreAdded : List Endpoint → List Endpoint → Changed → Changed → Type 0
AreAdded before after old new =
    (e : Endpoint)
    → AreKept (count_by (is_endpoint e) (old.went.items ++ before))
    (count_by (is_endpoint e) (old.came.items ++ after))
    (count_by (is_endpoint e) new.went.items) (count_by (is_endpoint e) new.came.items)

-- the endpoints of the list of the cluster
abbrev pub cluster_of : Option PortInfo → List Endpoint
cluster_of None = []
cluster_of (Some i) = i.lists.cluster

-- those of the list of this node
abbrev pub local_of : Option PortInfo → List Endpoint
local_of None = []
local_of (Some i) = i.lists.local

-- and those of both
abbrev pub listed_of : Option PortInfo → List Endpoint
listed_of info = cluster_of info ++ local_of info
