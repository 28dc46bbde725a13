-- The configuration of a line (this project's choice): what the proxy of one node is told before any event. A member
-- that is absent has the default of its row.
use Rattle.std.specs.Prelude.{ℕ, true, false, List, [], codes, None, unwrap_or, Result}
use Rattle.std.specs.List.{filter_map}
use Rattle.std.proofs.Common.{lit≤}
use Rattle.kp_base.specs.declared.address.Family.TheVariants.{V4, V6}
use Rattle.kp_base.specs.declared.config.Config.{Config}
use Rattle.kp_json.specs.Places.{Place}
use Rattle.kp_json.specs.declared.fault.BadField.{BadField}
use Rattle.kp_row_defs.specs.Fields.{text_in, flag_in, whole_in, items_in, address_at, ranges_in, range_in_family}
use Rattle.kp_row_defs.specs.Rows.{Rows, done, ◌▸◌, field, each, optional, name_text, ranges_text, whole, truth_value, address_rows, rows_fault, unless_fault}
use Rattle.kp_text_defs.specs.Bounds.{between, between_from, between_to}

-- the configuration without a line that says otherwise
abbrev pub default_config : Config
default_config = record {
  node = codes "node";
  addresses = [];
  cluster = None;
  cluster6 = None;
  dual = false;
  masquerade_all = false;
  controller = true;
  max_per_slice = 100;
  max_events = 1000000;
  recent_size = 100;
  name_length = 16;
  slice_from = lit≤ tt;
  slice_to = lit≤ tt;
  events_from = lit≤ tt;
  events_to = lit≤ tt;
  recent_from = lit≤ tt;
  recent_to = lit≤ tt;
  name_to = lit≤ tt;
}

-- the rows of a configuration
abbrev pub config_rows : Rows
config_rows =
    field (codes "node") optional name_text
    ▸ each (codes "nodeAddresses") address_rows
    ▸ field (codes "clusterCIDR") optional ranges_text
    ▸ field (codes "masqueradeAll") optional truth_value
    ▸ field (codes "dualStack") optional truth_value
    ▸ field (codes "controller") optional truth_value
    ▸ field (codes "maxEndpointsPerSlice") optional (whole 1 1000)
    ▸ field (codes "maxEvents") optional (whole 1 1000000)
    ▸ field (codes "recentSize") optional (whole 1 1000)
    ▸ field (codes "nameLength") optional (whole 0 16)
    ▸ done

-- a number of a member within bounds, or else a default; where the member is not at fault, it is within them
abbrev pub number_in : ℕ → ℕ → ℕ → List ℕ → Place → ℕ
number_in least most default name p = between least most (unwrap_or (whole_in name p) default)

-- a configuration
abbrev pub config_from : Place → Config
config_from p = record {
  node = unwrap_or (text_in (codes "node") p) (codes "node");
  addresses = filter_map address_at (items_in (codes "nodeAddresses") p);
  cluster = range_in_family V4 (ranges_in (codes "clusterCIDR") p);
  cluster6 = range_in_family V6 (ranges_in (codes "clusterCIDR") p);
  dual = unwrap_or (flag_in (codes "dualStack") p) false;
  masquerade_all = unwrap_or (flag_in (codes "masqueradeAll") p) false;
  controller = unwrap_or (flag_in (codes "controller") p) true;
  max_per_slice = number_in 1 1000 100 (codes "maxEndpointsPerSlice") p;
  max_events = number_in 1 1000000 1000000 (codes "maxEvents") p;
  recent_size = number_in 1 1000 100 (codes "recentSize") p;
  name_length = number_in 0 16 16 (codes "nameLength") p;
  slice_from = between_from 1 1000 _;
  slice_to = between_to 1 1000 _ (lit≤ tt);
  events_from = between_from 1 1000000 _;
  events_to = between_to 1 1000000 _ (lit≤ tt);
  recent_from = between_from 1 1000 _;
  recent_to = between_to 1 1000 _ (lit≤ tt);
  name_to = between_to 0 16 _ (lit≤ tt);
}

-- the configuration at a place, or the first fault of its rows
abbrev pub read_config : Place → Result Config BadField
read_config p = unless_fault (rows_fault config_rows p) (config_from p)
