-- What is read of a slice's metadata, and the slice that has it.
use Rattle.std.specs.Prelude.{codes, map}
use Rattle.kp_json.specs.Places.{Place}
use Rattle.kp_row_defs.specs.Fields.{inner, items_in, text_in, is_text, key_from}
use Rattle.kp_event_defs.specs.SliceText.{endpoint_from, slice_port}
use Rattle.kp_types.specs.declared.slice.AddressType.{AddressType}
use Rattle.kp_types.specs.declared.slice.Slice.{Slice}
use Rattle.kp_objects.specs.declared.slice.metadata.Metadata.{Metadata}
use Rattle.kp_objects.specs.declared.slice.metadata.Labels.{Labels}

-- the labels
abbrev pub labels_from : Place → Labels
labels_from p = record {
  service = text_in (codes "kubernetes.io/service-name") p;
  managed = is_text (codes "endpointslice-controller.k8s.io") (text_in (codes "endpointslice.kubernetes.io/managed-by") p);
}

-- the metadata
abbrev pub metadata_from : Place → Metadata
metadata_from p = record {
  key = key_from p;
  service = (labels_from (inner (codes "labels") p)).service;
  managed = (labels_from (inner (codes "labels") p)).managed;
}

-- the metadata of an object
abbrev pub metadata_at : Place → Metadata
metadata_at p = metadata_from (inner (codes "metadata") p)

-- the slice with this metadata and of this address type
abbrev pub slice_with : Metadata → AddressType → Place → Slice
slice_with metadata family p = record {
  key = metadata.key;
  service = metadata.service;
  managed = metadata.managed;
  family = family;
  ports = map slice_port (items_in (codes "ports") p);
  endpoints = map (endpoint_from family metadata.key.namespace) (items_in (codes "endpoints") p);
}
