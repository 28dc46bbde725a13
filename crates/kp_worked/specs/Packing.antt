-- Worked examples of packing (KEP-752; Kubernetes documents on EndpointSlices, "Distribution of EndpointSlices"),
-- with slices of at most four endpoints. Slices and wanted endpoints are told by the names of their pods.
use Rattle.std.specs.Prelude.{◌≡◌, ℕ, Bool, true, false, List, [], ◌∷◌, map, codes, Some, None}
use Rattle.kp_base.specs.declared.address.Family.TheVariants.{V4}
use Rattle.kp_base.specs.declared.port.Proto.{Proto}
use Rattle.kp_base.specs.declared.port.Proto.TheVariants.{Tcp, Udp}
use Rattle.kp_types.specs.declared.slice.AddressType.TheVariants.{Ipv4}
use Rattle.kp_types.specs.declared.slice.SlicePort.{SlicePort}
use Rattle.kp_types.specs.declared.slice.SliceEndpoint.{SliceEndpoint}
use Rattle.kp_types.specs.declared.slice.Slice.{Slice}
use Rattle.kp_types.specs.declared.slice.Wanted.{Wanted}
use Rattle.kp_types.specs.declared.slice.Packed.{Packed}
use Rattle.kp_object_defs.specs.Packing.{packed_slices}
use Rattle.kp_worked.specs.Setting.{ipv4, default_key, web}

-- a port
abbrev pub port_at : List ℕ → Proto → ℕ → SlicePort
port_at name proto number = record { name = name; proto = proto; port = Some number }

-- the port 8080 of TCP
abbrev pub http : List SlicePort
http = port_at [] Tcp 8080 ∷ []

-- the entry of a pod of one letter, ready or not
abbrev pub entry : Bool → ℕ → SliceEndpoint
entry ready letter = record {
  address = Some (ipv4 10 244 1 letter);
  ready = ready;
  serving = ready;
  terminating = false;
  node = None;
  zone = None;
  hints = [];
  pod = Some (default_key (letter ∷ []));
}

-- the endpoint that is wanted of such a pod
abbrev pub wanted_with : List SlicePort → Bool → ℕ → Wanted
wanted_with ports ready letter = record { pod = default_key (letter ∷ []); ports = ports; entry = entry ready letter }

-- the endpoints that are wanted of ready pods
abbrev pub wanted : List ℕ → List Wanted
wanted letters = map (wanted_with http true) letters

-- a slice of this name with the entries of ready pods
abbrev pub slice_with : List SlicePort → List ℕ → List ℕ → Slice
slice_with ports name letters = record {
  key = default_key name;
  service = Some (codes "web");
  managed = true;
  family = Ipv4;
  ports = ports;
  endpoints = map (entry true) letters;
}

-- a slice of this port with the pods of these letters
abbrev pub slice : List ℕ → List ℕ → Slice
slice name letters = slice_with http name letters

-- slices packed, where these names are taken
abbrev pub packed : List Slice → List Wanted → List (List ℕ) → Packed
packed before wanted taken = packed_slices V4 web.key before wanted 4 taken

-- the name of the first slice that is made
abbrev pub kp1 : List ℕ
kp1 = codes "web-kp1"

-- the name of the second
abbrev pub kp2 : List ℕ
kp2 = codes "web-kp2"

-- the name of the third
abbrev pub kp3 : List ℕ
kp3 = codes "web-kp3"

-- five pods make a full slice and one of one
abbrev pub NewSlices : Type 0
NewSlices =
    packed [] (wanted (codes "abcde")) []
    ≡ record { slices = slice kp1 (codes "abcd") ∷ slice kp2 (codes "e") ∷ []; created = kp1 ∷ kp2 ∷ []; updated = []; deleted = [] }

-- two new pods make a new slice, though two slices have room for one each
abbrev pub NearlyFull : Type 0
NearlyFull =
    packed (slice kp1 (codes "abc") ∷ slice kp2 (codes "def") ∷ []) (wanted (codes "abcdefgh")) (kp1 ∷ kp2 ∷ [])
    ≡ record {
      slices = slice kp1 (codes "abc") ∷ slice kp2 (codes "def") ∷ slice kp3 (codes "gh") ∷ [];
      created = kp3 ∷ [];
      updated = [];
      deleted = [];
    }

-- a slice that loses a pod takes the new one, at its end
abbrev pub ChangedIsFilled : Type 0
ChangedIsFilled =
    packed (slice kp1 (codes "abc") ∷ slice kp2 (codes "d") ∷ []) (wanted (codes "acde")) (kp1 ∷ kp2 ∷ [])
    ≡ record {
      slices = slice kp1 (codes "ace") ∷ slice kp2 (codes "d") ∷ [];
      created = [];
      updated = kp1 ∷ [];
      deleted = [];
    }

-- of unchanged slices the fullest with room takes what is left, and of two as full the first by name
abbrev pub FullestTakes : Type 0
FullestTakes =
    packed (slice kp3 (codes "de") ∷ slice kp1 (codes "a") ∷ slice kp2 (codes "bc") ∷ []) (wanted (codes "abcdef")) (kp1 ∷ kp2 ∷ kp3 ∷ [])
    ≡ record {
      slices = slice kp1 (codes "a") ∷ slice kp2 (codes "bcf") ∷ slice kp3 (codes "de") ∷ [];
      created = [];
      updated = kp2 ∷ [];
      deleted = [];
    }

-- a slice that ends empty is gone
abbrev pub EmptiedIsDeleted : Type 0
EmptiedIsDeleted =
    packed (slice kp1 (codes "a") ∷ slice kp2 (codes "b") ∷ []) (wanted (codes "b")) (kp1 ∷ kp2 ∷ [])
    ≡ record { slices = slice kp2 (codes "b") ∷ []; created = []; updated = []; deleted = kp1 ∷ [] }

-- the name of a slice that goes is still taken, and so are those of the namespace's other slices
abbrev pub TakenNames : Type 0
TakenNames =
    packed (slice_with (port_at [] Udp 53 ∷ []) kp1 (codes "a") ∷ []) (wanted (codes "a")) (kp1 ∷ kp2 ∷ [])
    ≡ record { slices = slice kp3 (codes "a") ∷ []; created = kp3 ∷ []; updated = []; deleted = kp1 ∷ [] }

-- groups come in order of their first wanted endpoint, and ports in order of name and protocol
abbrev pub Groups : Type 0
Groups =
    packed [] (wanted_with (port_at (codes "b") Tcp 2 ∷ port_at (codes "a") Udp 1 ∷ []) true 97 ∷ wanted_with http true 98 ∷ []) []
    ≡ record {
      slices =
          slice_with (port_at (codes "a") Udp 1 ∷ port_at (codes "b") Tcp 2 ∷ []) kp1 (codes "a")
          ∷ slice kp2 (codes "b") ∷ [];
      created = kp1 ∷ kp2 ∷ [];
      updated = [];
      deleted = [];
    }

-- an entry whose state changed makes its slice a changed one
abbrev pub ChangedState : Type 0
ChangedState =
    packed (slice kp1 (codes "a") ∷ slice kp2 (codes "bc") ∷ []) (wanted_with http false 97 ∷ wanted (codes "bcd")) (kp1 ∷ kp2 ∷ [])
    ≡ record {
      slices = record (slice kp1 []) { endpoints = entry false 97 ∷ entry true 100 ∷ [] } ∷ slice kp2 (codes "bc") ∷ [];
      created = [];
      updated = kp1 ∷ [];
      deleted = [];
    }

-- nothing that stays as it was is told
abbrev pub Unchanged : Type 0
Unchanged =
    packed (slice kp1 (codes "ab") ∷ []) (wanted (codes "ab")) (kp1 ∷ [])
    ≡ record { slices = slice kp1 (codes "ab") ∷ []; created = []; updated = []; deleted = [] }
