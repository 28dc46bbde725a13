-- Worked examples of packings that go on from the slices of one before them (KEP-752). Pods have names of one letter.
use Rattle.std.specs.Prelude.{◌≡◌, ℕ, true, List, [], ◌∷◌, map, codes}
use Rattle.kp_base.specs.declared.address.Family.TheVariants.{V4}
use Rattle.kp_base.specs.declared.port.Proto.TheVariants.{Udp}
use Rattle.kp_types.specs.declared.slice.Wanted.{Wanted}
use Rattle.kp_types.specs.declared.slice.Packed.{Packed}
use Rattle.kp_object_defs.specs.Packing.{packed_slices}
use Rattle.kp_worked.specs.Setting.{web}
use Rattle.kp_worked.specs.Packing.{wanted, wanted_with, port_at, slice, kp1, kp2, kp3}

-- endpoints packed into none, so many at most in each slice
abbrev pub packed_at : ℕ → List Wanted → Packed
packed_at most endpoints = packed_slices V4 web.key [] endpoints most []

-- endpoints packed into the slices that a packing gave
abbrev pub packed_into : Packed → ℕ → List Wanted → Packed
packed_into before most endpoints = packed_slices V4 web.key before.slices endpoints most before.created

-- one new slice is preferred to changes of two
abbrev pub OneNew : Type 0
OneNew =
    packed_into (packed_at 4 (wanted (codes "abcdefgh"))) 5 (wanted (codes "abcdefghij"))
    ≡ record {
      slices = slice kp1 (codes "abcd") ∷ slice kp2 (codes "efgh") ∷ slice kp3 (codes "ij") ∷ [];
      created = kp3 ∷ [];
      updated = [];
      deleted = [];
    }

-- the fullest slice takes what is left, if it has room for it
abbrev pub FullestOfTwo : Type 0
FullestOfTwo =
    packed_into (packed_at 4 (wanted (codes "abcdefg"))) 6 (wanted (codes "abcdefghi"))
    ≡ record {
      slices = slice kp1 (codes "abcdhi") ∷ slice kp2 (codes "efg") ∷ [];
      created = [];
      updated = kp1 ∷ [];
      deleted = [];
    }

-- a slice that changes is filled
abbrev pub FilledAgain : Type 0
FilledAgain =
    packed_into (packed_at 5 (wanted (codes "abcdefghij"))) 5 (wanted (codes "bcdefghijk"))
    ≡ record {
      slices = slice kp1 (codes "bcdek") ∷ slice kp2 (codes "fghij") ∷ [];
      created = [];
      updated = kp1 ∷ [];
      deleted = [];
    }

-- of slices that shrink an emptied one goes
abbrev pub Shrunk : Type 0
Shrunk =
    packed_into (packed_at 3 (wanted (codes "abcdefghi"))) 100 (wanted (codes "efgh"))
    ≡ record {
      slices = slice kp2 (codes "ef") ∷ slice kp3 (codes "gh") ∷ [];
      created = [];
      updated = kp2 ∷ kp3 ∷ [];
      deleted = kp1 ∷ [];
    }

-- names that were just emptied are still taken
abbrev pub OtherPorts : Type 0
OtherPorts =
    packed_into (packed_at 2 (map (wanted_with (port_at [] Udp 53 ∷ []) true) (codes "abcd"))) 100 (wanted (codes "abcd"))
    ≡ record {
      slices = slice kp3 (codes "abcd") ∷ [];
      created = kp3 ∷ [];
      updated = [];
      deleted = kp1 ∷ kp2 ∷ [];
    }

-- the same endpoints change nothing; slices stand in the byte order of their names
abbrev pub TenAgain : Type 0
TenAgain =
    packed_into (packed_at 1 (wanted (codes "abcdefghij"))) 1 (wanted (codes "abcdefghij"))
    ≡ record {
      slices =
          slice kp1 (codes "a") ∷ slice (codes "web-kp10") (codes "j") ∷ slice kp2 (codes "b") ∷ slice kp3 (codes "c")
          ∷ slice (codes "web-kp4") (codes "d") ∷ slice (codes "web-kp5") (codes "e") ∷ slice (codes "web-kp6") (codes "f")
          ∷ slice (codes "web-kp7") (codes "g") ∷ slice (codes "web-kp8") (codes "h") ∷ slice (codes "web-kp9") (codes "i") ∷ [];
      created = [];
      updated = [];
      deleted = [];
    }
