-- How the lists are held: by parts, each in a cache of the lists' size that has a source.
use Rattle.std.specs.Prelude.{◌≡◌, ℕ, ◌<◌, List, length, IfSome, refl}
use Rattle.std.specs.Coded.{Coded, code_by, coded×, coded_list, coded_ℕ}
use Rattle.std.specs.FinMap as map
use Rattle.std.specs.Map.{lookup}
use Rattle.std.specs.Ordering.{eq_by_cmp}
use Rattle.lru.specs.LruCache.{LruCache}
use Rattle.kp_base.specs.contracts.address.Address as address_row
use Rattle.kp_base.specs.Net.{AddressParts}
use Rattle.kp_choice_defs.specs.Recent.{Sighting, Shard, RecentParts, shard_cmp}
use Rattle.kp_recent.specs.Moments.{shown_in}

-- lists of this size without a source
abbrev pub no_sources : ℕ → RecentParts
no_sources size = record { size = size; parts = map.empty }

-- an entry as contracts see it
abbrev pub shown : Shard × LruCache AddressParts ℕ → Shard × List Sighting
shown e = (e.0, shown_in e.1)

-- each part has a source, and is of this size
abbrev pub IsHeld : ℕ → List (Shard × LruCache AddressParts ℕ) → Type 0
IsHeld size entries = (q : Shard) → IfSome (lookup (eq_by_cmp shard_cmp q) entries) (λ part. (part.cap ≡ size) × (0 < length part.entries))

-- the codes by which proofs tell parts and lists apart
shard_code : Coded Shard
shard_code = code_by (List ℕ × ℕ) (coded× (coded_list coded_ℕ) coded_ℕ) (λ k. (k.list, k.part)) (λ p. record { list = p.0; part = p.1 }) (λ _. refl)

sighting_code : Coded Sighting
sighting_code = code_by (AddressParts × ℕ) (coded× address_row.the_row.coded coded_ℕ) (λ s. (s.source, s.moment)) (λ p. record { source = p.0; moment = p.1 }) (λ _. refl)

pub parts_code : Coded RecentParts
parts_code = code_by (ℕ × map.FinMap shard_cmp (List Sighting)) (coded× coded_ℕ (map.code shard_code (coded_list sighting_code))) (λ r. (r.size, r.parts)) (λ p. record { size = p.0; parts = p.1 }) (λ _. refl)
