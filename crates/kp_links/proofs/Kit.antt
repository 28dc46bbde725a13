-- Links as the kit has them.
use Rattle.std.proofs.Common.{◌≡◌, ℕ, List, get_or, sym, ap, ◌∙◌, subst}
use Rattle.std.proofs.Math.ListN.{get_or-map}
use Rattle.futures.specs.declared.util.linked_list.Link.{Link as KitLink}
use Rattle.futures.specs.Links.{Inserts, Joins, Skips, Splices, next_of, prev_of}
use Rattle.kp_links.specs.declared.links.Link.{Link}
use Rattle.kp_links.specs.Rings.{IsSkipped, IsSpliced, kit_link, kit_links, next_at, no_link, prev_at}

pub kit_next : (links : List Link) (at : ℕ) → next_of (kit_links links) at ≡ next_at links at
kit_next links at = ap (λ (l : KitLink). l.next) (get_or-map kit_link links at no_link)

pub kit_prev : (links : List Link) (at : ℕ) → prev_of (kit_links links) at ≡ prev_at links at
kit_prev links at = ap (λ (l : KitLink). l.prev) (get_or-map kit_link links at no_link)

-- a link that was read
pub kit_read : (links : List Link) (at : ℕ) (link : Link) → link ≡ get_or links at link
    → kit_link link ≡ get_or (kit_links links) at (kit_link link)
kit_read links at link read = ap kit_link read ∙ sym (get_or-map kit_link links at link)

-- the ways on and back before a change, and after it
abbrev Ways : Type 0
Ways = (ℕ → ℕ) × (ℕ → ℕ) × (ℕ → ℕ) × (ℕ → ℕ)

kit_ways : (old new : List Link)
    → ◌≡◌ {A = Ways} (next_at old, prev_at old, next_at new, prev_at new)
    (next_of (kit_links old), prev_of (kit_links old), next_of (kit_links new), prev_of (kit_links new))
kit_ways old new = λ i. (
  λ x. sym (kit_next old x) i,
  λ x. sym (kit_prev old x) i,
  λ x. sym (kit_next new x) i,
  λ x. sym (kit_prev new x) i,
)

pub kit_skips : (old new : List Link) (at : ℕ) → IsSkipped old new at
    → Skips (kit_links old) (kit_links new) at
kit_skips old new at is =
    let P : Ways → Type 0 = λ w. Joins w.0 w.2 (w.1 at) (w.0 at) × Joins w.1 w.3 (w.0 at) (w.1 at) in
    let both = subst P (kit_ways old new) (is.next, is.prev) in
    record { next = both.0; prev = both.1 }

pub kit_splices : (old new : List Link) (at after : ℕ) → IsSpliced old new at after
    → Splices (kit_links old) (kit_links new) at after
kit_splices old new at after is =
    let P : Ways → Type 0 = λ w. Inserts w.0 w.1 w.2 w.3 (w.1 after) at after in
    subst P (kit_ways old new) is
