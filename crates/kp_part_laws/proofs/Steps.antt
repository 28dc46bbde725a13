-- Steps that look at one part of recent lists, and change that part alone.
use Rattle.std.proofs.Common.{◌≡◌, ℕ, suc, ◌<◌, ◌%◌, ◌==◌, Bool, true, false, cond, List, [], ◌∷◌}
use Rattle.std.proofs.Common.{length, set, slice_get, Option, Some, refl, sym, ap, ◌∙◌, arith}
use Rattle.std.specs.Cmp.{eq_by_cmp_equiv}
use Rattle.std.specs.Ordering.{eq_by_cmp}
use Rattle.std.specs.FinMap.{FinMap, get, get-insert, insert}
use Rattle.std.proofs.lemmas.Bool.Decides.{nat_tests}
use Rattle.kp_base.specs.Net.{AddressParts}
use Rattle.kp_base.specs.declared.address.Family.TheVariants.{V4}
use Rattle.kp_types.specs.declared.chain.ChainAt.{ChainAt}
use Rattle.kp_types.specs.declared.packet.Packet.{Packet}
use Rattle.kp_types.specs.declared.rule.Rule.{Rule}
use Rattle.kp_types.specs.declared.verdict.Verdict.{Verdict}
use Rattle.kp_table_defs.specs.Walk.{Walked, walk_of}
use Rattle.kp_choice_defs.specs.Recent.{RecentParts, Shard, Sighting, shard_cmp}
use Rattle.kp_choice_defs.specs.Recent.{is_live, reaped, set_at}
use Rattle.kp_part_laws.specs.Beside.{IsInPart, united}
use Rattle.kp_part_laws.specs.Unseen.{IsUnseen}
use Rattle.kp_part_laws.proofs.Pointwise.{Held, one_part, part_total, pointwise_unseen}
use Rattle.kp_part_laws.proofs.United.{placed, placed_unseen, set_there}
use Rattle.kp_part_laws.proofs.Walks.{walks_unseen}

-- ---- Which steps are in a part

-- a look at a source, which drops what is too old
pub look_in_part : (list : List ℕ) (source : AddressParts) (now seconds : ℕ)
    → IsInPart (source.number % 16)
    (λ lists. (is_live lists list source now seconds, reaped lists list source now seconds))
look_in_part list source now seconds change lists unseen =
    let same = unseen source refl in
    λ i. (same.live lists list now seconds i, same.reaps lists list now seconds i)

-- a set of a source, whatever is told of the lists before it
pub set_in_part : {B : Type 0} (told : B) (list : List ℕ) (source : AddressParts) (now : ℕ)
    → IsInPart (source.number % 16) (λ lists. (told, set_at lists list source now))
set_in_part told list source now change lists unseen =
    λ i. (told, (unseen source refl).sets lists list now i)

-- a walk, and what is told of it
pub walk_in_part : {B : Type 0} (tell : Verdict → List (List (List ℕ)) → B)
    (at : ChainAt → Option (List Rule)) (node : List AddressParts) (packet : Packet) (draws : ℕ → ℕ)
    → IsInPart (packet.source.number % 16)
    (λ lists. let w = walk_of at node packet draws lists in (tell w.verdict w.trail, w.lists))
walk_in_part tell at node packet draws change lists unseen =
    ap (λ (w : Walked). (tell w.verdict w.trail, w.lists))
    (walks_unseen change at node packet draws lists (unseen packet.source refl))

-- ---- Such a step keeps the size, and goes through united lists

module _ {B : Type 0} (part : ℕ) (step : RecentParts → B × RecentParts)
    (local : IsInPart part step) where
  -- lists of another size than this one get something, in another part
  abbrev elsewhere : Shard
  elsewhere = record { list = []; part = suc part }

  abbrev marked_parts : Bool → List Sighting → RecentParts → FinMap shard_cmp (List Sighting)
  marked_parts same found lists = cond same lists.parts (insert lists.parts elsewhere found)

  abbrev marked : ℕ → List Sighting → RecentParts → RecentParts
  marked size found lists =
      record { size = lists.size; parts = marked_parts (lists.size == size) found lists }

  abbrev there : Shard → Bool
  there q = eq_by_cmp shard_cmp q elsewhere

  marked_look : (same : Bool) (found : List Sighting) (lists : RecentParts) (q : Shard)
      → get (marked_parts same found lists) q
      ≡ cond same (get lists.parts q) (cond (there q) (Some found) (get lists.parts q))
  marked_look true found lists q = refl
  marked_look false found lists q = get-insert part_total lists.parts elsewhere found q

  not_elsewhere : (same : Bool) (found : List Sighting) (q : Shard) (h : Held) → q.part ≡ part
      → (b : Bool) → there q ≡ b → cond same h (cond b (Some found) h) ≡ h
  not_elsewhere true found q h at b is = refl
  not_elsewhere false found q h at true is =
      let far : q.part ≡ suc part = ap (λ (x : Shard). x.part) (one_part q elsewhere is) in
      absurd (omega (arith, at, far))
  not_elsewhere false found q h at false is = refl

  marked_unseen : (size : ℕ) (found : List Sighting) (source : AddressParts)
      → source.number % 16 ≡ part → IsUnseen source (marked size found)
  marked_unseen size found source own =
      pointwise_unseen source (marked size found)
      (λ n q h. cond (n == size) h (cond (there q) (Some found) h))
      (λ lists. refl)
      (λ lists q. marked_look (lists.size == size) found lists q)
      (λ n q h at. not_elsewhere (n == size) found q h (at ∙ own) (there q) refl)

  same_marked : (same : Bool) (found : List Sighting) (lists : RecentParts) → same ≡ true
      → marked_parts same found lists ≡ lists.parts
  same_marked true found lists is = refl
  same_marked false found lists is = absurd (cc)

  -- after a step of lists that aren't marked the lists are marked or not alike
  fixed : (lists : RecentParts) (found : List Sighting)
      → (step lists).1 ≡ marked lists.size found (step lists).1
  fixed lists found =
      ap (λ x. (step x).1) (sym (ap (λ parts. record { size = lists.size; parts = parts })
      (same_marked (lists.size == lists.size) found lists (grind (arith, nat_tests)))))
      ∙ ap (λ (r : B × RecentParts). r.1)
      (local (marked lists.size found) lists (marked_unseen lists.size found))

  there_itself : there elsewhere ≡ true
  there_itself = (eq_by_cmp_equiv part_total).refl elsewhere

  -- what is found elsewhere after the step, if the size isn't the same
  found_there : (lists : RecentParts) (found : List Sighting)
      → ((step lists).1.size == lists.size) ≡ false
      → get (step lists).1.parts elsewhere ≡ Some found
  found_there lists found other =
      let held = get (step lists).1.parts elsewhere in
      ap (λ (x : RecentParts). get x.parts elsewhere) (fixed lists found)
      ∙ marked_look ((step lists).1.size == lists.size) found (step lists).1 elsewhere
      ∙ (λ i. cond (other i) held (cond (there_itself i) (Some found) held))

  sized_by : (lists : RecentParts) (b : Bool) → ((step lists).1.size == lists.size) ≡ b
      → (step lists).1.size ≡ lists.size
  sized_by lists true is = grind (arith, nat_tests)
  sized_by lists false is =
      let seen : Sighting = record { source = record { family = V4; number = 0 }; moment = 0 } in
      let two : Some [] ≡ Some (seen ∷ []) =
      sym (found_there lists [] is) ∙ found_there lists (seen ∷ []) is in
      absurd (cc)

  -- a step in one part keeps the size
  pub step_sized : (lists : RecentParts) → (step lists).1.size ≡ lists.size
  step_sized lists = sized_by lists ((step lists).1.size == lists.size) refl

  -- a step on united lists is the step on the value that owns the part
  pub united_step : (owner : ℕ → ℕ) (size : ℕ) (values : List RecentParts) (value : RecentParts)
      → owner part < length values → slice_get values (owner part) ≡ Some value
      → value.size ≡ size
      → step (united owner size values)
      ≡ ((step value).0, united owner size (set values (owner part) (step value).1))
  united_step owner size values value within at sized =
      let w = owner part in
      (λ i. step (united owner (sym sized i) (sym (set_there values w value at) i)))
      ∙ local (placed owner values w within) value
      (λ source own. placed_unseen owner values w within source (ap owner own))
      ∙ (λ i. (
        (step value).0,
        united owner ((step_sized value ∙ sized) i) (set values w (step value).1),
      ))
