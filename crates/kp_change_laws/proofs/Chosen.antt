-- An endpoint that is chosen of a list is in it.
use Rattle.std.proofs.Common.{◌≡◌, ℕ, zero, suc, Bool, true, false, cond, List, [], ◌∷◌, Contains, Option, Some, None, slice_get, refl, ap, subst}
use Rattle.std.proofs.lemmas.Option.{same_Some}
use Rattle.kp_lemmas.proofs.Members.{first_in, later_in}
use Rattle.kp_lemmas.proofs.Options.{from_option_map}
use Rattle.kp_base.specs.Net.{AddressParts}
use Rattle.kp_base.specs.declared.key.Endpoint.{Endpoint}
use Rattle.kp_base.specs.declared.key.PortKey.{PortKey}
use Rattle.kp_types.specs.Setting.{Setting}
use Rattle.kp_choice_defs.specs.Recent.{RecentParts, reaped}
use Rattle.kp_door_defs.specs.Choice.{Chosen, Look, chosen_endpoint, drawn_as, drawn_at, found_or, found_or_drawn, live_endpoint, recent_name, remembered}

-- what stands at a place of a list is in it
got_in : {X : Type 0} (xs : List X) (place : ℕ) (x : X) → slice_get xs place ≡ Some x
    → Contains xs x
got_in [] place x h = absurd (cc)
got_in (y ∷ ys) zero x h = subst (Contains (y ∷ ys)) (same_Some y x h) (first_in y ys)
got_in (y ∷ ys) (suc place) x h = later_in x y ys (got_in ys place x h)

drawn_in : (es : List Endpoint) (place : ℕ) (lists : RecentParts) (c : Chosen)
    → drawn_at es place lists ≡ Some c → Contains es c.endpoint
drawn_in es place lists c h =
    let (e, got, is) = from_option_map (drawn_as place lists) (slice_get es place) c h in
    subst (λ (d : Chosen). Contains es d.endpoint) is (got_in es place e got)

module _ (name : Endpoint → List ℕ) (source : AddressParts) (now seconds : ℕ) where
  -- the one that a look finds
  look_in : (es : List Endpoint) (place : ℕ) (lists : RecentParts) (p : Endpoint × ℕ)
      → (live_endpoint name source now seconds place es lists).found ≡ Some p → Contains es p.0
  look_in [] place lists p h = absurd (cc)
  look_in (e ∷ es) place lists p h =
      by _ h (look_in es (suc place) (reaped lists (name e) source now seconds) p)
    where
      rest : Look
      rest =
          live_endpoint name source now seconds (suc place) es
          (reaped lists (name e) source now seconds)

      by : (live : Bool)
          → (cond live
          (record { found = Some (e, place); lists = reaped lists (name e) source now seconds })
          rest).found ≡ Some p
          → (rest.found ≡ Some p → Contains es p.0) → Contains (e ∷ es) p.0
      by true g later =
          subst (Contains (e ∷ es)) (ap (λ q. q.0) (same_Some (e, place) p g)) (first_in e es)
      by false g later = later_in p.0 e es (later g)

-- and the one that is remembered
remembered_in : (name : Endpoint → List ℕ) (source : AddressParts) (now : ℕ) (es : List Endpoint)
    (o : Option Chosen) (c : Chosen)
    → ((d : Chosen) → o ≡ Some d → Contains es d.endpoint)
    → remembered name source now o ≡ Some c → Contains es c.endpoint
remembered_in name source now es None c mine h = absurd (cc)
remembered_in name source now es (Some d) c mine h =
    subst (Contains es) (ap (λ (x : Chosen). x.endpoint) (same_Some _ c h)) (mine d refl)

module _ (setting : Setting) (port : PortKey) (source : AddressParts) (now : ℕ) (draws : ℕ → ℕ)
    (es : List Endpoint) where
  found_or_in : (found : Option (Endpoint × ℕ)) (lists : RecentParts) (c : Chosen)
      → ((p : Endpoint × ℕ) → found ≡ Some p → Contains es p.0)
      → found_or setting draws es lists found ≡ Some c → Contains es c.endpoint
  found_or_in None lists c mine h = drawn_in es _ lists c h
  found_or_in (Some p) lists c mine h =
      subst (Contains es) (ap (λ (x : Chosen). x.endpoint) (same_Some _ c h)) (mine p refl)

  pub chosen_in : (affinity : Option ℕ) (lists : RecentParts) (c : Chosen)
      → chosen_endpoint setting port affinity source now draws es lists ≡ Some c
      → Contains es c.endpoint
  chosen_in None lists c h = drawn_in es _ lists c h
  chosen_in (Some seconds) lists c h =
      let name : Endpoint → List ℕ = recent_name setting port in
      let look : Look = live_endpoint name source now seconds 0 es lists in
      remembered_in name source now es (found_or_drawn setting draws es look) c
      (λ d. found_or_in look.found look.lists d (look_in name source now seconds es 0 lists)) h
