-- What was sent to endpoints of UDP was sent to such as stand, step by step.
use Rattle.std.proofs.Common.{◌≡◌, ℕ, nat_lt, Bool, true, false, ◌&&◌, not, List, [], ◌∷◌, ◌++◌, filter, length, cond, None, refl, sym, ap, ◌∙◌}
use Rattle.std.specs.List.{AllByRecursion, list_any}
use Rattle.std.specs.Option.{option_to_list}
use Rattle.kp_base.specs.Keys.{same_proto}
use Rattle.kp_base.specs.declared.key.Endpoint.{Endpoint}
use Rattle.kp_base.specs.declared.port.Proto.TheVariants.{Udp}
use Rattle.kp_types.specs.declared.verdict.Verdict.{Verdict}
use Rattle.kp_types.specs.declared.verdict.Verdict.TheVariants.{To, Rejected, Dropped, LeftAlone}
use Rattle.kp_track_defs.specs.declared.flow.Connection.{Connection}
use Rattle.kp_track_defs.specs.declared.flow.Entry.{Entry}
use Rattle.kp_track_defs.specs.declared.flow.Flow.{Flow}
use Rattle.kp_track_defs.specs.Entries.{change_first, connection_of, has_connection, is_replied_by, is_within, renewed}
use Rattle.kp_track_defs.specs.Kept.{Kept, at_flow, is_sent_to, kept_after_opened, kept_after_owned, kept_heard}
use Rattle.kp_track_defs.specs.Stands.{is_endpoint}
use Rattle.kp_track_defs.specs.Tracking.{entry_by, loses, moment_at, most_openers}
use Rattle.kp_modes.specs.Tracked.{AllStand}

module _ (stands : Endpoint → Bool) where
  -- some of them
  some_stand : (test : Entry → Bool) (es : List Entry) → AllStand stands es → AllStand stands (filter test es)
  some_stand test [] all = tt
  some_stand test (e ∷ es) all = step (test e) (some_stand test es all.1)
    where
      step : (b : Bool) → AllStand stands (filter test es) → AllStand stands (cond b (e ∷ filter test es) (filter test es))
      step true more = (all.0, more)
      step false more = more

  -- and more of them
  both_stand : (es ds : List Entry) → AllStand stands es → AllStand stands ds → AllStand stands (es ++ ds)
  both_stand [] ds first second = second
  both_stand (e ∷ es) ds first second = (first.0, both_stand es ds first.1 second)

  -- ---- Owned flows

  changed_stand : (test : Entry → Bool) (now : ℕ) (es : List Entry) → AllStand stands es
      → AllStand stands (change_first test (renewed now) es)
  changed_stand test now [] all = tt
  changed_stand test now (e ∷ es) all = step (test e) (changed_stand test now es all.1)
    where
      step : (b : Bool) → AllStand stands (change_first test (renewed now) es)
          → AllStand stands (cond b (renewed now e ∷ es) (e ∷ change_first test (renewed now) es))
      step true more = (all.0, all.1)
      step false more = (all.0, more)

  heard_stand : (now : ℕ) (c : Connection) (es : List Entry) → AllStand stands es → AllStand stands (kept_heard now c es)
  heard_stand now c es all = step (list_any (has_connection c) es)
    where
      step : (b : Bool)
          → AllStand stands (cond b (change_first (has_connection c) (renewed now) es) (change_first (is_replied_by c) (renewed now) es))
      step true = changed_stand (has_connection c) now es all
      step false = changed_stand (is_replied_by c) now es all

  pub owned_stand : (k : Kept) (f : Flow) → AllStand stands k.entries → AllStand stands (kept_after_owned k f).entries
  owned_stand k f all =
      heard_stand (moment_at k.moment f) (connection_of f) (at_flow k f).entries
      (some_stand (is_within (moment_at k.moment f)) k.entries all)

  -- ---- Flows that open

  not_lost : (udp stood : Bool) → (udp ≡ true → stood ≡ true) → (udp && not stood) ≡ false
  not_lost true stood sent = ap not (sent refl)
  not_lost false stood sent = refl

  -- a verdict on a flow sends it to an endpoint of UDP alone that stands
  abbrev pub SendsThere : Flow → Verdict → Type 0
  SendsThere f verdict =
      (e : Endpoint) (masked : Bool) → same_proto f.packet.proto Udp ≡ true → verdict ≡ To e masked → stands e ≡ true

  entry_stands : (f : Flow) (now : ℕ) (verdict : Verdict) → SendsThere f verdict → (room : Bool)
      → AllStand stands (option_to_list (cond room (entry_by now f verdict) None))
  entry_stands f now verdict sent false = tt
  entry_stands f now (To e masked) sent true =
      (not_lost (same_proto f.packet.proto Udp) (stands e) (λ udp. sent e masked udp refl), tt)
  entry_stands f now Rejected sent true = tt
  entry_stands f now Dropped sent true = tt
  entry_stands f now LeftAlone sent true = tt

  pub opened_stand : (k : Kept) (f : Flow) (verdict : Verdict) → SendsThere f verdict → AllStand stands k.entries
      → AllStand stands (kept_after_opened k f verdict).entries
  opened_stand k f verdict sent all =
      both_stand (at_flow k f).entries _ (some_stand (is_within (moment_at k.moment f)) k.entries all)
      (entry_stands f (moment_at k.moment f) verdict sent (nat_lt (length (at_flow k f).entries) most_openers))

  -- ---- Syncs

  pub left_stand : (es : List Entry) → AllStand stands (filter (λ e. not (loses stands e)) es)
  left_stand [] = tt
  left_stand (e ∷ es) = step (loses stands e) refl (left_stand es)
    where
      step : (b : Bool) → loses stands e ≡ b → AllStand stands (filter (λ e. not (loses stands e)) es)
          → AllStand stands
          (cond (not b) (e ∷ filter (λ e. not (loses stands e)) es) (filter (λ e. not (loses stands e)) es))
      step true is more = more
      step false is more = (is, more)

-- ---- Endpoints that fall to none

any_of_udp : (udp : Bool) (test : Endpoint → Bool) (es : List Endpoint)
    → list_any (λ e. udp && test e) es ≡ (udp && list_any test es)
any_of_udp true test es = refl
any_of_udp false test [] = refl
any_of_udp false test (e ∷ es) = any_of_udp false test es

one_falls : (udp before after : Bool) → (udp && not before) ≡ false → (udp && not after) ≡ (udp && (before && not after))
one_falls false before after stood = refl
one_falls true true after stood = refl
one_falls true false after stood = cc

-- of those that stood before, those are lost that were sent to an endpoint that fell
pub fallen_lose : (before after : Endpoint → Bool) (fallen : List Endpoint)
    → ((e : Endpoint) → list_any (is_endpoint e) fallen ≡ (before e && not (after e)))
    → (es : List Entry) → AllStand before es
    → AllByRecursion (λ e. loses after e ≡ list_any (λ endpoint. is_sent_to endpoint e) fallen) es
fallen_lose before after fallen fell [] all = tt
fallen_lose before after fallen fell (e ∷ es) all =
    let udp = same_proto e.connection.proto Udp in (
      one_falls udp (before e.endpoint) (after e.endpoint) all.0
          ∙ ap (λ b. udp && b) (sym (fell e.endpoint))
          ∙ sym (any_of_udp udp (is_endpoint e.endpoint) fallen),
      fallen_lose before after fallen fell es all.1,
    )
