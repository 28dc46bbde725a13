-- What was sent to endpoints that fell is what a sync clears.
use Rattle.std.proofs.Common.{◌≡◌, Bool, true, false, not, ◌&&◌, List, [], ◌∷◌, refl, sym, ap, ◌∙◌}
use Rattle.std.specs.List.{AllByRecursion, list_any}
use Rattle.kp_base.specs.Keys.{same_proto}
use Rattle.kp_base.specs.declared.key.Endpoint.{Endpoint}
use Rattle.kp_base.specs.declared.port.Proto.TheVariants.{Udp}
use Rattle.kp_track_defs.specs.declared.flow.Entry.{Entry}
use Rattle.kp_track_defs.specs.Kept.{is_sent_to}
use Rattle.kp_track_defs.specs.Stands.{is_endpoint}
use Rattle.kp_track_defs.specs.Tracking.{loses}

any_of_udp : (udp : Bool) (test : Endpoint → Bool) (es : List Endpoint)
    → list_any (λ e. udp && test e) es ≡ (udp && list_any test es)
any_of_udp true test es = refl
any_of_udp false test [] = refl
any_of_udp false test (e ∷ es) = any_of_udp false test es

one_falls : (udp before after : Bool) → (udp && not before) ≡ false
    → (udp && not after) ≡ (udp && (before && not after))
one_falls false before after stood = refl
one_falls true true after stood = refl
one_falls true false after stood = absurd (cc)

-- of those that stood before, those are lost that were sent to an endpoint that fell
pub fallen_lose : (before after : Endpoint → Bool) (fallen : List Endpoint)
    → ((e : Endpoint) → list_any (is_endpoint e) fallen ≡ (before e && not (after e)))
    → (es : List Entry) → AllByRecursion (λ e. loses before e ≡ false) es
    → AllByRecursion (λ e. loses after e ≡ list_any (λ endpoint. is_sent_to endpoint e) fallen) es
fallen_lose before after fallen fell [] all = tt
fallen_lose before after fallen fell (e ∷ es) all =
    let udp = same_proto e.connection.proto Udp in (
      one_falls udp (before e.endpoint) (after e.endpoint) all.0
          ∙ ap (λ b. udp && b) (sym (fell e.endpoint))
          ∙ sym (any_of_udp udp (is_endpoint e.endpoint) fallen),
      fallen_lose before after fallen fell es all.1,
    )
