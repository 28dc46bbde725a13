use Rattle.std.proofs.Common.{◌≡◌, ◌||◌, map, sym, ap, ◌∙◌, Bor}
use Rattle.std.proofs.lemmas.Simd.{map-map}
use Rattle.std.specs.List.{list_any}
use Rattle.std.specs.Ordering.{eq_by_cmp}
use Rattle.std.specs.FinMap as finite
use Rattle.kp_base.specs.Keys.{key_cmp}
use Rattle.kp_base.specs.declared.key.ObjectKey.{ObjectKey}
use Rattle.kp_base.specs.declared.key.PortKey.{PortKey}
use Rattle.kp_store.proofs.Unions.{any_shown}
use Rattle.kp_plane.proofs.Refreshed.{not_listed, other_ports, put_twice}
use Rattle.kp_plane.proofs.refresh.all_services.Goals as goal

pub returns-clause-ports : goal.returns-clause-ports
returns-clause-ports c = λ port out.
    let ports = c.args.writer.now.newest in
    let names : map (λ (q : Bor ObjectKey). q.now) c.deref-2.result.now
    ≡ map (λ (k : PortKey). k.object) (finite.keys ports) =
    ap (map (λ (q : Bor ObjectKey). q.now)) c.deref-2.ensures.value
    ∙ c.in_ok-known.ensures
    ∙ ap (map (λ (p : Bor PortKey). p.now.object)) c.deref.ensures.value
    ∙ sym (map-map (λ (k : PortKey). k.object) (λ (p : Bor PortKey). p.now) c.in_ok-ports.ports.items)
    ∙ ap (map (λ (k : PortKey). k.object)) c.in_ok-ports.ensures in
    let both =
    put_twice c.new-all.result c.put_all.new.self c.put_all-2.new.self
    (map (λ (q : Bor ObjectKey). q.now) c.deref-2.result.now)
    (map (λ (q : Bor ObjectKey). q.now) c.deref-3.result.now)
    (λ k. c.in_ok-put_all.ensures.all k
    ∙ ap (λ b. b || finite.contains_key c.new-all.result k)
    (any_shown (λ (q : Bor ObjectKey). q.now) (eq_by_cmp key_cmp k) c.deref-2.result.now))
    (λ k. c.in_ok-put_all-2.ensures.all k
    ∙ ap (λ b. b || finite.contains_key c.put_all.new.self k)
    (any_shown (λ (q : Bor ObjectKey). q.now) (eq_by_cmp key_cmp k) c.deref-3.result.now))
    port.object out in
    not_listed ports port (other_ports port (finite.keys ports)
    (ap (list_any (eq_by_cmp key_cmp port.object)) (sym names) ∙ both.0))

pub returns-clause-services : goal.returns-clause-services
returns-clause-services c = λ key out.
    let services = c.args.objects.now.services in
    let names : map (λ (q : Bor ObjectKey). q.now) c.deref-3.result.now ≡ finite.keys services =
    ap (map (λ (q : Bor ObjectKey). q.now)) c.deref-3.ensures.value
    ∙ c.in_ok-stored.ensures ∙ c.as_slice.ensures ∙ c.in_ok-services.ensures in
    let both =
    put_twice c.new-all.result c.put_all.new.self c.put_all-2.new.self
    (map (λ (q : Bor ObjectKey). q.now) c.deref-2.result.now)
    (map (λ (q : Bor ObjectKey). q.now) c.deref-3.result.now)
    (λ k. c.in_ok-put_all.ensures.all k
    ∙ ap (λ b. b || finite.contains_key c.new-all.result k)
    (any_shown (λ (q : Bor ObjectKey). q.now) (eq_by_cmp key_cmp k) c.deref-2.result.now))
    (λ k. c.in_ok-put_all-2.ensures.all k
    ∙ ap (λ b. b || finite.contains_key c.put_all.new.self k)
    (any_shown (λ (q : Bor ObjectKey). q.now) (eq_by_cmp key_cmp k) c.deref-3.result.now))
    key out in
    not_listed services key (ap (list_any (eq_by_cmp key_cmp key)) (sym names) ∙ both.1)
