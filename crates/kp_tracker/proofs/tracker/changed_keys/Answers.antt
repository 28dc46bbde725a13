use Rattle.std.proofs.Common.{◌∷◌, [], ◌++◌, map, not, true, false, ap, sym, ◌∙◌, append-nil, Bor}
use Rattle.std.specs.Map.Iter.{deref_pair}
use Rattle.std.proofs.lemmas.List.{map-append}
use Rattle.kp_tracker.specs.Tracked.{is_other}
use Rattle.kp_tracker.proofs.Newest.{other_by, passing_more}
use Rattle.kp_tracker.proofs.tracker.changed_keys.Goals as goal

-- a key with another value
pub loop-key-preserved-in-Continue-1 : goal.loop-key-preserved-in-Continue-1
loop-key-preserved-in-Continue-1 g c =
    let shown : Bor g.row.K.Denot → g.row.K.Denot = λ k. k.now in
    ap (map shown) c.in_ok-push.ensures.items
    ∙ map-append shown c.loop-key.found.items (c.in-Some.key ∷ [])
    ∙ ap (λ ks. ks ++ c.in-Some.key.now ∷ []) c.loop-key.invariant
    ∙ sym (passing_more deref_pair (λ e. e.0) (is_other g.K.Key.order g.V.Told.same c.args.published.now.entries) c.loop-key.yielded (c.in-Some.key, c.in-Some.value) true
    (other_by g.K.Key.is_total g.met.K.Key.ties g.V.Told.same c.args.published.now.entries c.in-Some.key.now c.in-Some.value.now c.is_same.result _ c.is_same.ensures c.get.ensures.value ∙ ap not c.if-not-is_same.true))

-- and one with the published value
pub loop-key-preserved : goal.loop-key-preserved
loop-key-preserved g c =
    c.loop-key.invariant
    ∙ sym (passing_more deref_pair (λ e. e.0) (is_other g.K.Key.order g.V.Told.same c.args.published.now.entries) c.loop-key.yielded (c.in-Some.key, c.in-Some.value) false
    (other_by g.K.Key.is_total g.met.K.Key.ties g.V.Told.same c.args.published.now.entries c.in-Some.key.now c.in-Some.value.now c.is_same.result _ c.is_same.ensures c.get.ensures.value ∙ ap not c.if-not-is_same.false)
    ∙ append-nil _)
