use Rattle.std.proofs.Common.{◌≡◌, ◌⊎◌, inl, [], append-nil, subst, sym, ◌∙◌}
use Rattle.std.proofs.lemmas.Result.{on_ok_weaker, on_err_weaker}
use Rattle.kp_lemmas.proofs.Results.{err_anyhow, ok_anyhow}
use Rattle.kp_object_defs.specs.OwnKeys.{AreUnderOwnKeys}
use Rattle.kp_mode.proofs.CallLemmas.{adds}
use Rattle.kp_plane.specs.Parts.{objects_before, objects_in, syncs_in}
use Rattle.kp_vmap_defs.specs.VerdictMap.{map_of}
use Rattle.kp_modes.proofs.Replaced.{held, named_rise, replaced_by}
use Rattle.kp_modes.proofs.Synced.{own_covered}
use Rattle.kp_modes.proofs.mapping.MappingMode.synced.Goals as goal

pub follow-requires-clause-own_keys : goal.follow-requires-clause-own_keys
follow-requires-clause-own_keys c =
    let p = c.args.plane.now in
    subst AreUnderOwnKeys (sym c.objects.ensures)
    (own_covered c.own_keys.ensures.after_events p (syncs_in p))

pub follow-requires-clause-in_order : goal.follow-requires-clause-in_order
follow-requires-clause-in_order c =
    named_rise c.as_slice.result.now c.as_slice-2.result.now c.deref.result.now
    (c.deref.ensures.value ∙ c.in_ok-dirty.ensures)

pub returns : goal.returns
returns c = λ state stands.
    let p = c.args.plane.now in
    let m = c.args.self.now.map in
    let n = c.follow.new.map in
    let o = c.objects.result.now in
    let r = c.follow.result in
    let holds = held c.dirty_ports.ensures.clean c.infos_by_name.ensures c.own_keys.ensures.after_events p m o
    c.as_slice.result.now c.as_slice-2.result.now c.deref.result.now stands c.objects.ensures
    (c.as_slice.ensures ∙ c.in_ok-four.ensures) (c.as_slice-2.ensures ∙ c.in_ok-six.ensures)
    (c.deref.ensures.value ∙ c.in_ok-dirty.ensures) in
    adds r (λ s. n ≡ map_of p.config (objects_in p))
    ((n ≡ map_of p.config (objects_before p)) ⊎ (n ≡ map_of p.config (objects_in p)))
    c.args._text.now c.args._text.now [] state
    (ok_anyhow r _ (sym (append-nil _)))
    (on_ok_weaker r
    (λ made. replaced_by c.dirty_ports.ensures.clean c.infos_by_name.ensures c.own_keys.ensures.after_events p m n o
    stands c.objects.ensures made)
    (c.follow.ensures.ok holds))
    (err_anyhow r _ ([], sym (append-nil _)))
    (on_err_weaker r (λ stays. inl (stays ∙ stands)) c.follow.ensures.err)
