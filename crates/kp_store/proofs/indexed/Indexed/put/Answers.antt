use Rattle.std.proofs.Common.{◌≡◌, ◌&&◌, ◌||◌, not, filter, sym, ap, ◌∙◌}
use Rattle.std.specs.FinMap as finite
use Rattle.kp_lemmas.proofs.Orders.{tie_of_itself}
use Rattle.kp_base.proofs.KeyOrder.{key_total}
use Rattle.kp_store.specs.Indexes.{has, is_among, is_tag_of, is_tagged}
use Rattle.kp_store.proofs.Buckets.{among_others, undone_all}
use Rattle.kp_store.proofs.Changed.{gained_anew, put_ok}
use Rattle.kp_store.proofs.indexed.Indexed.put.Goals as goal

pub add_all-requires : goal.add_all-requires
add_all-requires g c = λ t new.
    let same = g.T.PartialEq.eq in
    let key = c.args.key.now in
    let gained = c.in_ok-gained.ensures ∙ (λ i. filter (λ t. not (is_among same (c.as_slice-2.ensures i) t)) (c.as_slice.ensures i)) in
    gained_anew same g.X.Tagged.tags c.self.inside.objects key c.in_ok-old.old c.self.inside.index c.self.invariant c.in_ok-old.ensures.tags c.in_ok-new.new c.in_ok-gained.gained
    (λ t. ap (λ ts. is_among same ts t) gained ∙ among_others same g.met.T.Eq.laws c.in_ok-old.old c.in_ok-new.new t)
    t key (tie_of_itself key_total key)
    (ap (λ ts. is_among same ts t) (sym c.as_slice-5.ensures) ∙ new)

pub invariant_of-self-in-Ok : goal.invariant_of-self-in-Ok
invariant_of-self-in-Ok g c = λ t k.
    let same = g.T.PartialEq.eq in
    let key = c.args.key.now in
    let tagged = c.in_ok-new.ensures ∙ ap g.X.Tagged.tags c.get.ensures in
    let new = g.X.Tagged.tags c.args.object in
    let gained = c.in_ok-gained.ensures ∙ (λ i. filter (λ t. not (is_among same (c.as_slice-2.ensures i) t)) ((c.as_slice.ensures ∙ tagged) i)) in
    let lost = c.in_ok-lost.ensures ∙ (λ i. filter (λ t. not (is_among same ((c.as_slice-4.ensures ∙ tagged) i) t)) (c.as_slice-3.ensures i)) in
    c.trim.ensures t k
    ∙ (λ i. not (is_tag_of same (c.as_slice-in-Ok.ensures i) key t k) && (c.in_ok-add_all.ensures.ok t k ∙ ap (λ us. is_tag_of same us key t k || has same c.self.inside.index t k) c.as_slice-5.ensures) i)
    ∙ put_ok same g.X.Tagged.tags c.self.inside.objects key c.in_ok-old.old c.self.inside.index c.self.invariant c.in_ok-old.ensures.tags c.args.object c.in_ok-gained.gained c.in_ok-lost.lost
    (λ t. ap (λ ts. is_among same ts t) gained ∙ among_others same g.met.T.Eq.laws c.in_ok-old.old new t)
    (λ t. ap (λ ts. is_among same ts t) lost ∙ among_others same g.met.T.Eq.laws new c.in_ok-old.old t)
    t k
    ∙ ap (λ m. is_tagged same g.X.Tagged.tags t (finite.get m k)) (sym (c.in-Ok.ensures.ok ∙ ap (λ at. finite.insert c.self.inside.objects at c.args.object) c.in_ok-copy.ensures))

pub invariant_of-self-in-Err : goal.invariant_of-self-in-Err
invariant_of-self-in-Err g c = λ t k.
    let same = g.T.PartialEq.eq in
    let key = c.args.key.now in
    let gained = c.in_ok-gained.ensures ∙ (λ i. filter (λ t. not (is_among same (c.as_slice-2.ensures i) t)) (c.as_slice.ensures i)) in
    c.trim-in-Err.ensures t k
    ∙ (λ i. not (is_tag_of same (c.as_slice-in-Err.ensures i) key t k) && (c.in_ok-add_all.ensures.ok t k ∙ ap (λ us. is_tag_of same us key t k || has same c.self.inside.index t k) c.as_slice-5.ensures) i)
    ∙ undone_all same g.met.T.Eq.laws c.in_ok-gained.gained key t k (has same c.self.inside.index t k)
    (gained_anew same g.X.Tagged.tags c.self.inside.objects key c.in_ok-old.old c.self.inside.index c.self.invariant c.in_ok-old.ensures.tags c.in_ok-new.new c.in_ok-gained.gained
    (λ t. ap (λ ts. is_among same ts t) gained ∙ among_others same g.met.T.Eq.laws c.in_ok-old.old c.in_ok-new.new t) t k)
    ∙ c.self.invariant t k
    ∙ ap (λ m. is_tagged same g.X.Tagged.tags t (finite.get m k)) (sym c.in-Err.ensures.err)
