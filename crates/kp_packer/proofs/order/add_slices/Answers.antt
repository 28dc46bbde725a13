use Rattle.std.proofs.Common.{rules, ◌≡◌, ◌∙◌, sym, refl}
use Rattle.std.specs.FinMap.{put}
use Rattle.kp_base.specs.Keys.{text_cmp}
use Rattle.kp_object_defs.proofs.InOrder.{insert-put, by_key-push}
use Rattle.kp_packer.proofs.order.add_slices.Goals as goal

pub loop-slice-preserved-in_ok-insert : goal.loop-slice-preserved-in_ok-insert
loop-slice-preserved-in_ok-insert c =
    let slice = c.in-Some.slice in
    let copied : c.in_ok-copy.field-0 ≡ slice.key.name = search rules in
    c.in_ok-insert.ensures.entries
    ∙ insert-put (λ a b. refl) c.loop-slice.by_name.entries c.in_ok-copy.field-0 slice
    ∙ (λ i. put text_cmp (copied i) slice (c.loop-slice.invariant i))
    ∙ sym (by_key-push text_cmp (λ s. s.key.name) c.loop-slice.yielded slice)

pub loop-slice-preserved : goal.loop-slice-preserved
loop-slice-preserved c =
    let slice = c.in-Some.slice in
    let copied : c.in_ok-copy.field-0 ≡ slice.key.name = search rules in
    c.in_ok-insert.ensures.entries
    ∙ insert-put (λ a b. refl) c.loop-slice.by_name.entries c.in_ok-copy.field-0 slice
    ∙ (λ i. put text_cmp (copied i) slice (c.loop-slice.invariant i))
    ∙ sym (by_key-push text_cmp (λ s. s.key.name) c.loop-slice.yielded slice)
