use Rattle.std.proofs.Common.{◌≡◌, ◌&&◌, option_copied, ap, ◌∙◌}
use Rattle.std.specs.FinMap.{from_entries, get}
use Rattle.kp_types.specs.Places.{chain_cmp}
use Rattle.kp_chains.specs.Rows.{row_of}
use Rattle.kp_writer.specs.Next as spec
use Rattle.kp_writer.proofs.next.NextChains.write.Goals as goal

pub returns : goal.returns
returns c =
    let before = c.args.before.now.chains in
    let at = c.args.row.at in
    let n : spec.NextParts = record {
      places = from_entries {R = chain_cmp} c.self.inside.places.entries;
      free = c.self.inside.free;
    } in
    let free : c.stays_free-free.result ≡ (n.free && spec.is_free_by before at (get n.places at)) =
    c.stays_free-free.ensures
    ∙ ap (λ a. n.free && spec.is_free_by before a (option_copied c.as_ref.result))
    c.same-place.ensures
    ∙ ap (λ o. n.free && spec.is_free_by before at o)
    (c.as_ref.ensures.value ∙ c.in_ok-had.ensures.had) in
    (λ i. record { places = c.in_ok-had.ensures.places i; free = free i })
    ∙ ap (λ rules. spec.write before n (at, rules)) c.in_ok-of.ensures
    ∙ ap (λ m. spec.write before m (row_of c.args.row)) c.self.view_is
