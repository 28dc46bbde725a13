use Rattle.std.proofs.Common.{◌≡◌, ℕ, not, filter}
use Rattle.kp_links.specs.Lists.{rows_of}
use Rattle.kp_track_defs.specs.declared.flow.Entry.{Entry}
use Rattle.kp_track_defs.specs.Kept.{is_sent_to}
use Rattle.kp_conntrack.specs.Laid.{IsLaid, entries_in, entry_at}
use Rattle.kp_conntrack.specs.Marked.{IsWalked}
use Rattle.kp_conntrack.proofs.rows.drop_sent_to.Given as goal

abbrev pub invariant-loop-turn : goal.invariant-loop-turn
invariant-loop-turn l =
    ((moment : ℕ) → IsLaid l.rows l.fn.order l.fn.index moment → IsLaid l.rows l.order l.index moment)
    × (filter (λ (e : Entry). not (is_sent_to l.endpoint e)) (entries_in l.rows l.order)
    ≡ filter (λ (e : Entry). not (is_sent_to l.endpoint e)) (entries_in l.rows l.fn.order))
    × IsWalked (λ row. not (is_sent_to l.endpoint (entry_at l.rows row))) (rows_of l.index.endpoints l.bucket) l.next l._turn
