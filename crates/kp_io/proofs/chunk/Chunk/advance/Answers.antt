use Rattle.std.proofs.Common.{rules, arith, ◌≡◌, ◌≤◌, ◌+◌, ◌-◌, ℕ, List, take, drop, length, ap, ◌∙◌, subst}
use Rattle.std.specs.List.{position}
use Rattle.std.proofs.lemmas.List.{drop-take, drop-drop}
use Rattle.std.proofs.lemmas.List.{length-take}
use Rattle.kp_io.specs.Lines.{IsWhole, is_line_feed}
use Rattle.kp_io.proofs.PassLemmas.{whole-later}
use Rattle.kp_io.proofs.chunk.Chunk.advance.Goals as goal

-- a window without its first bytes is a window that begins later
later_window : (xs : List ℕ) (start end count : ℕ) → count ≤ length (take (end - start) (drop start xs)) → take (end - (start + count)) (drop (start + count) xs) ≡ drop count (take (end - start) (drop start xs))
later_window xs start end count h =
    let n : end - start ≡ count + (end - (start + count)) = omega (arith, length-take (end - start) (drop start xs)) in
    rw (n, drop-take, drop-drop)

-- whole lines that end at a place are whole lines up to it from any later place on
later_lines : (xs : List ℕ) (start end count : ℕ) → IsWhole (take (end - start) (drop start xs))
    → IsWhole (take (end - (start + count)) (drop (start + count) xs))
later_lines xs start end count whole =
    let n : end - start - count ≡ end - (start + count) = omega arith in
    subst IsWhole (λ i. take (n i) (drop-drop count start xs i))
    (whole-later count (end - start) (drop start xs) whole)

pub invariant_of-self : goal.invariant_of-self
invariant_of-self c =
    let inside = c.self.inside in
    let fits : c.args.count ≤ length (take (inside.end - inside.start) (drop inside.start inside.buffer.items)) = rw c.self.view_is c.requires in
    let within : inside.start + c.args.count ≤ inside.end =
    omega (arith, fits, length-take (inside.end - inside.start) (drop inside.start inside.buffer.items), c.self.invariant.0) in
    let feed : c.line_feed_at-self-inside.result
    ≡ position is_line_feed (take (inside.end - (inside.start + c.args.count)) (drop (inside.start + c.args.count) inside.buffer.items)) =
    search (rules, within) in (
      within,
      c.self.invariant.1,
      c.self.invariant.2,
      feed,
      c.self.invariant.4,
      later_lines inside.buffer.items inside.start inside.lines_end c.args.count c.self.invariant.5,
    )

pub returns : goal.returns
returns c =
    let inside = c.self.inside in
    let fits : c.args.count ≤ length (take (inside.end - inside.start) (drop inside.start inside.buffer.items)) = rw c.self.view_is c.requires in
    later_window inside.buffer.items inside.start inside.end c.args.count fits ∙ ap (drop c.args.count) c.self.view_is
