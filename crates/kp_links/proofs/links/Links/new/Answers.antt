use Rattle.std.proofs.Common.{◌≡◌, ℕ, ◌<◌, List, length, get_or, Option, None, inl, inr, arith, rules}
use Rattle.std.proofs.lemmas.Bool.{cases_lt}
use Rattle.std.proofs.lemmas.List.{get_or_past}
use Rattle.kp_links.proofs.Ringed.{new_empty, new_rings}
use Rattle.kp_links.proofs.links.Links.new.Goals as goal

-- rows without a list, and reads past them
none_at : (owners : List (Option ℕ)) (rows : ℕ) → length owners ≡ rows
    → ((row : ℕ) → row < rows → get_or owners row None ≡ None) → (row : ℕ) → get_or owners row None ≡ None
none_at owners rows len within row =
    elim (cases_lt row rows) [
      | inl here ↦ within row here
      | inr past ↦ get_or_past owners row None (omega (arith, len, past))
    ]

pub invariant_of-result : goal.invariant_of-result
invariant_of-result c =
    new_rings c.in_ok-closed.field-0.items c.resize.new.self.items c.args.lists c.args.rows (omega (arith, c.in_ok-closed.ensures.len))
    c.in_ok-closed.ensures.closed (omega (arith, c.in_ok-resize.ensures.len))
    (none_at _ c.args.rows (omega (arith, c.in_ok-resize.ensures.len)) (λ row below. c.in_ok-resize.ensures.by_index.1 row None (search rules) (omega arith) below))
    c.requires

pub returns : goal.returns
returns c =
    new_empty c.in_ok-closed.field-0.items c.resize.new.self.items c.args.lists c.args.rows (omega (arith, c.in_ok-closed.ensures.len))
    c.in_ok-closed.ensures.closed (omega (arith, c.in_ok-resize.ensures.len))
    (none_at _ c.args.rows (omega (arith, c.in_ok-resize.ensures.len)) (λ row below. c.in_ok-resize.ensures.by_index.1 row None (search rules) (omega arith) below))
