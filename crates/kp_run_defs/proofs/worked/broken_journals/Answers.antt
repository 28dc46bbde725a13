use Rattle.std.proofs.Common.{◌≡◌, ℕ, true, false, List, map, length, get_or, ap, arith}
use Rattle.kp_history_defs.specs.declared.fed.Fed.{Fed}
use Rattle.kp_run_defs.proofs.worked.broken_journals.Goals as goal

-- the number of the first event
abbrev first_number : List Fed → ℕ
first_number fed = get_or (map (λ f. f.number) fed) 0 0

pub returns-clause-lost : goal.returns-clause-lost
returns-clause-lost c legal =
    let h : ◌≡◌ {A = ℕ} 1 2 = ap length legal.journal.each.0 in omega (arith, h)

pub returns-clause-twice : goal.returns-clause-twice
returns-clause-twice c legal =
    let h : ◌≡◌ {A = ℕ} 2 1 = ap length legal.journal.each.1.0 in omega (arith, h)

pub returns-clause-turned : goal.returns-clause-turned
returns-clause-turned c legal =
    let h : ◌≡◌ {A = ℕ} 2 1 = ap first_number legal.journal.each.0 in omega (arith, h)

pub returns-clause-of_no_stream : goal.returns-clause-of_no_stream
returns-clause-of_no_stream c legal = let h : false ≡ true = legal.journal.owned in cc
