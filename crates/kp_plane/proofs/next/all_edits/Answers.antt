use Rattle.std.proofs.Common.{◌++◌, append-nil, flat_map, IfSome, ap, sym, subst, ◌∙◌, arith}
use Rattle.std.specs.Option.{option_to_list}
use Rattle.kp_base.specs.declared.address.Family.TheVariants.{V6}
use Rattle.kp_full_table.proofs.Clashes.{handed_on}
use Rattle.kp_writer.specs.Batch.{own_rules_written}
use Rattle.kp_writer.specs.Written.{next_edits}
use Rattle.kp_writer.proofs.WrittenRules.{own_rules_written-append}
use Rattle.kp_plane.specs.Families.{HasNoClash, Stands}
use Rattle.kp_plane.proofs.Made.{first_told, rules_both, rules_first, then_told}
use Rattle.kp_plane.proofs.next.all_edits.Goals as goal

pub edits-requires-clause-table : goal.edits-requires-clause-table
edits-requires-clause-table g c = c.requires.0.table

pub edits-requires-clause-apart : goal.edits-requires-clause-apart
edits-requires-clause-apart g c = c.requires.0.apart

pub edits-requires-2-clause-table : goal.edits-requires-2-clause-table
edits-requires-2-clause-table g c =
    (subst (λ o. IfSome o (Stands c.args.table.now.chains V6)) c.in-Some.is c.requires.1).table

pub edits-requires-2-clause-apart : goal.edits-requires-2-clause-apart
edits-requires-2-clause-apart g c =
    (subst (λ o. IfSome o (Stands c.args.table.now.chains V6)) c.in-Some.is c.requires.1).apart

-- the clash of IPv4 is told, or else that of IPv6
pub returns-in_err-four-clause-clash : goal.returns-in_err-four-clause-clash
returns-in_err-four-clause-clash g c =
    let fault = c.in_err-four.field-0.0 in
    handed_on _ fault _ c.from_residual.ensures.1
    (first_told c.args.writers.now fault c.in_err-four.ensures.clash)

pub returns-in_err-six-clause-clash : goal.returns-in_err-six-clause-clash
returns-in_err-six-clause-clash g c =
    let fault = c.in_err-six.field-0.0 in
    handed_on _ fault _ c.from_residual-in_err-six.ensures.1
    (then_told c.args.writers.now c.in-Some.six c.in-Some.is c.in_ok-four.ensures.no_clash fault
    c.in_err-six.ensures.clash)

pub returns-in_err-four-clause-steps : goal.returns-in_err-four-clause-steps
returns-in_err-four-clause-steps g c =
    omega (arith, c.edits.ensures.steps, rules_first c.args.writers.now)

pub returns-in_default-clause-steps : goal.returns-in_default-clause-steps
returns-in_default-clause-steps g c =
    omega (arith, c.edits.ensures.steps, rules_first c.args.writers.now)

pub returns-in_default-clause-edits : goal.returns-in_default-clause-edits
returns-in_default-clause-edits g c =
    let x = c.args.writers.now in
    c.in_ok-four.ensures.batch ∙ sym (append-nil (next_edits x.four))
    ∙ ap (λ o. next_edits x.four ++ flat_map next_edits (option_to_list o)) (sym c.in_default.is)

pub returns-in_default-clause-no_clash : goal.returns-in_default-clause-no_clash
returns-in_default-clause-no_clash g c =
    (c.in_ok-four.ensures.no_clash, subst (λ o. IfSome o (HasNoClash V6)) (sym c.in_default.is) tt)

pub returns-in_err-six-clause-steps : goal.returns-in_err-six-clause-steps
returns-in_err-six-clause-steps g c =
    omega (
      arith,
      c.edits.ensures.steps,
      c.edits-2.ensures.steps,
      rules_both c.args.writers.now c.in-Some.six c.in-Some.is,
    )

pub returns-in_err-joined-clause-steps : goal.returns-in_err-joined-clause-steps
returns-in_err-joined-clause-steps g c =
    omega (
      arith,
      c.edits.ensures.steps,
      c.edits-2.ensures.steps,
      rules_both c.args.writers.now c.in-Some.six c.in-Some.is,
    )

pub returns-clause-steps : goal.returns-clause-steps
returns-clause-steps g c =
    omega (
      arith,
      c.edits.ensures.steps,
      c.edits-2.ensures.steps,
      rules_both c.args.writers.now c.in-Some.six c.in-Some.is,
    )

pub returns-clause-edits : goal.returns-clause-edits
returns-clause-edits g c =
    let x = c.args.writers.now in
    let w = c.in-Some.six in
    c.in_ok-joined.ensures
    ∙ (λ i. c.in_ok-four.ensures.batch i ++ c.in_ok-six.ensures.batch i)
    ∙ ap (λ es. next_edits x.four ++ es) (sym (append-nil (next_edits w)))
    ∙ ap (λ o. next_edits x.four ++ flat_map next_edits (option_to_list o)) (sym c.in-Some.is)

pub returns-clause-no_clash : goal.returns-clause-no_clash
returns-clause-no_clash g c = (
  c.in_ok-four.ensures.no_clash,
  subst (λ o. IfSome o (HasNoClash V6)) (sym c.in-Some.is) c.in_ok-six.ensures.no_clash,
)

pub returns-clause-made : goal.returns-clause-made
returns-clause-made g c =
    let all = ap own_rules_written c.in_ok-joined.ensures
    ∙ own_rules_written-append c.in_ok-four.four.edits c.in_ok-six.six.edits in
    omega (arith, all, c.in_ok-four.ensures.made, c.in_ok-six.ensures.made)
