use Rattle.std.proofs.Common.{ap, subst, ◌∙◌, ◌++◌}
use Rattle.kp_types.specs.Chains.{is_chain_name}
use Rattle.kp_restore.proofs.Splits.{front_missing, back_missing, only_name, between}
use Rattle.std.proofs.lemmas.Option.{IfSome_then}
use Rattle.std.specs.Option.{IsSome}
use Rattle.std.proofs.lemmas.Bool.{false≢true}
use Rattle.kp_restore.proofs.line.chain_between.Goals as goal

pub returns-in_err-strip_prefix-clause-none : goal.returns-in_err-strip_prefix-clause-none
returns-in_err-strip_prefix-clause-none c = λ n chain h e. front_missing c.args.front.now c.args.back.now c.args.bytes.now (chain ++ c.args.back.now) c.in_err-strip_prefix.ensures.cases e

pub returns-in_err-strip_suffix-clause-none : goal.returns-in_err-strip_suffix-clause-none
returns-in_err-strip_suffix-clause-none c = λ n chain h e.
    back_missing c.args.front.now c.args.back.now c.args.bytes.now c.in_ok-strip_prefix.field-0.now c.in_ok-strip_prefix.ensures.cases.1 chain c.in_err-strip_suffix.ensures.cases e

pub returns-clause-text : goal.returns-clause-text
returns-clause-text c =
    let whole = between c.args.front.now c.args.back.now c.args.bytes.now c.in_ok-strip_prefix.field-0.now c.in_ok-strip_prefix.ensures.cases.1 c.in_ok-strip_suffix.field-0.now c.in_ok-strip_suffix.ensures.cases.1
    c.in_ok-strip_prefix.ensures.cases.0 c.in_ok-strip_suffix.ensures.cases.0 in
    IfSome_then c.of.result c.of.ensures.value (λ name h. ap (λ n. c.args.front.now ++ (n ++ c.args.back.now)) h ∙ whole)

pub returns-clause-none : goal.returns-clause-none
returns-clause-none c = λ n chain h e.
    let same = only_name c.args.front.now c.args.back.now c.args.bytes.now c.in_ok-strip_prefix.field-0.now c.in_ok-strip_prefix.ensures.cases.1 c.in_ok-strip_suffix.field-0.now c.in_ok-strip_suffix.ensures.cases.1 chain e in
    false≢true (subst IsSome n (c.of.ensures.valid.1 (ap is_chain_name same ∙ h)))
