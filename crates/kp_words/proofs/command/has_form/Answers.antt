use Rattle.std.proofs.Common.{◌∙◌, ap₂, string_bytes}
use Rattle.kp_words.specs.Command.{has_option, has_value}
use Rattle.kp_words.proofs.FormLemmas.{few, three, four}
use Rattle.kp_words.proofs.command.has_form.Goals as goal

pub returns-in_default : goal.returns-in_default
returns-in_default c = few string_bytes c.args.words.now c.in_default.len_below

pub returns-in-len3 : goal.returns-in-len3
returns-in-len3 c = c.has_option.ensures
    ∙ ap₂ has_option c.deref-in-len3.ensures c.deref-in-len3-2.ensures
    ∙ three string_bytes c.args.words.now _ _ c.in-len3.len_at_least c.in-len3.len_below
    c.a-item-then-words-lt4.is c.b-item.is

pub returns-in-len4 : goal.returns-in-len4
returns-in-len4 c = c.has_value.ensures
    ∙ (λ i. has_value (c.deref-in-len4.ensures i) (c.deref-in-len4-2.ensures i)
    (c.deref-in-len4-3.ensures i))
    ∙ four string_bytes c.args.words.now _ _ _ c.in-len4.len_at_least c.in-len4.len_below
    c.a-item-then-words-lt5.is c.b-item-then-words-lt5.is c.c-item.is
