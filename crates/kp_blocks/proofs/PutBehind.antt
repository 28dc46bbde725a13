-- Entries that are put into a map one by one, from the last.
use Rattle.std.proofs.Common.{◌≡◌, List, [], ◌∷◌, ◌++◌, refl, ap}
use Rattle.std.specs.FinMap.{insert, from_entries}
use Rattle.kp_base.specs.Keys.{port_key_cmp}
use Rattle.kp_base.specs.declared.key.PortKey.{PortKey}
use Rattle.kp_types.specs.declared.rule.ChainText.{ChainText}
use Rattle.kp_blocks.specs.Joined.{BlocksByPort}

-- a port with its block
abbrev pub Entry : Type 0
Entry = PortKey × List ChainText

-- blocks with those of more ports before them
abbrev pub put_all : BlocksByPort → List Entry → BlocksByPort
put_all m [] = m
put_all m (e ∷ es) = insert (put_all m es) e.0 e.1

-- the last may be put first
pub put_behind : (m : BlocksByPort) (es : List Entry) (e : Entry)
    → put_all m (es ++ e ∷ []) ≡ put_all (insert m e.0 e.1) es
put_behind m [] e = refl
put_behind m (f ∷ es) e = ap (λ n. insert n f.0 f.1) (put_behind m es e)

-- all that are put into none are their map
pub put_into_none : (es : List Entry)
    → put_all (from_entries {R = port_key_cmp} []) es ≡ from_entries {R = port_key_cmp} es
put_into_none [] = refl
put_into_none (e ∷ es) = ap (λ n. insert n e.0 e.1) (put_into_none es)
