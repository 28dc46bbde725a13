-- The fault of a table has the clash that names were refused for.
use Rattle.std.proofs.Common.{◌≡◌, ℕ, List, Option, Result, Ok, Err, IfErr, sym, subst}
use Rattle.std.specs.Result.{IsErrAnd}
use Rattle.kp_types.specs.declared.chain.ChainKey.{ChainKey}
use Rattle.kp_types.specs.declared.chain.Clash.{Clash}
use Rattle.kp_choice_defs.specs.Names.{chain_name, first_clash}
use Rattle.kp_names.specs.Places as names
use Rattle.kp_names.specs.declared.fault.NameFault.{NameFault}
use Rattle.kp_names.specs.declared.fault.NameFault.TheVariants.{ChainClash, NoMemory}
use Rattle.kp_full_table.specs.declared.fault.TableFault.{TableFault}
use Rattle.kp_full_table.specs.Faults.{fault_of, TellsClash}

tells : (clash : Option Clash) (fault : NameFault) → names.TellsClash clash fault → TellsClash clash (fault_of fault)
tells clash (ChainClash c) h = h
tells clash (NoMemory refused) h = tt

-- the clash of the same keys by names of the same length
pub same_clash : (n m : ℕ) (keys needed : List ChainKey) → m ≡ n → keys ≡ needed
    → first_clash (chain_name n) needed ≡ first_clash (chain_name m) keys
same_clash n m keys needed length is = sym (λ k. first_clash (chain_name (length k)) (is k))

-- the fault that is handed on has the clash
pub told : {X : Type 0} (r : Result X TableFault) (fault : NameFault) (is that : Option Clash)
    → IsErrAnd r (λ f. f ≡ fault_of fault) → is ≡ that → names.TellsClash that fault → IfErr r (TellsClash is)
told (Ok x) fault is that from same h = tt
told (Err f) fault is that from same h =
    subst (λ x. TellsClash is x) (sym from) (tells is fault (subst (λ c. names.TellsClash c fault) (sym same) h))

-- so has one that is handed on as it is
pub handed_on : {X : Type 0} (r : Result X TableFault) (fault : TableFault) (clash : Option Clash)
    → IsErrAnd r (λ f. f ≡ fault) → TellsClash clash fault → IfErr r (TellsClash clash)
handed_on (Ok x) fault clash from h = tt
handed_on (Err f) fault clash from h = subst (TellsClash clash) (sym from) h
