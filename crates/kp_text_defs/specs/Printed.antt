-- The lines that the program prints (this project's choice).
use Rattle.std.specs.Prelude.{ℕ, Bool, true, false, List, [], ◌++◌, codes, decimal}
use Rattle.kp_types.specs.declared.verdict.Verdict.{Verdict}
use Rattle.kp_types.specs.declared.verdict.Verdict.TheVariants.{To, Rejected, Dropped, LeftAlone}
use Rattle.kp_choice_defs.specs.AddressText.{endpoint_text}

-- the events since the last sync, the chains that were written and those removed
abbrev pub counts_text : ℕ → ℕ → ℕ → List ℕ
counts_text events written removed =
    codes ": events " ++ decimal events ++ codes ", written " ++ decimal written ++ codes ", removed " ++ decimal removed
    ++ codes "\n"

-- a sync, by its number, and what it did
abbrev pub sync_text : ℕ → ℕ → ℕ → ℕ → List ℕ
sync_text number events written removed = codes "sync " ++ decimal number ++ counts_text events written removed

-- whether the source is masqueraded
abbrev pub masked_text : Bool → List ℕ
masked_text true = codes " masked"
masked_text false = []

-- a verdict
abbrev pub verdict_text : Verdict → List ℕ
verdict_text (To endpoint masked) = codes "to " ++ endpoint_text endpoint ++ masked_text masked
verdict_text Rejected = codes "rejected"
verdict_text Dropped = codes "dropped"
verdict_text LeftAlone = codes "left alone"

-- a packet, by its line and the sync that it is answered from
abbrev pub packet_text : ℕ → ℕ → Verdict → List ℕ
packet_text number sync verdict =
    codes "packet " ++ decimal number ++ codes " at " ++ decimal sync ++ codes ": " ++ verdict_text verdict ++ codes "\n"

-- what is printed where the words don't fit
abbrev pub usage_text : List ℕ
usage_text = codes "usage: kproxy replay [--workers N] | kproxy live | kproxy gen SEED SERVICES PODS\n"
