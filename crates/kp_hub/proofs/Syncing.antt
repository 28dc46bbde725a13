-- What a sync does by its answer, from its steps.
use Rattle.std.proofs.Common.{◌≡◌, ℕ, ◌+◌, ◌≤◌, ◌<◌, List, None, length, ap, sym, subst, ◌∙◌, arith}
use mathlib.Core.List.{IsPrefix}
use Rattle.kp_base.specs.declared.config.Config.{Config}
use Rattle.kp_publish.specs.Entries.{records_of}
use Rattle.kp_publish.specs.Pending.{Keeps}
use Rattle.kp_publish.specs.declared.entry.Entry.{Entry}
use Rattle.kp_full_table.specs.declared.fault.TableFault.{TableFault}
use Rattle.kp_full_table.specs.declared.fault.TableFault.TheVariants.{ChainClash, NoMemory}
use Rattle.kp_hub.specs.Known.{Worker, known}
use Rattle.kp_hub.specs.State.{HubState}
use Rattle.kp_hub.specs.Syncs.{Accepts, Fails, IsClashOfSome, IsTold, clash_after, counts_with_sync}
use Rattle.kp_hub.specs.Taken.{Taken, records_at, with_sync}
use Rattle.kp_hub.proofs.States.{records_length}

-- ---- A record is made of the whole journal, and then published or not

module _ (config : Config) (before made after : HubState)
    (makes : made ≡ record before { taken = with_sync config before.taken })
    (stays : after ≡ record made { outlet = after.outlet })
    (none : clash_after config before.taken.journal ≡ None) where
  taken_is : after.taken ≡ with_sync config before.taken
  taken_is = ap (λ (h : HubState). h.taken) stays ∙ ap (λ (h : HubState). h.taken) makes

  counts_are : after.taken.counts ≡ counts_with_sync config before.taken.counts after.taken
  counts_are =
      ap (λ (t : Taken). t.counts) taken_is
      ∙ sym (ap (counts_with_sync config before.taken.counts) taken_is)

  no_clash_after : clash_after config after.taken.journal ≡ None
  no_clash_after = ap (λ (t : Taken). clash_after config t.journal) taken_is ∙ none

  refusals_are : after.refusals ≡ before.refusals
  refusals_are = ap (λ (h : HubState). h.refusals) stays ∙ ap (λ (h : HubState). h.refusals) makes

  pub accepts : (n : ℕ) → n ≡ length made.taken.counts
      → after.outlet.published ≡ after.outlet.newest
      → records_of after.outlet.published ≡ records_at config after.taken
      → Accepts config n before after
  accepts n number published records = record {
    no_clash = no_clash_after;
    counts = counts_are;
    number = number ∙ sym (ap (λ (h : HubState). length h.taken.counts) stays);
    published = published;
    records = records;
    refusals = refusals_are;
  }

-- ---- Its fault

-- which of the two it was, its fault tells
pub tells_some : (config : Config) (before after : HubState) (fault : TableFault)
    → Fails config fault before after → IsClashOfSome config fault
tells_some config before after (ChainClash clash) fails = (after.taken.journal, fails.is_clash)
tells_some config before after (NoMemory refused) fails = tt

-- ---- Events are taken first

module _ (config : Config) (before first after : HubState)
    (takes : first ≡ record before { taken = first.taken })
    (counts : first.taken.counts ≡ before.taken.counts) where
  refusals_stay : first.refusals ≡ before.refusals
  refusals_stay = ap (λ (h : HubState). h.refusals) takes

  pub accepts_taken : (n : ℕ) → Accepts config n first after → Accepts config n before after
  accepts_taken n is = record {
    no_clash = is.no_clash;
    counts = is.counts ∙ ap (λ cs. counts_with_sync config cs after.taken) counts;
    number = is.number;
    published = is.published;
    records = is.records;
    refusals = is.refusals ∙ refusals_stay;
  }

-- ---- A pass is told of it

module _ (config : Config) (before after last : HubState) where
  pub accepts_told : (n k : ℕ) → last ≡ record after { accepted = k }
      → Accepts config n before after → Accepts config n before last
  accepts_told n k told is = subst (λ (h : HubState). Accepts config n before h) (sym told) (record {
    no_clash = is.no_clash;
    counts = is.counts;
    number = is.number;
    published = is.published;
    records = is.records;
    refusals = is.refusals;
  })

-- The pass has learned all that is published, and counts the sync.
pub told : (config : Config) (t : Taken) (outlet : Keeps) (before learned after : Worker) (book : ℕ)
    → records_of outlet.published ≡ records_at config t
    → known before < length (records_of outlet.published) → learned.learned ≡ outlet.published
    → IsPrefix before.told learned.told → IsPrefix outlet.published learned.told → learned.seen ≡ before.seen
    → learned.accepted ≡ before.accepted → learned.refused ≡ before.refused
    → after ≡ record learned { accepted = learned.accepted + 1 } → after.accepted ≤ book → book ≤ length t.counts
    → IsTold (length t.counts) before after
told config t outlet before learned after book records newer front longer begins seen accepted refused
    one bound few =
    let front_is : after.learned ≡ outlet.published = ap (λ (w : Worker). w.learned) one ∙ front in
    let told_is : after.told ≡ learned.told = ap (λ (w : Worker). w.told) one in
    let count : length (records_of outlet.published) ≡ length t.counts =
    ap length records ∙ records_length config t in
    record {
      newer = subst (λ n. known before < n) count newer;
      front = ap (λ (l : List Entry). length (records_of l)) front_is ∙ count;
      learned = subst (λ (p : List Entry × List Entry). IsPrefix p.0 p.1)
          (λ i. (sym front_is i, sym told_is i)) begins;
      told = subst (λ (l : List Entry). IsPrefix before.told l) (sym told_is) longer;
      seen = ap (λ (w : Worker). w.seen) one ∙ seen;
      accepted = ap (λ (w : Worker). w.accepted) one ∙ ap (λ n. n + 1) accepted;
      few = omega (arith, bound, few);
      refused = ap (λ (w : Worker). w.refused) one ∙ refused;
    }
