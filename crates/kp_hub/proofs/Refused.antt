-- Syncs that end without a published record.
use Rattle.std.proofs.Common.{◌≡◌, inr, None, Some, refl, sym, ap, subst, ◌∙◌}
use Rattle.kp_base.specs.declared.config.Config.{Config}
use Rattle.kp_types.specs.declared.chain.Clash.{Clash}
use Rattle.kp_io.specs.Faults.{Rose}
use Rattle.kp_hub.specs.State.{HubState}
use Rattle.kp_hub.specs.Syncs.{GivesUp, IsUnpublished, Refuses, clash_after, counts_with_sync}
use Rattle.kp_hub.specs.Syncs.{with_refusal}
use Rattle.kp_hub.specs.Taken.{Taken, with_sync}

-- a refusal of the whole journal was kept
pub refused : (config : Config) (clash : Clash) (before made after : HubState) → made ≡ before
    → clash_after config before.taken.journal ≡ Some clash → after ≡ with_refusal made clash
    → Refuses config clash before after
refused config clash before made after same is kept =
    subst (Refuses config clash before) (sym (kept ∙ ap (λ h. with_refusal h clash) same))
    (record { is_clash = is; counts = refl; outlet = refl; refusals = refl })

-- a record of the whole journal was made, and the publisher had no memory
pub unpublished : (config : Config) (before made after : HubState)
    → clash_after config before.taken.journal ≡ None
    → made ≡ record before { taken = with_sync config before.taken }
    → Rose made.outlet.refusals after.outlet.refusals
    → after ≡ record made { outlet = after.outlet } → GivesUp config before after
unpublished config before made after none made_is cause stays =
    let taken : after.taken ≡ with_sync config before.taken =
    ap (λ (h : HubState). h.taken) stays ∙ ap (λ (h : HubState). h.taken) made_is in
    let is : IsUnpublished config before after = record {
      no_clash = ap (λ (t : Taken). clash_after config t.journal) taken ∙ none;
      counts = ap (λ (t : Taken). t.counts) taken
          ∙ sym (ap (counts_with_sync config before.taken.counts) taken);
      cause = subst (λ n. Rose n after.outlet.refusals)
          (ap (λ (h : HubState). h.outlet.refusals) made_is) cause;
    } in
    record {
      counts = inr is;
      refusals = ap (λ (h : HubState). h.refusals) stays ∙ ap (λ (h : HubState). h.refusals) made_is;
    }
