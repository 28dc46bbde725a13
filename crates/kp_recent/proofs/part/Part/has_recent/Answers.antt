use Rattle.std.proofs.Common.{Bool, false, option_map, unwrap_or, subst, sym, ◌∙◌, ap}
use Rattle.std.specs.List.{IsDistinct}
use Rattle.std.specs.Map.{keys_of}
use Rattle.kp_base.specs.Net.{AddressParts}
use Rattle.kp_recent.specs.Moments.{has_recent, is_recent, shown_in}
use Rattle.kp_recent.proofs.Put.{found_moment}
use Rattle.kp_recent.proofs.Shown.{live_is}
use Rattle.kp_base.proofs.SameParts.{address_same}
use Rattle.kp_recent.proofs.part.Part.has_recent.Goals as goal

-- the moment beside the source decides
pub returns-in-Some : goal.returns-in-Some
returns-in-Some c =
    let es = c.self.inside.seen.entries in
    let once = subst (λ (test : AddressParts → AddressParts → Bool). IsDistinct test (keys_of es)) (λ i a b. address_same a b i) c.len.ensures.valid.0 in
    c.is_within.ensures
    ∙ ap (λ o. unwrap_or (option_map (is_recent c.args.now c.args.seconds) o) false) (c.in-Some.ensures ∙ found_moment c.args.source.now es)
    ∙ sym (live_is c.args.source.now c.args.now c.args.seconds es once)
    ∙ ap (λ s. has_recent c.args.now c.args.seconds c.args.source.now (shown_in s)) c.self.view_is

pub returns-in-None : goal.returns-in-None
returns-in-None c =
    let es = c.self.inside.seen.entries in
    let once = subst (λ (test : AddressParts → AddressParts → Bool). IsDistinct test (keys_of es)) (λ i a b. address_same a b i) c.len.ensures.valid.0 in
    ap (λ o. unwrap_or (option_map (is_recent c.args.now c.args.seconds) o) false) (c.in-None.ensures ∙ found_moment c.args.source.now es)
    ∙ sym (live_is c.args.source.now c.args.now c.args.seconds es once)
    ∙ ap (λ s. has_recent c.args.now c.args.seconds c.args.source.now (shown_in s)) c.self.view_is
