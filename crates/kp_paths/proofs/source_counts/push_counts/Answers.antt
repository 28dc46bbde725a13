use Rattle.std.proofs.Common.{rules, ◌≡◌, ◌∙◌, ◌++◌, count_by, filter, length, not, string_bytes}
use Rattle.std.proofs.lemmas.Result.{on_ok_weaker}
use Rattle.kp_types.specs.Setting.{config_for}
use Rattle.kp_path_defs.specs.PathText.{counts_text}
use Rattle.kp_path_defs.specs.Sources.{is_masked_at, is_refused_at}
use Rattle.kp_paths.proofs.source_counts.push_counts.Goals as goal

pub returns-clause-added : goal.returns-clause-added
returns-clause-added g c =
    let config = config_for c.args.family (g.S.PortSource.config c.args.source.now) in
    let infos = g.S.PortSource.infos c.args.source.now c.args.family in
    let refuses = is_refused_at config infos c.args.packet.now in
    let served = filter (λ e. not (refuses e)) c.args.endpoints.now in
    let how_many : c.len.result ≡ length served = search rules in
    let masked :
    c.masked_among-masked.result ≡ count_by (is_masked_at config c.args.door.now c.args.packet.now) served =
    search rules in
    let refused : c.refused_among-refused.result ≡ count_by refuses c.args.endpoints.now =
    c.refused_among-refused.ensures refuses (search rules) in
    on_ok_weaker c.push_numbers.result
    (λ h. h ∙ (λ i. string_bytes c.args.text.now ++ counts_text
    (record { served = how_many i; masked = masked i; refused = refused i })))
    c.push_numbers.ensures.added
