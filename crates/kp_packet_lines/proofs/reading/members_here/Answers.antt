use Rattle.std.proofs.Common.{◌≡◌, ◌-◌, ◌<◌, [], ◌∷◌, ◌++◌, length, Some, None, option_map, if◌then◌else◌, sym, subst, ap, ◌∙◌, arith}
use Rattle.json.specs.Json.{read_key}
use Rattle.json.proofs.Grammar.{read_key-shorter}
use Rattle.serde_json.specs.Data.{put}
use Rattle.kp_lemmas.proofs.Results.{of_ok}
use Rattle.kp_packet_lines.specs.Plain.{members_of, plain_data}
use Rattle.kp_packet_lines.proofs.Members.{one_more}
use Rattle.kp_packet_lines.proofs.Tokens.{MembersSoFar, one_more_member, all_members}
use Rattle.kp_packet_lines.proofs.reading.members_here.Goals as goal

pub members-preserved : goal.members-preserved
members-preserved c =
    let ts = c.members.reader in
    let found = c.members.members.items in
    let so_far = c.members.invariant in
    let n = so_far.0 in
    let middle = c.next_key.new.self in
    let name = c.in-Some.name in
    let m = c.in_ok-member.member in
    let after = c.member_here.new.reader in
    let key = of_ok (λ k. read_key ts ≡ Some (option_map (λ s. s.now) k, middle)) _ c.next_key.result c.in_ok-name.field-0 c.next_key.ensures.value c.in_ok-name.ensures.value in
    let named : read_key ts ≡ Some (Some name.now, middle) = key ∙ ap (λ k. Some (option_map (λ s. s.now) k, middle)) c.in-Some.is in
    let less = read_key-shorter ts (Some name.now) middle named in
    let lesser : length after < length middle = c.in_ok-member.ensures.shorter in
    let pushed : c.push.new.self.items ≡ found ++ (name, m) ∷ [] =
    c.push.ensures.items ∙ ap (λ b. if b then found ++ (name, m) ∷ [] else found) (sym c.in_ok-ok.ensures.variant) in
    let all : members_of c.push.new.self.items ≡ put name.now (plain_data m) (members_of found) = ap members_of pushed ∙ one_more found (name, m) in (
      n - 1,
      omega (arith, so_far.1, less, lesser),
      subst (λ ms. MembersSoFar c.args.reader.now ms after (n - 1)) (sym all)
          (one_more_member c.args.reader.now (members_of found) ts middle after n name.now (plain_data m) (omega (arith, so_far.1, less)) named c.in_ok-member.ensures.value so_far.2),
      omega (arith, so_far.3, less, lesser),
    )

pub returns : goal.returns
returns c =
    let ts = c.members.reader in
    let so_far = c.members.invariant in
    let rest = c.next_key.new.self in
    let key = of_ok (λ k. read_key ts ≡ Some (option_map (λ s. s.now) k, rest)) _ c.next_key.result c.in_ok-name.field-0 c.next_key.ensures.value c.in_ok-name.ensures.value in
    let over : read_key ts ≡ Some (None, rest) = grind (arith, key) in
    all_members c.args.reader.now (members_of c.members.members.items) ts rest so_far.0 so_far.1 over so_far.2
