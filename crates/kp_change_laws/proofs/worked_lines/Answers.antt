use Rattle.std.specs.Prelude.{refl}
use Rattle.std.specs.Fmt.{digits}
use Rattle.std.specs.Net.Text.{hex, hex_groups_text}
use Rattle.sha2.specs.Sha256.{first_words, schedule, rounds, compress, hash_after, digest_bytes, sha256}
use Rattle.kp_change_laws.proofs.worked_lines.Goals as goal

pub returns-clause-address : goal.returns-clause-address
unfolding digits first_words schedule rounds compress hash_after digest_bytes sha256
returns-clause-address c = refl

pub returns-clause-service : goal.returns-clause-service
unfolding digits first_words schedule rounds compress hash_after digest_bytes sha256
returns-clause-service c = refl

pub returns-clause-policy : goal.returns-clause-policy
unfolding digits first_words schedule rounds compress hash_after digest_bytes sha256
returns-clause-policy c = refl

pub returns-clause-back : goal.returns-clause-back
unfolding digits first_words schedule rounds compress hash_after digest_bytes sha256
returns-clause-back c = refl

pub returns-clause-affinity : goal.returns-clause-affinity
unfolding digits first_words schedule rounds compress hash_after digest_bytes sha256
returns-clause-affinity c = refl

pub returns-clause-nothing : goal.returns-clause-nothing
returns-clause-nothing c = refl

pub returns-clause-ranges : goal.returns-clause-ranges
unfolding digits first_words schedule rounds compress hash_after digest_bytes sha256
returns-clause-ranges c = refl

pub returns-clause-closed : goal.returns-clause-closed
unfolding digits first_words schedule rounds compress hash_after digest_bytes sha256
returns-clause-closed c = refl

pub returns-clause-lifted : goal.returns-clause-lifted
unfolding digits first_words schedule rounds compress hash_after digest_bytes sha256
returns-clause-lifted c = refl

pub returns-clause-both : goal.returns-clause-both
unfolding digits first_words schedule rounds compress hash_after digest_bytes sha256 hex hex_groups_text
returns-clause-both c = refl
