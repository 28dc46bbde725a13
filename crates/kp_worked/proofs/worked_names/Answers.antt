use Rattle.std.specs.Prelude.{refl}
use Rattle.std.specs.Fmt.{digits}
use Rattle.sha2.specs.Sha256.{first_words, schedule, rounds, compress, hash_after, digest_bytes, sha256}
use Rattle.kp_worked.proofs.worked_names.Goals as goal

pub returns-clause-api_server : goal.returns-clause-api_server
unfolding first_words schedule rounds compress hash_after digest_bytes sha256
returns-clause-api_server c = refl

pub returns-clause-dns : goal.returns-clause-dns
unfolding first_words schedule rounds compress hash_after digest_bytes sha256
returns-clause-dns c = refl

pub returns-clause-endpoint : goal.returns-clause-endpoint
unfolding first_words schedule rounds compress hash_after digest_bytes sha256 digits
returns-clause-endpoint c = refl

pub returns-clause-whole_names : goal.returns-clause-whole_names
unfolding first_words schedule rounds compress hash_after digest_bytes sha256 digits
returns-clause-whole_names c = refl
