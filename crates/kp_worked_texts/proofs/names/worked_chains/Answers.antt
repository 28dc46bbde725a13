use Rattle.std.specs.Prelude.{refl}
use Rattle.std.specs.Fmt.{digits}
use Rattle.sha2.specs.Sha256.{first_words, schedule, rounds, compress, hash_after, digest_bytes, sha256}
use Rattle.kp_worked_texts.proofs.names.worked_chains.Goals as goal

pub returns-clause-port : goal.returns-clause-port
unfolding first_words schedule rounds compress hash_after digest_bytes sha256
returns-clause-port c = (refl, refl, refl, refl)

pub returns-clause-endpoint : goal.returns-clause-endpoint
unfolding first_words schedule rounds compress hash_after digest_bytes sha256 digits
returns-clause-endpoint c = refl

pub returns-clause-clash : goal.returns-clause-clash
unfolding first_words schedule rounds compress hash_after digest_bytes sha256
returns-clause-clash c = (refl, refl)
