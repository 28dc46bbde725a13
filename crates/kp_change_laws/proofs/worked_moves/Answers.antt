use Rattle.std.specs.Prelude.{refl}
use Rattle.std.specs.Fmt.{digits}
use Rattle.sha2.specs.Sha256.{first_words, schedule, rounds, compress, hash_after, digest_bytes, sha256}
use Rattle.kp_change_laws.proofs.worked_moves.Goals as goal

pub returns-clause-rollout : goal.returns-clause-rollout
unfolding digits first_words schedule rounds compress hash_after digest_bytes sha256
returns-clause-rollout c = refl

pub returns-clause-gone : goal.returns-clause-gone
unfolding digits first_words schedule rounds compress hash_after digest_bytes sha256
returns-clause-gone c = refl

pub returns-clause-moved : goal.returns-clause-moved
unfolding digits first_words schedule rounds compress hash_after digest_bytes sha256
returns-clause-moved c = refl

pub returns-clause-one : goal.returns-clause-one
unfolding digits first_words schedule rounds compress hash_after digest_bytes sha256
returns-clause-one c = refl

pub returns-clause-crowded : goal.returns-clause-crowded
unfolding digits first_words schedule rounds compress hash_after digest_bytes sha256
returns-clause-crowded c = refl

pub returns-clause-port : goal.returns-clause-port
unfolding digits first_words schedule rounds compress hash_after digest_bytes sha256
returns-clause-port c = refl
