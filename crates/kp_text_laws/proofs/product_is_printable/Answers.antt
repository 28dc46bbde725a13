use Rattle.kp_text_laws.proofs.Tables.{product_is_printable_by}
use Rattle.kp_text_laws.proofs.product_is_printable.Goals as goal

pub returns : goal.returns
returns c = product_is_printable_by c.hashed_prefixed.ensures
