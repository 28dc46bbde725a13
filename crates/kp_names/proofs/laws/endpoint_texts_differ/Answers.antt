use Rattle.kp_names.proofs.TextsApart.{endpoint_texts_apart}
use Rattle.kp_names.proofs.laws.endpoint_texts_differ.Goals as goal

pub returns : goal.returns
returns c = endpoint_texts_apart
