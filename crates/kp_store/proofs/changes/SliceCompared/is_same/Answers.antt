use Rattle.kp_store.specs.SameSlice.{same_slice}
use Rattle.kp_store.proofs.SameObjects.{slice_exact, slice_itself, tells_same}
use Rattle.kp_store.proofs.changes.SliceCompared.is_same.Goals as goal

pub returns : goal.returns
returns c =
    tells_same same_slice slice_exact slice_itself c.args.self.now c.args.other.now _
    c.is_same_slice.ensures
