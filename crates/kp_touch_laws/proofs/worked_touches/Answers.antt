use Rattle.kp_touch_laws.proofs.WorkedTouched.{empty_node_touches, node_touches, own_node_touches}
use Rattle.kp_touch_laws.proofs.WorkedTouched.{pod_touches, service_touches, slice_touches}
use Rattle.kp_touch_laws.proofs.worked_touches.Goals as goal

pub returns-clause-services : goal.returns-clause-services
returns-clause-services c = service_touches

pub returns-clause-slices : goal.returns-clause-slices
returns-clause-slices c = slice_touches

pub returns-clause-pods : goal.returns-clause-pods
returns-clause-pods c = pod_touches

pub returns-clause-nodes : goal.returns-clause-nodes
returns-clause-nodes c = node_touches

pub returns-clause-own_node : goal.returns-clause-own_node
returns-clause-own_node c = own_node_touches

pub returns-clause-empty_node : goal.returns-clause-empty_node
returns-clause-empty_node c = empty_node_touches
