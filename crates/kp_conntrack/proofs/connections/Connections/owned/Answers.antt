use Rattle.kp_conntrack.proofs.Answered.{owned_later, owned_reply, owned_reply_after}
use Rattle.kp_conntrack.proofs.connections.Connections.owned.Goals as goal

pub returns-in-Some-clause-after : goal.returns-in-Some-clause-after
returns-in-Some-clause-after c =
    owned_later c.args.self.now c.args.flow.now c.advance.new.self c.connection_of-connection.result c.advance.ensures
    c.connection_of-connection.ensures c.in-Some.owned c.later.new.self c.in-Some.ensures.answer c.in-Some.ensures.after

pub returns-in-None-clause-answer : goal.returns-in-None-clause-answer
returns-in-None-clause-answer c =
    owned_reply c.args.self.now c.args.flow.now c.advance.new.self c.connection_of-connection.result c.advance.ensures
    c.connection_of-connection.ensures c.in-None.ensures.answer c.later.new.self c.in-None.ensures.after c.reply.result
    c.reply.ensures.answer

pub returns-in-None-clause-after : goal.returns-in-None-clause-after
returns-in-None-clause-after c =
    owned_reply_after c.args.self.now c.args.flow.now c.advance.new.self c.connection_of-connection.result
    c.advance.ensures c.connection_of-connection.ensures c.in-None.ensures.answer c.later.new.self
    c.in-None.ensures.after c.reply.new.self c.reply.ensures.after
