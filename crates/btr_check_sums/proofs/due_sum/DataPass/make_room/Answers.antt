use Rattle.btr_check_sums.proofs.Data.{room_made}
use Rattle.btr_check_sums.proofs.due_sum.DataPass.make_room.Goals as goal

pub returns-clause-holds : goal.returns-clause-holds
returns-clause-holds g c = λ tells image is ranges items i count holds.
    room_made image ranges c.args.self.now.kind items i count c.args.self.now.due.items c.judge.new.self.due.items c.judge.result holds c.judge.ensures.emptied (c.judge.ensures.right tells image is)
