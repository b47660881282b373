use Rattle.reiser_make.proofs.Storing.{put_one_more, not_done}
use Rattle.reiser_make.proofs.sample.Sample.put_next.Goals as goal

pub returns-in-Some : goal.returns-in-Some
returns-in-Some c = λ all lt has.
    put_one_more c.args.self.now all c.args.i c.args.at.now c.next_item.new.at c.args.low c.put_item.result c.args.behind.now c.put_item.new.behind c.in-Some.item
    lt has c.in-Some.ensures.next c.put_item.ensures.begin c.put_item.ensures.bytes c.put_item.ensures.bodies

pub returns-in-None : goal.returns-in-None
returns-in-None c = λ all lt has. absurd (not_done c.args.self.now all c.args.i c.args.at.now c.args.low c.args.behind.now lt has c.in-None.ensures.next)
