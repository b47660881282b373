use Rattle.btr_tree.proofs.Imports.{◌<◌, ◌≤◌, List, ◌++◌, ◌∷◌, [], Err, IsTrue, length, take, sym, ap, subst, reads, WritesOnly, Item, taken, Building, Holds, pushed_on, leaves_of, IsInSlots, Inside}
use Rattle.btr_tree.proofs.Answering.{answer_back}
use Rattle.btr_tree.proofs.Fronts.{later_then, taken_more}
use Rattle.btr_tree.proofs.Going.{HasFront, front_told, told_front, room_holds, room_short, holds_fit, later_fit, put_holds, put_front}
use Rattle.btr_tree.proofs.builder.TreeBuilder.push_item.Goals as goal

abbrev seen : Inside → Building
seen i = record { made = i.nodes; children = i.children.items; hand = i.hand; spent = i.spent; done = i.done }

pub returns-in_err-make_room-clause-only : goal.returns-in_err-make_room-clause-only
returns-in_err-make_room-clause-only g c = λ tells.
    subst (λ (x : Building). WritesOnly (λ b _. IsInSlots x.made.form.nodesize (take (taken c.make_room.new.self) x.made.offsets) b) (g.D.Disk.history c.args.disk.now) (g.D.Disk.history c.make_room.new.disk)) c.self.view_is
    (c.make_room.ensures.only tells)

pub returns-in_err-put-clause-out : goal.returns-in_err-put-clause-out
returns-in_err-put-clause-out g c = λ items holds is.
    let b : Building = seen c.self.inside in
    subst (λ (x : Building). length x.made.slots < leaves_of x.made.form.nodesize (items ++ (c.args.key, c.args.body.now) ∷ [])) c.self.view_is
    (room_short b.made c.make_room.new.self (items ++ (c.args.key, c.args.body.now) ∷ []) c.make_room.ensures.later
    (c.in_err-put.ensures.out items
    (room_holds g.D.BlockSource.tells (reads (g.D.Disk.history c.args.disk.now)) (reads (g.D.Disk.history c.make_room.new.disk)) b c.make_room.new.self c.in_ok-make_room.ensures.goes items
    (subst (λ (x : Building). Holds x items) (sym c.self.view_is) holds))
    (ap (λ a. Err a) (answer_back c.from_residual-in_err-put.result c.in_err-put.field-0.0 c.from_residual-in_err-put.ensures.1 is))))

pub returns-in_err-put-clause-only : goal.returns-in_err-put-clause-only
returns-in_err-put-clause-only g c = λ tells.
    subst (λ (x : Building). WritesOnly (λ b _. IsInSlots x.made.form.nodesize (take (taken c.put.new.self.made) x.made.offsets) b) (g.D.Disk.history c.args.disk.now) (g.D.Disk.history c.make_room.new.disk)) c.self.view_is
    (taken_more c.self.inside.nodes c.make_room.new.self c.put.new.self.made (g.D.Disk.history c.args.disk.now) (g.D.Disk.history c.make_room.new.disk) c.put.ensures.later (c.make_room.ensures.only tells))

pub returns-clause-holds : goal.returns-clause-holds
returns-clause-holds g c = λ items holds.
    put_holds g.D.BlockSource.tells (reads (g.D.Disk.history c.args.disk.now)) (reads (g.D.Disk.history c.make_room.new.disk)) (seen c.self.inside) c.put.new.self c.make_room.new.self (c.args.key, c.args.body.now)
    c.in_ok-make_room.ensures.goes c.in_ok-put.ensures.put items (subst (λ (x : Building). Holds x items) (sym c.self.view_is) holds)

front_after : (g : _) (c : goal.In_ok-put g) → IsTrue g.D.BlockSource.tells
    → HasFront c.put.new.self (reads (g.D.Disk.history c.make_room.new.disk)) (pushed_on c.args.self.now (reads (g.D.Disk.history c.args.disk.now)) ++ (c.args.key, c.args.body.now) ∷ [])
front_after g c tells =
    let items : List Item = pushed_on c.args.self.now (reads (g.D.Disk.history c.args.disk.now)) in
    put_front g.D.BlockSource.tells (reads (g.D.Disk.history c.args.disk.now)) (reads (g.D.Disk.history c.make_room.new.disk)) (seen c.self.inside) c.put.new.self c.make_room.new.self (c.args.key, c.args.body.now)
    c.in_ok-make_room.ensures.goes c.in_ok-put.ensures.put tells c.put.ensures.later items
    (subst (λ (x : Building). HasFront x (reads (g.D.Disk.history c.args.disk.now)) items) (sym c.self.view_is)
    (front_told c.args.self.now (reads (g.D.Disk.history c.args.disk.now)) c.requires.ready (c.requires.stands tells)))

pub returns-clause-stands : goal.returns-clause-stands
returns-clause-stands g c = λ tells. (told_front c.put.new.self (reads (g.D.Disk.history c.make_room.new.disk)) _ (front_after g c tells)).0

pub returns-clause-pushed : goal.returns-clause-pushed
returns-clause-pushed g c = λ tells. (told_front c.put.new.self (reads (g.D.Disk.history c.make_room.new.disk)) _ (front_after g c tells)).1

pub returns-clause-fits : goal.returns-clause-fits
returns-clause-fits g c = λ items holds.
    let all : List Item = items ++ (c.args.key, c.args.body.now) ∷ [] in
    subst (λ (x : Building). leaves_of x.made.form.nodesize all ≤ length x.made.slots) c.self.view_is
    (later_fit c.self.inside.nodes c.put.new.self.made all (later_then c.self.inside.nodes c.make_room.new.self c.put.new.self.made c.make_room.ensures.later c.put.ensures.later)
    (holds_fit c.put.new.self items (c.args.key, c.args.body.now) (returns-clause-holds g c items holds)))

pub returns-clause-only : goal.returns-clause-only
returns-clause-only g c = λ tells.
    subst (λ (x : Building). WritesOnly (λ b _. IsInSlots x.made.form.nodesize (take (taken c.put.new.self.made) x.made.offsets) b) (g.D.Disk.history c.args.disk.now) (g.D.Disk.history c.make_room.new.disk)) c.self.view_is
    (taken_more c.self.inside.nodes c.make_room.new.self c.put.new.self.made (g.D.Disk.history c.args.disk.now) (g.D.Disk.history c.make_room.new.disk) c.put.ensures.later (c.make_room.ensures.only tells))
