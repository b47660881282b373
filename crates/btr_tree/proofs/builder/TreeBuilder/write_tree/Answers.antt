use Rattle.btr_tree.proofs.Imports.{◌≡◌, List, IsTrue, sym, ap, subst, reads, Item, Made, Goes, IsLater, MapsSlots, Building, Holds, HasTree, HasWhole, pushed_on, IsFinished, MeetsNodes, Inside, MapRange}
use Rattle.btr_tree.proofs.Finishing.{Makes, makes_goes, finished, finished_tree, finished_nodes, finished_whole}
use Rattle.btr_tree.proofs.Fronts.{TakenOnly, later_then, taken_then}
use Rattle.btr_tree.proofs.Going.{HasFront, front_told}
use Rattle.btr_tree.proofs.builder.TreeBuilder.write_tree.Goals as goal

abbrev seen : Inside → Building
seen i = record { made = i.nodes; children = i.children.items; hand = i.hand; spent = i.spent; done = i.done }

pub returns-in_err-make_room-clause-only : goal.returns-in_err-make_room-clause-only
returns-in_err-make_room-clause-only g c = λ tells.
    subst (λ (x : Building). TakenOnly x.made c.make_room.new.self (g.D.Disk.history c.args.disk.now) (g.D.Disk.history c.make_room.new.disk)) c.self.view_is (c.make_room.ensures.only tells)

pub returns-in_err-root-clause-only : goal.returns-in_err-root-clause-only
returns-in_err-root-clause-only g c = λ tells.
    subst (λ (x : Building). TakenOnly x.made c.complete.new.self.made (g.D.Disk.history c.args.disk.now) (g.D.Disk.history c.complete.new.disk)) c.self.view_is
    (taken_then c.self.inside.nodes c.make_room.new.self c.complete.new.self.made (g.D.Disk.history c.args.disk.now) (g.D.Disk.history c.make_room.new.disk) (g.D.Disk.history c.complete.new.disk)
    c.make_room.ensures.later c.complete.ensures.later (c.make_room.ensures.only tells) (c.complete.ensures.only tells))

pub returns-in_err-flush-clause-only : goal.returns-in_err-flush-clause-only
returns-in_err-flush-clause-only g c = λ tells.
    let made : c.complete.new.self.made ≡ c.self-2.inside.nodes = sym (ap (λ (x : Building). x.made) c.self-2.view_is) in
    let later : IsLater c.make_room.new.self c.self-2.inside.nodes = subst (λ (m : Made). IsLater c.make_room.new.self m) made c.complete.ensures.later in
    let only : TakenOnly c.make_room.new.self c.self-2.inside.nodes (g.D.Disk.history c.make_room.new.disk) (g.D.Disk.history c.complete.new.disk) =
    subst (λ (m : Made). TakenOnly c.make_room.new.self m (g.D.Disk.history c.make_room.new.disk) (g.D.Disk.history c.complete.new.disk)) made (c.complete.ensures.only tells) in
    subst (λ (x : Building). TakenOnly x.made c.flush.new.self (g.D.Disk.history c.args.disk.now) (g.D.Disk.history c.flush.new.disk)) c.self.view_is
    (taken_then c.self.inside.nodes c.self-2.inside.nodes c.flush.new.self (g.D.Disk.history c.args.disk.now) (g.D.Disk.history c.complete.new.disk) (g.D.Disk.history c.flush.new.disk)
    (later_then c.self.inside.nodes c.make_room.new.self c.self-2.inside.nodes c.make_room.ensures.later later) c.flush.ensures.later
    (taken_then c.self.inside.nodes c.make_room.new.self c.self-2.inside.nodes (g.D.Disk.history c.args.disk.now) (g.D.Disk.history c.make_room.new.disk) (g.D.Disk.history c.complete.new.disk)
    c.make_room.ensures.later later (c.make_room.ensures.only tells) only)
    (c.flush.ensures.only tells))

pub returns-clause-only : goal.returns-clause-only
returns-clause-only g c = λ tells.
    let made : c.complete.new.self.made ≡ c.self-2.inside.nodes = sym (ap (λ (x : Building). x.made) c.self-2.view_is) in
    let later : IsLater c.make_room.new.self c.self-2.inside.nodes = subst (λ (m : Made). IsLater c.make_room.new.self m) made c.complete.ensures.later in
    let only : TakenOnly c.make_room.new.self c.self-2.inside.nodes (g.D.Disk.history c.make_room.new.disk) (g.D.Disk.history c.complete.new.disk) =
    subst (λ (m : Made). TakenOnly c.make_room.new.self m (g.D.Disk.history c.make_room.new.disk) (g.D.Disk.history c.complete.new.disk)) made (c.complete.ensures.only tells) in
    subst (λ (x : Building). TakenOnly x.made c.flush.new.self (g.D.Disk.history c.args.disk.now) (g.D.Disk.history c.flush.new.disk)) c.self.view_is
    (taken_then c.self.inside.nodes c.self-2.inside.nodes c.flush.new.self (g.D.Disk.history c.args.disk.now) (g.D.Disk.history c.complete.new.disk) (g.D.Disk.history c.flush.new.disk)
    (later_then c.self.inside.nodes c.make_room.new.self c.self-2.inside.nodes c.make_room.ensures.later later) c.flush.ensures.later
    (taken_then c.self.inside.nodes c.make_room.new.self c.self-2.inside.nodes (g.D.Disk.history c.args.disk.now) (g.D.Disk.history c.make_room.new.disk) (g.D.Disk.history c.complete.new.disk)
    c.make_room.ensures.later later (c.make_room.ensures.only tells) only)
    (c.flush.ensures.only tells))

-- from all that was made at the call to all that was written
goes_all : (g : _) (c : goal.In_ok-flush g)
    → Goes g.D.BlockSource.tells (reads (g.D.Disk.history c.args.disk.now)) (reads (g.D.Disk.history c.flush.new.disk)) c.self.inside.nodes c.flush.new.self
    (Makes (seen c.self.inside) (seen c.self-2.inside) c.in_ok-root.root)
goes_all g c =
    makes_goes g.D.BlockSource.tells (reads (g.D.Disk.history c.args.disk.now)) (reads (g.D.Disk.history c.make_room.new.disk)) (reads (g.D.Disk.history c.complete.new.disk)) (reads (g.D.Disk.history c.flush.new.disk))
    (seen c.self.inside) (seen c.self-2.inside) c.make_room.new.self c.flush.new.self c.in_ok-root.root c.in_ok-make_room.ensures.goes
    (subst (λ (x : Building). Goes g.D.BlockSource.tells (reads (g.D.Disk.history c.make_room.new.disk)) (reads (g.D.Disk.history c.complete.new.disk)) c.make_room.new.self x.made
    (Makes (seen c.self.inside) x c.in_ok-root.root)) (sym c.self-2.view_is) c.in_ok-root.ensures.completed)
    c.in_ok-flush.ensures.goes

front_before : (g : _) (c : goal.In_ok-flush g) → IsTrue g.D.BlockSource.tells
    → HasFront (seen c.self.inside) (reads (g.D.Disk.history c.args.disk.now)) (pushed_on c.args.self.now (reads (g.D.Disk.history c.args.disk.now)))
front_before g c tells =
    subst (λ (x : Building). HasFront x (reads (g.D.Disk.history c.args.disk.now)) (pushed_on c.args.self.now (reads (g.D.Disk.history c.args.disk.now)))) (sym c.self.view_is)
    (front_told c.args.self.now (reads (g.D.Disk.history c.args.disk.now)) c.requires.ready (c.requires.stands tells))

maps_here : (g : _) (c : goal.In_ok-flush g) (ranges : List MapRange) → MapsSlots ranges c.args.self.now.made.form.nodesize c.args.self.now.made.slots c.args.self.now.made.offsets
    → MapsSlots ranges c.self.inside.nodes.form.nodesize c.self.inside.nodes.slots c.self.inside.nodes.offsets
maps_here g c ranges maps = subst (λ (x : Building). MapsSlots ranges x.made.form.nodesize x.made.slots x.made.offsets) (sym c.self.view_is) maps

pub returns-clause-tree : goal.returns-clause-tree
returns-clause-tree g c = λ ranges maps tells.
    let items : List Item = pushed_on c.args.self.now (reads (g.D.Disk.history c.args.disk.now)) in
    subst (λ (x : Building). HasTree (reads (g.D.Disk.history c.flush.new.disk)) ranges x.made c.in_ok-root.root.address c.in_ok-root.root.level items) c.self.view_is
    (finished_tree g.D.BlockSource.tells (reads (g.D.Disk.history c.args.disk.now)) (reads (g.D.Disk.history c.flush.new.disk)) (seen c.self.inside) (seen c.self-2.inside) c.flush.new.self c.in_ok-root.root
    (goes_all g c) (ap (λ (m : Made). m.nodes) c.in_ok-flush.ensures.flushed) ranges (maps_here g c ranges maps) tells items (front_before g c tells))

pub returns-clause-nodes : goal.returns-clause-nodes
returns-clause-nodes g c = λ ranges maps tells.
    let items : List Item = pushed_on c.args.self.now (reads (g.D.Disk.history c.args.disk.now)) in
    subst (λ (x : Building). MeetsNodes (reads (g.D.Disk.history c.flush.new.disk)) ranges x.made c.in_ok-root.root.address c.in_ok-root.root.level items) c.self.view_is
    (finished_nodes g.D.BlockSource.tells (reads (g.D.Disk.history c.args.disk.now)) (reads (g.D.Disk.history c.flush.new.disk)) (seen c.self.inside) (seen c.self-2.inside) c.flush.new.self c.in_ok-root.root
    (goes_all g c) (ap (λ (m : Made). m.nodes) c.in_ok-flush.ensures.flushed) ranges (maps_here g c ranges maps) tells items (front_before g c tells))

pub returns-clause-finished : goal.returns-clause-finished
returns-clause-finished g c = λ items holds.
    subst (λ (x : Building). IsFinished x (record (seen c.self-2.inside) { made = c.flush.new.self }) c.in_ok-root.root items) c.self.view_is
    (finished g.D.BlockSource.tells (reads (g.D.Disk.history c.args.disk.now)) (reads (g.D.Disk.history c.flush.new.disk)) (seen c.self.inside) (seen c.self-2.inside) c.flush.new.self c.in_ok-root.root
    (goes_all g c) (ap (λ (m : Made). m.nodes) c.in_ok-flush.ensures.flushed) items (subst (λ (x : Building). Holds x items) (sym c.self.view_is) holds))

pub returns-clause-whole : goal.returns-clause-whole
returns-clause-whole g c = λ ranges maps tells.
    let items : List Item = pushed_on c.args.self.now (reads (g.D.Disk.history c.args.disk.now)) in
    subst (λ (x : Building). HasWhole (reads (g.D.Disk.history c.flush.new.disk)) ranges x.made c.in_ok-root.root.address c.in_ok-root.root.level) c.self.view_is
    (finished_whole g.D.BlockSource.tells (reads (g.D.Disk.history c.args.disk.now)) (reads (g.D.Disk.history c.flush.new.disk)) (seen c.self.inside) (seen c.self-2.inside) c.flush.new.self c.in_ok-root.root
    (goes_all g c) (ap (λ (m : Made). m.nodes) c.in_ok-flush.ensures.flushed) ranges (maps_here g c ranges maps) tells items (front_before g c tells))
