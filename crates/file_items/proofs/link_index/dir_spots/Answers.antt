use Rattle.file_items.proofs.Imports.{List, ℕ, subst, arith, take_all, Naming, links_in, AreBelow, TellsPlaces}
use Rattle.file_items.proofs.Linked.{spot_step, below_step}
use Rattle.file_items.proofs.link_index.dir_spots.Goals as goal

pub loop-n-preserved : goal.loop-n-preserved
loop-n-preserved c = record {
  below = below_step c.loop-n.spots.items c.push.new.self.items c.loop-n.n c.link.result.dir c.loop-n.invariant.below c.in_ok-push.ensures.items;
  places = λ image opened.
      spot_step c.args.volume.now image (λ n. n.dir) c.loop-n.spots.items c.push.new.self.items c.loop-n.n c.link.result.dir opened (omega arith) (λ x there. (c.link.ensures.ends image opened x there).0) (c.loop-n.invariant.places image opened)
      c.in_ok-push.ensures.items;
}

pub returns-clause-below : goal.returns-clause-below
returns-clause-below c = subst (λ (n : ℕ). AreBelow n c.loop-n.spots.items) (omega arith) c.loop-n.invariant.below

pub returns-clause-places : goal.returns-clause-places
returns-clause-places c = λ image opened.
    subst (λ (l : List Naming). TellsPlaces (λ n. n.dir) c.args.volume.now l c.loop-n.spots.items) (take_all c.loop-n.n (links_in c.args.volume.now) (omega arith)) (c.loop-n.invariant.places image opened)
