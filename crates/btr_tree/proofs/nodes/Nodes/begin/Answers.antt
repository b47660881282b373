use Rattle.btr_tree.proofs.Imports.{sym, ◌∙◌, ap, subst, arith, Draft, IsDraft, started_for, IsNodeSize, Expect}
use Rattle.btr_tree.proofs.Drafting.{begun_right}
use Rattle.btr_tree.proofs.nodes.Nodes.begin.Goals as goal

pub invariant_of-self : goal.invariant_of-self
invariant_of-self c =
    let before = c.self.invariant in
    let want : Expect = record {
      address = c.args.address;
      fsid = c.self.inside.form.fsid;
      owner = c.self.inside.owner;
      level = c.args.level;
      generation = c.self.inside.generation;
      sums = c.self.inside.form.sums;
    } in
    let size : IsNodeSize c.self.inside.writer.nodesize = subst IsNodeSize (sym before.same) before.size in
    let right : IsDraft (started_for c.self.inside.writer.nodesize want c.self.inside.chunk_tree) =
    begun_right c.self.inside.writer.nodesize want c.self.inside.chunk_tree size (omega arith) (omega arith) (omega arith) (omega arith) (omega arith) (omega arith) in
    record {
      size = before.size;
      same = ap (λ (d : Draft). d.nodesize) c.start.ensures ∙ before.same;
      whole = before.whole;
      few = before.few;
      as_many = before.as_many;
      small = before.small;
      batch = before.batch;
      room_is = before.room_is;
      right = λ started. subst (λ (d : Draft). IsDraft d) (sym c.start.ensures) right;
    }
