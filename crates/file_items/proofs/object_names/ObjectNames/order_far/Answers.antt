use Rattle.file_items.proofs.Imports.{◌∙◌, ◌++◌, ◌∷◌, [], length, ap, sym, arith, Key, ascending, offset_of}
use Rattle.file_items.proofs.Referring.{far_moved}
use Rattle.file_items.proofs.object_names.ObjectNames.order_far.Goals as goal

pub loop-i-preserved : goal.loop-i-preserved
loop-i-preserved c = record {
  refs = c.loop-i.invariant.refs;
  far = c.loop-i.invariant.far;
  extrefs =
      far_moved c.args.ino c.loop-i.self.far (ascending offset_of c.args.self.now.far) c.loop-i.self.extrefs c.add.new.self c.loop-i.i c.key-hash.result.objectid c.body.result.now c.loop-i.invariant.far
      (omega (arith, c.loop-i-test.true, c.len-i-end.ensures, ap length (c.in_ok-sort.ensures ∙ sym c.loop-i.invariant.far))) c.loop-i.invariant.extrefs
      (λ item there. ap (λ (k : Key). k.objectid) (c.key-hash.ensures item there)) c.body.ensures (c.in_ok-add.ensures.ok ∙ ap (λ (k : Key). c.loop-i.self.extrefs ++ (k, c.body.result.now) ∷ []) c.key_of.ensures);
}
