use Rattle.extent_pieces.proofs.Imports.{◌+◌, ◌<◌, ◌^◌, ◌∙◌, length, subst, arith, get_or_from_slice_get, FileRun, owned_in, tails_in}
use Rattle.extent_pieces.proofs.Gathering.{run_more}
use Rattle.extent_pieces.proofs.parts.FileParts.add_file.Goals as goal

pub loop-j-preserved : goal.loop-j-preserved
loop-j-preserved c = λ all.
    let runs = c.args.map.now in
    let j = c.loop-j.j in
    let run = c.get.result in
    let inside : j < length runs = omega (arith, c.loop-j-test.true, c.len-j-end.ensures) in
    let few : run.at + run.count < 2 ^ 64 = subst (λ (r : FileRun). r.at + r.count < 2 ^ 64) (get_or_from_slice_get runs j run run c.get.ensures) (all j run inside) in
    let gains = c.in_ok-add_run.ensures few in
    let before = c.loop-j.invariant all in
    record {
      owned = run_more (owned_in c.args.inode) runs j run c.loop-j.self.owned.items c.add_run.new.self.owned.items inside c.get.ensures c.args.self.now.owned.items before.owned gains.owned;
      tails = run_more (tails_in c.args.inode) runs j run c.loop-j.self.tails.items c.add_run.new.self.tails.items inside c.get.ensures c.args.self.now.tails.items before.tails gains.tails;
      inlines = gains.inlines ∙ before.inlines;
      bytes = gains.bytes ∙ before.bytes;
    }
