use Rattle.reiser_volume.proofs.Imports.{arith, Contains, refl, keys, root}
use Rattle.reiser_volume.proofs.inode_numbers.InodeNumbers.new.Goals as goal

pub returns-clause-numbered : goal.returns-clause-numbered
returns-clause-numbered c = λ image opened. record {
  ascends = opened.ascends;
  has_root =
      let there : Contains (keys c.args.volume.now.named) root = (opened.are_keys.exact root).1 (0, refl) in
      grind (arith, c.index_of.ensures, c.unwrap_or.ensures, there);
  small = omega (arith, c.count-count.ensures.exact, c.count-count.ensures.small);
}
