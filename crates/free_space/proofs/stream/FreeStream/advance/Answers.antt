use Rattle.free_space.proofs.Imports.{ap, arith}
use Rattle.free_space.proofs.Apart.{small_behind}
use Rattle.free_space.proofs.stream.FreeStream.advance.Goals as goal

pub returns-clause-fits : goal.returns-clause-fits
returns-clause-fits g c = record {
  few = grind (arith, c.requires.fits.few, c.in_default.ensures.few, c.begin.ensures.used);
  small = small_behind c.args.self.now.groups.now c.in-Some-first_and_rest.after.now _ c.in-Some-first_and_rest.group c.in-Some-first_and_rest.ensures c.requires.fits.small (ap (λ r. r.now) c.begin.ensures.groups);
  wide = grind (arith, c.begin.ensures.wide);
}
