use Rattle.fs_rows.proofs.Imports.{length, ap, arith}
use Rattle.fs_rows.proofs.PathParts.{path_count}
use Rattle.fs_rows.proofs.path.Path.len.Goals as goal

pub returns : goal.returns
returns c =
    let long = path_count c.self.inside.parts c.as_slice.result.now c.self.inside.rest c.args.self.now c.self.view_is c.self.invariant c.as_slice.ensures in
    omega (arith, long, ap length c.as_slice-2.ensures)
