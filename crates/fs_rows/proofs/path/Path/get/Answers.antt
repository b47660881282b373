use Rattle.fs_rows.proofs.Imports.{length, ap, arith}
use Rattle.fs_rows.proofs.PathParts.{found_in_part, found_in_rest, path_count}
use Rattle.fs_rows.proofs.path.Path.get.Goals as goal

pub returns-then-i-parts : goal.returns-then-i-parts
returns-then-i-parts c =
    found_in_part c.self.inside.parts c.as_slice-parts.result.now c.self.inside.rest c.args.self.now c.self.view_is c.self.invariant c.as_slice-parts.ensures
    c.args.i c.index-parts-i.result c.as_slice.result.now c.index-as_slice-i.result c.as_slice.ensures c.if-i-parts.true c.index-parts-i.is c.index-as_slice-i.is

pub offset_bounds-as_slice-i-2 : goal.offset_bounds-as_slice-i-2
offset_bounds-as_slice-i-2 c =
    let long = path_count c.self.inside.parts c.as_slice-parts.result.now c.self.inside.rest c.args.self.now c.self.view_is c.self.invariant c.as_slice-parts.ensures in
    omega (arith, long, c.requires, c.if-i-parts.false, c.self.invariant.short)

pub bounds-as_slice-i-2 : goal.bounds-as_slice-i-2
bounds-as_slice-i-2 c =
    let long = path_count c.self.inside.parts c.as_slice-parts.result.now c.self.inside.rest c.args.self.now c.self.view_is c.self.invariant c.as_slice-parts.ensures in
    omega (arith, long, c.requires, c.if-i-parts.false, ap length c.as_slice-2.ensures)

pub returns : goal.returns
returns c =
    found_in_rest c.self.inside.parts c.as_slice-parts.result.now c.self.inside.rest c.args.self.now c.self.view_is c.self.invariant c.as_slice-parts.ensures
    c.args.i c.as_slice-2.result.now c.index-as_slice-i-2.result c.as_slice-2.ensures (omega (arith, c.if-i-parts.false)) c.requires c.index-as_slice-i-2.is
