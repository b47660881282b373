use Rattle.btr_reader.proofs.Imports.{◌<◌, ◌≤◌, List, map, length, sym, subst, refl, arith, slice_get_read, err_from_is_err_and, FIRST_FREE_OBJECTID, contains, row_of, PathTo, same_node, inode_node, links_of, IsMemory, made_row}
use Rattle.btr_reader.proofs.Rowed.{rows_are, rows_more, all_rows, are_paths}
use Rattle.btr_reader.proofs.rows.rows_of.Goals as goal

pub returns-in_err-row-clause-rows : goal.returns-in_err-row-clause-rows
returns-in_err-row-clause-rows c = λ image ranges items root has_root read.
    let list : List PathTo = c.in_ok-paths.paths.items in
    let within : c.loop-i.i < length list = omega (arith, c.loop-i-test.true) in
    let there = slice_get_read list (length list) c.loop-i.i c.index.result.now refl within c.index.ensures in
    let are = are_paths c.in_ok-links.links.items (links_of c.args.names.now (contains same_node c.args.named.now)) c.inode_node.result (inode_node FIRST_FREE_OBJECTID) list c.in_ok-links.ensures c.inode_node.ensures read.links.once c.in_ok-paths.ensures in
    let memory = c.in_err-row.ensures.row (contains same_node c.args.named.now) image ranges items root has_root read list are c.loop-i.i there (c.loop-i.invariant image ranges items root has_root read) in
    let err = err_from_is_err_and c.from_residual-in_err-row.result c.from_residual-in_err-row.ensures.1 in
    rw err.1 (subst IsMemory (sym err.2) memory)

pub loop-i-preserved : goal.loop-i-preserved
loop-i-preserved c = λ image ranges items root has_root read.
    let list : List PathTo = c.in_ok-paths.paths.items in
    let within : c.loop-i.i < length list = omega (arith, c.loop-i-test.true) in
    let there = slice_get_read list (length list) c.loop-i.i c.index.result.now refl within c.index.ensures in
    let are = are_paths c.in_ok-links.links.items (links_of c.args.names.now (contains same_node c.args.named.now)) c.inode_node.result (inode_node FIRST_FREE_OBJECTID) list c.in_ok-links.ensures c.inode_node.ensures read.links.once c.in_ok-paths.ensures in
    let before = c.loop-i.invariant image ranges items root has_root read in
    rows_more (λ p. row_of (made_row image ranges items list p)) list c.loop-i.i c.index.result.now _ _ c.in_ok-row.row within c.index.ensures before
    (c.in_ok-row.ensures.row (contains same_node c.args.named.now) image ranges items root has_root read list are c.loop-i.i there before) c.in_ok-add.ensures.ok

pub returns-clause-rows : goal.returns-clause-rows
returns-clause-rows c = λ image ranges items root has_root read.
    let list : List PathTo = c.in_ok-paths.paths.items in
    let all : length list ≤ c.loop-i.i = omega (arith, c.loop-i-test.false) in
    let own = links_of c.args.names.now (contains same_node c.args.named.now) in
    let are = are_paths c.in_ok-links.links.items own c.inode_node.result (inode_node FIRST_FREE_OBJECTID) list c.in_ok-links.ensures c.inode_node.ensures read.links.once c.in_ok-paths.ensures in (
      map (made_row image ranges items list) list,
      rows_are image ranges items has_root root read.keeps own read.links list are,
      all_rows image ranges items list c.loop-i.i c.loop-i.rows all (c.loop-i.invariant image ranges items root has_root read),
    )
