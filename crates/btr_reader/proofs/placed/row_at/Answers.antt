use Rattle.btr_reader.proofs.Imports.{◌≡◌, ◌==◌, ◌∙◌, false, sym, ap, arith, nat_tests, row_of}
use Rattle.btr_reader.proofs.RowMade.{tree_is, inode_there, kind_there, not_longer, target_wanted, least_is, row_made}
use Rattle.btr_reader.proofs.placed.row_at.Goals as goal

pub returns-then-path-ne0-clause-row : goal.returns-then-path-ne0-clause-row
returns-then-path-ne0-clause-row c = λ named image ranges items root has_root is_read list are i at before.
    let p = c.args.path.now in
    let other : (p.target.space == 0) ≡ false = grind (arith, nat_tests, c.if-path-ne0.true) in
    c.in_ok-row.ensures ∙ ap row_of (sym (tree_is image ranges items list p other))

pub returns-in_default-clause-row : goal.returns-in_default-clause-row
returns-in_default-clause-row c = λ named image ranges items root has_root is_read list are i at before.
    let p = c.args.path.now in
    let space : p.target.space ≡ 0 = omega (arith, c.if-path-ne0.false) in
    absurd (inode_there c.args.names.now named _ image ranges items root has_root is_read list are i p at space (sym (c.in_default.ensures items is_read.noted)))

pub returns-in_default-kind_of_mode-clause-row : goal.returns-in_default-kind_of_mode-clause-row
returns-in_default-kind_of_mode-clause-row c = λ named image ranges items root has_root is_read list are i at before.
    let p = c.args.path.now in
    let space : p.target.space ≡ 0 = omega (arith, c.if-path-ne0.false) in
    let there = sym (c.in-Some.ensures items is_read.noted) in
    absurd (kind_there c.args.names.now named _ image ranges items root has_root is_read list are i p at c.in-Some.own space there (sym c.in_default-kind_of_mode.ensures))

pub returns-clause-row : goal.returns-clause-row
returns-clause-row c = λ named image ranges items root has_root is_read list are i at before.
    let names = c.args.names.now in
    let p = c.args.path.now in
    let own = c.in-Some.own in
    let kind = c.in-Some-kind_of_mode.kind in
    let space : p.target.space ≡ 0 = omega (arith, c.if-path-ne0.false) in
    let there = sym (c.in-Some.ensures items is_read.noted) in
    let known = sym c.in-Some-kind_of_mode.ensures in
    let wanted = target_wanted names named _ image ranges items root has_root is_read list are i p at own space there in
    let short = not_longer names named _ image ranges items root has_root is_read list are i p at own kind space there known in
    let content = c.in_ok-content.ensures kind _ image ranges items is_read.contents wanted known short in
    let spot = c.in_ok-spot.ensures in
    let least = least_is names named _ image ranges items root has_root is_read list are i p at c.args.rows.now before _ spot.earlier spot.first in
    row_made names named _ image ranges items root has_root is_read list are i p at c.args.rows.now before own kind _ _ _ c.inode_row.result space there known spot.path least spot.names (c.inode_row.ensures _ content)
