use Rattle.btr_reader.proofs.Imports.{◌≡◌, true, Some, None, sym, ◌∙◌, ap, arith, option_map, BadBtrfs, Body, file_extent_value, file_extent_of, Key, is_extent_key, is_extent_of}
use Rattle.btr_reader.proofs.NoLogs.{names_none, of_extent}
use Rattle.btr_reader.proofs.OneExtent.{item_refused, gathers_one}
use Rattle.btr_reader.proofs.gather.gather_item.Goals as goal

pub returns-in-None-clause-told : goal.returns-in-None-clause-told
returns-in-None-clause-told c = λ i given key body leaf k.
    let own : is_extent_of c.args.inode i ≡ true = ap (is_extent_key c.args.inode) key ∙ (sym c.is_extent_key.ensures ∙ c.if-not-is_extent_key.false) in
    let read : file_extent_of i.body ≡ None = ap file_extent_of body ∙ (sym c.read.ensures ∙ ap (option_map file_extent_value) c.in-None.is) in
    item_refused c.args.ranges.now c.args.inode given i None _ _ (BadBtrfs c.args.leaf Body) own read k.end k.covered (0, omega arith, ap (λ a. BadBtrfs a Body) leaf)

pub returns-in-Err-clause-told : goal.returns-in-Err-clause-told
returns-in-Err-clause-told c = λ i given key body leaf k.
    let own : is_extent_of c.args.inode i ≡ true = ap (is_extent_key c.args.inode) key ∙ (sym c.is_extent_key.ensures ∙ c.if-not-is_extent_key.false) in
    let read : file_extent_of i.body ≡ Some (file_extent_value c.in-Some.extent) = ap file_extent_of body ∙ (sym c.read.ensures ∙ ap (option_map file_extent_value) c.in-Some.is) in
    item_refused c.args.ranges.now c.args.inode given i (Some (file_extent_value c.in-Some.extent)) _ _ c.in-Err.refusal own read k.end k.covered
    (rw (ap (λ (x : Key). x.offset) key, leaf) c.in-Err.ensures.err)

pub returns-in-Err-clause-known : goal.returns-in-Err-clause-known
returns-in-Err-clause-known c =
    names_none c.in-Err.refusal
    (of_extent c.args.ranges.now c.args.g.now.reach.end c.args.g.now.reach.covered c.args.key.now.offset c.args.leaf (file_extent_value c.in-Some.extent) c.in-Err.refusal c.in-Err.ensures.err)

pub returns-clause-told : goal.returns-clause-told
returns-clause-told c = λ i given key body leaf k.
    let own : is_extent_of c.args.inode i ≡ true = ap (is_extent_key c.args.inode) key ∙ (sym c.is_extent_key.ensures ∙ c.if-not-is_extent_key.false) in
    let read : file_extent_of i.body ≡ Some (file_extent_value c.in-Some.extent) = ap file_extent_of body ∙ (sym c.read.ensures ∙ ap (option_map file_extent_value) c.in-Some.is) in
    let offset = ap (λ (x : Key). x.offset) key in
    gathers_one c.args.ranges.now c.args.inode given i c.args.g.now c.add_extent.new.g (file_extent_value c.in-Some.extent) own read k
    (rw (offset, leaf) c.in_default.ensures.ok)
    (rw offset c.in_ok-add_extent.ensures.end) c.in_ok-add_extent.ensures.covered c.in_ok-add_extent.ensures.inline (rw offset c.in_ok-add_extent.ensures.pieces)
