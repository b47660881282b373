use Rattle.btr_reader.proofs.Imports.{◌≡◌, ◌==◌, ◌&&◌, Bool, true, false, List, Some, sym, ◌∙◌, ap, subst, arith, nat_tests, err_from_is_err_and, DIR_INDEX, FIRST_FREE_OBJECTID, BtrRefusal, Key, DirEntryValue, dir_entry_value, DirIndex, is_index, index_entry, naming_of, dir_indexes, HasSeen, is_root_directory, IsAmong}
use Rattle.std.proofs.Common.{option_map}
use Rattle.btr_reader.proofs.RootNames.{passed_over, right_entry, in_root, with_entry, refused_entry}
use Rattle.btr_reader.proofs.entries.seek_entry.Goals.{then-key-ne-DIR_INDEX-via-then-key-ne-DIR_INDEX, then-key-ne-DIR_INDEX-via-else-key-ne-DIR_INDEX+then-key-ne-FIRST_FREE_OBJECTID}
use Rattle.btr_reader.proofs.entries.seek_entry.Goals as goal

pub returns-then-key-ne-DIR_INDEX-clause-seen : goal.returns-then-key-ne-DIR_INDEX-clause-seen
returns-then-key-ne-DIR_INDEX-clause-seen c = λ i given key body leaf has.
    let k : Key = c.args.key.now in
    let other : ((k.kind == DIR_INDEX) && (k.objectid == FIRST_FREE_OBJECTID)) ≡ false = elim c.then-key-ne-DIR_INDEX.branch [
      | then-key-ne-DIR_INDEX-via-then-key-ne-DIR_INDEX w ↦ let kind : (k.kind == DIR_INDEX) ≡ false = grind (arith, nat_tests, w.if-key-ne-DIR_INDEX.true) in ap (λ (b : Bool). b && (k.objectid == FIRST_FREE_OBJECTID)) kind
      | then-key-ne-DIR_INDEX-via-else-key-ne-DIR_INDEX+then-key-ne-FIRST_FREE_OBJECTID w ↦
          let kind : (k.kind == DIR_INDEX) ≡ true = grind (arith, nat_tests, w.if-key-ne-DIR_INDEX.false) in
          let dir : (k.objectid == FIRST_FREE_OBJECTID) ≡ false = grind (arith, nat_tests, w.if-key-ne-FIRST_FREE_OBJECTID.true) in
          ap (λ (b : Bool). b && (k.objectid == FIRST_FREE_OBJECTID)) kind ∙ dir
    ] in
    passed_over c.args.seen.now given i (ap (λ (q : Key). (q.kind == DIR_INDEX) && (q.objectid == FIRST_FREE_OBJECTID)) key ∙ other) has

pub returns-in_err-see_entry-clause-err : goal.returns-in_err-see_entry-clause-err
returns-in_err-see_entry-clause-err c = λ i given key body leaf has.
    let k : Key = c.args.key.now in
    let e : DirEntryValue = dir_entry_value c.in-Some.entry in
    let n : DirIndex = c.in_ok-naming.naming in
    let kind : (k.kind == DIR_INDEX) ≡ true = grind (arith, nat_tests, c.if-key-ne-DIR_INDEX.false) in
    let dir : (k.objectid == FIRST_FREE_OBJECTID) ≡ true = grind (arith, nat_tests, c.if-key-ne-FIRST_FREE_OBJECTID.false) in
    let index : is_index i ≡ true = ap (λ (q : Key). q.kind == DIR_INDEX) key ∙ kind in
    let root : is_root_directory i.key.objectid ≡ true = ap (λ (q : Key). q.objectid == FIRST_FREE_OBJECTID) key ∙ dir in
    let is : index_entry i.body ≡ Some e = ap index_entry body ∙ (sym c.index_entry.ensures ∙ ap (option_map dir_entry_value) c.in-Some.is) in
    let naming : n ≡ naming_of i e = c.in_ok-naming.ensures i key leaf in
    let err = err_from_is_err_and c.from_residual-in_err-see_entry.result c.from_residual-in_err-see_entry.ensures.1 in
    rw err.1 (subst (λ (z : List BtrRefusal). IsAmong z err.0) (refused_entry i e index is root n naming given)
    (subst (IsAmong _) (sym err.2) (c.in_err-see_entry.ensures.err (dir_indexes given) (in_root i e index is root n naming) has)))

pub returns-clause-seen : goal.returns-clause-seen
returns-clause-seen c = λ i given key body leaf has.
    let k : Key = c.args.key.now in
    let e : DirEntryValue = dir_entry_value c.in-Some.entry in
    let n : DirIndex = c.in_ok-naming.naming in
    let kind : (k.kind == DIR_INDEX) ≡ true = grind (arith, nat_tests, c.if-key-ne-DIR_INDEX.false) in
    let dir : (k.objectid == FIRST_FREE_OBJECTID) ≡ true = grind (arith, nat_tests, c.if-key-ne-FIRST_FREE_OBJECTID.false) in
    let index : is_index i ≡ true = ap (λ (q : Key). q.kind == DIR_INDEX) key ∙ kind in
    let root : is_root_directory i.key.objectid ≡ true = ap (λ (q : Key). q.objectid == FIRST_FREE_OBJECTID) key ∙ dir in
    let is : index_entry i.body ≡ Some e = ap index_entry body ∙ (sym c.index_entry.ensures ∙ ap (option_map dir_entry_value) c.in-Some.is) in
    let naming : n ≡ naming_of i e = c.in_ok-naming.ensures i key leaf in
    subst (λ (ns : List DirIndex). HasSeen is_root_directory c.see_entry.new.seen ns) (with_entry i e index is root n naming given)
    (c.in_ok-see_entry.ensures.seen (dir_indexes given) (in_root i e index is root n naming) has)

pub returns-clause-ok : goal.returns-clause-ok
returns-clause-ok c = λ i key body leaf.
    let k : Key = c.args.key.now in
    let e : DirEntryValue = dir_entry_value c.in-Some.entry in
    let n : DirIndex = c.in_ok-naming.naming in
    let kind : (k.kind == DIR_INDEX) ≡ true = grind (arith, nat_tests, c.if-key-ne-DIR_INDEX.false) in
    let dir : (k.objectid == FIRST_FREE_OBJECTID) ≡ true = grind (arith, nat_tests, c.if-key-ne-FIRST_FREE_OBJECTID.false) in
    let index : is_index i ≡ true = ap (λ (q : Key). q.kind == DIR_INDEX) key ∙ kind in
    let root : is_root_directory i.key.objectid ≡ true = ap (λ (q : Key). q.objectid == FIRST_FREE_OBJECTID) key ∙ dir in
    let is : index_entry i.body ≡ Some e = ap index_entry body ∙ (sym c.index_entry.ensures ∙ ap (option_map dir_entry_value) c.in-Some.is) in
    right_entry i e index is root n (c.in_ok-naming.ensures i key leaf) c.in_ok-see_entry.ensures.ok
