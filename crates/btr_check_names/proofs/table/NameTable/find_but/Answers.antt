use Rattle.btr_check_names.proofs.Imports.{◌≡◌, ◌≢◌, ℕ, filter, List, ap, sym, subst, arith, slice_index_or, take, rules, get_or, true, All, take_all, All-more, IsPermutation, has_hash, hashes_from, IndexEntry, IsNamedAt, NamesMet, NoneNamedBut, HashAt}
use Rattle.btr_check_names.proofs.Finding.{found, none_found, number_within, other}
use Rattle.btr_check_names.proofs.table.NameTable.find_but.Goals as goal
use Rattle.btr_check_names.proofs.table.NameTable.find_but.Goals.{else-i-but-via-then-i-but+else-has_name, else-i-but-via-else-i-but}

pub has_name-requires : goal.has_name-requires
has_name-requires c =
    let same = ap (λ (t : NamesMet). t.entries) c.self.view_is in
    number_within c.args.self.now.entries c.self.inside.index (subst (λ (es : List IndexEntry). IsPermutation (hashes_from 0 es) c.self.inside.index) same c.self.invariant.keyed)
    c.extref_hash.result c.under-k-items.result.now c.loop-k.k-index _ c.under-k-items.ensures c.loop-k-test.true

pub returns-then-has_name : goal.returns-then-has_name
returns-then-has_name c =
    let same = ap (λ (t : NamesMet). t.entries) c.self.view_is in (
      c.if-i-but.true,
      found c.args.self.now.entries c.args.dir c.args.name.now _ c.has_name.result
          (number_within c.args.self.now.entries c.self.inside.index (subst (λ (es : List IndexEntry). IsPermutation (hashes_from 0 es) c.self.inside.index) same c.self.invariant.keyed)
          c.extref_hash.result c.under-k-items.result.now c.loop-k.k-index _ c.under-k-items.ensures c.loop-k-test.true)
          c.has_name.ensures c.if-has_name.true,
    )

pub loop-k-preserved : goal.loop-k-preserved
loop-k-preserved c = All-more (λ (k : HashAt). k.number ≢ c.args.but → ¬ IsNamedAt c.args.self.now.entries c.args.dir c.args.name.now k.number) c.under-k-items.result.now c.loop-k.k-index _ c.loop-k-test.true c.loop-k.invariant
    (elim c.else-i-but.branch [
      | else-i-but-via-then-i-but+else-has_name w ↦ (λ apart. other c.args.self.now.entries c.args.dir c.args.name.now _ w.has_name.result w.has_name.ensures w.if-has_name.false)
      | else-i-but-via-else-i-but w ↦ (λ apart. absurd (apart w.if-i-but.false))
    ])

pub returns : goal.returns
returns c =
    let same = ap (λ (t : NamesMet). t.entries) c.self.view_is in
    let all = take_all c.loop-k.k-index c.under-k-items.result.now c.loop-k-test.false in
    none_found c.args.self.now.entries c.self.inside.index (subst (λ (es : List IndexEntry). IsPermutation (hashes_from 0 es) c.self.inside.index) same c.self.invariant.keyed)
    c.args.but c.args.dir c.args.name.now c.under-k-items.result.now (subst (λ (h : ℕ). c.under-k-items.result.now ≡ filter (has_hash h) c.self.inside.index) c.extref_hash.ensures c.under-k-items.ensures)
    (subst (All (λ (k : HashAt). k.number ≢ c.args.but → ¬ IsNamedAt c.args.self.now.entries c.args.dir c.args.name.now k.number)) all c.loop-k.invariant)
