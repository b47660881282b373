use Rattle.btr_check_names.proofs.Imports.{rules, ◌≡◌, ℕ, List, Some, get_or, arith, below_more, subst, ap, sym, ◌∙◌, length, slice_get, IndexEntry, NamesMet, NoneNamedBut}
use Rattle.btr_check_names.proofs.Finding.{all_once, stands_once, stands_twice}
use Rattle.btr_check_names.proofs.table.NameTable.repeated.Goals as goal

pub returns-then-is_some : goal.returns-then-is_some
returns-then-is_some c =
    let same = ap (λ (t : NamesMet). t.entries) c.self.view_is in
    let long = ap length same in
    stands_twice c.args.self.now.entries c.loop-i.i c.head-dir.result.dir c.name.result.now (omega arith)
    (subst (λ (es : List IndexEntry). (e : IndexEntry) → slice_get es c.loop-i.i ≡ Some e → c.head-dir.result.dir ≡ e.entry.dir) same c.head-dir.ensures.dir)
    (subst (λ (es : List IndexEntry). (e : IndexEntry) → slice_get es c.loop-i.i ≡ Some e → c.name.result.now ≡ e.entry.name) same c.name.ensures)
    c.find_but.result c.find_but.ensures (sym c.is_some.ensures ∙ c.if-is_some.true)

pub loop-i-preserved : goal.loop-i-preserved
loop-i-preserved c =
    let same = ap (λ (t : NamesMet). t.entries) c.self.view_is in
    let long = ap length same in
    below_more (λ k. (d : IndexEntry) → NoneNamedBut c.args.self.now.entries k (get_or c.args.self.now.entries k d).entry.dir (get_or c.args.self.now.entries k d).entry.name) c.loop-i.i c.loop-i.invariant
    (stands_once c.args.self.now.entries c.loop-i.i c.head-dir.result.dir c.name.result.now (omega arith)
    (subst (λ (es : List IndexEntry). (e : IndexEntry) → slice_get es c.loop-i.i ≡ Some e → c.head-dir.result.dir ≡ e.entry.dir) same c.head-dir.ensures.dir)
    (subst (λ (es : List IndexEntry). (e : IndexEntry) → slice_get es c.loop-i.i ≡ Some e → c.name.result.now ≡ e.entry.name) same c.name.ensures)
    c.find_but.result c.find_but.ensures (sym c.is_some.ensures ∙ c.if-is_some.false))

pub returns : goal.returns
returns c =
    let same = ap (λ (t : NamesMet). t.entries) c.self.view_is in
    let long = ap length same in
    all_once c.args.self.now.entries (λ k within d. c.loop-i.invariant k (omega arith) d)
