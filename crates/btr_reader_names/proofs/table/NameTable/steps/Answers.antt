use Rattle.btr_reader_names.proofs.Imports.{◌<◌, ◌≤◌, ◌∙◌, ◌++◌, ◌∷◌, [], if◌then◌else◌, List, length, get_or, map, filter, sym, ap, arith, take_all, NodeLink, DirIndex, is_step, step_of}
use Rattle.btr_reader_names.proofs.Members.{map_kept}
use Rattle.btr_reader_names.proofs.table.NameTable.steps.Goals as goal

pub loop-naming-preserved : goal.loop-naming-preserved
loop-naming-preserved c =
    let all : List DirIndex = c.args.self.now.namings.items in
    let within : c.loop-naming.naming-index < length all = omega (arith, c.loop-naming-test.true, ap length c.deref-naming-items.ensures.value) in
    let at = c.naming-item.is ∙ ap (λ (l : List DirIndex). get_or l c.loop-naming.naming-index c.naming-item.result) c.deref-naming-items.ensures.value in
    c.in_ok-add_step.ensures
    ∙ (ap (λ (l : List NodeLink). l ++ (if is_step c.args.self.now c.naming-item.result then step_of c.naming-item.result ∷ [] else [])) c.loop-naming.invariant
    ∙ sym (map_kept step_of (is_step c.args.self.now) all c.loop-naming.naming-index c.naming-item.result within at))

pub returns : goal.returns
returns c =
    let all : List DirIndex = c.args.self.now.namings.items in
    let past : length all ≤ c.loop-naming.naming-index = omega (arith, c.loop-naming-test.false, ap length c.deref-naming-items.ensures.value) in
    c.loop-naming.invariant ∙ ap (λ (l : List DirIndex). map step_of (filter (is_step c.args.self.now) l)) (take_all c.loop-naming.naming-index all past)
