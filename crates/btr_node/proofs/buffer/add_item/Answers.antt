use Rattle.btr_node.proofs.Imports.{◌≡◌, ℕ, ◌-◌, ◌++◌, ◌∷◌, [], List, length, take, drop, sym, ap, ◌∙◌, arith, length-drop, HEADER_SIZE, contents, behind_head}
use Rattle.btr_node.proofs.Refilled.{behind_of, written_behind}
use Rattle.btr_node.proofs.buffer.add_item.Goals as goal

pub returns-clause-item : goal.returns-clause-item
returns-clause-item c = λ items counted placed is.
    let s : List ℕ = c.as_mut_slice-bytes.result.now in
    let old : List ℕ = c.args.buffer.now.items in
    let behind : take (length s - HEADER_SIZE) (drop HEADER_SIZE s) ≡ behind_head old = behind_of s old c.as_mut_slice-bytes.ensures.value in
    let size : length (take (length s - HEADER_SIZE) (drop HEADER_SIZE s)) ≡ length old - HEADER_SIZE = ap length behind ∙ length-drop HEADER_SIZE old in
    written_behind s old c.put_item.new.behind c.args.buffer.now.len c.as_mut_slice-bytes.ensures.value c.as_mut_slice-bytes.ensures.len
    (omega (arith, c.requires.placed, ap length c.as_mut_slice-bytes.ensures.value)) c.put_item.auto.behind
    ∙ c.put_item.ensures items counted (omega (arith, size, placed)) (behind ∙ is ∙ ap (λ n. contents n items []) (sym size))
    ∙ ap (λ n. contents n (items ++ (c.args.key, c.args.body.now) ∷ []) []) size
