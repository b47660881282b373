use Rattle.fs_rows.proofs.Imports.{◌≡◌, ◌-◌, ◌∙◌, ℕ, List, min, take, length, sym, ap, subst, arith, inl, inr, take_min, length-take, cases_lt, Overlays}
use Rattle.fs_rows.proofs.Holding.{held_same}
use Rattle.fs_rows.proofs.file.FileBytes.put_bytes.Goals as goal

pub returns-then-count-gt0-clause-bytes : goal.returns-then-count-gt0-clause-bytes
returns-then-count-gt0-clause-bytes c = λ f g over low held.
    let many : c.count_below-count.result ≡ min (c.args.self.now.size - c.args.at) (length c.args.bytes.now) = omega (arith, c.count_below-count.ensures) in
    let same : take c.count_below-count.result c.args.bytes.now ≡ take (c.args.self.now.size - c.args.at) c.args.bytes.now =
    ap (λ (n : ℕ). take n c.args.bytes.now) many ∙ take_min (c.args.self.now.size - c.args.at) c.args.bytes.now in
    c.put_piece.ensures.bytes f g (subst (λ (b : List ℕ). Overlays c.args.at b f g) (sym same) over) low held

pub returns-else-count-gt0-clause-bytes : goal.returns-else-count-gt0-clause-bytes
returns-else-count-gt0-clause-bytes c = λ f g over low held.
    let none : length (take (c.args.self.now.size - c.args.at) c.args.bytes.now) ≡ 0 =
    length-take (c.args.self.now.size - c.args.at) c.args.bytes.now ∙ omega (arith, c.count_below-count.ensures, c.if-count-gt0.false) in
    held_same c.args.self.now f g (λ n. sym (
    elim (cases_lt n c.args.at) as (λ _. g n ≡ f n) [
      | inl h ↦ over.below n h
      | inr h ↦ over.above n (omega (arith, h, none))
    ])) held
