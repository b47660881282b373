use Rattle.fs_rows.proofs.Imports.{◌≡◌, ℕ, refl, sym, ap, ◌∙◌, arith, block_by}
use Rattle.fs_rows.proofs.Holding.{replaced}
use Rattle.fs_rows.proofs.file.FileBytes.put_block.Goals as goal

pub returns-clause-bytes : goal.returns-clause-bytes
returns-clause-bytes c = λ f g replaces low held.
    let at : c.go_to.new.self.next ≡ c.args.k = omega (arith, c.go_to.ensures.next, low) in
    let whole = c.cut.ensures f g c.args.k refl replaces in
    replaced c.go_to.new.self _ f g refl refl (λ n h. replaces.below n (omega (arith, h, at))) (λ n h. replaces.above n (omega (arith, h, at)))
    (whole ∙ ap (λ (k : ℕ). block_by g k) (sym at)) (c.go_to.ensures.same f held)
