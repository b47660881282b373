-- Bytes of a record that belong to no field are passed over.
use Rattle.btr_super.proofs.Imports.{ℕ, List, [], ◌++◌, length, ap, sym, ◌∙◌, arith, append_assoc, length-append, append-nil, Layout, Reads}
use Rattle.btr_super.specs.Constant.{◌▸▸◌}

infixl 10 ◌▹▹◌
pub ◌▹▹◌ : {R F : Type 0} {layout : Layout R F} {built : R → F} → Reads layout built → (bytes : List ℕ) → Reads (layout ▸▸ bytes) built
◌▹▹◌ {layout = layout} l bytes = record {
  apart = λ v rest.
      l.apart v (bytes ++ rest)
      ∙ sym (append_assoc (layout.spell v []) bytes rest)
      ∙ ap (λ (z : List ℕ). z ++ rest) (ap (λ (z : List ℕ). layout.spell v [] ++ z) (sym (append-nil bytes)) ∙ sym (l.apart v (bytes ++ [])));
  len = λ v fits.
      ap length (l.apart v (bytes ++ []))
      ∙ length-append (layout.spell v []) (bytes ++ [])
      ∙ omega (arith, l.len v fits, ap (length {A = ℕ}) (append-nil bytes));
  back = λ v rest fits. l.back v (bytes ++ rest) fits;
}
