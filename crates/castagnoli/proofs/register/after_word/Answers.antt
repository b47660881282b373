use Rattle.castagnoli.proofs.Imports.{◌≡◌, ℕ, ◌/◌, bit_xor, refl, sym, ◌∙◌}
use Rattle.castagnoli.proofs.Linear.{word_is}
use Rattle.castagnoli.proofs.register.after_word.Goals as goal

pub returns : goal.returns
returns c =
    (λ i.
    bit_xor (c.after_64.ensures i) (bit_xor (c.after_56.ensures i) (bit_xor (c.after_48.ensures i) (bit_xor (c.after_40.ensures i)
    (bit_xor (c.after_32.ensures i) (bit_xor (c.after_24.ensures i) (bit_xor (c.after_16.ensures i) (c.after_eight.ensures i))))))))
    ∙ sym (word_is c.args.word _ _ _ _ _ _ _ refl refl refl refl refl refl refl)
