use Rattle.castagnoli.proofs.Imports.{◌≡◌, ◌+◌, ◌≤◌, length, ◌∙◌, arith}
use Rattle.castagnoli.proofs.Linear.{word_comes}
use Rattle.castagnoli.proofs.register.raw_crc.Goals as goal

pub words-preserved : goal.words-preserved
words-preserved c =
    let fits : c.words.at + 8 ≤ length c.args.bytes.now = omega arith in
    record {
      inside = fits;
      register = c.after_word-register.ensures ∙ word_comes c.args.start c.words.at c.from.result c.u64_at.result c.args.bytes.now fits (λ k _. omega (arith, c.type_inv.bytes k)) c.u64_at.ensures (c.from.ensures ∙ c.words.invariant.register);
    }
