-- What the proofs of program_words import of std, of lower crates and of its specs.
pub use Rattle.std.proofs.Common.{Bool, List, [], ap, arith, codes, cond, false, nat_le, refl, subst, sym, true, ℕ, ◌++◌, ◌+◌, ◌<◌, ◌^◌, ◌∙◌, ◌∷◌, ◌≡◌}
pub use Rattle.command_answers.specs.outside.Fault.{Takes}
pub use Rattle.program_words.specs.Lines.{answer_line, btr_words, volume_words, words_to_end}
