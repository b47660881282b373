use Rattle.fs_rows.proofs.Imports.{ℕ, List, sym, subst, ◌∙◌, Marks}
use Rattle.fs_rows.proofs.Functions.{zero_block}
use Rattle.fs_rows.proofs.Messages.{no_blocks}
use Rattle.fs_rows.proofs.file.FileBytes.new.Goals as goal

pub returns-clause-none : goal.returns-clause-none
returns-clause-none c = λ f none.
    record {
      done = subst (λ (bs : List (ℕ × List ℕ)). Marks c.new.result bs) (sym (no_blocks f)) c.new.ensures;
      in_hand = c.zero.ensures ∙ zero_block f 0 (λ n from to. none n);
      rest = λ n from. none n;
    }
