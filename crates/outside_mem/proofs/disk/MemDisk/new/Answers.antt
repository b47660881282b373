use Rattle.outside_mem.proofs.Imports.{ℕ, List, length, ◌∙◌, ap, length-replicate, nat_cmp, is_at, lookup, Block, zeros, State, fresh, bytes_or, bytes_at}
use Rattle.outside_mem.proofs.Images.{image_zeros, length-image_of}
use Rattle.outside_mem.proofs.disk.MemDisk.new.Goals as goal

pub holding-requires : goal.holding-requires
holding-requires c = λ q below.
    ap (λ (es : List (ℕ × Block)). length (bytes_or zeros (lookup (is_at (nat_cmp q)) es))) c.new.ensures.empty ∙ length-replicate {A = ℕ} 4096 0

pub returns-clause-new : goal.returns-clause-new
returns-clause-new c =
    c.holding.ensures
    ∙ ap fresh (image_zeros c.args.blocks (bytes_at c.new.result) (λ q. ap (λ (es : List (ℕ × Block)). bytes_or zeros (lookup (is_at (nat_cmp q)) es)) c.new.ensures.empty))

pub returns-clause-size : goal.returns-clause-size
returns-clause-size c = ap (λ (s : State). length s.history.start) c.holding.ensures ∙ length-image_of c.args.blocks (bytes_at c.new.result)
