use Rattle.outside_mem.proofs.Imports.{ℕ, List, is_some, ap, nat_cmp, is_at, lookup, Block, calls_of, bytes_or, bytes_at, undone_at, has_key}
use Rattle.outside_mem.proofs.Images.{blank_holds, present_whole}
use Rattle.outside_mem.proofs.disk.MemDisk.settle.Goals as goal

pub invariant_of-self : goal.invariant_of-self
invariant_of-self c =
    blank_holds c.self.inside.count (bytes_at c.self.inside.present) (undone_at c.clear.new.self c.self.inside.present) (undone_at c.clear-2.new.self c.self.inside.present) (has_key c.clear-2.new.self) c.clear-3.new.self.items
    (λ q. ap (λ (es : List (ℕ × Block)). bytes_or (bytes_at c.self.inside.present q) (lookup (is_at (nat_cmp q)) es)) c.clear.ensures.empty)
    (λ q. ap (λ (es : List (ℕ × Block)). bytes_or (bytes_at c.self.inside.present q) (lookup (is_at (nat_cmp q)) es)) c.clear-2.ensures.empty)
    (λ q. ap (λ (es : List (ℕ × Block)). is_some (lookup (is_at (nat_cmp q)) es)) c.clear-2.ensures.empty)
    c.clear-3.ensures.items
    (present_whole c.self.inside.count (bytes_at c.self.inside.present) (undone_at c.self.inside.first c.self.inside.present) (undone_at c.self.inside.unsynced c.self.inside.present) (has_key c.self.inside.unsynced)
    (calls_of c.self.inside.calls.items) c.self.invariant)
