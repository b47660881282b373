use Rattle.outside_mem.proofs.Imports.{◌≡◌, ℕ, List, None, is_some, ap, nat_cmp, is_at, lookup, Block, calls_of, bytes_or, bytes_at, undone_at, image_of}
use Rattle.outside_mem.proofs.Images.{image_same, blank_holds}
use Rattle.outside_mem.proofs.disk.MemDisk.holding.Goals as goal

pub invariant_of-result : goal.invariant_of-result
invariant_of-result c =
    blank_holds c.args.blocks (bytes_at c.args.present) (undone_at c.new.result c.args.present) (undone_at c.new-2.result c.args.present) _ c.new-3.result.items
    (λ q. ap (λ (es : List (ℕ × Block)). bytes_or (bytes_at c.args.present q) (lookup (is_at (nat_cmp q)) es)) c.new.ensures.empty)
    (λ q. ap (λ (es : List (ℕ × Block)). bytes_or (bytes_at c.args.present q) (lookup (is_at (nat_cmp q)) es)) c.new-2.ensures.empty)
    (λ q. ap (λ (es : List (ℕ × Block)). is_some (lookup (is_at (nat_cmp q)) es)) c.new-2.ensures.empty)
    c.new-3.ensures.items c.requires

pub returns : goal.returns
returns c =
    let start_is : image_of c.args.blocks (undone_at c.new.result c.args.present) ≡ image_of c.args.blocks (bytes_at c.args.present) =
    image_same c.args.blocks (undone_at c.new.result c.args.present) (bytes_at c.args.present)
    (λ q. ap (λ (es : List (ℕ × Block)). bytes_or (bytes_at c.args.present q) (lookup (is_at (nat_cmp q)) es)) c.new.ensures.empty) in
    λ i. record {
      history = record { start = start_is i; calls = calls_of (c.new-3.ensures.items i) };
      opened = None;
      failures = c.new-4.ensures i;
      faults = 0;
      refused = 0;
      writes = 0;
      reads_made = 0;
    }
