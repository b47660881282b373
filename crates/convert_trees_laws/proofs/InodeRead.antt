-- What is read of an inode that was written: each field that fits.
use Rattle.convert_trees_laws.proofs.Imports.{◌≡◌, ◌<◌, ◌^◌, Bool, length, Option, Some, None, ap, arith, if◌then◌else◌, inode_bytes, inode_layout, inode_of, stamp_layout, Inode}
use Rattle.std.proofs.Common.{eq-eqb}
use Rattle.convert_trees_laws.proofs.Short.{inode_long}

-- the inode that is read of another one's bytes
pub record IsReadOf (i : Inode) : Type 0 where
  pub own : Inode
  pub read : inode_of (inode_bytes i) ≡ Some own
  pub mode : i.mode < 2 ^ 32 → own.mode ≡ i.mode
  pub size : i.size < 2 ^ 64 → own.size ≡ i.size

read_mode : (i : Inode) → i.mode < 2 ^ 32 → (inode_layout.read (inode_bytes i)).mode ≡ i.mode
unfolding inode_layout stamp_layout
read_mode i low = omega (arith, low)

read_size : (i : Inode) → i.size < 2 ^ 64 → (inode_layout.read (inode_bytes i)).size ≡ i.size
unfolding inode_layout stamp_layout
read_size i low = omega (arith, low)

pub inode_read : (i : Inode) → IsReadOf i
inode_read i = record {
  own = inode_layout.read (inode_bytes i);
  read = ap (λ (b : Bool). if b then (let r : Option Inode = Some (inode_layout.read (inode_bytes i)) in r) else None) (eq-eqb (length (inode_bytes i)) 160 (inode_long i));
  mode = read_mode i;
  size = read_size i;
}
