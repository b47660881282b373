-- The size of a file is read back of its inode.
use Rattle.convert_core_laws.proofs.Imports.{◌≡◌, ◌<◌, ℕ, ◌^◌, Bool, true, List, ◌++◌, append_assoc, length, length-append, drop, Some, None, refl, sym, ap, ◌∙◌, arith, option_and_then, drop_at, bytes_of_inode as bytes_on, inode_bytes, inode_layout, inode_of, stamp_layout, Inode, Item, TreeItem, made_from, Source, inode_in, kind_in, ino_of, size_by, size_in, InodesAreThere, inode_long, has_bytes, Kind, Directory, File, Symlink, Character, Block, Fifo, Socket, Subvolume, ObjectKey, BytesAreKept, BytesAreRead}
use Rattle.std.proofs.Common.{if◌then◌else◌, eq-eqb}
use Rattle.byteorder.specs.Endian.{little_bytes, little_number}
use Rattle.byteorder.specs.Numbers.{little_number-reads_back}
use Rattle.convert_core_laws.proofs.Holding.{size_small}

third_number : (xs ys rest : List ℕ) (n : ℕ) → length xs ≡ 8 → length ys ≡ 8 → n < 256 ^ 8 → little_number 8 (drop 16 (xs ++ (ys ++ (little_bytes 8 n ++ rest)))) ≡ n
third_number xs ys rest n first second low =
    let both = length-append xs ys in
    ap (λ (l : List ℕ). little_number 8 (drop 16 l)) (sym (append_assoc xs ys (little_bytes 8 n ++ rest)))
    ∙ (ap (little_number 8) (drop_at (xs ++ ys) (little_bytes 8 n ++ rest) 16 (omega (arith, both, first, second))) ∙ little_number-reads_back 8 n rest low)

-- an inode as its bytes read
abbrev read_again : Inode → Inode
read_again i = inode_layout.read (inode_bytes i)

size_again : (i : Inode) → i.size < 2 ^ 64 → (read_again i).size ≡ i.size
unfolding inode_layout stamp_layout
size_again i low = third_number (little_bytes 8 i.generation) (little_bytes 8 i.transid) (drop 24 (inode_bytes i)) i.size refl refl (omega (arith, low))

inode_again : (i : Inode) → inode_of (inode_bytes i) ≡ Some (read_again i)
inode_again i = ap (λ (b : Bool). if b then Some (read_again i) else None) (eq-eqb (length (inode_bytes i)) 160 (inode_long i))

size_made : (s : Source) (key : ObjectKey) → has_bytes (kind_in s key) ≡ true → (inode_in s key).size ≡ size_in s key
unfolding inode_in
size_made s key has = by (kind_in s key) has
  where
    by : (kind : Kind) → has_bytes kind ≡ true → size_by s key kind ≡ size_in s key
    by File t = refl
    by Symlink t = refl
    by Directory t = absurd (cc)
    by Character t = absurd (cc)
    by Block t = absurd (cc)
    by Fifo t = absurd (cc)
    by Socket t = absurd (cc)
    by Subvolume t = absurd (cc)

pub bytes_read : InodesAreThere → BytesAreKept → BytesAreRead
bytes_read inodes kept volume image other o plan pieces ranges items key has hold maps read named kind =
    let s : Source = made_from volume image o pieces in
    let found = inodes volume image o plan pieces items key has read named in
    let i : Inode = inode_in s key in
    let made = size_made s key kind in
    let small = size_small image has.accepted key ((has.opened.are_keys.exact key).0 named) kind in
    let same : (read_again i).size ≡ size_in s key = size_again i (omega (arith, made, small)) ∙ made in
    record {
      own = read_again i;
      has = ap (option_and_then (λ (t : TreeItem). inode_of t.body)) found.1 ∙ (ap (λ (t : Item). inode_of t.1) found.2 ∙ inode_again i);
      size = same;
      bytes = ap (λ (n : ℕ). bytes_on other ranges items (ino_of s key) n) same ∙ kept volume image other o plan pieces ranges items key has hold maps read named kind;
    }
