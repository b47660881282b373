-- Numbers of inodes fit, and keys of different kinds differ.
use Rattle.convert_core_laws.proofs.Imports.{◌≡◌, ◌≢◌, ◌≤◌, ◌<◌, ◌+◌, ◌^◌, Bool, true, false, not, ◌&&◌, List, length, refl, arith, if◌then◌else◌, is_lt, nat_cmp, ordering_then, Ordering, Less, Equal, Greater, count_by-le-length, key_cmp, Key, ino_of_key, root, same_key, ObjectKey}
use Rattle.std.specs.List.{count_by}
use Rattle.reiser_volume.specs.reiser_volume_names.Links.{object_cmp}
use Rattle.convert_core_laws.proofs.soundness.Row.{differ}

-- numbers of inodes fit
pub inode_low : (all : List ObjectKey) (key : ObjectKey) → length all ≤ 2 ^ 37 → ino_of_key all key < 2 ^ 64
inode_low all key few = by (same_key key root)
  where
    by : (b : Bool) → (if b then 256 else 257 + count_by (λ k. is_lt (object_cmp k key) && not (same_key k root)) all) < 2 ^ 64
    by true = omega arith
    by false = let low = count_by-le-length (λ (k : ObjectKey). is_lt (object_cmp k key) && not (same_key k root)) all in omega (arith, low, few)

pub inode_range : (all : List ObjectKey) (key : ObjectKey) → length all ≤ 2 ^ 37 → (256 ≤ ino_of_key all key) × (ino_of_key all key ≤ 2 ^ 38)
inode_range all key few = by (same_key key root)
  where
    by : (b : Bool) → (256 ≤ (if b then 256 else 257 + count_by (λ k. is_lt (object_cmp k key) && not (same_key k root)) all)) × ((if b then 256 else 257 + count_by (λ k. is_lt (object_cmp k key) && not (same_key k root)) all) ≤ 2 ^ 38)
    by true = (omega arith, omega arith)
    by false = let low = count_by-le-length (λ (k : ObjectKey). is_lt (object_cmp k key) && not (same_key k root)) all in (omega arith, omega (arith, low, few))

-- ---- keys of different kinds

then_first : (o p : Ordering) → ordering_then o p ≡ Equal → o ≡ Equal
then_first Less p e = e
then_first Equal p e = refl
then_first Greater p e = e

then_second : (o p : Ordering) → ordering_then o p ≡ Equal → p ≡ Equal
then_second Less p e = absurd (cc e)
then_second Equal p e = e
then_second Greater p e = absurd (cc e)

pub kinds_apart : (a b : Key) → a.kind ≢ b.kind → key_cmp a b ≡ Equal → ⊥
kinds_apart a b apart e =
    let later : Ordering = nat_cmp a.offset b.offset in
    differ a.kind b.kind apart (then_first (nat_cmp a.kind b.kind) later (then_second (nat_cmp a.objectid b.objectid) (ordering_then (nat_cmp a.kind b.kind) later) e))
