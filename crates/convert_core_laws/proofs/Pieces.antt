-- The bytes that the extents of pieces give.
use Rattle.convert_core_laws.proofs.Imports.{◌≡◌, ◌≤◌, ◌<◌, ℕ, ◌+◌, ◌-◌, ◌*◌, ◌/◌, ◌%◌, ◌^◌, ◌==◌, Bool, true, false, cond, List, [], ◌∷◌, filter, get_or, Option, Some, refl, sym, ap, subst, ◌∙◌, ⊎_elim, arith, Contains, AllByRecursion, nat_tests, from_filter, in_filter, Image, block_at, byte_of_place, content_byte, covers, FileExtentValue, place, MapRange, extents_at, file_block, is_owned_by, pieces_of, regular_extent, ascending_all, ascending_filter, contains_cases, contains_head, contains_tail, Piece}
use Rattle.std.proofs.Common.{if◌then◌else◌}
use Rattle.convert_core_laws.proofs.ByteReading.{byte_by, item_byte, regular_read}

-- the numbers of an extent fit
pub record Fits (p : Piece) : Type 0 where
  pub low : 4096 * p.place < 2 ^ 64
  pub few : 4096 * p.count < 2 ^ 64

-- byte k of the file lies in the piece
abbrev pub covers_byte : Piece → ℕ → Bool
covers_byte p k = covers (4096 * file_block p) (regular_extent p.place p.count).content k

abbrev pub piece_byte : Image → List MapRange → Piece → ℕ → ℕ
piece_byte other ranges p k = content_byte other ranges (regular_extent p.place p.count).content (k - 4096 * file_block p)

module _ (other : Image) (ranges : List MapRange) (ino k byte : ℕ) where
  -- A byte that each piece gives in which it lies, and that is 0 where it lies in none.
  pub read_pieces : (ps : List Piece) → AllByRecursion Fits ps → AllByRecursion (λ p. covers_byte p k ≡ true → piece_byte other ranges p k ≡ byte) ps
      → (AllByRecursion (λ p. covers_byte p k ≡ false) ps → byte ≡ 0) → item_byte other ranges (extents_at ino file_block ps) k ≡ byte
  read_pieces [] fit gives none = sym (none tt)
  read_pieces (p ∷ ps) fit gives none =
      ap (λ (e : Option FileExtentValue). byte_by other ranges (4096 * file_block p) e k (item_byte other ranges (extents_at ino file_block ps) k)) (regular_read p.place p.count fit.0.low fit.0.few)
      ∙ by (λ is. read_pieces ps fit.1 gives.1 (λ rest. none (is, rest))) (covers_byte p k) refl
    where
      by : (covers_byte p k ≡ false → item_byte other ranges (extents_at ino file_block ps) k ≡ byte)
          → (b : Bool) → covers_byte p k ≡ b → (if b then piece_byte other ranges p k else item_byte other ranges (extents_at ino file_block ps) k) ≡ byte
      by later true is = gives.0 is
      by later false is = later is

-- ---- the pieces of an inode

self : (n : ℕ) → (n == n) ≡ true
self n = grind (arith, nat_tests)

all_kept : {A : Type 0} (P : A → Type 0) (p : A → Bool) (xs : List A) → ((x : A) → Contains xs x → p x ≡ true → P x) → AllByRecursion P (filter p xs)
all_kept P p [] each = tt
all_kept {A} P p (x ∷ xs) each = by (p x) refl (all_kept P p xs (λ y h is. each y (contains_tail y x xs h) is))
  where
    by : (b : Bool) → p x ≡ b → AllByRecursion P (filter p xs) → AllByRecursion P (cond b (x ∷ filter p xs) (filter p xs))
    by true is rest = (each x (contains_head x xs) is, rest)
    by false is rest = rest

pub all_of_inode : (P : Piece → Type 0) (pieces : List Piece) (ino : ℕ) → ((p : Piece) → Contains pieces p → is_owned_by ino p ≡ true → P p) → AllByRecursion P (pieces_of pieces ino)
all_of_inode P pieces ino each = ascending_all file_block P (filter (is_owned_by ino) pieces) (all_kept P (is_owned_by ino) pieces each)

each_at : {A : Type 0} (P : A → Type 0) (xs : List A) (x : A) → AllByRecursion P xs → Contains xs x → P x
each_at P [] x all h = absurd (omega (arith, h.1))
each_at P (y ∷ ys) x all h = ⊎_elim (λ (same : y ≡ x). subst P same all.0) (λ (later : Contains ys x). each_at P ys x all.1 later) (contains_cases x y ys h)

pub one_of_inode : (P : Piece → Type 0) (pieces : List Piece) (ino : ℕ) (p : Piece) → AllByRecursion P (pieces_of pieces ino) → Contains pieces p → is_owned_by ino p ≡ true → P p
one_of_inode P pieces ino p all h is =
    let owned : List Piece = filter (is_owned_by ino) pieces in
    let same : Piece → Bool = λ q. file_block q == file_block p in
    let there : Contains (filter same owned) p = in_filter same owned p (in_filter (is_owned_by ino) pieces p h is) (self (file_block p)) in
    each_at P (pieces_of pieces ino) p all (from_filter same (pieces_of pieces ino) p (subst (λ (l : List Piece). Contains l p) (sym (ascending_filter file_block (file_block p) owned)) there)).0

-- ---- a byte of a piece by its place

pub placed_byte : (other : Image) (ranges : List MapRange) (p : Piece) (n : ℕ) → 256 ≤ p.place → 4096 * file_block p ≤ n → n < 4096 * (file_block p + p.count)
    → ((a : ℕ) → 4096 * p.place ≤ a → a < 4096 * (p.place + p.count) → place ranges a ≡ Some a)
    → piece_byte other ranges p n ≡ get_or (block_at other (p.place + (n / 4096 - file_block p))) (n % 4096) 0
placed_byte other ranges p n high from to mapped =
    let a : ℕ = 4096 * p.place + 0 + (n - 4096 * file_block p) in
    let at : place ranges a ≡ Some a = mapped a (omega arith) (omega (arith, from, to)) in
    let block : a / 4096 ≡ p.place + (n / 4096 - file_block p) = omega (arith, from) in
    let rest : a % 4096 ≡ n % 4096 = omega (arith, from) in
    ap (λ (b : Bool). if b then 0 else byte_of_place other (place ranges a)) (not_zero (4096 * p.place) (omega (arith, high)))
    ∙ (ap (byte_of_place other) at ∙ (ap (λ (b : ℕ). get_or (block_at other b) (a % 4096) 0) block ∙ ap (λ (j : ℕ). get_or (block_at other (p.place + (n / 4096 - file_block p))) j 0) rest))
  where
    not_zero : (n : ℕ) → 0 < n → (n == 0) ≡ false
    not_zero n some = grind (arith, nat_tests)
