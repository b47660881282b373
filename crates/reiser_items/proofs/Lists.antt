-- The lists that bodies are, by index.
use Rattle.reiser_items.proofs.Imports.{◌≡◌, ℕ, zero, suc, ◌+◌, ◌*◌, ◌/◌, ◌<◌, ◌≤◌, List, length, Some, slice_get, refl, ap, ◌∙◌, arith, entry_at, entries_from, entries}
use Rattle.reiser_node.specs.vol_block.Volume.{field}
use Rattle.reiser_items.specs.Pointers.{numbers_at, pointers}

numbers_length : (bytes : List ℕ) (at : ℕ) → (n : ℕ) → length (numbers_at bytes at n) ≡ n
numbers_length bytes at zero = refl
numbers_length bytes at (suc n) = ap suc (numbers_length bytes (at + 4) n)

number_at : (bytes : List ℕ) (at : ℕ) → (n i : ℕ) → i < n → slice_get (numbers_at bytes at n) i ≡ Some (field 4 bytes (at + 4 * i))
number_at bytes at zero i h = absurd (omega arith)
number_at bytes at (suc n) zero h = ap (λ (k : ℕ). Some (field 4 bytes k)) (omega arith)
number_at bytes at (suc n) (suc i) h = number_at bytes (at + 4) n i (omega arith) ∙ ap (λ (k : ℕ). Some (field 4 bytes k)) (omega arith)

pub pointers_length : (body : List ℕ) → length (pointers body) ≡ length body / 4
pointers_length body = numbers_length body 0 (length body / 4)

pub pointer_within : (body : List ℕ) (i : ℕ) → i < length (pointers body) → 4 * i + 4 ≤ length body
pointer_within body i h = omega (arith, h, pointers_length body)

pub pointer_at : (body : List ℕ) (i : ℕ) → i < length (pointers body) → slice_get (pointers body) i ≡ Some (field 4 body (4 * i))
pointer_at body i h = number_at body 0 (length body / 4) i (omega (arith, h, pointers_length body)) ∙ ap (λ (k : ℕ). Some (field 4 body k)) (omega arith)

entries_from_length : (body : List ℕ) (first : ℕ) → (n : ℕ) → length (entries_from body first n) ≡ n
entries_from_length body first zero = refl
entries_from_length body first (suc n) = ap suc (entries_from_length body (first + 1) n)

entry_from : (body : List ℕ) (first : ℕ) → (n i : ℕ) → i < n → slice_get (entries_from body first n) i ≡ Some (entry_at body (first + i))
entry_from body first zero i h = absurd (omega arith)
entry_from body first (suc n) zero h = ap (λ (k : ℕ). Some (entry_at body k)) (omega arith)
entry_from body first (suc n) (suc i) h = entry_from body (first + 1) n i (omega arith) ∙ ap (λ (k : ℕ). Some (entry_at body k)) (omega arith)

pub entries_length : (count : ℕ) (body : List ℕ) → length (entries count body) ≡ count
entries_length count body = entries_from_length body 0 count

pub entry_is : (count : ℕ) (body : List ℕ) (i : ℕ) → i < count → slice_get (entries count body) i ≡ Some (entry_at body i)
entry_is count body i h = entry_from body 0 count i h ∙ ap (λ (k : ℕ). Some (entry_at body k)) (omega arith)
