-- Paths whose names stand in parts of 64.
use Rattle.fs_rows.proofs.Imports.{◌≡◌, ℕ, ◌+◌, ◌-◌, ◌*◌, ◌/◌, ◌%◌, ◌<◌, ◌≤◌, List, [], ◌∷◌, ◌++◌, length, get_or, slice_get, Some, take, All, refl, sym, ap, subst, ◌∙◌, arith, append-nil, length-append, length-take, get_or_append_left, get_or-append-add, flat_map-append, get_or-flat_map, slice_get-get_or}
use Rattle.std.proofs.Common.{flat_map}
use Rattle.std.proofs.lemmas.List.{append_assoc}
use Rattle.std.proofs.lemmas.List.Elements.{All-take, All-head, All-tail, All-get_or}
use Rattle.fs_rows.specs.Parts.{names_in, joined_parts, IsCut}

abbrev Names : Type 0
Names = List (List ℕ)

pub names_count : (parts : List Names) → All (λ part. length part ≡ 64) parts → length (names_in parts) ≡ 64 * length parts
names_count [] whole = refl
names_count (part ∷ parts) whole =
    let long = length-append part (names_in parts) in
    let first = All-head (λ (p : Names). length p ≡ 64) part parts whole in
    let others = names_count parts (All-tail (λ (p : Names). length p ≡ 64) part parts whole) in
    omega (arith, long, first, others)

pub all_count : (parts : List Names) (rest : Names) → IsCut parts rest → length (joined_parts parts rest) ≡ 64 * length parts + length rest
all_count parts rest cut =
    let long = length-append (names_in parts) rest in
    let count = names_count parts cut.whole in
    omega (arith, long, count)

-- name i stands in part i / 64
pub name_in_part : (parts : List Names) (rest : Names) (i : ℕ) (part : Names) (name : List ℕ) → IsCut parts rest → i / 64 < length parts
    → part ≡ get_or parts (i / 64) part → name ≡ get_or part (i % 64) name → slice_get (joined_parts parts rest) i ≡ Some name
name_in_part parts rest i part name cut within at_part at_name =
    let long : length (get_or parts (i / 64) part) ≡ 64 = All-get_or (λ (p : Names). length p ≡ 64) parts (i / 64) part within cut.whole in
    let before : length (names_in (take (i / 64) parts)) ≡ 64 * length (take (i / 64) parts) =
    names_count (take (i / 64) parts) (All-take (λ (p : Names). length p ≡ 64) (i / 64) parts cut.whole) in
    let taken = length-take (i / 64) parts in
    let count = names_count parts cut.whole in
    let all = length-append (names_in parts) rest in
    let place : i ≡ length (names_in (take (i / 64) parts)) + i % 64 = omega (arith, before, taken, within) in
    let found = get_or-flat_map (λ (p : Names). p) parts (i / 64) (i % 64) part name within (omega (arith, long)) in
    slice_get-get_or (joined_parts parts rest) i name (omega (arith, count, all, within))
    ∙ ap (λ (n : List ℕ). Some n)
    (get_or_append_left (names_in parts) rest name i (omega (arith, count, within))
    ∙ (ap (λ (k : ℕ). get_or (names_in parts) k name) place
    ∙ (found
    ∙ (ap (λ (p : Names). get_or p (i % 64) name) (sym at_part) ∙ sym at_name))))

-- name i stands behind the parts
pub name_in_rest : (parts : List Names) (rest : Names) (i : ℕ) (name : List ℕ) → IsCut parts rest → length parts ≤ i / 64
    → i < length (joined_parts parts rest) → name ≡ get_or rest (i - 64 * length parts) name → slice_get (joined_parts parts rest) i ≡ Some name
name_in_rest parts rest i name cut behind within at =
    let count = names_count parts cut.whole in
    let place : i ≡ length (names_in parts) + (i - 64 * length parts) = omega (arith, count, behind) in
    slice_get-get_or (joined_parts parts rest) i name within
    ∙ ap (λ (n : List ℕ). Some n)
    (ap (λ (k : ℕ). get_or (joined_parts parts rest) k name) place
    ∙ (get_or-append-add (names_in parts) rest (i - 64 * length parts) name ∙ sym at))

-- The same of a path p, as `Path` reads it.
module _ (parts shown : List Names) (rest p : Names) (is : joined_parts parts rest ≡ p) (cut : IsCut parts rest) (seen : shown ≡ parts) where
  pub found_in_part : (i : ℕ) (part list : Names) (name : List ℕ) → list ≡ part → i / 64 < length shown → part ≡ get_or shown (i / 64) part
      → name ≡ get_or list (i % 64) name → slice_get p i ≡ Some name
  found_in_part i part list name same within at_part at_name =
      ap (λ (q : Names). slice_get q i) (sym is)
      ∙ name_in_part parts rest i part name cut (subst (λ (l : List Names). i / 64 < length l) seen within)
      (at_part ∙ ap (λ (l : List Names). get_or l (i / 64) part) seen) (at_name ∙ ap (λ (l : Names). get_or l (i % 64) name) same)

  pub found_in_rest : (i : ℕ) (tail : Names) (name : List ℕ) → tail ≡ rest → length shown ≤ i / 64 → i < length p
      → name ≡ get_or tail (i - length shown * 64) name → slice_get p i ≡ Some name
  found_in_rest i tail name same behind within at =
      let place : i - length shown * 64 ≡ i - 64 * length parts = omega (arith, ap length seen) in
      ap (λ (q : Names). slice_get q i) (sym is)
      ∙ name_in_rest parts rest i name cut (subst (λ (l : List Names). length l ≤ i / 64) seen behind)
      (subst (λ (q : Names). i < length q) (sym is) within)
      (at ∙ (ap (λ (l : Names). get_or l (i - length shown * 64) name) same ∙ ap (λ (k : ℕ). get_or rest k name) place))

  pub path_count : length p ≡ 64 * length shown + length rest
  path_count = omega (arith, all_count parts rest cut, ap length is, ap length seen)
