-- Fields that are written one after the other: what stands in front of a place.
use Rattle.vol_block.proofs.Imports.{◌≡◌, ◌≤◌, ◌<◌, ℕ, zero, suc, ◌+◌, List, [], ◌∷◌, ◌++◌, length, take, ◌∙◌, refl, ap, sym, arith, append_assoc, length-append, length-take, get_or, add-one, take_at, append-nil, field_width, field_bytes, fields_width, fields_bytes}
use Rattle.vol_block.specs.declared.field.Field.{Field}

-- a list with n new elements from a place on, up to their end
pub front_of_new : (at n : ℕ) (bytes new rest : List ℕ) → length new ≡ n → at ≤ length bytes → take (at + n) (take at bytes ++ (new ++ rest)) ≡ take at bytes ++ new
front_of_new at n bytes new rest len le =
    let long : length (take at bytes ++ new) ≡ at + n = omega (arith, length-append (take at bytes) new, length-take at bytes) in
    ap (take (at + n)) (sym (append_assoc (take at bytes) new rest)) ∙ take_at (take at bytes ++ new) rest (at + n) long

-- a field that was written, and what stands in front of its end
pub front_of_field : (field same : Field) (at n : ℕ) (bytes new rest : List ℕ)
    → field ≡ same → new ≡ take at bytes ++ (field_bytes same ++ rest) → length (field_bytes same) ≡ n → at + field_width field ≤ length bytes
    → take (at + n) new ≡ take at bytes ++ field_bytes field
front_of_field field same at n bytes new rest is written len within =
    ap (take (at + n)) written ∙ front_of_new at n bytes (field_bytes same) rest len (omega arith)
    ∙ ap (λ (f : Field). take at bytes ++ field_bytes f) (sym is)

-- one field more
fields_bytes_suc : (xs : List Field) (i : ℕ) (d : Field) → i < length xs → fields_bytes (take (suc i) xs) ≡ fields_bytes (take i xs) ++ field_bytes (get_or xs i d)
fields_bytes_suc [] i d lt = absurd (omega arith)
fields_bytes_suc (x ∷ xs) zero d lt = append-nil (field_bytes x)
fields_bytes_suc (x ∷ xs) (suc i) d lt =
    ap (λ (z : List ℕ). field_bytes x ++ z) (fields_bytes_suc xs i d (omega arith)) ∙ sym (append_assoc (field_bytes x) (fields_bytes (take i xs)) (field_bytes (get_or xs i d)))

pub fields_bytes_more : (xs : List Field) (i : ℕ) (d : Field) → i < length xs → fields_bytes (take (i + 1) xs) ≡ fields_bytes (take i xs) ++ field_bytes (get_or xs i d)
fields_bytes_more xs i d lt = rw add-one (fields_bytes_suc xs i d lt)

fields_width_suc : (xs : List Field) (i : ℕ) (d : Field) → i < length xs → fields_width (take (suc i) xs) ≡ fields_width (take i xs) + field_width (get_or xs i d)
fields_width_suc [] i d lt = absurd (omega arith)
fields_width_suc (x ∷ xs) zero d lt = omega arith
fields_width_suc (x ∷ xs) (suc i) d lt = omega (arith, fields_width_suc xs i d (omega arith))

pub fields_width_more : (xs : List Field) (i : ℕ) (d : Field) → i < length xs → fields_width (take (i + 1) xs) ≡ fields_width (take i xs) + field_width (get_or xs i d)
fields_width_more xs i d lt = rw add-one (fields_width_suc xs i d lt)

-- the fields up to a place are no wider than all
pub fields_width_within : (xs : List Field) (i : ℕ) → fields_width (take i xs) ≤ fields_width xs
fields_width_within [] zero = omega arith
fields_width_within [] (suc i) = omega arith
fields_width_within (x ∷ xs) zero = omega arith
fields_width_within (x ∷ xs) (suc i) = omega (arith, fields_width_within xs i)

-- a field that is still to be written has room
pub room_for_field : (xs : List Field) (i : ℕ) (d : Field) → i < length xs → fields_width (take i xs) + field_width (get_or xs i d) ≤ fields_width xs
room_for_field xs i d lt = omega (arith, fields_width_more xs i d lt, fields_width_within xs (i + 1))
