-- What is written by a layout is read by it: for each kind of field, and from field to field.
use Rattle.btr_keys.proofs.Imports.{◌≡◌, ◌<◌, ◌^◌, ◌==◌, ℕ, ℤ, List, [], ◌++◌, length, drop, replicate, Some, true, Fits, refl, ap, sym, ◌∙◌, arith, append_assoc, length-append, eq-eqb, take_at, drop_at, append-nil, length-replicate, little_number-reads_back, length-bytes_low_first, LayoutField, Layout, made_by, ◌▸◌, u8, u16, u32, u64, number, i64, array, part, reserved, ReadsBack}
use Rattle.std.specs.Int.{w64, cast_signed, cast_unsigned}
use Rattle.std.proofs.Math.Facts.{to_z-of_z, Fits-of_z}

-- a field's spelling has its width, and reads as its value whatever stands behind it
pub record RowReads {R A : Type 0} (row : LayoutField R A) : Type 1 where
  pub len : (x : A) → row.fits x → length (row.spell x) ≡ row.width
  pub back : (x : A) (rest : List ℕ) → row.fits x → row.read (row.spell x ++ rest) ≡ x

-- the same of the first fields of a value, of which `built` makes what is left to do with the others
pub record Reads {R F : Type 0} (layout : Layout R F) (built : R → F) : Type 1 where
  pub apart : (v : R) (rest : List ℕ) → layout.spell v rest ≡ layout.spell v [] ++ rest
  pub len : (v : R) → layout.fits v → length (layout.spell v []) ≡ layout.width
  pub back : (v : R) (rest : List ℕ) → layout.fits v → layout.read (layout.spell v rest) ≡ built v

pub start : {R F : Type 0} (make : F) → Reads {R = R} {F = F} (made_by make) (λ _. make)
start make = record { apart = λ v rest. refl; len = λ v fits. refl; back = λ v rest fits. refl }

infixl 10 ◌▹◌
pub ◌▹◌ : {R A F : Type 0} {layout : Layout R (A → F)} {built : R → A → F} {row : LayoutField R A} → Reads layout built → RowReads row → Reads (layout ▸ row) (λ v. built v (row.get v))
◌▹◌ {layout = layout} {built = built} {row = row} l r = record {
  apart = λ v rest.
      l.apart v (row.spell (row.get v) ++ rest)
      ∙ sym (append_assoc (layout.spell v []) (row.spell (row.get v)) rest)
      ∙ ap (λ (z : List ℕ). z ++ rest) (ap (λ (z : List ℕ). layout.spell v [] ++ z) (sym (append-nil (row.spell (row.get v)))) ∙ sym (l.apart v (row.spell (row.get v) ++ [])));
  len = λ v fits.
      ap length (l.apart v (row.spell (row.get v) ++ []))
      ∙ length-append (layout.spell v []) (row.spell (row.get v) ++ [])
      ∙ omega (arith, l.len v fits.0, r.len (row.get v) fits.1, length-append (row.spell (row.get v)) []);
  back = λ v rest fits.
      let behind = row.spell (row.get v) ++ rest in
      let there : drop layout.width (layout.spell v behind) ≡ behind = ap (drop layout.width) (l.apart v behind) ∙ drop_at (layout.spell v []) behind layout.width (l.len v fits.0) in
      let value : row.read (drop layout.width (layout.spell v behind)) ≡ row.get v = ap row.read there ∙ r.back (row.get v) rest fits.1 in
      ap (λ f. f (row.read (drop layout.width (layout.spell v behind)))) (l.back v behind fits.0) ∙ ap (built v) value;
}

pub reads_back : {R : Type 0} {n : ℕ} {layout : Layout R R} → layout.width ≡ n → Reads layout (λ v. v) → ReadsBack n layout
reads_back {n = n} {layout = layout} width l v fits =
    let long : (length (layout.spell v []) == n) ≡ true = eq-eqb _ _ (l.len v fits ∙ width) in
    rw long (ap Some (l.back v [] fits))

pub skip : {R F : Type 0} {layout : Layout R F} {built : R → F} (n : ℕ) → Reads layout built → Reads (reserved n layout) built
skip {layout = layout} n l = record {
  apart = λ v rest.
      l.apart v (replicate n 0 ++ rest)
      ∙ sym (append_assoc (layout.spell v []) (replicate n 0) rest)
      ∙ ap (λ (z : List ℕ). z ++ rest) (ap (λ (z : List ℕ). layout.spell v [] ++ z) (sym (append-nil (replicate n 0))) ∙ sym (l.apart v (replicate n 0 ++ [])));
  len = λ v fits.
      ap length (l.apart v (replicate n 0 ++ []))
      ∙ length-append (layout.spell v []) (replicate n 0 ++ [])
      ∙ omega (arith, l.len v fits, ap (length {A = ℕ}) (append-nil (replicate n 0)), length-replicate {A = ℕ} n 0);
  back = λ v rest fits. l.back v (replicate n 0 ++ rest) fits;
}

pub u8_reads : {R : Type 0} {get : R → ℕ} → RowReads (u8 get)
u8_reads = record { len = λ x fits. refl; back = λ x rest fits. refl }

number_reads : {R : Type 0} (n : ℕ) (get : R → ℕ) → RowReads (number n get)
number_reads n get = record { len = λ x fits. length-bytes_low_first 0 n x; back = λ x rest fits. little_number-reads_back n x rest fits }

pub u16_reads : {R : Type 0} {get : R → ℕ} → RowReads (u16 get)
u16_reads {get = get} = number_reads 2 get

pub u32_reads : {R : Type 0} {get : R → ℕ} → RowReads (u32 get)
u32_reads {get = get} = number_reads 4 get

pub u64_reads : {R : Type 0} {get : R → ℕ} → RowReads (u64 get)
u64_reads {get = get} = number_reads 8 get

fits_below : (n : ℕ) → Fits w64 n → n < 256 ^ 8
fits_below n fits = omega (arith, fits)

pub i64_reads : {R : Type 0} {get : R → ℤ} → RowReads (i64 get)
i64_reads = record {
  len = λ x fits. length-bytes_low_first 0 8 (cast_unsigned w64 x);
  back = λ x rest fits. ap (cast_signed w64) (little_number-reads_back 8 (cast_unsigned w64 x) rest (fits_below (cast_unsigned w64 x) (Fits-of_z fits))) ∙ to_z-of_z fits;
}

pub array_reads : {R : Type 0} {n : ℕ} {get : R → List ℕ} → RowReads (array n get)
array_reads {n = n} = record { len = λ x fits. fits; back = λ x rest fits. take_at x rest n fits }

pub part_reads : {R A : Type 0} {layout : Layout A A} {get : R → A} → Reads layout (λ v. v) → RowReads (part layout get)
part_reads {layout = layout} l = record {
  len = l.len;
  back = λ x rest fits. ap layout.read (sym (l.apart x rest)) ∙ l.back x rest fits;
}
