-- How a record lies in its bytes: its fields one after the other, each with its width. A layout is a table of fields,
-- and says both what bytes read as and how a value is written. All numbers are little-endian.
use Rattle.std.specs.Prelude.{◌≡◌, ℕ, ◌+◌, ◌^◌, ◌<◌, ◌==◌, ℤ, FitsSigned, List, [], ◌∷◌, ◌++◌, length, take, drop, replicate, slice_index, Option, Some, None, if◌then◌else◌}
use Rattle.std.specs.Int.{w64, cast_signed, cast_unsigned}
use Rattle.byteorder.specs.Endian.{little_number, little_bytes}

-- one field of an R, with values of type A
pub record LayoutField (R A : Type 0) : Type 1 where
  pub width : ℕ
  pub get : R → A
  -- its value in the bytes that begin with it
  pub read : List ℕ → A
  pub spell : A → List ℕ
  -- the values that have a spelling
  pub fits : A → Type 0

-- the first fields of an R; an F is what is left to do with the values of the others
pub record Layout (R F : Type 0) : Type 1 where
  pub width : ℕ
  pub read : List ℕ → F
  -- the bytes of these fields, before other bytes
  pub spell : R → List ℕ → List ℕ
  pub fits : R → Type 0

-- no field yet: what is made of the values of all fields
abbrev pub made_by : {R F : Type 0} → F → Layout R F
made_by make = record { width = 0; read = λ _. make; spell = λ _ rest. rest; fits = λ _. Unit {0} }

-- one field more
infixl 10 ◌▸◌
abbrev pub ◌▸◌ : {R A F : Type 0} → Layout R (A → F) → LayoutField R A → Layout R F
layout ▸ row = record {
  width = layout.width + row.width;
  read = λ bytes. layout.read bytes (row.read (drop layout.width bytes));
  spell = λ value rest. layout.spell value (row.spell (row.get value) ++ rest);
  fits = λ value. layout.fits value × row.fits (row.get value);
}

-- a byte
abbrev pub u8 : {R : Type 0} → (R → ℕ) → LayoutField R ℕ
u8 get = record { width = 1; get = get; read = λ bytes. slice_index bytes 0; spell = λ x. x ∷ []; fits = λ x. x < 256 }

-- a number of so many bytes
abbrev pub number : {R : Type 0} → ℕ → (R → ℕ) → LayoutField R ℕ
number n get = record { width = n; get = get; read = little_number n; spell = little_bytes n; fits = λ x. x < 256 ^ n }

abbrev pub u16 : {R : Type 0} → (R → ℕ) → LayoutField R ℕ
u16 get = number 2 get

abbrev pub u32 : {R : Type 0} → (R → ℕ) → LayoutField R ℕ
u32 get = number 4 get

abbrev pub u64 : {R : Type 0} → (R → ℕ) → LayoutField R ℕ
u64 get = number 8 get

-- a signed number of eight bytes, in two's complement
abbrev pub i64 : {R : Type 0} → (R → ℤ) → LayoutField R ℤ
i64 get = record {
  width = 8;
  get = get;
  read = λ bytes. cast_signed w64 (little_number 8 bytes);
  spell = λ z. little_bytes 8 (cast_unsigned w64 z);
  fits = FitsSigned w64;
}

-- so many bytes as they are
abbrev pub array : {R : Type 0} → ℕ → (R → List ℕ) → LayoutField R (List ℕ)
array n get = record { width = n; get = get; read = take n; spell = λ xs. xs; fits = λ xs. length xs ≡ n }

-- a record within the record
abbrev pub part : {R A : Type 0} → Layout A A → (R → A) → LayoutField R A
part layout get = record { width = layout.width; get = get; read = layout.read; spell = λ value. layout.spell value []; fits = layout.fits }

-- so many bytes that are written as zeros and not looked at
abbrev pub reserved : {R F : Type 0} → ℕ → Layout R F → Layout R F
reserved n layout = record {
  width = layout.width + n;
  read = layout.read;
  spell = λ value rest. layout.spell value (replicate n 0 ++ rest);
  fits = layout.fits;
}

-- what a body of n bytes reads as, where the record takes that many; None at any other length
abbrev pub whole : {R : Type 0} → ℕ → Layout R R → List ℕ → Option R
whole n layout body = if length body == n then Some (layout.read body) else None

-- the bytes of a record
abbrev pub spelling : {R : Type 0} → Layout R R → R → List ℕ
spelling layout value = layout.spell value []

-- the bytes of a record of n bytes read as it
abbrev pub ReadsBack : {R : Type 0} → ℕ → Layout R R → Type 0
ReadsBack {R} n layout = (value : R) → layout.fits value → whole n layout (spelling layout value) ≡ Some value
