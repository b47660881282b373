-- Words that `parse` reads as numbers.
use Rattle.program_words.proofs.Imports.{◌≡◌, ℕ, ◌+◌, ◌^◌, ◌<◌, Bool, true, false, cond, List, [], ◌∷◌, refl, sym, ◌∙◌, ap, subst, arith, nat_le}
use Rattle.std.specs.Prelude.{Some, None, drop}
use Rattle.std.specs.Char.{digit_value, is_ascii_digit}
use Rattle.std.specs.Int.{IsInRange}
use Rattle.std.specs.Str.Parse.{AllDigits, IsNumeral, digits_value, without_leading_plus}
use Rattle.std.proofs.lemmas.Str.Parse.{digit_from_value}
use Rattle.std.proofs.lemmas.Str.{digit_value_digit}
use Rattle.program_words.specs.Words.{all_digits, is_numeral, at_most, number_of, begins_with_plus}

no_plus : (word : List ℕ) → begins_with_plus word ≡ false → without_leading_plus word ≡ word
no_plus [] is = refl
no_plus (c ∷ cs) is = ap (λ (b : Bool). drop (cond b 1 0) (c ∷ cs)) is

to_digits : (ds : List ℕ) → all_digits ds ≡ true → AllDigits 10 ds
to_digits [] is = tt
to_digits (c ∷ cs) is =
    let digit : is_ascii_digit c ≡ true = grind (arith, is) in
    let more : all_digits cs ≡ true = grind (arith, is) in
    let range : IsInRange 48 57 c = grind (arith, digit) in
    let value : digit_value c + 48 ≡ c = digit_value_digit c range in
    (omega (arith, value, range), to_digits cs more)

from_digits : (ds : List ℕ) → AllDigits 10 ds → all_digits ds ≡ true
from_digits [] is = refl
from_digits (c ∷ cs) is =
    let digit = digit_from_value c is.0 in
    let more : all_digits cs ≡ true = from_digits cs is.1 in
    grind (arith, digit, more)

to_numeral : (ds : List ℕ) → is_numeral ds ≡ true → IsNumeral 10 ds
to_numeral [] is = absurd (let never : Unit {0} ≡ ⊥ = cc in subst (λ (T : Type 0). T) never tt)
to_numeral (c ∷ cs) is = (omega arith, to_digits (c ∷ cs) is)

from_numeral : (ds : List ℕ) → IsNumeral 10 ds → is_numeral ds ≡ true
from_numeral [] is = absurd (omega (arith, is.0))
from_numeral (c ∷ cs) is = from_digits (c ∷ cs) is.1

-- what was read is the number of the word
pub read_is : (most : ℕ) (word : List ℕ) (n : ℕ) → begins_with_plus word ≡ false → IsNumeral 10 (without_leading_plus word) → n ≡ digits_value 10 (without_leading_plus word) → at_most most n ≡ number_of most word
read_is most word n plain numeral is =
    let same = no_plus word plain in
    let test : is_numeral word ≡ true = from_numeral word (subst (λ (w : List ℕ). IsNumeral 10 w) same numeral) in
    let value : n ≡ digits_value 10 word = is ∙ ap (λ (w : List ℕ). digits_value 10 w) same in
    ap (λ (m : ℕ). at_most most m) value ∙ sym (ap (λ (b : Bool). cond b (at_most most (digits_value 10 word)) None) test)

too_large : (most n : ℕ) → most < n → None ≡ at_most most n
too_large most n large = let above : nat_le n most ≡ false = grind (arith, large) in sym (ap (λ (b : Bool). cond b (Some n) None) above)

unread : (most : ℕ) (word : List ℕ) (numeral : Bool) → is_numeral word ≡ numeral → most < 2 ^ 64 → (IsNumeral 10 word → digits_value 10 word < 2 ^ 64 → ⊥)
    → None ≡ cond numeral (at_most most (digits_value 10 word)) None
unread most word false is low not_read = refl
unread most word true is low not_read =
    let large : (digits_value 10 word < 2 ^ 64) → ⊥ = not_read (to_numeral word is) in
    too_large most (digits_value 10 word) (omega (arith, low, large))

-- what was not read has no such number
pub unread_is : (most : ℕ) (word : List ℕ) → most < 2 ^ 64 → begins_with_plus word ≡ false
    → (IsNumeral 10 (without_leading_plus word) × (digits_value 10 (without_leading_plus word) < 2 ^ 64) → ⊥) → None ≡ number_of most word
unread_is most word low plain not_read =
    let same = no_plus word plain in
    unread most word (is_numeral word) refl low (λ numeral small. not_read (subst (λ (w : List ℕ). IsNumeral 10 w × (digits_value 10 w < 2 ^ 64)) (sym same) (numeral, small)))
