-- Where a run of numbers that pass a test ends.
use Rattle.reiser_bitmap.proofs.Imports.{◌≡◌, ℕ, zero, suc, ◌+◌, ◌-◌, ◌*◌, ◌/◌, ◌%◌, ◌<◌, ◌≤◌, ◌==◌, Bool, true, false, not, List, length, refl, sym, ◌∙◌, ap, arith, subst, ⊎_elim, take_while, slice_index, bit_at, range_with_len, both_ways, cases_lt, bit_at-zero, bit_of, bits, has, end_of_run, is_bit}
use mathlib.Core.Bool.{beq}
use Rattle.reiser_bitmap.proofs.BitLemmas.{length-bits, has-bits}
use Rattle.reiser_bitmap.proofs.MaximalRuns.{IsFront, front}

-- the numbers from one on to before another pass, and that one does not if it is below the end
pub record IsEnd (p : ℕ → Bool) (from end e : ℕ) : Type 0 where
  pub low : from ≤ e
  pub high : e ≤ end
  pub all : (k : ℕ) → from ≤ k → k < e → p k ≡ true
  pub stop : e < end → p e ≡ false

-- there is one end at most
pub ends_are_one : (p : ℕ → Bool) (from end e f : ℕ) → IsEnd p from end e → IsEnd p from end f → e ≡ f
ends_are_one p from end e f a b =
    ⊎_elim
    (λ (less : e < f). absurd (both_ways (p e) (a.stop (omega (arith, b.high))) (b.all e a.low less)))
    (λ (more : f ≤ e). ⊎_elim
    (λ (less : f < e). absurd (both_ways (p f) (b.stop (omega (arith, a.high))) (a.all f b.low less)))
    (λ (same : e ≤ f). let e : e ≡ f = omega arith in e)
    (cases_lt f e))
    (cases_lt e f)

pub end_facts : (p : ℕ → Bool) (from end : ℕ) → from ≤ end → IsEnd p from end (end_of_run p from end)
unfolding end_of_run
end_facts p from end order =
    let all : IsFront p from (end - from) (length (take_while p (range_with_len from (end - from)))) = front p from (end - from) in
    record {
      low = omega arith;
      high = omega (arith, all.few);
      all = all.all;
      stop = λ h. all.stop (omega arith);
    }

pub end_is : (p : ℕ → Bool) (from end e : ℕ) → IsEnd p from end e → e ≡ end_of_run p from end
end_is p from end e is = ends_are_one p from end e (end_of_run p from end) is (end_facts p from end (omega (arith, is.low, is.high)))

-- two tests that agree below the end have one end
pub end_by : (p q : ℕ → Bool) (from end e : ℕ) → ((k : ℕ) → from ≤ k → k < end → p k ≡ q k) → IsEnd p from end e → IsEnd q from end e
end_by p q from end e same is = record {
  low = is.low;
  high = is.high;
  all = λ k low high. sym (same k low (omega (arith, is.high))) ∙ is.all k low high;
  stop = λ h. sym (same e is.low h) ∙ is.stop h;
}

-- bits of a byte
pub all_ones : (k : ℕ) → k < 8 → bit_at 255 k ≡ 1
all_ones zero h = refl
all_ones (suc zero) h = refl
all_ones (suc (suc zero)) h = refl
all_ones (suc (suc (suc zero))) h = refl
all_ones (suc (suc (suc (suc zero)))) h = refl
all_ones (suc (suc (suc (suc (suc zero))))) h = refl
all_ones (suc (suc (suc (suc (suc (suc zero)))))) h = refl
all_ones (suc (suc (suc (suc (suc (suc (suc zero))))))) h = refl
all_ones (suc (suc (suc (suc (suc (suc (suc (suc k)))))))) h = absurd (omega arith)

-- the bits of eight bytes that are 255, or 0
pub ones_are_bits : (bytes : List ℕ) (at : ℕ) → ((i : ℕ) → i < 8 → slice_index bytes (at + i) ≡ 255) → (i : ℕ) → i < 64 → is_bit bytes true (8 * at + i) ≡ true
ones_are_bits bytes at ones i h =
    let place : (8 * at + i) / 8 ≡ at + i / 8 = omega arith in
    let byte : slice_index bytes ((8 * at + i) / 8) ≡ 255 = ap (slice_index bytes) place ∙ ones (i / 8) (omega arith) in
    rw (byte, all_ones ((8 * at + i) % 8) (omega arith)) refl

-- one bit more, or 64
pub bits_more : (p : ℕ → Bool) (from b n : ℕ) → ((k : ℕ) → from ≤ k → k < b → p k ≡ true) → ((i : ℕ) → i < n → p (b + i) ≡ true) → (k : ℕ) → from ≤ k → k < b + n → p k ≡ true
bits_more p from b n before more k low high =
    ⊎_elim (λ (early : k < b). before k low early)
    (λ (late : b ≤ k). let at : b + (k - b) ≡ k = omega arith in subst (λ (j : ℕ). p j ≡ true) at (more (k - b) (omega arith)))
    (cases_lt k b)

-- a bit that is not the one looked for
pub other_bit : (bytes : List ℕ) (bit : Bool) (b : ℕ) (found : Bool) → found ≡ bit_of bytes b → beq found bit ≡ false → is_bit bytes bit b ≡ false
other_bit bytes true b true is other = absurd (cc)
other_bit bytes true b false is other = sym is
other_bit bytes false b true is other = ap not (sym is)
other_bit bytes false b false is other = absurd (cc)

-- of bits, by the set that they tell
pub used_end : (n : ℕ) (bytes : List ℕ) (set : List Bool) (from end e : ℕ) → bits n bytes ≡ set → end ≤ length set → IsEnd (is_bit bytes false) from end e → IsEnd (λ b. not (has set b)) from end e
used_end n bytes set from end e is inside ends =
    end_by (is_bit bytes false) (λ b. not (has set b)) from end e (λ k low high.
    ap not (sym (ap (λ (s : List Bool). has s k) (sym is) ∙ has-bits n bytes k (omega (arith, length-bits n bytes, ap length is))))) ends

pub unused_end : (n : ℕ) (bytes : List ℕ) (set : List Bool) (from end e : ℕ) → bits n bytes ≡ set → end ≤ length set → IsEnd (is_bit bytes true) from end e → IsEnd (has set) from end e
unused_end n bytes set from end e is inside ends =
    end_by (is_bit bytes true) (has set) from end e (λ k low high.
    sym (ap (λ (s : List Bool). has s k) (sym is) ∙ has-bits n bytes k (omega (arith, length-bits n bytes, ap length is)))) ends
