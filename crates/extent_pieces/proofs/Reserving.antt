-- The next reserved block.
use Rattle.extent_pieces.proofs.Imports.{◌≡◌, ◌⊎◌, ℕ, ◌-◌, ◌*◌, ◌/◌, ◌%◌, ◌<◌, ◌≤◌, true, false, not, arith, ⊎_elim, inl, inr, cases_Bool, cases_lt, not_from_false, not_from_true, FIRST_MIRROR, FIRST_MIRROR_END, SECOND_MIRROR, SECOND_MIRROR_END, IsReserved, is_reserved, IsEnd}
use Rattle.reiser_bitmap.proofs.vol_block.Reserved.{decides_reserved}

pub reserved_yes : (b n : ℕ) → IsReserved b n → is_reserved b n ≡ true
reserved_yes b n r = (decides_reserved b n).1 r

pub reserved_no : (b n : ℕ) → (IsReserved b n → ⊥) → is_reserved b n ≡ false
reserved_no b n never = ⊎_elim (λ (t : is_reserved b n ≡ true). absurd (never ((decides_reserved b n).0 t))) (λ (f : is_reserved b n ≡ false). f) (cases_Bool (is_reserved b n))

-- a block that lies in no reserved range
record IsFree (b n : ℕ) : Type 0 where
  low : 256 ≤ b
  second : (b < FIRST_MIRROR) ⊎ (FIRST_MIRROR_END ≤ b)
  third : (b < SECOND_MIRROR) ⊎ (SECOND_MIRROR_END ≤ b)
  last : b < 16 * (n / 16)

free_not_reserved : (b n : ℕ) → IsFree b n → IsReserved b n → ⊥
free_not_reserved b n free r =
    ⊎_elim
    (λ (a : b < 256). absurd (omega (arith, free.low)))
    (λ r2. ⊎_elim
    (λ (a : (FIRST_MIRROR ≤ b) × (b < FIRST_MIRROR_END)). ⊎_elim (λ (l : b < FIRST_MIRROR). absurd (omega (arith, a.0))) (λ (h : FIRST_MIRROR_END ≤ b). absurd (omega (arith, a.1))) free.second)
    (λ r3. ⊎_elim
    (λ (a : (SECOND_MIRROR ≤ b) × (b < SECOND_MIRROR_END)). ⊎_elim (λ (l : b < SECOND_MIRROR). absurd (omega (arith, a.0))) (λ (h : SECOND_MIRROR_END ≤ b). absurd (omega (arith, a.1))) free.third)
    (λ (a : (16 * (n / 16) ≤ b) × (b < n)). absurd (omega (arith, a.0, free.last)))
    r3)
    r2)
    r

free_from : (b n : ℕ) → (IsReserved b n → ⊥) → b < n → IsFree b n
free_from b n never inside = record {
  low = ⊎_elim (λ (a : b < 256). absurd (never (inl a))) (λ (c : 256 ≤ b). c) (cases_lt b 256);
  second =
      ⊎_elim (λ (a : b < FIRST_MIRROR). inl a)
      (λ (c : FIRST_MIRROR ≤ b). ⊎_elim (λ (d : b < FIRST_MIRROR_END). absurd (never (inr (inl (c, d))))) (λ (d : FIRST_MIRROR_END ≤ b). inr d) (cases_lt b FIRST_MIRROR_END))
      (cases_lt b FIRST_MIRROR);
  third =
      ⊎_elim (λ (a : b < SECOND_MIRROR). inl a)
      (λ (c : SECOND_MIRROR ≤ b). ⊎_elim (λ (d : b < SECOND_MIRROR_END). absurd (never (inr (inr (inl (c, d)))))) (λ (d : SECOND_MIRROR_END ≤ b). inr d) (cases_lt b SECOND_MIRROR_END))
      (cases_lt b SECOND_MIRROR);
  last = ⊎_elim (λ (a : b < 16 * (n / 16)). a) (λ (c : 16 * (n / 16) ≤ b). absurd (never (inr (inr (inr (c, inside)))))) (cases_lt b (16 * (n / 16)));
}

-- a number that a block and all behind it up to an end lie on one side of
sided : (b k e low high : ℕ) → b ≤ k → k < e → (b < low) ⊎ (high ≤ b) → (b < low → e ≤ low) → (k < low) ⊎ (high ≤ k)
sided b k e low high order inside side below =
    ⊎_elim (λ (l : b < low). let few : e ≤ low = below l in inl (let h : k < low = omega arith in h)) (λ (h : high ≤ b). inr (let g : high ≤ k = omega arith in g)) side

pub next_is : (b e n : ℕ) → (IsReserved b n → ⊥) → b < n → b ≤ e → e ≤ 16 * (n / 16) → (b < FIRST_MIRROR → e ≤ FIRST_MIRROR) → (b < SECOND_MIRROR → e ≤ SECOND_MIRROR) → (e < n → IsReserved e n)
    → IsEnd (λ c. not (is_reserved c n)) b n e
next_is b e n never inside order last second third stops =
    let free : IsFree b n = free_from b n never inside in
    record {
      low = order;
      high = omega arith;
      all = λ k low high. not_from_false (is_reserved k n) (reserved_no k n (free_not_reserved k n (record {
        low = omega (arith, free.low);
        second = sided b k e FIRST_MIRROR FIRST_MIRROR_END low high free.second second;
        third = sided b k e SECOND_MIRROR SECOND_MIRROR_END low high free.third third;
        last = omega arith;
      })));
      stop = λ h. not_from_true (is_reserved e n) (reserved_yes e n (stops h));
    }

-- an unreserved block lies before what is left behind the last multiple of 16
pub last_order : (b n : ℕ) → (IsReserved b n → ⊥) → b < n → b ≤ n - n % 16
last_order b n never inside = let free : IsFree b n = free_from b n never inside in let last : b < 16 * (n / 16) = free.last in omega arith

-- a place that is one of the three where the next one may be
pub at_last : (e n : ℕ) → e ≡ n - n % 16 → e < n → IsReserved e n
at_last e n is inside = inr (inr (inr ((let low : 16 * (n / 16) ≤ e = omega arith in low), inside)))

pub at_second : (e n : ℕ) → e ≡ FIRST_MIRROR → IsReserved e n
at_second e n is = inr (inl ((let low : FIRST_MIRROR ≤ e = omega arith in low), (let high : e < FIRST_MIRROR_END = omega arith in high)))

pub at_third : (e n : ℕ) → e ≡ SECOND_MIRROR → IsReserved e n
at_third e n is = inr (inr (inl ((let low : SECOND_MIRROR ≤ e = omega arith in low), (let high : e < SECOND_MIRROR_END = omega arith in high))))

-- the block itself
pub next_here : (b n : ℕ) → b ≤ n → (b < n → IsReserved b n) → IsEnd (λ c. not (is_reserved c n)) b n b
next_here b n order stops = record {
  low = omega arith;
  high = order;
  all = λ k low high. absurd (omega arith);
  stop = λ h. not_from_true (is_reserved b n) (reserved_yes b n (stops h));
}
