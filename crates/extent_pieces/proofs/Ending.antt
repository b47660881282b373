-- Where a kept piece ends.
use Rattle.extent_pieces.proofs.Imports.{◌≡◌, ◌⊎◌, inl, inr, ℕ, ◌+◌, ◌-◌, ◌*◌, ◌/◌, ◌^◌, ◌<◌, ◌≤◌, ◌==◌, min, Bool, true, false, not, List, length, sym, arith, subst, ⊎_elim, and_from, and_left, and_right, and_parts, both_ways, cases_Bool, cases_lt, not-true, is_reserved, has, end_of_run, IsEnd, end_facts, is_data, Owners, advanced, is_owner, is_joined}
use Rattle.extent_pieces.proofs.Joining.{is_joined_from, joins, same_owner}

pub data_used : (used : List Bool) (b : ℕ) → is_data used b ≡ true → has used b ≡ true
data_used used b t = (and_parts (has used b) _ t).0

pub data_unreserved : (used : List Bool) (b : ℕ) → is_data used b ≡ true → is_reserved b (length used) ≡ false
data_unreserved used b t = not-true (is_reserved b (length used)) (and_parts (has used b) _ t).1

-- an end behind a block that passes
pub end_above : (p : ℕ → Bool) (b end e : ℕ) → IsEnd p b end e → b < end → p b ≡ true → b < e
end_above p b end e is inside t =
    ⊎_elim (λ (some : b < e). some)
    (λ (none : e ≤ b). let same : e ≡ b = omega (arith, is.low) in absurd (both_ways (p b) (subst (λ (k : ℕ). p k ≡ false) same (is.stop (omega arith))) t))
    (cases_lt b e)

not_data : (used : List Bool) (owner : Owners) (b c : ℕ) → is_data used c ≡ false → is_joined used owner b c ≡ false
not_data used owner b c t = and_left (is_data used c) _ t

not_owner : (used : List Bool) (owner : Owners) (b c : ℕ) → is_owner (owner c) (advanced (owner b) (c - b)) ≡ false → is_joined used owner b c ≡ false
not_owner used owner b c t = and_right (is_data used c) _ (and_right (b / 32768 == c / 32768) _ t)

not_uncut : (used : List Bool) (owner : Owners) (b c : ℕ) → (b / 32768 ≡ c / 32768 → ⊥) → is_joined used owner b c ≡ false
not_uncut used owner b c apart =
    ⊎_elim (λ (t : is_joined used owner b c ≡ true). absurd (apart (joins used owner b c t).uncut)) (λ (f : is_joined used owner b c ≡ false). f) (cases_Bool (is_joined used owner b c))

cases_le : (a b : ℕ) → (a ≤ b) ⊎ (b < a)
cases_le a b = ⊎_elim (λ (l : b < a). inr l) (λ (h : a ≤ b). inl h) (cases_lt b a)

pub kept_end_is : (used : List Bool) (owner : Owners) (b n cut r m o e : ℕ) → n ≡ length used → n < 2 ^ 64 → cut ≡ min (32768 * (b / 32768 + 1)) (2 ^ 64 - 1) → m ≡ min cut r
    → IsEnd (λ c. not (is_reserved c n)) b n r → IsEnd (λ c. is_owner (owner c) (advanced (owner b) (c - b))) b m o → IsEnd (has used) b o e
    → IsEnd (is_joined used owner b) b (length used) e
kept_end_is used owner b n cut r m o e size few cut_is m_is unreserved owned used_to = record {
  low = used_to.low;
  high = omega (arith, used_to.high, owned.high, unreserved.high);
  all = λ k low high. is_joined_from used owner b k (record {
    data_ = and_from (has used k) _ (used_to.all k low high) (subst (λ (c : ℕ). not (is_reserved k c) ≡ true) size (unreserved.all k low (omega (arith, used_to.high, owned.high))));
    uncut = omega (arith, used_to.high, owned.high, high, low);
    owners = same_owner (owner k) (advanced (owner b) (k - b)) (owned.all k low (omega (arith, used_to.high)));
  });
  stop = λ h. ⊎_elim
      (λ (gap : e < o). not_data used owner b e (and_left (has used e) _ (used_to.stop gap)))
      (λ (all_used : o ≤ e).
      let at_o : e ≡ o = omega (arith, used_to.high) in
      ⊎_elim
      (λ (other : o < m). not_owner used owner b e (subst (λ (k : ℕ). is_owner (owner k) (advanced (owner b) (k - b)) ≡ false) (sym at_o) (owned.stop other)))
      (λ (all_owned : m ≤ o).
      let at_m : e ≡ m = omega (arith, owned.high) in
      ⊎_elim
      (λ (at_cut : cut ≤ r).
      let far : e ≡ 32768 * (b / 32768 + 1) = omega (arith, h) in
      not_uncut used owner b e (λ same. omega (arith, far, same)))
      (λ (at_r : r < cut).
      let reserved : not (is_reserved r n) ≡ false = unreserved.stop (omega (arith, h)) in
      let here : e ≡ r = omega arith in
      not_data used owner b e (and_right (has used e) _ (subst (λ (k : ℕ). not (is_reserved k (length used)) ≡ false) (sym here) (subst (λ (c : ℕ). not (is_reserved r c) ≡ false) size reserved))))
      (cases_le cut r))
      (cases_lt o m))
      (cases_lt e o);
}

-- an end by its equation
pub end_of : (p : ℕ → Bool) (from end e : ℕ) → e ≡ end_of_run p from end → from ≤ end → IsEnd p from end e
end_of p from end e is order = subst (IsEnd p from end) (sym is) (end_facts p from end order)
