-- Lists of ranges by their first range and the rest.
use Rattle.free_space.proofs.Imports.{◌≡◌, ◌≤◌, ◌<◌, ℕ, suc, zero, ◌+◌, ◌-◌, ◌^◌, max, ap, not, ◌&&◌, ◌||◌, nat_le, nat_lt, cond, Bool, true, false, List, [], ◌∷◌, ◌++◌, All, AllPairs, get_or, length, refl, sym, subst, ⊎_elim, arith, cases_lt, le-ltb, lt-leb, lt-ltb, behind, gap, gaps, AreRanges, end_of, is_in, is_in_any, Range}
use Rattle.std.proofs.lemmas.List.Folds.{list_any-append}

-- they begin at an address or behind it, are not empty, and have at least so much between them
abbrev pub Up : ℕ → ℕ → List Range → Type 0
Up n b [] = Unit {0}
Up n b (u ∷ used) = (b ≤ u.address) × (1 ≤ u.length) × Up n (end_of u + n) used

pub up_lower : (n b c : ℕ) (used : List Range) → b ≤ c → Up n c used → Up n b used
up_lower n b c [] below up = tt
up_lower n b c (u ∷ used) below up = (omega (arith, below, up.0), up.1, up.2)

pub up_from : (used : List Range) → AreRanges used → (b : ℕ) → ((k : ℕ) (d : Range) → k < length used → b ≤ (get_or used k d).address) → Up 0 b used
up_from [] are b low = tt
up_from (u ∷ used) are b low = (
  low 0 u (omega arith),
  are.some 0 u (omega arith),
  up_from used (record { some = λ k d h. are.some (suc k) d (omega (arith, h)); ascending = λ i j d l h. are.ascending (suc i) (suc j) d (omega (arith, l)) (omega (arith, h)) }) (end_of u + 0)
      (λ k d h. let e : end_of u ≤ (get_or used k d).address = are.ascending 0 (suc k) d (omega arith) (omega (arith, h)) in omega (arith, e)),
)

pub up_low : (n b : ℕ) (used : List Range) → Up n b used → (k : ℕ) (d : Range) → k < length used → b ≤ (get_or used k d).address
up_low n b [] up k d h = absurd (omega (arith, h))
up_low n b (u ∷ used) up zero d h = up.0
up_low n b (u ∷ used) up (suc k) d h = let e = up_low n (end_of u + n) used up.2 k d (omega (arith, h)) in omega (arith, e, up.0)

pub up_some : (n b : ℕ) (used : List Range) → Up n b used → All (λ r. 1 ≤ r.length) used
up_some n b [] up k d h = absurd (omega (arith, h))
up_some n b (u ∷ used) up zero d h = up.1
up_some n b (u ∷ used) up (suc k) d h = up_some n (end_of u + n) used up.2 k d (omega (arith, h))

pub up_apart : (n b : ℕ) (used : List Range) → Up n b used → AllPairs (λ r s. end_of r + n ≤ s.address) used
up_apart n b [] up i j d l h = absurd (omega (arith, h))
up_apart n b (u ∷ used) up i zero d l h = absurd (omega (arith, l))
up_apart n b (u ∷ used) up zero (suc j) d l h = up_low n (end_of u + n) used up.2 j d (omega (arith, h))
up_apart n b (u ∷ used) up (suc i) (suc j) d l h = up_apart n (end_of u + n) used up.2 i j d (omega (arith, l)) (omega (arith, h))

-- none of them has an address before
pub none_before : (n b : ℕ) (used : List Range) (a : ℕ) → Up n b used → a < b → is_in_any used a ≡ false
none_before n b [] a up before = refl
none_before n b (u ∷ used) a up before = grind (arith, up.0, before, none_before n (end_of u + n) used a up.2)

-- ---- gaps

gap_exact : (at end a : ℕ) → is_in_any (gap at end) a ≡ (nat_le at a && nat_lt a end)
gap_exact at end a = grind arith

-- an address before the first used range, in it, and behind it
mixed_before : (all here rest low within behind inside later first : Bool) → all ≡ (here || rest) → here ≡ (low && within) → rest ≡ ((behind && inside) && not later) → within ≡ true → behind ≡ false → inside ≡ true
    → later ≡ false → first ≡ false → all ≡ ((low && inside) && not (first || later))
mixed_before all here rest low within behind inside later first a h r w b i l f = grind (arith, a, h, r, w, b, i, l, f)

mixed_in : (all here rest low within behind inside later first : Bool) → all ≡ (here || rest) → here ≡ (low && within) → rest ≡ ((behind && inside) && not later) → within ≡ false → behind ≡ false → first ≡ true
    → all ≡ ((low && inside) && not (first || later))
mixed_in all here rest low within behind inside later first a h r w b f = grind (arith, a, h, r, w, b, f)

mixed_behind : (all here rest low within behind inside later first : Bool) → all ≡ (here || rest) → here ≡ (low && within) → rest ≡ ((behind && inside) && not later) → within ≡ false → behind ≡ low → first ≡ false
    → all ≡ ((low && inside) && not (first || later))
mixed_behind all here rest low within behind inside later first a h r w b f = grind (arith, a, h, r, w, b, f)

not_before : (u : Range) (a : ℕ) → a < u.address → is_in a u ≡ false
not_before u a before = grind (arith, before)

has_it : (u : Range) (a : ℕ) → u.address ≤ a → a < end_of u → is_in a u ≡ true
has_it u a from inside = grind (arith, from, inside)

not_behind : (u : Range) (a : ℕ) → end_of u ≤ a → is_in a u ≡ false
not_behind u a behind = grind (arith, behind)

alone : (all inside used : Bool) → all ≡ inside → used ≡ false → all ≡ (inside && not used)
alone all inside used a u = grind (arith, a, u)

outside : (all low inside used : Bool) → all ≡ (low && inside) → inside ≡ false → all ≡ ((low && inside) && not used)
outside all low inside used a i = grind (arith, a, i)

same_bound : (at end a : ℕ) → end ≤ a → nat_le (max at end) a ≡ nat_le at a
same_bound at end a past = grind (arith, past)

pub gaps_exact : (b at end : ℕ) (used : List Range) (a : ℕ) → Up 0 b used → is_in_any (gaps at end used) a ≡ ((nat_le at a && nat_lt a end) && not (is_in_any used a))
gaps_exact b at end [] a up = grind (arith, gap_exact at end a)
gaps_exact b at end (u ∷ used) a up =
    ⊎_elim (λ (within : u.address < end).
    let cut : is_in_any (gaps at end (u ∷ used)) a ≡ (is_in_any (gap at u.address) a || is_in_any (gaps (max at (end_of u)) end used) a) =
    rw (lt-ltb u.address end within) (list_any-append (is_in a) (gap at u.address) (gaps (max at (end_of u)) end used)) in
    let rest : is_in_any (gaps (max at (end_of u)) end used) a ≡ ((nat_le (max at (end_of u)) a && nat_lt a end) && not (is_in_any used a)) = gaps_exact (end_of u + 0) (max at (end_of u)) end used a up.2 in
    ⊎_elim (λ (before : a < u.address).
    mixed_before _ _ _ (nat_le at a) (nat_lt a u.address) (nat_le (max at (end_of u)) a) (nat_lt a end) (is_in_any used a) (is_in a u) cut (gap_exact at u.address a) rest (lt-ltb a u.address before)
    (lt-leb (max at (end_of u)) a (omega (arith, before, up.1))) (lt-ltb a end (omega (arith, before, within))) (none_before 0 (end_of u + 0) used a up.2 (omega (arith, before))) (not_before u a before))
    (λ (from : u.address ≤ a).
    ⊎_elim (λ (inside : a < end_of u).
    mixed_in _ _ _ (nat_le at a) (nat_lt a u.address) (nat_le (max at (end_of u)) a) (nat_lt a end) (is_in_any used a) (is_in a u) cut (gap_exact at u.address a) rest (le-ltb a u.address from)
    (lt-leb (max at (end_of u)) a (omega (arith, inside))) (has_it u a from inside))
    (λ (behind : end_of u ≤ a).
    mixed_behind _ _ _ (nat_le at a) (nat_lt a u.address) (nat_le (max at (end_of u)) a) (nat_lt a end) (is_in_any used a) (is_in a u) cut (gap_exact at u.address a) rest (le-ltb a u.address from)
    (same_bound at (end_of u) a behind) (not_behind u a behind)) (cases_lt a (end_of u)))
    (cases_lt a u.address))
    (λ (past : end ≤ u.address).
    let here : is_in_any (gaps at end (u ∷ used)) a ≡ (nat_le at a && nat_lt a end) = rw (le-ltb u.address end past) (gap_exact at end a) in
    ⊎_elim (λ (before : a < u.address). alone _ (nat_le at a && nat_lt a end) (is_in_any (u ∷ used) a) here (none_before 0 u.address (u ∷ used) a (omega arith, up.1, up.2) before))
    (λ (from : u.address ≤ a). outside _ (nat_le at a) (nat_lt a end) (is_in_any (u ∷ used) a) here (le-ltb a end (omega (arith, from, past)))) (cases_lt a u.address))
    (cases_lt u.address end)

gap_up : (at end low : ℕ) (runs : List Range) → at ≤ low → end + 1 ≤ low → Up 1 low runs → Up 1 at (gap at end ++ runs)
gap_up at end low runs near far up =
    ⊎_elim (λ (some : at < end). subst (λ t. Up 1 at (cond t (record { address = at; length = end - at } ∷ []) [] ++ runs)) (sym (lt-ltb at end some)) (omega arith, omega (arith, some), up_lower 1 (at + (end - at) + 1) low runs (omega (arith, some, far)) up))
    (λ (none : end ≤ at). subst (λ t. Up 1 at (cond t (record { address = at; length = end - at } ∷ []) [] ++ runs)) (sym (le-ltb at end none)) (up_lower 1 at low runs near up))
    (cases_lt at end)

gap_alone : (at end : ℕ) → Up 1 at (gap at end)
gap_alone at end =
    ⊎_elim (λ (some : at < end). subst (λ t. Up 1 at (cond t (record { address = at; length = end - at } ∷ []) [])) (sym (lt-ltb at end some)) (omega arith, omega (arith, some), tt))
    (λ (none : end ≤ at). subst (λ t. Up 1 at (cond t (record { address = at; length = end - at } ∷ []) [])) (sym (le-ltb at end none)) tt) (cases_lt at end)

pub gaps_up : (b at end : ℕ) (used : List Range) → Up 0 b used → Up 1 at (gaps at end used)
gaps_up b at end [] up = gap_alone at end
gaps_up b at end (u ∷ used) up =
    ⊎_elim (λ (within : u.address < end). subst (λ t. Up 1 at (cond t (gap at u.address ++ gaps (max at (end_of u)) end used) (gap at end))) (sym (lt-ltb u.address end within))
    (gap_up at u.address (max at (end_of u)) (gaps (max at (end_of u)) end used) (omega arith) (omega (arith, up.1)) (gaps_up (end_of u + 0) (max at (end_of u)) end used up.2)))
    (λ (past : end ≤ u.address). subst (λ t. Up 1 at (cond t (gap at u.address ++ gaps (max at (end_of u)) end used) (gap at end))) (sym (le-ltb u.address end past)) (gap_alone at end))
    (cases_lt u.address end)

pub small_behind : (groups after now : List Range) (g : Range) → groups ≡ g ∷ after → All (λ g. end_of g < 2 ^ 64) groups → now ≡ after → All (λ g. end_of g < 2 ^ 64) now
small_behind groups after now g are small same k d h =
    let whole : All (λ g. end_of g < 2 ^ 64) (g ∷ after) = subst (λ gs. All (λ g. end_of g < 2 ^ 64) gs) are small in
    let e = whole (suc k) d (omega (arith, h, ap length same)) in
    subst (λ gs. end_of (get_or gs k d) < 2 ^ 64) (sym same) e
