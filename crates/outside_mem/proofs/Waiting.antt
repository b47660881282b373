-- Which blocks wait, and with which values.
use Rattle.outside_mem.proofs.Imports.{◌≡◌, ◌≢◌, inl, inr, ⊎_elim, ℕ, ◌<◌, Bool, true, false, if◌then◌else◌, nat_eq, nat_lt, List, [], ◌∷◌, ◌++◌, length, get_or, refl, sym, ◌∙◌, ap, subst, arith, length-append, lt-ltb, ltb-false, eqb-true, ne_eqb, eq-eqb, cases_eq, both_ways, get_or_push, get_or_append_left, nil_from_length, Call, wrote, synced, Waits, written, is_waiting, drop_writes}

waiting_push : (xs : List (List ℕ)) (x : List ℕ) → nat_lt 0 (length (xs ++ x ∷ [])) ≡ true
waiting_push xs x = lt-ltb 0 (length (xs ++ x ∷ [])) (omega (arith, length-append xs (x ∷ [])))

module _ (calls : List Call) (c : ℕ) (bytes : List ℕ) (landed : Bool) where
  pub written_here : (b : ℕ) → nat_eq c b ≡ true → written (wrote c bytes landed ∷ calls) b ≡ written calls b ++ bytes ∷ []
  written_here b is = ap (λ (t : Bool). if t then written calls b ++ bytes ∷ [] else written calls b) is

  pub written_elsewhere : (b : ℕ) → nat_eq c b ≡ false → written (wrote c bytes landed ∷ calls) b ≡ written calls b
  written_elsewhere b is = ap (λ (t : Bool). if t then written calls b ++ bytes ∷ [] else written calls b) is

  pub waiting_here : (b : ℕ) → b ≡ c → is_waiting (wrote c bytes landed ∷ calls) b ≡ true
  waiting_here b is =
      ap (λ (ws : List (List ℕ)). nat_lt 0 (length ws)) (written_here b (eq-eqb c b (sym is))) ∙ waiting_push (written calls b) bytes

  pub waiting_elsewhere : (b : ℕ) → b ≢ c → is_waiting (wrote c bytes landed ∷ calls) b ≡ is_waiting calls b
  waiting_elsewhere b other =
      ap (λ (ws : List (List ℕ)). nat_lt 0 (length ws)) (written_elsewhere b (ne_eqb c b (λ same. other (sym same))))

  -- where the undo map keeps exactly the blocks that wait, it does so after a write
  pub kept_more : (kept kept' : ℕ → Bool) → ((q : ℕ) → kept q ≡ is_waiting calls q) → kept' c ≡ true → ((q : ℕ) → q ≢ c → kept' q ≡ kept q)
      → (q : ℕ) → kept' q ≡ is_waiting (wrote c bytes landed ∷ calls) q
  kept_more kept kept' are here others q = ⊎_elim
      (λ same. ap kept' same ∙ here ∙ sym (waiting_here q same))
      (λ other. others q other ∙ are q ∙ sym (waiting_elsewhere q other))
      (cases_eq q c)

  -- and a write to a block that is there keeps all that wait among those that are
  pub in_range_more : (n : ℕ) → c < n → ((q : ℕ) → is_waiting calls q ≡ true → q < n) → (q : ℕ) → is_waiting (wrote c bytes landed ∷ calls) q ≡ true → q < n
  in_range_more n fits before q waits = ⊎_elim
      (λ same. subst (λ (k : ℕ). k < n) (sym same) fits)
      (λ other. before q (sym (waiting_elsewhere q other) ∙ waits))
      (cases_eq q c)

-- without the writes to a block it does not wait, and the others wait as before
pub written-drop_writes_here : (n : ℕ) (calls : List Call) → written (drop_writes n calls) n ≡ []
written-drop_writes_here n [] = refl
written-drop_writes_here n (wrote b bytes landed ∷ calls) = at (written-drop_writes_here n calls) (nat_eq b n) refl
  where
    at : written (drop_writes n calls) n ≡ [] → (t : Bool) → nat_eq b n ≡ t → written (if t then drop_writes n calls else (wrote b bytes landed ∷ drop_writes n calls)) n ≡ []
    at none true is = none
    at none false is = written_elsewhere (drop_writes n calls) b bytes landed n is ∙ none
written-drop_writes_here n (synced ∷ calls) = refl

pub written-drop_writes_other : (n q : ℕ) → q ≢ n → (calls : List Call) → written (drop_writes n calls) q ≡ written calls q
written-drop_writes_other n q other [] = refl
written-drop_writes_other n q other (wrote b bytes landed ∷ calls) = at (written-drop_writes_other n q other calls) (nat_eq b n) refl
  where
    at : written (drop_writes n calls) q ≡ written calls q → (t : Bool) → nat_eq b n ≡ t
        → written (if t then drop_writes n calls else (wrote b bytes landed ∷ drop_writes n calls)) q ≡ written (wrote b bytes landed ∷ calls) q
    at rest true is = rest ∙ sym (written_elsewhere calls b bytes landed q (ne_eqb b q (λ same. other (sym same ∙ eqb-true b n is))))
    at rest false is = ap (λ (ws : List (List ℕ)). if nat_eq b q then ws ++ bytes ∷ [] else ws) rest
written-drop_writes_other n q other (synced ∷ calls) = refl

module _ (n : ℕ) (calls : List Call) where
  pub kept_less : (kept kept' : ℕ → Bool) → ((q : ℕ) → kept q ≡ is_waiting calls q) → kept' n ≡ false → ((q : ℕ) → q ≢ n → kept' q ≡ kept q)
      → (q : ℕ) → kept' q ≡ is_waiting (drop_writes n calls) q
  kept_less kept kept' are here others q = ⊎_elim
      (λ same. ap kept' same ∙ here ∙ sym (ap (λ (k : ℕ). is_waiting (drop_writes n calls) k) same ∙ none))
      (λ other. others q other ∙ are q ∙ sym (ap (λ (ws : List (List ℕ)). nat_lt 0 (length ws)) (written-drop_writes_other n q other calls)))
      (cases_eq q n)
    where
      none : is_waiting (drop_writes n calls) n ≡ false
      none = ap (λ (ws : List (List ℕ)). nat_lt 0 (length ws)) (written-drop_writes_here n calls)

  pub in_range_less : (count : ℕ) → ((q : ℕ) → is_waiting calls q ≡ true → q < count) → (q : ℕ) → is_waiting (drop_writes n calls) q ≡ true → q < count
  in_range_less count before q waits = ⊎_elim
      (λ same. absurd (both_ways (is_waiting (drop_writes n calls) n) (ap (λ (ws : List (List ℕ)). nat_lt 0 (length ws)) (written-drop_writes_here n calls)) (ap (λ (k : ℕ). is_waiting (drop_writes n calls) k) (sym same) ∙ waits)))
      (λ other. before q (sym (ap (λ (ws : List (List ℕ)). nat_lt 0 (length ws)) (written-drop_writes_other n q other calls)) ∙ waits))
      (cases_eq q n)

-- a block that does not wait has no value that was written
pub nothing_written : (calls : List Call) (b : ℕ) → is_waiting calls b ≡ false → written calls b ≡ []
nothing_written calls b is = nil_from_length (written calls b) (omega (arith, ltb-false 0 (length (written calls b)) is))

-- each value of those that were written waits
pub waits_from_place : (calls : List Call) (b j : ℕ) → j < length (written calls b) → Waits calls b (get_or (written calls b) j [])
waits_from_place [] b j below = absurd (omega (arith, below))
waits_from_place (wrote c bytes landed ∷ calls) b j below = at (λ early. waits_from_place calls b j early) (nat_eq c b) refl
  where
    at : (j < length (written calls b) → Waits calls b (get_or (written calls b) j [])) → (t : Bool) → nat_eq c b ≡ t
        → Waits (wrote c bytes landed ∷ calls) b (get_or (written (wrote c bytes landed ∷ calls) b) j [])
    at older true is =
        let more : written (wrote c bytes landed ∷ calls) b ≡ written calls b ++ bytes ∷ [] = written_here calls c bytes landed b is in
        subst (λ (ws : List (List ℕ)). Waits (wrote c bytes landed ∷ calls) b (get_or ws j [])) (sym more)
        (⊎_elim
        (λ last. inl (sym (eqb-true c b is), get_or_push (written calls b) bytes [] j (sym last)))
        (λ other.
        let early : j < length (written calls b) = omega (arith, other, below, ap (λ (ws : List (List ℕ)). length ws) more, length-append (written calls b) (bytes ∷ [])) in
        inr (subst (λ (x : List ℕ). Waits calls b x) (sym (get_or_append_left (written calls b) (bytes ∷ []) [] j early)) (older early)))
        (cases_eq j (length (written calls b))))
    at older false is =
        let same : written (wrote c bytes landed ∷ calls) b ≡ written calls b = written_elsewhere calls c bytes landed b is in
        inr (subst (λ (ws : List (List ℕ)). Waits calls b (get_or ws j [])) (sym same) (older (subst (λ (ws : List (List ℕ)). j < length ws) same below)))
waits_from_place (synced ∷ calls) b j below = absurd (omega (arith, below))

-- and each value that waits is one of them
pub place_of : (calls : List Call) (b : ℕ) (bytes : List ℕ) → Waits calls b bytes → (j : ℕ) × (j < length (written calls b)) × (get_or (written calls b) j [] ≡ bytes)
place_of [] b bytes waits = absurd waits
place_of (wrote c other landed ∷ calls) b bytes (inl both) =
    let more : written (wrote c other landed ∷ calls) b ≡ written calls b ++ other ∷ [] = written_here calls c other landed b (eq-eqb c b (sym both.0)) in (
      length (written calls b),
      omega (arith, ap (λ (ws : List (List ℕ)). length ws) more, length-append (written calls b) (other ∷ [])),
      ap (λ (ws : List (List ℕ)). get_or ws (length (written calls b)) []) more ∙ get_or_push (written calls b) other [] (length (written calls b)) refl ∙ sym both.1,
    )
place_of (wrote c other landed ∷ calls) b bytes (inr waits) = at (place_of calls b bytes waits) (nat_eq c b) refl
  where
    at : (j : ℕ) × (j < length (written calls b)) × (get_or (written calls b) j [] ≡ bytes) → (t : Bool) → nat_eq c b ≡ t
        → (j : ℕ) × (j < length (written (wrote c other landed ∷ calls) b)) × (get_or (written (wrote c other landed ∷ calls) b) j [] ≡ bytes)
    at early true is =
        let more : written (wrote c other landed ∷ calls) b ≡ written calls b ++ other ∷ [] = written_here calls c other landed b is in (
          early.0,
          omega (arith, early.1, ap (λ (ws : List (List ℕ)). length ws) more, length-append (written calls b) (other ∷ [])),
          ap (λ (ws : List (List ℕ)). get_or ws early.0 []) more ∙ get_or_append_left (written calls b) (other ∷ []) [] early.0 early.1 ∙ early.2,
        )
    at early false is =
        let same : written (wrote c other landed ∷ calls) b ≡ written calls b = written_elsewhere calls c other landed b is in
        (early.0, subst (λ (ws : List (List ℕ)). early.0 < length ws) (sym same) early.1, ap (λ (ws : List (List ℕ)). get_or ws early.0 []) same ∙ early.2)
place_of (synced ∷ calls) b bytes waits = absurd waits
