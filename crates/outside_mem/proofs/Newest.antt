-- Walking the record from its newest call.
use Rattle.outside_mem.proofs.Imports.{◌≡◌, ◌≢◌, ℕ, ◌+◌, ◌-◌, ◌<◌, ◌≤◌, true, List, [], ◌∷◌, ◌++◌, length, get_or, take, sym, ◌∙◌, ap, arith, length-append, eq-eqb, ne_eqb, take_more, get_or_push, get_or_append_left, Block, Call, Done, Wrote, Synced, written, call_of, calls_of}
use Rattle.outside_mem.proofs.Images.{newest-push}
use Rattle.outside_mem.proofs.Waiting.{written_here, written_elsewhere}

module _ (dones : List Done) (k : ℕ) (d : Done) (some : 0 < k) (within : k ≤ length dones) where
  -- one call more, counted from the front
  take_call : (done : Done) → get_or dones (k - 1) d ≡ done → calls_of (take k dones) ≡ call_of done ∷ calls_of (take (k - 1) dones)
  take_call done is =
      let back : k ≡ k - 1 + 1 = omega arith in
      let below : k - 1 < length dones = omega arith in
      ap (λ (m : ℕ). calls_of (take m dones)) back
      ∙ ap calls_of (take_more dones (k - 1) d below)
      ∙ newest-push (take (k - 1) dones) (get_or dones (k - 1) d) []
      ∙ ap (λ (done : Done). call_of done ∷ calls_of (take (k - 1) dones)) is

  pub newest_here : (at n : ℕ) (block : Block) → get_or dones (k - 1) d ≡ Wrote at block → at ≡ n
      → written (calls_of (take k dones)) n ≡ written (calls_of (take (k - 1) dones)) n ++ block.bytes ∷ []
  newest_here at n block is same =
      ap (λ (calls : List Call). written calls n) (take_call (Wrote at block) is)
      ∙ written_here (calls_of (take (k - 1) dones)) at block.bytes true n (eq-eqb at n same)

  pub newest_elsewhere : (at n : ℕ) (block : Block) → get_or dones (k - 1) d ≡ Wrote at block → at ≢ n
      → written (calls_of (take k dones)) n ≡ written (calls_of (take (k - 1) dones)) n
  newest_elsewhere at n block is other =
      ap (λ (calls : List Call). written calls n) (take_call (Wrote at block) is)
      ∙ written_elsewhere (calls_of (take (k - 1) dones)) at block.bytes true n (ne_eqb at n other)

  pub newest_synced : (n : ℕ) → get_or dones (k - 1) d ≡ Synced → written (calls_of (take k dones)) n ≡ []
  newest_synced n is = ap (λ (calls : List Call). written calls n) (take_call Synced is)

module _ (ws ws' : List (List ℕ)) (bytes : List ℕ) (more : ws ≡ ws' ++ bytes ∷ []) where
  longer : length ws ≡ length ws' + 1
  longer = ap (λ (xs : List (List ℕ)). length xs) more ∙ length-append ws' (bytes ∷ [])

  -- the last value
  pub last_is : (left : ℕ) → left ≡ 0 → bytes ≡ get_or ws (length ws - 1 - left) []
  last_is left none =
      sym (get_or_push ws' bytes [] (length ws - 1 - left) (omega (arith, longer, none)))
      ∙ ap (λ (xs : List (List ℕ)). get_or xs (length ws - 1 - left) []) (sym more)

  -- one before it
  pub before_last : (left : ℕ) → left ≢ 0 → left < length ws → get_or ws' (length ws' - 1 - (left - 1)) [] ≡ get_or ws (length ws - 1 - left) []
  before_last left some below =
      let place : length ws' - 1 - (left - 1) ≡ length ws - 1 - left = omega (arith, longer, some, below) in
      ap (λ (i : ℕ). get_or ws' i []) place
      ∙ sym (get_or_append_left ws' (bytes ∷ []) [] (length ws - 1 - left) (omega (arith, longer, some, below)))
      ∙ ap (λ (xs : List (List ℕ)). get_or xs (length ws - 1 - left) []) (sym more)
