-- The copied pieces, from the lowest on.
use Rattle.extent_pieces.proofs.Imports.{◌≡◌, ℕ, ◌+◌, Bool, true, false, not, List, [], ◌∷◌, ◌++◌, length, map, Option, Some, sym, ◌∙◌, ap, arith, ⊎_elim, filter, range_with_len, and_left, and_right, and_from, not-true, cases_eq, append-nil, is_reserved, has, IsEnd, Piece, Owners, is_copied, copied_piece, copied_pieces}
use Rattle.extent_pieces.proofs.Filtering.{more_none, more_one}

-- after a look at the blocks below b
pub record Copies (used : List Bool) (owner : Owners) (old new : List Piece) (b : ℕ) : Type 0 where
  pub found : new ≡ old ++ map (copied_piece owner) (filter (is_copied used) (range_with_len 0 b))

-- a block that is not reserved is not copied
not_copied : (used : List Bool) (k : ℕ) → not (is_reserved k (length used)) ≡ true → is_copied used k ≡ false
not_copied used k t = and_right (has used k) _ (not-true (is_reserved k (length used)) t)

pub copies_start : (used : List Bool) (owner : Owners) (old : List Piece) (n b : ℕ) → n ≡ length used → IsEnd (λ c. not (is_reserved c n)) 0 n b → Copies used owner old old b
copies_start used owner old n b size gap = record {
  found = more_none (is_copied used) (copied_piece owner) old old 0 b (omega arith) (λ k low high. not_copied used k (ap (λ (m : ℕ). not (is_reserved k m)) (sym size) ∙ gap.all k low high)) (sym (append-nil old));
}

pub copies_one : (used : List Bool) (owner : Owners) (old new : List Piece) (n b c : ℕ) → n ≡ length used → Copies used owner old new b → has used b ≡ true → is_reserved b n ≡ true
    → IsEnd (λ c. not (is_reserved c n)) (b + 1) n c → Copies used owner old (new ++ copied_piece owner b ∷ []) c
copies_one used owner old new n b c size so_far t r gap =
    let copied : is_copied used b ≡ true = and_from (has used b) _ t (ap (is_reserved b) (sym size) ∙ r) in
    record {
      found =
          more_none (is_copied used) (copied_piece owner) old (new ++ copied_piece owner b ∷ []) (b + 1) c (omega (arith, gap.low))
          (λ k low high. not_copied used k (ap (λ (m : ℕ). not (is_reserved k m)) (sym size) ∙ gap.all k low high))
          (more_one (is_copied used) (copied_piece owner) old new b copied so_far.found);
    }

pub copies_none : (used : List Bool) (owner : Owners) (old new : List Piece) (n b c : ℕ) → n ≡ length used → Copies used owner old new b → has used b ≡ false
    → IsEnd (λ c. not (is_reserved c n)) (b + 1) n c → Copies used owner old new c
copies_none used owner old new n b c size so_far t gap = record {
  found =
      more_none (is_copied used) (copied_piece owner) old new b c (omega (arith, gap.low))
      (λ k low high. ⊎_elim
      (λ (same : k ≡ b). and_left (has used k) _ (ap (has used) same ∙ t))
      (λ (other : k ≡ b → ⊥). not_copied used k (ap (λ (m : ℕ). not (is_reserved k m)) (sym size) ∙ gap.all k (omega arith) high))
      (cases_eq k b))
      so_far.found;
}

pub copies_all : (used : List Bool) (owner : Owners) (old new : List Piece) (b : ℕ) → Copies used owner old new b → b ≡ length used → new ≡ old ++ copied_pieces used owner
unfolding copied_pieces
copies_all used owner old new b so_far end = so_far.found ∙ ap (λ (m : ℕ). old ++ map (copied_piece owner) (filter (is_copied used) (range_with_len 0 m))) end

-- a copied piece with its owner
abbrev pub piece_at : ℕ → Option (ℕ × ℕ) → Piece
piece_at b o = record { from = Some b; count = 1; owner = o; place = 0 }
