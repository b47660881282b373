-- What moving one piece does.
use Rattle.convert_steps.proofs.Imports.{◌≡◌, ◌≢◌, ℕ, List, set, get_or, Option, Some, None, Result, Ok, Err, sym, ◌∙◌, ap, subst, slice_get, MatchResult, slice_get_within, get_or_from_slice_get, IsFault, Image, History, block_at, WritesOnly, VolAnswer, writes_weaker, Piece, ObjectKey, HasPlace, IsMovedTo, IsMovedPlace}

-- a block that was read, written to its place
pub copied : {T : Type 0} (result : Result T VolAnswer) (old mid new : Image) (place from : ℕ) (bytes : List ℕ) → mid ≡ old → bytes ≡ block_at old from
    → MatchResult result (λ _. new ≡ set mid place bytes) IsFault → MatchResult result (λ _. new ≡ set old place (block_at old from)) IsFault
copied (Ok x) old mid new place from bytes same is wrote =
    wrote ∙ (ap (λ (image : Image). set image place bytes) same ∙ ap (λ (l : List ℕ). set old place l) is)
copied (Err e) old mid new place from bytes same is wrote = wrote

-- one write to the place of a piece that moves
pub piece_only : (p : Piece) (old new : History) → p.from ≢ Some p.place → WritesOnly (λ b _. b ≡ p.place) old new → WritesOnly (λ b _. IsMovedTo b p) old new
piece_only p old new moved only =
    writes_weaker (λ b _. b ≡ p.place) (λ b _. IsMovedTo b p) (λ b bytes is. record { moved = moved; place = sym is }) old new only

pub place_only : (pieces : List Piece) (i : ℕ) (p : Piece) (old new : History) → slice_get pieces i ≡ Some p → WritesOnly (λ b _. IsMovedTo b p) old new → WritesOnly (λ b _. IsMovedPlace pieces b) old new
place_only pieces i p old new at only =
    let is : get_or pieces i p ≡ p = get_or_from_slice_get pieces i p p at in
    writes_weaker (λ b _. IsMovedTo b p) (λ b _. IsMovedPlace pieces b) (λ b bytes to. (i, p, slice_get_within pieces i p at, is, to)) old new only

abbrev is_none : Option ℕ → Type 0
is_none None = Unit {0}
is_none (Some b) = ⊥

abbrev number : Option ℕ → ℕ
number None = 0
number (Some b) = b

-- a tail lies nowhere before
pub tail_moves : (p : Piece) → p.from ≡ None → p.from ≢ Some p.place
tail_moves p is eq = subst is_none (sym is ∙ eq) tt

pub copy_moves : (p : Piece) (b : ℕ) → p.from ≡ Some b → b ≢ p.place → p.from ≢ Some p.place
copy_moves p b is other eq = other (ap number (sym is ∙ eq))

-- the place that was found is that of the key
pub at_place : (ks : List ObjectKey) (key : ObjectKey) (result : Option ℕ) (i : ℕ) → result ≡ Some i → HasPlace ks key result → slice_get ks i ≡ Some key
at_place ks key result i is has =
    let both : Some has.0 ≡ Some i = sym has.1 ∙ is in
    let same : has.0 ≡ i = cc in
    subst (λ (n : ℕ). slice_get ks n ≡ Some key) same has.2

-- bytes that were made, written to their place
pub made_block : {T : Type 0} (result : Result T VolAnswer) (old mid new : Image) (place : ℕ) (bytes tail : List ℕ) → mid ≡ old → bytes ≡ tail
    → MatchResult result (λ _. new ≡ set mid place bytes) IsFault → MatchResult result (λ _. new ≡ set old place tail) IsFault
made_block (Ok x) old mid new place bytes tail same is wrote = wrote ∙ (ap (λ (image : Image). set image place bytes) same ∙ ap (λ (l : List ℕ). set old place l) is)
made_block (Err e) old mid new place bytes tail same is wrote = wrote
