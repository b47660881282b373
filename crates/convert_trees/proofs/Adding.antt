-- One more tree stands.
use Rattle.convert_trees.proofs.Imports.{◌≡◌, ◌∙◌, ℕ, ◌++◌, Bool, true, false, List, [], if◌then◌else◌, drop, Result, Ok, Err, sym, ap, subst, IfErr, IsErrAnd, MatchResult, Image, Item, lengths_of, Root, FitsBlocks, Items, Super, Volume, nodes_of_tree, IsFailure, TreeStands, read_form, WriteAnswer, Trees, ArePlaced, Piece, Adds, FitsFiles, HasPlacedPieces}
use Rattle.convert_trees.proofs.Staying.{files_fit}

pub adds_of : (r : Result Root WriteAnswer) (image : Image) (old new : Trees) (owner : ℕ) (items : List Item)
    → MatchResult r (λ root. TreeStands image (read_form old.form) owner (drop old.taken old.slots) items root × (new.nodes ≡ old.nodes ++ nodes_of_tree owner old.form.nodesize (lengths_of items) (drop old.taken old.slots))) IsFailure
    → MatchResult r (λ root. Adds image old new owner items root) IsFailure
adds_of (Ok root) image old new owner items told = record { stands = told.0; nodes = told.1 }
adds_of (Err e) image old new owner items told = told

pub fits_files : (items : Items) (volume : Volume) (pieces : List Piece) (image : Image) → HasPlacedPieces volume pieces image → FitsBlocks items volume image → FitsFiles items volume pieces image
fits_files items volume pieces image has blocks = files_fit items volume pieces image (record { accepted = has.accepted; opened = has.opened; room = has.room; placed = has.placed; blocks = blocks })

-- the pieces lie on the opened volume
pub placed_in : (volume : Volume) (pieces : List Piece) (image : Image) → HasPlacedPieces volume pieces image → ArePlaced volume.sup.blocks pieces
placed_in volume pieces image has = subst (λ (s : Super). ArePlaced s.blocks pieces) (sym has.opened.sup) has.placed

-- the items of a list from its first on
pub all_of_list : (given : ℕ) (held list items : List Item) → held ≡ list → given ≡ 0 → list ≡ items → drop given held ≡ items
all_of_list given held list items same none are = ap (λ (n : ℕ). drop n held) none ∙ (same ∙ are)

-- a list of nothing where it is not asked for
pub none_of : (asked : Bool) (items : List Item) → asked ≡ false → [] ≡ (if asked then items else [])
none_of asked items isnt = ap (λ (d : Bool). if d then items else []) (sym isnt)

pub some_of : (asked : Bool) (items : List Item) → asked ≡ true → items ≡ (if asked then items else [])
some_of asked items is = ap (λ (d : Bool). if d then items else []) (sym is)

-- a failure that was handed on is one
pub failed : {T : Type 0} (r : Result T WriteAnswer) (e : WriteAnswer) (P : T → Type 0) → IsErrAnd r (λ x. x ≡ e) → IsFailure e → MatchResult r P IsFailure
failed (Ok x) e P told is = absurd told
failed (Err x) e P told is = subst IsFailure (sym told) is

-- so is want of memory
pub handed : {T : Type 0} (r : Result T WriteAnswer) (e a : WriteAnswer) → IsErrAnd r (λ x. x ≡ e) → e ≡ a → IfErr r (λ x. x ≡ a)
handed (Ok x) e a told is = absurd told
handed (Err x) e a told is = told ∙ is
