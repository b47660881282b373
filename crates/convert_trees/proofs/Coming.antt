-- The next item of a stream comes.
use Rattle.convert_trees.proofs.Imports.{ℕ, ◌+◌, ◌≤◌, Bool, true, false, List, [], ◌∷◌, Result, Ok, Err, inl, inr, refl, arith, All, MatchResult, le-max_left, le-max_right, All-nil, All-cons, Image, Item, ahead, Comes, FitsBlocks, StandsNext, Items, Volume, ComesTo as ComesAfter, IsSourceFailure, Piece, FitsFiles, pieces_end}
use Rattle.btr_tree.specs.refusals.declared.answer.VolAnswer.{VolAnswer}
use Rattle.reiser_volume.specs.reiser_volume_contents.Answers.{IsFaultOrMemory}
use Rattle.btr_tree_writer.specs.Source.{ComesTo}
use Rattle.btr_tree.specs.refusals.declared.answer.VolAnswer.TheVariants as source
use Rattle.convert_trees.proofs.Staying.{files_fit}

fails : (e : VolAnswer) → IsFaultOrMemory e → IsSourceFailure e
fails (source.Refused r) is = absurd is
fails source.Fault is = inl refl
fails source.Memory is = inr refl

fits_on : (old new : Items) (volume : Volume) (pieces : List Piece) (image : Image) → FitsFiles old volume pieces image → FitsBlocks new volume image → FitsFiles new volume pieces image
fits_on old new volume pieces image fits blocks =
    let here = fits.here in
    files_fit new volume pieces image (record { accepted = here.accepted; opened = here.opened; room = here.room; placed = here.placed; blocks = blocks })

pub files_come : {S : Type 0} (stands : S → Item → Type 0) (s : S) (r : Result Bool VolAnswer) (old new : Items) (volume : Volume) (pieces : List Piece) (image : Image)
    → ((item : Item) → StandsNext new item → stands s item) → FitsFiles old volume pieces image → MatchResult r (λ more. Comes more old new volume pieces image) IsFaultOrMemory
    → MatchResult r (λ more. FitsFiles new volume pieces image × ComesTo stands more (ahead old volume pieces image) s (ahead new volume pieces image)) IsSourceFailure
files_come stands s (Ok true) old new volume pieces image is fits came = (fits_on old new volume pieces image fits came.3, (came.0, is came.0 came.1, came.2))
files_come stands s (Ok false) old new volume pieces image is fits came = (fits_on old new volume pieces image fits came.2, (came.0, came.1))
files_come stands s (Err e) old new volume pieces image is fits came = fails e came

pub item_comes : {S : Type 0} (stands : S → Item → Type 0) (s : S) (more : Bool) (before after : List Item) (standing : Item) → stands s standing → ComesAfter more before standing after
    → ComesTo stands more before s after
item_comes stands s true before after standing is came = (standing, is, came)
item_comes stands s false before after standing is came = came

pub ends_within : (pieces : List Piece) (n : ℕ) → pieces_end pieces ≤ n → All (λ p. p.place + p.count ≤ n) pieces
ends_within [] n few = All-nil (λ (p : Piece). p.place + p.count ≤ n)
ends_within (p ∷ pieces) n few =
    All-cons (λ (p : Piece). p.place + p.count ≤ n) p pieces (omega (arith, few, le-max_left (p.place + p.count) (pieces_end pieces)))
    (ends_within pieces n (omega (arith, few, le-max_right (p.place + p.count) (pieces_end pieces))))
