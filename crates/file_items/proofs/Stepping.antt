-- Steps of the stream of the file tree, and of a stream of items.
use Rattle.file_items.proofs.Imports.{◌≡◌, ◌<◌, ◌≤◌, ℕ, zero, suc, ◌+◌, Bool, true, false, List, [], ◌∷◌, ◌++◌, length, drop, get_or, Some, None, Result, Ok, Err, refl, sym, ap, ◌∙◌, append_assoc, arith, slice_get, flat_map, slice_get_within, slice_get-get_or, Item, keys, IsFaultOrMemory, Image, root, ObjectKey, by_inode, AreNumbered, Volume, Piece, IsObjectAt, AddsSome, AddsExtent, Begins, Comes, FitsRestBlocks, file_ahead, tree_ahead, rest_ahead, source_of, object_items, Basis, FileTree, Items}
use Rattle.std.specs.Result.{MatchResult}
use Rattle.reiser_volume.specs.refusals.declared.answer.VolAnswer.{VolAnswer}
use Rattle.reiser_volume.proofs.Numbered.{place_behind}
use Rattle.file_items.proofs.Streaming.{none_left}

-- an element at a place is the first from there on
pub drop_here : {A : Type 0} (xs : List A) (n : ℕ) (x : A) → slice_get xs n ≡ Some x → drop n xs ≡ x ∷ drop (n + 1) xs
drop_here [] n x there = let never : None ≡ Some x = there in absurd cc
drop_here (y ∷ xs) zero x there = let same : y ≡ x = cc in ap (λ (z : _). z ∷ xs) same
drop_here (y ∷ xs) (suc n) x there =
    let one : suc n + 1 ≡ suc (n + 1) = omega arith in
    drop_here xs n x there ∙ ap (λ (k : ℕ). x ∷ drop k (y ∷ xs)) (sym one)

-- where none stands, none is left
pub drop_none : {A : Type 0} (xs : List A) (n : ℕ) → slice_get xs n ≡ None → drop n xs ≡ []
drop_none [] zero none = refl
drop_none [] (suc n) none = refl
drop_none (x ∷ xs) zero none = let never : Some x ≡ None = none in absurd cc
drop_none (x ∷ xs) (suc n) none = drop_none xs n none

none_behind : {A : Type 0} (xs : List A) (n : ℕ) → length xs ≤ n → slice_get xs n ≡ None
none_behind [] n within = refl
none_behind (x ∷ xs) zero within = absurd (omega (arith, within))
none_behind (x ∷ xs) (suc n) within = none_behind xs n (omega (arith, within))

-- behind the last object
pub no_object : (all : List ObjectKey) (at n : ℕ) → AreNumbered at all → length all ≤ n → drop n (by_inode all) ≡ []
no_object all at n numbered behind =
    let within = slice_get_within all at root numbered.has_root in
    drop_none (by_inode all) n (sym (place_behind all at numbered n (omega (arith, within, behind))) ∙ none_behind all n behind)

-- the next object and its place
pub record IsNextObject (volume : Volume) (place begun : ℕ) : Type 0 where
  pub key : ObjectKey
  pub at : IsObjectAt volume place key
  pub rest : drop begun (by_inode (keys volume.named)) ≡ key ∷ drop (begun + 1) (by_inode (keys volume.named))

pub next_object : (volume : Volume) (place begun : ℕ) → place < length (keys volume.named) → slice_get (keys volume.named) place ≡ slice_get (by_inode (keys volume.named)) begun → IsNextObject volume place begun
next_object volume place begun within same =
    let key : ObjectKey = get_or (keys volume.named) place root in
    let at = slice_get-get_or (keys volume.named) place root within in
    record { key = key; at = at; rest = drop_here (by_inode (keys volume.named)) begun key (sym same ∙ at) }

-- the objects from one on
abbrev objects_from : Volume → List Piece → Image → Basis → List ObjectKey → List Item
objects_from volume pieces image b rest = flat_map (object_items (source_of volume pieces b.inline b.datasum image)) rest

-- an extent of the file in hand was given
pub extent_steps : (f g : FileTree) (volume : Volume) (pieces : List Piece) (image : Image) (old new : List Item) → g.basis ≡ f.basis → g.begun ≡ f.begun → AddsExtent true f.file g.file pieces old new
    → AddsSome true (tree_ahead f volume pieces image) (tree_ahead g volume pieces image) old new
extent_steps f g volume pieces image old new basis begun (item, added, ahead) = (
  item,
  [],
  added,
  ap (λ (l : List Item). l ++ objects_from volume pieces image f.basis (drop f.begun (by_inode (keys volume.named)))) ahead
      ∙ (ap (λ (b : Basis). (item ∷ file_ahead g.file pieces) ++ objects_from volume pieces image b (drop f.begun (by_inode (keys volume.named)))) (sym basis)
      ∙ ap (λ (n : ℕ). (item ∷ file_ahead g.file pieces) ++ objects_from volume pieces image g.basis (drop n (by_inode (keys volume.named)))) (sym begun)),
)

-- nothing is left of the file in hand, nor of the objects
pub tree_ends : (f : FileTree) (volume : Volume) (pieces : List Piece) (image : Image) → file_ahead f.file pieces ≡ [] → drop f.begun (by_inode (keys volume.named)) ≡ [] → tree_ahead f volume pieces image ≡ []
tree_ends f volume pieces image none behind =
    ap (λ (l : List Item). l ++ objects_from volume pieces image f.basis (drop f.begun (by_inode (keys volume.named)))) none
    ∙ ap (objects_from volume pieces image f.basis) behind

-- the next object was begun
pub object_steps : (f g : FileTree) (b : Basis) (volume : Volume) (pieces : List Piece) (image : Image) (place begun : ℕ) (items₀ items₁ items₂ : List Item) → file_ahead f.file pieces ≡ [] → items₁ ≡ items₀ → b ≡ f.basis → g.basis ≡ b → begun ≡ f.begun → g.begun ≡ begun + 1
    → (next : IsNextObject volume place begun) → Begins (source_of volume pieces b.inline b.datasum image) next.key g.file items₁ items₂ → AddsSome true (tree_ahead f volume pieces image) (tree_ahead g volume pieces image) items₀ items₂
object_steps f g b volume pieces image place begun items₀ items₁ items₂ none same own basis begun_is more next begins = (
  begins.item,
  begins.items,
  begins.added ∙ ap (λ (l : List Item). l ++ begins.item ∷ begins.items) same,
  ap (λ (l : List Item). l ++ objects_from volume pieces image f.basis (drop f.begun all)) none
      ∙ (ap (λ (c : Basis). objects_from volume pieces image c (drop f.begun all)) (sym own)
      ∙ (ap (λ (n : ℕ). objects_from volume pieces image b (drop n all)) (sym begun_is)
      ∙ (ap (objects_from volume pieces image b) next.rest
      ∙ (ap (λ (l : List Item). l ++ objects_from volume pieces image b (drop (begun + 1) all)) begins.are
      ∙ (ap (λ (l : List Item). begins.item ∷ l) (append_assoc begins.items (file_ahead g.file pieces) (objects_from volume pieces image b (drop (begun + 1) all)))
      ∙ (ap (λ (c : Basis). begins.item ∷ (begins.items ++ (file_ahead g.file pieces ++ objects_from volume pieces image c (drop (begun + 1) all)))) (sym basis)
      ∙ ap (λ (n : ℕ). begins.item ∷ (begins.items ++ (file_ahead g.file pieces ++ objects_from volume pieces image g.basis (drop n all)))) (sym more))))))),
)
  where
    all : List ObjectKey
    all = by_inode (keys volume.named)

-- all items in hand were given, and the rest has none
pub comes_none : (more : Bool) (old new : Items) (volume : Volume) (pieces : List Piece) (image : Image) (before after cleared : List Item) → length old.list ≤ old.given → new.given ≡ 0 → cleared ≡ [] → length new.list ≡ 0
    → before ≡ rest_ahead old.rest volume pieces image → after ≡ rest_ahead new.rest volume pieces image → AddsSome more before after cleared new.list → FitsRestBlocks new.rest volume image → Comes false old new volume pieces image
comes_none true old new volume pieces image before after cleared behind given clear empty before_is after_is (item, items, added, rest) fits =
    let some = ap length (added ∙ ap (λ (l : List Item). l ++ item ∷ items) clear) in
    absurd (omega (arith, some, empty))
comes_none false old new volume pieces image before after cleared behind given clear empty before_is after_is (none, end, same) fits = (
  ap (λ (l : List Item). l ++ rest_ahead old.rest volume pieces image) (none_left old.list old.given behind) ∙ (sym before_is ∙ none),
  ap (λ (l : List Item). l ++ rest_ahead new.rest volume pieces image) (ap (λ (l : List Item). drop new.given l) (same ∙ clear) ∙ none_left [] new.given (omega arith)) ∙ (sym after_is ∙ end),
  record { rest_fits = fits },
)

-- the rest has some
pub comes_some : (more : Bool) (old new : Items) (volume : Volume) (pieces : List Piece) (image : Image) (before after cleared : List Item) → length old.list ≤ old.given → new.given ≡ 1 → cleared ≡ [] → 0 < length new.list
    → before ≡ rest_ahead old.rest volume pieces image → after ≡ rest_ahead new.rest volume pieces image → AddsSome more before after cleared new.list → FitsRestBlocks new.rest volume image → Comes true old new volume pieces image
comes_some false old new volume pieces image before after cleared behind given clear some before_is after_is (none, end, same) fits =
    let empty = ap length (same ∙ clear) in
    absurd (omega (arith, some, empty))
comes_some true old new volume pieces image before after cleared behind given clear some before_is after_is (item, items, added, rest) fits =
    let list_is : new.list ≡ item ∷ items = added ∙ ap (λ (l : List Item). l ++ item ∷ items) clear in (
      item,
      (0, given, ap (λ (l : List Item). slice_get l 0) list_is),
      ap (λ (l : List Item). l ++ rest_ahead old.rest volume pieces image) (none_left old.list old.given behind)
          ∙ (sym before_is
          ∙ (rest
          ∙ (ap (λ (l : List Item). item ∷ (items ++ l)) after_is
          ∙ (ap (λ (l : List Item). item ∷ (drop 1 l ++ rest_ahead new.rest volume pieces image)) (sym list_is)
          ∙ ap (λ (n : ℕ). item ∷ (drop n new.list ++ rest_ahead new.rest volume pieces image)) (sym given))))),
      record { rest_fits = fits },
    )

-- whether a stream is spent says nothing of what comes
pub comes_still : (r : Result Bool VolAnswer) (old new : Items) (spent : Bool) (volume : Volume) (pieces : List Piece) (image : Image) → MatchResult r (λ more. Comes more old new volume pieces image) IsFaultOrMemory
    → MatchResult r (λ more. Comes more old (record new { spent = spent }) volume pieces image) IsFaultOrMemory
comes_still (Ok true) old new spent volume pieces image (item, stands, rest, fits) = (item, stands, rest, record { rest_fits = fits.rest_fits })
comes_still (Ok false) old new spent volume pieces image (none, end, fits) = (none, end, record { rest_fits = fits.rest_fits })
comes_still (Err e) old new spent volume pieces image fault = fault
