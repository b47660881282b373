-- What is noted of the extents of a file after one more item of its tree.
use Rattle.btr_reader.proofs.Imports.{◌≡◌, ℕ, Bool, true, false, not, List, [], ◌∷◌, ◌++◌, Option, Some, None, is_some, refl, sym, ◌∙◌, ap, true≢false, Refused, BtrRefusal, MapRange, TreeItem, Gathered, extents_of, GathersExtents, TellsExtents}
use Rattle.btr_reader.proofs.OneExtent.{extents_first}

-- nothing was wrong so far
pub gathers_so_far : (ranges : List MapRange) (extents : List TreeItem) (o : Option BtrRefusal) (g : Gathered) (none : Bool) → is_some o ≡ not none → none ≡ true → TellsExtents ranges extents o g → GathersExtents ranges extents g
gathers_so_far ranges extents None g none is on k = k
gathers_so_far ranges extents (Some r) g none is on k = absurd (true≢false (is ∙ ap not on))

-- what was wrong stays so
pub stays_wrong : (ranges : List MapRange) (ino : ℕ) (given : List TreeItem) (i : TreeItem) (o : Option BtrRefusal) (g : Gathered) (none : Bool) → is_some o ≡ not none → none ≡ false
    → TellsExtents ranges (extents_of given ino) o g → TellsExtents ranges (extents_of (given ++ i ∷ []) ino) o g
stays_wrong ranges ino given i None g none is off k = absurd (true≢false (sym (is ∙ ap not off)))
stays_wrong ranges ino given i (Some r) g none is off k = extents_first ranges ino (given ++ i ∷ []) given (i ∷ []) (Refused r) refl k
