-- What is gathered of a file after one more item of its tree.
use Rattle.btr_reader.proofs.Imports.{◌≡◌, ℕ, ◌+◌, ◌≤◌, Bool, true, false, ◌||◌, List, [], ◌∷◌, ◌++◌, Option, Some, Contains, refl, sym, ◌∙◌, ap, subst, Contains-append_left, Contains-append_right, filter-append, BtrAnswer, BtrRefusal, FileExtentValue, file_extent_of, MapRange, TreeItem, none_both, Gathered, MappedExtent, is_extent_of, extents_of, extent_length, covered_by, end_after, covered_after, has_form, extent_refusals, refusals_at, extents_refusals, extents_end, extents_covered, content_is_inline, is_inline, IsAmong, pieces_place, pieces_of, any_inline, GathersExtents, extents_refusals-append, extents_end-append, extents_covered-append, form_of_sound, behind_end, aligned_of, extents_of-one}
use Rattle.std.proofs.lemmas.List.Folds.{list_any-append}
use Rattle.btr_reader.proofs.Among.{among_left}
use Rattle.btr_reader.proofs.Gathering.{one_more}

-- what is wrong with an extent behind others is wrong with all
pub item_refused : (ranges : List MapRange) (ino : ℕ) (given : List TreeItem) (i : TreeItem) (o : Option FileExtentValue) (end covered : ℕ) (r : BtrRefusal) → is_extent_of ino i ≡ true → file_extent_of i.body ≡ o
    → end ≡ extents_end 0 (extents_of given ino) → covered ≡ extents_covered 0 (extents_of given ino) → Contains (refusals_at ranges end covered i o) r
    → Contains (extents_refusals ranges 0 0 (extents_of (given ++ i ∷ []) ino)) r
item_refused ranges ino given i o end covered r own read ends covers bad =
    let done : List TreeItem = extents_of given ino in
    let here : List BtrRefusal = refusals_at ranges (extents_end 0 done) (extents_covered 0 done) i (file_extent_of i.body) in
    let same : refusals_at ranges end covered i o ≡ here =
    ap (λ (e : ℕ). refusals_at ranges e covered i o) ends
    ∙ (ap (λ (c : ℕ). refusals_at ranges (extents_end 0 done) c i o) covers ∙ ap (refusals_at ranges (extents_end 0 done) (extents_covered 0 done) i) (sym read)) in
    subst (λ (z : List BtrRefusal). Contains z r) (sym (ap (extents_refusals ranges 0 0) (extents_of-one given i ino own) ∙ extents_refusals-append ranges 0 0 done (i ∷ [])))
    (Contains-append_right (extents_refusals ranges 0 0 done) (here ++ []) r
    (Contains-append_left here [] r (subst (λ (z : List BtrRefusal). Contains z r) same bad)))

or_false : (t : Bool) → (t || false) ≡ t
or_false true = refl
or_false false = refl

-- an extent was added
pub gathers_one : (ranges : List MapRange) (ino : ℕ) (given : List TreeItem) (i : TreeItem) (g h : Gathered) (x : FileExtentValue) → is_extent_of ino i ≡ true → file_extent_of i.body ≡ Some x
    → GathersExtents ranges (extents_of given ino) g → extent_refusals ranges g.reach.end g.reach.covered i.key.offset i.leaf x ≡ []
    → h.reach.end ≡ i.key.offset + extent_length x.content → h.reach.covered ≡ g.reach.covered + covered_by x.content
    → h.inline ≡ (g.inline || content_is_inline x.content) → h.pieces.items ≡ g.pieces.items ++ pieces_of i.key.offset x.content
    → GathersExtents ranges (extents_of (given ++ i ∷ []) ino) h
gathers_one ranges ino given i g h x own read k none ends covers inline pieces =
    let done : List TreeItem = extents_of given ino in
    let end : ℕ = extents_end 0 done in
    let covered : ℕ = extents_covered 0 done in
    let right : refusals_at ranges end covered i (file_extent_of i.body) ≡ [] =
    ap (refusals_at ranges end covered i) read
    ∙ (ap (λ (e : ℕ). extent_refusals ranges e covered i.key.offset i.leaf x) (sym k.end)
    ∙ (ap (λ (c : ℕ). extent_refusals ranges g.reach.end c i.key.offset i.leaf x) (sym k.covered) ∙ none)) in
    let form : has_form g.reach.end g.reach.covered i.key.offset x.content ≡ true = form_of_sound ranges g.reach.end g.reach.covered i.key.offset i.leaf x none in
    let behind : end ≤ i.key.offset = subst (λ (e : ℕ). e ≤ i.key.offset) k.end (behind_end g.reach.end g.reach.covered i.key.offset x.content form) in
    subst (λ (z : List TreeItem). GathersExtents ranges z h) (sym (extents_of-one given i ino own))
    (record {
      sound =
          extents_refusals-append ranges 0 0 done (i ∷ [])
          ∙ none_both (extents_refusals ranges 0 0 done) _ k.sound (none_both (refusals_at ranges end covered i (file_extent_of i.body)) [] right refl);
      end = ends ∙ (sym (ap (end_after end i.key.offset) read) ∙ sym (extents_end-append 0 done (i ∷ [])));
      covered =
          covers
          ∙ (ap (λ (c : ℕ). c + covered_by x.content) k.covered ∙ (sym (ap (covered_after covered) read) ∙ sym (extents_covered-append 0 done (i ∷ []))));
      inline =
          inline
          ∙ (ap (λ t. t || content_is_inline x.content) k.inline
          ∙ (ap (λ t. any_inline done || t) (sym (or_false (is_inline (file_extent_of i.body)) ∙ ap is_inline read))
          ∙ sym (list_any-append (λ (e : TreeItem). is_inline (file_extent_of e.body)) done (i ∷ []))));
      blocks =
          λ b.
          ap (λ (z : List MappedExtent). pieces_place ranges z b) pieces
          ∙ one_more ranges done i x g.pieces.items b read k.sound behind (aligned_of g.reach.end g.reach.covered i.key.offset x.content form) (k.blocks b);
    })

-- what is wrong with the first extents of a file is wrong with all
pub extents_first : (ranges : List MapRange) (ino : ℕ) (all given later : List TreeItem) (e : BtrAnswer) → all ≡ given ++ later → IsAmong (extents_refusals ranges 0 0 (extents_of given ino)) e
    → IsAmong (extents_refusals ranges 0 0 (extents_of all ino)) e
extents_first ranges ino all given later e parts bad =
    subst (λ (z : List BtrRefusal). IsAmong z e)
    (sym (ap (λ (z : List TreeItem). extents_refusals ranges 0 0 (extents_of z ino)) parts
    ∙ (ap (extents_refusals ranges 0 0) (filter-append (is_extent_of ino) given later) ∙ extents_refusals-append ranges 0 0 (extents_of given ino) (extents_of later ino))))
    (among_left (extents_refusals ranges 0 0 (extents_of given ino)) _ e bad)
