-- What a marker holds after one more extent.
use Rattle.btr_reader_contents.proofs.Imports.{◌≡◌, ℕ, ◌+◌, ◌≤◌, true, List, [], ◌∷◌, ◌++◌, Some, Contains, refl, sym, ap, subst, ◌∙◌, arith, Contains-append_left, Contains-append_right, BtrRefusal, FileExtentValue, file_extent_of, MapRange, TreeItem, none_both, Reach, extent_length, covered_by, end_after, covered_after, has_form, is_aligned, extent_refusals, refusals_at, extents_refusals, extents_end, extents_covered, ReachSoFar}
use Rattle.btr_reader_contents.proofs.ExtentLists.{extents_refusals-append, extents_end-append, extents_covered-append, form_of_sound, behind_end, aligned_of}

-- what is wrong with an extent behind others is wrong with all
pub extent_refused : (reach : Reach) (ranges : List MapRange) (given : List TreeItem) (i : TreeItem) (r : BtrRefusal) → ReachSoFar reach ranges given
    → Contains (refusals_at ranges reach.end reach.covered i (file_extent_of i.body)) r → Contains (extents_refusals ranges 0 0 (given ++ i ∷ [])) r
extent_refused reach ranges given i r so_far bad =
    let here : List BtrRefusal = refusals_at ranges (extents_end 0 given) (extents_covered 0 given) i (file_extent_of i.body) in
    let same : refusals_at ranges reach.end reach.covered i (file_extent_of i.body) ≡ here =
    ap (λ (e : ℕ). refusals_at ranges e reach.covered i (file_extent_of i.body)) so_far.end
    ∙ ap (λ (c : ℕ). refusals_at ranges (extents_end 0 given) c i (file_extent_of i.body)) so_far.covered in
    subst (λ (z : List BtrRefusal). Contains z r) (sym (extents_refusals-append ranges 0 0 given (i ∷ [])))
    (Contains-append_right (extents_refusals ranges 0 0 given) (here ++ []) r (Contains-append_left here [] r (subst (λ (z : List BtrRefusal). Contains z r) same bad)))

-- an extent with which nothing is wrong
pub reach_more : (reach reach' : Reach) (ranges : List MapRange) (given : List TreeItem) (i : TreeItem) (x : FileExtentValue) → ReachSoFar reach ranges given → file_extent_of i.body ≡ Some x
    → extent_refusals ranges reach.end reach.covered i.key.offset i.leaf x ≡ [] → reach'.end ≡ i.key.offset + extent_length x.content → reach'.covered ≡ reach.covered + covered_by x.content
    → ReachSoFar reach' ranges (given ++ i ∷ [])
reach_more reach reach' ranges given i x so_far read none ends covers =
    let end : ℕ = extents_end 0 given in
    let covered : ℕ = extents_covered 0 given in
    let right : refusals_at ranges end covered i (file_extent_of i.body) ≡ [] =
    ap (refusals_at ranges end covered i) read
    ∙ (ap (λ (e : ℕ). extent_refusals ranges e covered i.key.offset i.leaf x) (sym so_far.end)
    ∙ (ap (λ (c : ℕ). extent_refusals ranges reach.end c i.key.offset i.leaf x) (sym so_far.covered) ∙ none)) in
    record {
      sound =
          extents_refusals-append ranges 0 0 given (i ∷ [])
          ∙ none_both (extents_refusals ranges 0 0 given) _ so_far.sound (none_both (refusals_at ranges end covered i (file_extent_of i.body)) [] right refl);
      end = ends ∙ (sym (ap (end_after end i.key.offset) read) ∙ sym (extents_end-append 0 given (i ∷ [])));
      covered =
          covers
          ∙ (ap (λ (c : ℕ). c + covered_by x.content) so_far.covered ∙ (sym (ap (covered_after covered) read) ∙ sym (extents_covered-append 0 given (i ∷ []))));
    }

-- it begins behind those before, in whole blocks
pub begins_behind : (reach : Reach) (ranges : List MapRange) (given : List TreeItem) (offset leaf : ℕ) (x : FileExtentValue) → ReachSoFar reach ranges given
    → extent_refusals ranges reach.end reach.covered offset leaf x ≡ [] → extents_end 0 given ≤ offset
begins_behind reach ranges given offset leaf x so_far none =
    let form : has_form reach.end reach.covered offset x.content ≡ true = form_of_sound ranges reach.end reach.covered offset leaf x none in
    let behind : reach.end ≤ offset = behind_end reach.end reach.covered offset x.content form in
    omega (arith, behind, so_far.end)

pub is_straight : (reach : Reach) (ranges : List MapRange) (offset leaf : ℕ) (x : FileExtentValue) → extent_refusals ranges reach.end reach.covered offset leaf x ≡ [] → is_aligned offset x.content ≡ true
is_straight reach ranges offset leaf x none = aligned_of reach.end reach.covered offset x.content (form_of_sound ranges reach.end reach.covered offset leaf x none)
