use Rattle.btr_reader_contents.proofs.Imports.{◌+◌, ◌-◌, ◌*◌, ◌≤◌, ◌++◌, ◌∷◌, [], ℕ, min, sym, ap, subst, ◌∙◌, arith, err_from_is_err_and, FileExtentValue, file_extent_of, file_extent_value, Blames, HoldsBytes, Reach, content, extent_length, content_byte, extents_end, extents_refusals, Appends}
use Rattle.btr_reader_contents.proofs.ExtentAdding.{extent_refused, reach_more, begins_behind, is_straight}
use Rattle.btr_reader_contents.proofs.ExtentContents.{extent_appends}
use Rattle.btr_reader_contents.proofs.marker.ExtentMarker.add_extent.Goals as goal

pub returns-in_err-extent-clause-refused : goal.returns-in_err-extent-clause-refused
returns-in_err-extent-clause-refused g c = λ given i leaf offset body so_far.
    let err = err_from_is_err_and c.from_residual.result c.from_residual.ensures.1 in
    rw err.1 (subst (Blames (extents_refusals c.args.ranges.now 0 0 (given ++ i ∷ []))) (sym err.2)
    (extent_refused c.args.self.now.reach c.args.ranges.now given i c.in_err-extent.field-0.0 so_far (c.in_err-extent.ensures.err i leaf offset body)))

pub returns-clause-reaches : goal.returns-clause-reaches
returns-clause-reaches g c = λ given i leaf offset body so_far.
    let x : FileExtentValue = file_extent_value c.in_ok-extent.extent in
    reach_more c.args.self.now.reach c.put_extent.new.self.reach c.args.ranges.now given i (file_extent_value c.in_ok-extent.extent) so_far (ap file_extent_of body ∙ c.in_ok-extent.ensures.read)
    (rw (offset, leaf) c.in_ok-extent.ensures.sound)
    (ap (λ (k : Reach). k.end) c.in_ok-put_extent.ensures.reach ∙ ap (λ (o : ℕ). o + extent_length x.content) (sym offset))
    (ap (λ (k : Reach). k.covered) c.in_ok-put_extent.ensures.reach)

pub returns-clause-marks : goal.returns-clause-marks
returns-clause-marks g c = λ tells image is whole given i leaf offset body marks.
    let x : FileExtentValue = file_extent_value c.in_ok-extent.extent in
    let size : ℕ = c.args.self.now.file.size in
    let reach : Reach = c.args.self.now.reach in
    let read = ap file_extent_of body ∙ c.in_ok-extent.ensures.read in
    let behind : extents_end 0 given ≤ c.args.offset = begins_behind c.args.self.now.reach c.args.ranges.now given c.args.offset c.args.leaf (file_extent_value c.in_ok-extent.extent) marks.reaches c.in_ok-extent.ensures.sound in
    let low : 4096 * c.args.self.now.file.next ≤ c.args.offset = omega (arith, marks.near, marks.reaches.end, behind) in
    let over = extent_appends image c.args.ranges.now given i (file_extent_value c.in_ok-extent.extent) c.args.self.now.file.size marks.reaches.sound read (omega (arith, behind, offset)) in
    let here = subst (λ (o : ℕ). Appends o (min (extent_length x.content) (size - o)) (content_byte image c.args.ranges.now x.content) (content image c.args.ranges.now given size) (content image c.args.ranges.now (given ++ i ∷ []) size)) offset over in
    let put = c.in_ok-put_extent.ensures.bytes tells image is whole (is_straight reach c.args.ranges.now c.args.offset c.args.leaf x c.in_ok-extent.ensures.sound) _ _ here low marks.bytes in
    record {
      reaches = returns-clause-reaches g c given i leaf offset body marks.reaches;
      bytes = subst (λ (s : ℕ). HoldsBytes c.put_extent.new.self.file (content image c.args.ranges.now (given ++ i ∷ []) s)) (sym c.put_extent.ensures.size) put;
      near = omega (arith, c.in_ok-put_extent.ensures.near low, ap (λ (k : Reach). k.end) c.in_ok-put_extent.ensures.reach);
    }
