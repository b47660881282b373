use Rattle.btr_node.proofs.Imports.{◌≡◌, ◌++◌, ℕ, List, length, drop, sym, ap, ◌∙◌, arith, length-take, length-drop, CSUM_SIZE, HEADER_REST_SIZE, length-kind_sum}
use borrow.Rule.Slice.PartMut.{put_mid}
use Rattle.btr_node.proofs.Putting.{put_head_is, sum_place}
use Rattle.btr_node.proofs.put.put_head.Goals as goal

pub slice_bounds-copy_from_slice-end-2 : goal.slice_bounds-copy_from_slice-end-2
slice_bounds-copy_from_slice-end-2 c = sym (sum_place c.args.bytes.now c.write.new.into c.requires)

pub copy_from_slice-requires : goal.copy_from_slice-requires
copy_from_slice-requires c = sum_place c.args.bytes.now c.write.new.into c.requires ∙ sym (ap length c.kind_sum-sum.ensures ∙ length-kind_sum c.args.sums _)

pub returns : goal.returns
returns c =
    let long : length c.write.new.into ≡ HEADER_REST_SIZE =
    omega (arith, c.write.auto.into, length-take HEADER_REST_SIZE (drop CSUM_SIZE c.args.bytes.now), length-drop CSUM_SIZE c.args.bytes.now) in
    ap (λ (z : List ℕ). z ++ drop CSUM_SIZE (put_mid CSUM_SIZE HEADER_REST_SIZE c.args.bytes.now c.write.new.into)) c.copy_from_slice.ensures.after
    ∙ put_head_is c.args.bytes.now c.write.new.into c.kind_sum-sum.result _ c.args.sums c.requires c.write.ensures long c.kind_sum-sum.ensures
