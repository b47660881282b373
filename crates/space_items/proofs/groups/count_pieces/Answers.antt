use Rattle.space_items.proofs.Imports.{◌≡◌, ◌≤◌, ◌<◌, ℕ, ◌+◌, ◌*◌, ◌∙◌, List, Some, refl, sym, ap, arith, PlannedChunk, Piece, IsSmallPiece, Group}
use Rattle.space_items.proofs.Counting.{all_at, counted_none, counted_in, counted_out, counted_stop, counted_within, lies_more, lies_weaker, piece_bytes, piece_place, pieces_fit, pieces_rise}
use Rattle.space_items.proofs.groups.count_pieces.Goals.{then-piece-group, else-piece-group}
use Rattle.space_items.proofs.groups.count_pieces.Goals as goal

piece_same : (p q : Piece) → Some p ≡ Some q → p ≡ q
piece_same p q is = cc

pub loop-next-init : goal.loop-next-init
loop-next-init g c =
    let all : List Piece = g.P.PieceList.pieces c.args.pieces.now in
    let low : ℕ = 4096 * c.args.group.now.chunk.start in
    let high : ℕ = 4096 * (c.args.group.now.chunk.start + c.args.group.now.chunk.length) in
    let none = counted_none piece_place piece_bytes low high all c.args.first c.requires.before in
    record {
      chunk = refl;
      used = c.requires.none ∙ sym none;
      before = lies_weaker piece_place piece_bytes low high all c.args.first c.requires.before (omega arith);
    }

pub overflow_mul-get : goal.overflow_mul-get
overflow_mul-get g c =
    let all : List Piece = g.P.PieceList.pieces c.args.pieces.now in
    let h = (all_at IsSmallPiece all c.loop-next.next c.get.result.now c.requires.pieces.small c.get.ensures).place in
    omega (arith, h)

pub overflow_mul-group : goal.overflow_mul-group
overflow_mul-group g c =
    let all : List Piece = g.P.PieceList.pieces c.args.pieces.now in
    let h = (all_at IsSmallPiece all c.loop-next.next c.get-piece.result.now c.requires.pieces.small c.get-piece.ensures).place in
    omega (arith, h)

pub overflow_add-group : goal.overflow_add-group
overflow_add-group g c =
    let all : List Piece = g.P.PieceList.pieces c.args.pieces.now in
    let p : Piece = c.get-piece.result.now in
    let low : ℕ = 4096 * c.args.group.now.chunk.start in
    let high : ℕ = 4096 * (c.args.group.now.chunk.start + c.args.group.now.chunk.length) in
    let h = (all_at IsSmallPiece all c.loop-next.next p c.requires.pieces.small c.get-piece.ensures).place in
    let part = counted_within piece_place piece_bytes low high all c.loop-next.next in
    let fit = pieces_fit all c.requires.pieces in
    let used = c.loop-next.invariant.used in
    omega (arith, h, part, fit, used)

pub loop-next-preserved : goal.loop-next-preserved
loop-next-preserved g c =
    let all : List Piece = g.P.PieceList.pieces c.args.pieces.now in
    let p : Piece = c.get-piece.result.now in
    let low : ℕ = 4096 * c.args.group.now.chunk.start in
    let high : ℕ = 4096 * (c.args.group.now.chunk.start + c.args.group.now.chunk.length) in
    let same : c.get.result.now ≡ p = piece_same c.get.result.now p (sym c.get.ensures ∙ c.get-piece.ensures) in
    let chunk = c.loop-next.invariant.chunk in
    let end : c.end.result ≡ high = c.end.ensures ∙ ap (λ (k : PlannedChunk). 4096 * (k.start + k.length)) chunk in
    let place = ap piece_place same in
    let below : piece_place p < high = omega (arith, c.if-get-end.true, end, place) in
    let start = ap (λ (k : PlannedChunk). k.start) chunk in
    let lie = lies_more piece_place piece_bytes high all c.loop-next.next p c.loop-next.invariant.before c.get-piece.ensures below in
    elim c.if-piece-group.branch [
      | then-piece-group w ↦
          let in_it : low ≤ piece_place p = omega (arith, w.if-piece-group.true, start) in
          let more = counted_in piece_place piece_bytes low high all c.loop-next.next p c.get-piece.ensures in_it below in
          record {
            chunk = ap (λ (k : Group). k.chunk) w.group-is ∙ chunk;
            used = ap (λ (k : Group). k.used) w.group-is ∙ (ap (λ (k : ℕ). k + piece_bytes p) c.loop-next.invariant.used ∙ sym more);
            before = lie;
          }
      | else-piece-group w ↦
          let out : piece_place p < low = omega (arith, w.if-piece-group.false, start) in
          let more = counted_out piece_place piece_bytes low high all c.loop-next.next p c.get-piece.ensures out in
          record {
            chunk = ap (λ (k : Group). k.chunk) w.group-is ∙ chunk;
            used = ap (λ (k : Group). k.used) w.group-is ∙ (c.loop-next.invariant.used ∙ sym more);
            before = lie;
          }
    ]

pub returns-else-get-end-clause-used : goal.returns-else-get-end-clause-used
returns-else-get-end-clause-used g c =
    let all : List Piece = g.P.PieceList.pieces c.args.pieces.now in
    let low : ℕ = 4096 * c.args.group.now.chunk.start in
    let high : ℕ = 4096 * (c.args.group.now.chunk.start + c.args.group.now.chunk.length) in
    let end : c.end.result ≡ high = c.end.ensures ∙ ap (λ (k : PlannedChunk). 4096 * (k.start + k.length)) c.loop-next.invariant.chunk in
    let above : high ≤ piece_place c.get.result.now = omega (arith, c.if-get-end.false, end) in
    c.loop-next.invariant.used ∙ counted_stop piece_place piece_bytes low high all c.loop-next.next c.get.result.now c.get.ensures above (pieces_rise all c.requires.pieces)

pub returns-else-get-end-clause-few : goal.returns-else-get-end-clause-few
returns-else-get-end-clause-few g c =
    let all : List Piece = g.P.PieceList.pieces c.args.pieces.now in
    let low : ℕ = 4096 * c.args.group.now.chunk.start in
    let high : ℕ = 4096 * (c.args.group.now.chunk.start + c.args.group.now.chunk.length) in
    let part = counted_within piece_place piece_bytes low high all c.loop-next.next in
    let fit = pieces_fit all c.requires.pieces in
    let used = c.loop-next.invariant.used in
    omega (arith, part, fit, used)

pub returns-after-loop-next-clause-few : goal.returns-after-loop-next-clause-few
returns-after-loop-next-clause-few g c =
    let all : List Piece = g.P.PieceList.pieces c.args.pieces.now in
    let low : ℕ = 4096 * c.args.group.now.chunk.start in
    let high : ℕ = 4096 * (c.args.group.now.chunk.start + c.args.group.now.chunk.length) in
    let part = counted_within piece_place piece_bytes low high all c.loop-next.next in
    let fit = pieces_fit all c.requires.pieces in
    let used = c.loop-next.invariant.used in
    omega (arith, part, fit, used)
