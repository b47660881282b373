use Rattle.space_items.proofs.Imports.{◌≡◌, ◌+◌, ◌<◌, ◌^◌, ◌∙◌, List, Option, sym, ap, subst, IfSome, Piece, FitsExtents, IsSmallNext, extents_ahead, first_of, passed, place_of, ExtentStream, Next}
use Rattle.space_items.proofs.Nexts.{Ahead, group_here, node_here, piece_here, extents_next, next_small, below_small, next_fits, next_room}
use Rattle.space_items.proofs.extent_stream.ExtentStream.next_of.Goals as goal

next_is : (a b c n p g r : Option Next) → a ≡ g → b ≡ n → c ≡ p → r ≡ first_of a (first_of b c) → r ≡ first_of g (first_of n p)
next_is a b c n p g r group node piece is = is ∙ (ap (λ (x : Option Next). first_of x (first_of b c)) group ∙ (ap (λ (x : Option Next). first_of g (first_of x c)) node ∙ ap (λ (x : Option Next). first_of g (first_of n x)) piece))

pub first_of-requires-clause-b : goal.first_of-requires-clause-b
first_of-requires-clause-b g c =
    let all : List Piece = g.P.PieceList.pieces c.args.pieces.now in
    let s : ExtentStream = c.args.self.now in
    let is : c.first_of-other.result ≡ first_of (node_here s c.args.nodes.now) (piece_here s all) =
    c.first_of-other.ensures ∙ (ap (λ (x : Option Next). first_of x c.next_piece.result) c.next_node.ensures.there ∙ ap (first_of (node_here s c.args.nodes.now)) c.next_piece.ensures.there) in
    subst (λ (r : Option Next). IfSome r IsSmallNext) (sym is) (below_small s all c.args.nodes.now c.requires.fits)

pub returns-clause-small : goal.returns-clause-small
returns-clause-small g c =
    let all : List Piece = g.P.PieceList.pieces c.args.pieces.now in
    let s : ExtentStream = c.args.self.now in
    let is = next_is c.next_group.result c.next_node.result c.next_piece.result (node_here s c.args.nodes.now) (piece_here s all) (group_here s) c.first_of.result c.next_group.ensures.there c.next_node.ensures.there c.next_piece.ensures.there
    (c.first_of.ensures ∙ ap (first_of c.next_group.result) c.first_of-other.ensures) in
    subst (λ (r : Option Next). IfSome r IsSmallNext) (sym is) (next_small s all c.args.nodes.now c.requires.fits)

pub returns-clause-room : goal.returns-clause-room
returns-clause-room g c =
    let all : List Piece = g.P.PieceList.pieces c.args.pieces.now in
    let s : ExtentStream = c.args.self.now in
    let is = next_is c.next_group.result c.next_node.result c.next_piece.result (node_here s c.args.nodes.now) (piece_here s all) (group_here s) c.first_of.result c.next_group.ensures.there c.next_node.ensures.there c.next_piece.ensures.there
    (c.first_of.ensures ∙ ap (first_of c.next_group.result) c.first_of-other.ensures) in
    subst (λ (r : Option Next). IfSome r (λ n. place_of s n + 1 < 2 ^ 64)) (sym is)
    (next_room s all c.args.nodes.now (subst (λ (r : Option Next). IfSome r (λ n. s.group + 1 < 2 ^ 64)) c.next_group.ensures.there c.next_group.ensures.room)
    (subst (λ (r : Option Next). IfSome r (λ n. s.node + 1 < 2 ^ 64)) c.next_node.ensures.there c.next_node.ensures.room)
    (subst (λ (r : Option Next). IfSome r (λ n. s.piece + 1 < 2 ^ 64)) c.next_piece.ensures.there c.next_piece.ensures.room))

pub returns-clause-fits : goal.returns-clause-fits
returns-clause-fits g c =
    let all : List Piece = g.P.PieceList.pieces c.args.pieces.now in
    let s : ExtentStream = c.args.self.now in
    let is = next_is c.next_group.result c.next_node.result c.next_piece.result (node_here s c.args.nodes.now) (piece_here s all) (group_here s) c.first_of.result c.next_group.ensures.there c.next_node.ensures.there c.next_piece.ensures.there
    (c.first_of.ensures ∙ ap (first_of c.next_group.result) c.first_of-other.ensures) in
    subst (λ (r : Option Next). IfSome r (λ n. FitsExtents (passed s n) all c.args.nodes.now)) (sym is) (next_fits s all c.args.nodes.now c.requires.fits)

pub returns-clause-next : goal.returns-clause-next
returns-clause-next g c =
    let all : List Piece = g.P.PieceList.pieces c.args.pieces.now in
    let s : ExtentStream = c.args.self.now in
    let is = next_is c.next_group.result c.next_node.result c.next_piece.result (node_here s c.args.nodes.now) (piece_here s all) (group_here s) c.first_of.result c.next_group.ensures.there c.next_node.ensures.there c.next_piece.ensures.there
    (c.first_of.ensures ∙ ap (first_of c.next_group.result) c.first_of-other.ensures) in
    subst (λ (r : Option Next). Ahead r (extents_ahead s all c.args.nodes.now) (λ n. extents_ahead (passed s n) all c.args.nodes.now)) (sym is) (extents_next s all c.args.nodes.now)
