-- A buffer whose bytes behind the head were written through a slice.
use Rattle.btr_node.proofs.Imports.{◌≡◌, ◌≤◌, ℕ, ◌-◌, List, [], ◌++◌, length, take, drop, ap, ◌∙◌, arith, length-append, length-take, length-drop, append-nil, take_at, drop_at, drop_all, take_rest, HEADER_SIZE, behind_head}
use borrow.Rule.Slice.PartMut.{put_mid}

-- as many bytes as there were
pub refilled : (len : ℕ) (new old : List ℕ) → length new ≡ len → take len (new ++ drop (length new) old) ≡ new
refilled len new old size = take_at new (drop (length new) old) len size

-- bytes that were written from byte 101 on
put_behind : (s new : List ℕ) → HEADER_SIZE ≤ length s → drop HEADER_SIZE (put_mid HEADER_SIZE (length s - HEADER_SIZE) s new) ≡ new
put_behind s new fits =
    let front : length (take HEADER_SIZE s) ≡ HEADER_SIZE = omega (arith, length-take HEADER_SIZE s) in
    let none : drop (length s - HEADER_SIZE) (drop HEADER_SIZE s) ≡ [] = drop_all (length s - HEADER_SIZE) (drop HEADER_SIZE s) (omega (arith, length-drop HEADER_SIZE s)) in
    drop_at (take HEADER_SIZE s) (new ++ drop (length s - HEADER_SIZE) (drop HEADER_SIZE s)) HEADER_SIZE front ∙ ap (λ z. new ++ z) none ∙ append-nil new

length-put_behind : (s new : List ℕ) → HEADER_SIZE ≤ length s → length new ≡ length s - HEADER_SIZE → length (put_mid HEADER_SIZE (length s - HEADER_SIZE) s new) ≡ length s
length-put_behind s new fits size =
    omega (arith, length-append (take HEADER_SIZE s) (new ++ drop (length s - HEADER_SIZE) (drop HEADER_SIZE s)), length-append new (drop (length s - HEADER_SIZE) (drop HEADER_SIZE s)), length-take HEADER_SIZE s, length-drop (length s - HEADER_SIZE) (drop HEADER_SIZE s), length-drop HEADER_SIZE s)

-- what a slice from byte 101 on was
pub behind_of : (s old : List ℕ) → s ≡ old → take (length s - HEADER_SIZE) (drop HEADER_SIZE s) ≡ behind_head old
behind_of s old is = take_rest s HEADER_SIZE ∙ ap behind_head is

-- and what stands there after it was written
pub written_behind : (s old new : List ℕ) (len : ℕ) → s ≡ old → length s ≡ len → HEADER_SIZE ≤ length s → length new ≡ length (take (length s - HEADER_SIZE) (drop HEADER_SIZE s))
    → behind_head (take len (put_mid HEADER_SIZE (length s - HEADER_SIZE) s new ++ drop (length (put_mid HEADER_SIZE (length s - HEADER_SIZE) s new)) old)) ≡ new
written_behind s old new len is size fits written =
    let long : length new ≡ length s - HEADER_SIZE = written ∙ ap length (take_rest s HEADER_SIZE) ∙ length-drop HEADER_SIZE s in
    ap behind_head (refilled len (put_mid HEADER_SIZE (length s - HEADER_SIZE) s new) old (length-put_behind s new fits long ∙ size)) ∙ put_behind s new fits
