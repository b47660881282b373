-- Nodes on a disk.
use Rattle.btr_tree.proofs.Imports.{◌≡◌, ◌≢◌, ℕ, zero, suc, ◌+◌, ◌-◌, ◌*◌, ◌/◌, ◌%◌, ◌^◌, ◌<◌, ◌≤◌, leb, ltb, true, List, [], ◌∷◌, ◌++◌, length, take, drop, set, get_or, None, Some, refl, sym, ◌∙◌, ap, subst, arith, ⊎_elim, get_or-set_same, get_or-set_other, mul-suc, cases_eq, and_from, le-leb, lt-ltb, take-append-drop, drop-drop, nil_from_length, length-drop, length-take, get_or-take, slice_get, All-head, All-tail, mul-le, get_or_from_slice_get, slice_get_within, Image, block_at, IsNodeSize, place, holds, identity, block_of_place, blocks_at, node_at, pieces_of, AreSlots, slot, nodes_on, IsInNode, IsInSlots, HoldBytes}
use Rattle.std.specs.List.{All}

-- one block more holds its bytes
pub hold_more : (image : Image) (first j : ℕ) (bytes block : List ℕ) → first + j < length image → block ≡ take 4096 (drop (4096 * j) bytes)
    → HoldBytes image first j bytes → HoldBytes (set image (first + j) block) first (j + 1) bytes
hold_more image first j bytes block fits is so_far = λ i h.
    ⊎_elim
    (λ (same : i ≡ j).
    ap (λ (k : ℕ). get_or (set image (first + j) block) (first + k) []) same
    ∙ (get_or-set_same image (first + j) block [] fits ∙ (is ∙ ap (λ (k : ℕ). take 4096 (drop (4096 * k) bytes)) (sym same))))
    (λ (other : i ≡ j → ⊥).
    let apart : first + i ≢ first + j = λ e. other (omega arith) in
    get_or-set_other image (first + j) (first + i) block [] apart ∙ so_far i (omega arith))
    (cases_eq i j)

place_is : (a : ℕ) → a < 2 ^ 64 → place identity a ≡ Some (0 + (a - 0))
place_is a small =
    let inside : holds (record { logical = 0; length = 2 ^ 64; physical = 0; mirror = None }) a ≡ true = and_from (leb 0 a) (ltb a (0 + 2 ^ 64)) (le-leb 0 a (omega arith)) (lt-ltb a (0 + 2 ^ 64) (omega arith)) in
    rw inside refl

block_is : (image : Image) (a : ℕ) → a < 2 ^ 64 → block_of_place image (place identity a) ≡ block_at image (a / 4096)
block_is image a small =
    let same : 0 + (a - 0) ≡ a = omega arith in ap (block_of_place image) (place_is a small) ∙ ap (λ (x : ℕ). block_at image (x / 4096)) same

-- blocks that hold some bytes give them
blocks_give : (n a : ℕ) (image : Image) (bytes : List ℕ) → a + 4096 * n ≤ 2 ^ 64 → length bytes ≡ 4096 * n → HoldBytes image (a / 4096) n bytes → blocks_at image identity n a ≡ bytes
blocks_give zero a image bytes fits long hold = sym (nil_from_length bytes (omega arith))
blocks_give (suc n) a image bytes fits long hold =
    let here : block_of_place image (place identity a) ≡ take 4096 bytes =
    block_is image a (omega arith)
    ∙ (ap (block_at image) (let e : a / 4096 ≡ a / 4096 + 0 = omega arith in e) ∙ (hold 0 (omega arith) ∙ ap (λ (k : ℕ). take 4096 (drop k bytes)) (let e : 4096 * 0 ≡ 0 = omega arith in e))) in
    let rest : blocks_at image identity n (a + 4096) ≡ drop 4096 bytes =
    blocks_give n (a + 4096) image (drop 4096 bytes) (omega arith) (omega (arith, length-drop 4096 bytes, long))
    (λ j h.
    ap (block_at image) (let e : (a + 4096) / 4096 + j ≡ a / 4096 + suc j = omega arith in e)
    ∙ (hold (suc j) (omega arith)
    ∙ sym (ap (take 4096) (drop-drop (4096 * j) 4096 bytes ∙ ap (λ (k : ℕ). drop k bytes) (let e : 4096 + 4096 * j ≡ 4096 * suc j = omega arith in e))))) in
    ap (λ xs. xs ++ blocks_at image identity n (a + 4096)) here ∙ (ap (λ xs. take 4096 bytes ++ xs) rest ∙ take-append-drop 4096 bytes)

blocks_same : (n a : ℕ) (image other : Image) → a + 4096 * n ≤ 2 ^ 64 → ((j : ℕ) → j < n → block_at other (a / 4096 + j) ≡ block_at image (a / 4096 + j))
    → blocks_at other identity n a ≡ blocks_at image identity n a
blocks_same zero a image other fits same = refl
blocks_same (suc n) a image other fits same =
    let first : block_at other (a / 4096) ≡ block_at image (a / 4096) =
    ap (block_at other) (let e : a / 4096 ≡ a / 4096 + 0 = omega arith in e) ∙ (same 0 (omega arith) ∙ ap (block_at image) (let e : a / 4096 + 0 ≡ a / 4096 = omega arith in e)) in
    let here : block_of_place other (place identity a) ≡ block_of_place image (place identity a) = block_is other a (omega arith) ∙ (first ∙ sym (block_is image a (omega arith))) in
    let rest = blocks_same n (a + 4096) image other (omega arith)
    (λ j h. ap (block_at other) (let e : (a + 4096) / 4096 + j ≡ a / 4096 + suc j = omega arith in e)
    ∙ (same (suc j) (omega arith) ∙ ap (block_at image) (let e : a / 4096 + suc j ≡ (a + 4096) / 4096 + j = omega arith in e))) in
    ap (λ xs. xs ++ blocks_at other identity n (a + 4096)) here ∙ ap (λ xs. block_of_place image (place identity a) ++ xs) rest

-- a node at a slot
pub record IsPlaced (n a : ℕ) : Type 0 where
  pub whole : a % 4096 ≡ 0
  pub within : a + 4096 * (n / 4096) ≤ 2 ^ 64
  pub size : 4096 * (n / 4096) ≡ n

pub placed : (n a : ℕ) → IsNodeSize n → a % n ≡ 0 → a < 2 ^ 64 → IsPlaced n a
placed n a size aligned small =
    ⊎_elim (λ (e : n ≡ 4096). by 4096 e (λ h. record { whole = h; within = omega arith; size = refl }))
    (λ rest. ⊎_elim (λ (e : n ≡ 8192). by 8192 e (λ h. record { whole = omega arith; within = omega arith; size = refl }))
    (λ rest'. ⊎_elim (λ (e : n ≡ 16384). by 16384 e (λ h. record { whole = omega arith; within = omega arith; size = refl }))
    (λ rest''. ⊎_elim (λ (e : n ≡ 32768). by 32768 e (λ h. record { whole = omega arith; within = omega arith; size = refl }))
    (λ (e : n ≡ 65536). by 65536 e (λ h. record { whole = omega arith; within = omega arith; size = refl })) rest'') rest') rest) size
  where
    by : (k : ℕ) → n ≡ k → (a % k ≡ 0 → IsPlaced k a) → IsPlaced n a
    by k e turn = subst (λ (j : ℕ). IsPlaced j a) (sym e) (turn (subst (λ (j : ℕ). a % j ≡ 0) e aligned))

-- two slots share no block
apart_blocks : (n a c b : ℕ) → IsNodeSize n → a % n ≡ 0 → c % n ≡ 0 → a ≢ c → IsInNode n a b → IsInNode n c b → ⊥
apart_blocks n a c b size first second other x y =
    ⊎_elim (λ (e : n ≡ 4096). at 4096 e (λ p q x y. omega (arith, x.0, x.1, y.0, y.1, other)))
    (λ rest. ⊎_elim (λ (e : n ≡ 8192). at 8192 e (λ p q x y. omega (arith, x.0, x.1, y.0, y.1, other)))
    (λ rest'. ⊎_elim (λ (e : n ≡ 16384). at 16384 e (λ p q x y. omega (arith, x.0, x.1, y.0, y.1, other)))
    (λ rest''. ⊎_elim (λ (e : n ≡ 32768). at 32768 e (λ p q x y. omega (arith, x.0, x.1, y.0, y.1, other)))
    (λ (e : n ≡ 65536). at 65536 e (λ p q x y. omega (arith, x.0, x.1, y.0, y.1, other))) rest'') rest') rest) size
  where
    at : (k : ℕ) → n ≡ k → (a % k ≡ 0 → c % k ≡ 0 → IsInNode k a b → IsInNode k c b → ⊥) → ⊥
    at k e turn =
        turn (subst (λ (j : ℕ). a % j ≡ 0) e first) (subst (λ (j : ℕ). c % j ≡ 0) e second) (subst (λ (j : ℕ). IsInNode j a b) e x) (subst (λ (j : ℕ). IsInNode j c b) e y)

pub pieces_of-at : (size n k : ℕ) (bytes : List ℕ) → k < n → get_or (pieces_of size n bytes) k [] ≡ take size (drop (size * k) bytes)
pieces_of-at size zero k bytes h = absurd (omega arith)
pieces_of-at size (suc n) zero bytes h = ap (λ (j : ℕ). take size (drop j bytes)) (nothing size)
  where
    nothing : (size : ℕ) → 0 ≡ size * 0
    nothing size = grind arith
pieces_of-at size (suc n) (suc k) bytes h =
    pieces_of-at size n k (drop size bytes) (omega arith)
    ∙ ap (take size) (drop-drop (size * k) size bytes ∙ ap (λ (j : ℕ). drop j bytes) (step size k))
  where
    step : (size k : ℕ) → size + size * k ≡ size * suc k
    step size k = omega (arith, mul-suc size k)

-- one node more stands at its slot
pub stand_more : (n k : ℕ) (slots : List ℕ) (nodes : List (List ℕ)) (old new : Image) (bytes : List ℕ) → IsNodeSize n → AreSlots n slots → k < length slots → length bytes ≡ n → get_or nodes k [] ≡ bytes
    → ((i : ℕ) → i < k → node_at old identity n (slot slots i) ≡ get_or nodes i [])
    → ((b : ℕ) → (IsInNode n (slot slots k) b → ⊥) → block_at new b ≡ block_at old b)
    → HoldBytes new (slot slots k / 4096) (n / 4096) bytes
    → (i : ℕ) → i < k + 1 → node_at new identity n (slot slots i) ≡ get_or nodes i []
unfolding node_at
stand_more n k slots nodes old new bytes size right inside long is so_far others hold = λ i h.
    ⊎_elim
    (λ (same : i ≡ k).
    let here : IsPlaced n (slot slots k) = placed n (slot slots k) size (right.aligned k 0 inside) (right.small k 0 inside) in
    ap (λ (x : ℕ). blocks_at new identity (n / 4096) (slot slots x)) same
    ∙ (blocks_give (n / 4096) (slot slots k) new bytes here.within (omega (arith, here.size, long)) hold ∙ (sym is ∙ ap (λ (x : ℕ). get_or nodes x []) (sym same))))
    (λ (other : i ≡ k → ⊥).
    let low : i < k = omega (arith, h, other) in
    let inside' : i < length slots = omega (arith, low, inside) in
    let there : IsPlaced n (slot slots i) = placed n (slot slots i) size (right.aligned i 0 inside') (right.small i 0 inside') in
    let apart : slot slots i ≢ slot slots k = right.apart i k 0 low inside in
    blocks_same (n / 4096) (slot slots i) old new there.within
    (λ j g. others (slot slots i / 4096 + j)
    (λ both. apart_blocks n (slot slots i) (slot slots k) (slot slots i / 4096 + j) size (right.aligned i 0 inside') (right.aligned k 0 inside) apart (omega arith, omega arith) both))
    ∙ so_far i low)
    (cases_eq i k)

-- and of the first ones
pub in_first : (n m : ℕ) (slots : List ℕ) (k a size b : ℕ) → k < m → slice_get slots k ≡ Some a → size ≡ n → IsInNode size a b → IsInSlots n (take m slots) b
in_first n m slots k a size b low at same inside =
    let within = slice_get_within slots k a at in (
      k,
      a,
      omega (arith, within, low, length-take m slots),
      get_or-take m slots k a low ∙ get_or_from_slice_get slots k a a at,
      subst (λ (s : ℕ). IsInNode s a b) same inside,
    )

-- the bytes of one node among those of all
abbrev pub node_part : ℕ → ℕ → List ℕ → List ℕ
node_part n k bytes = take (n * k + n - n * k) (drop (n * k) bytes)

pub part_long : (n k count : ℕ) (bytes : List ℕ) → length bytes ≡ n * count → k < count → length (node_part n k bytes) ≡ n
part_long n k count bytes long inside =
    let fits : n * suc k ≤ n * count = mul-le n (suc k) n count (omega arith) (omega arith) in
    omega (arith, fits, mul-suc n k, long, length-take (n * k + n - n * k) (drop (n * k) bytes), length-drop (n * k) bytes)

pub part_is : (n k count : ℕ) (bytes : List ℕ) → k < count → get_or (pieces_of n count bytes) k [] ≡ node_part n k bytes
part_is n k count bytes inside =
    let size : n ≡ n * k + n - n * k = omega arith in pieces_of-at n count k bytes inside ∙ ap (λ (s : ℕ). take s (drop (n * k) bytes)) size

-- A node depends on its own blocks alone.
node_same : (image other : Image) (n a : ℕ) → IsNodeSize n → a % n ≡ 0 → a < 2 ^ 64 → ((b : ℕ) → IsInNode n a b → block_at other b ≡ block_at image b) → node_at other identity n a ≡ node_at image identity n a
unfolding node_at
node_same image other n a size aligned small same =
    let there : IsPlaced n a = placed n a size aligned small in blocks_same (n / 4096) a image other there.within (λ j h. same (a / 4096 + j) (omega arith, omega arith))

-- So do the nodes at the first slots.
pub nodes_same : (image other : Image) (size n : ℕ) (slots : List ℕ) → IsNodeSize size → All (λ a. a % size ≡ 0) slots → All (λ a. a < 2 ^ 64) slots
    → ((b : ℕ) → IsInSlots size (take n slots) b → block_at other b ≡ block_at image b) → nodes_on other size slots n ≡ nodes_on image size slots n
nodes_same image other size zero slots right aligned small same = refl
nodes_same image other size (suc n) [] right aligned small same = refl
nodes_same image other size (suc n) (a ∷ slots) right aligned small same =
    let here : node_at other identity size a ≡ node_at image identity size a =
    node_same image other size a right (All-head (λ b. b % size ≡ 0) a slots aligned) (All-head (λ b. b < 2 ^ 64) a slots small) (λ b inside. same b (0, a, omega arith, refl, inside)) in
    let rest : nodes_on other size slots n ≡ nodes_on image size slots n =
    nodes_same image other size n slots right (All-tail (λ b. b % size ≡ 0) a slots aligned) (All-tail (λ b. b < 2 ^ 64) a slots small)
    (λ b found. same b (suc found.0, found.1, omega (arith, found.2), found.3, found.4)) in
    ap (λ x. x ∷ nodes_on other size slots n) here ∙ ap (λ xs. node_at image identity size a ∷ xs) rest
