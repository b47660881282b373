-- The head of a node, as the Btrfs on-disk format documentation has it (struct btrfs_header).
use Rattle.std.specs.Prelude.{◌≡◌, ◌==◌, ◌&&◌, Bool, ℕ, List, drop}
use Rattle.std.specs.Str.{bytes_eq}
use Rattle.btr_keys.specs.btrfs_format.declared.size.TheConstants.{CSUM_SIZE, HEADER_SIZE}
use Rattle.btr_keys.specs.Layout.{Layout, made_by, ◌▸◌, array, u8, u32, u64}
use Rattle.csum_kinds.specs.declared.kind.SumKind.{SumKind}
use Rattle.btr_node.specs.declared.expect.Expect.{Expect}
use Rattle.btr_node.specs.declared.head.Head.{Head}

abbrev pub make_head : List ℕ → ℕ → List ℕ → ℕ → List ℕ → ℕ → ℕ → ℕ → ℕ → Head
make_head fsid address flags revision chunk_tree generation owner count level =
    record {
      fsid = fsid;
      address = address;
      flags = flags;
      revision = revision;
      chunk_tree = chunk_tree;
      generation = generation;
      owner = owner;
      count = count;
      level = level;
    }

unfoldable pub head_layout : Layout Head Head
head_layout =
    made_by make_head
    ▸ array 16 (λ h. h.fsid)
    ▸ u64 (λ h. h.address)
    ▸ array 7 (λ h. h.flags)
    ▸ u8 (λ h. h.revision)
    ▸ array 16 (λ h. h.chunk_tree)
    ▸ u64 (λ h. h.generation)
    ▸ u64 (λ h. h.owner)
    ▸ u32 (λ h. h.count)
    ▸ u8 (λ h. h.level)

-- the head stands behind the checksum
abbrev pub head_in : List ℕ → Head
head_in bytes = head_layout.read (drop CSUM_SIZE bytes)

-- how many items or children a node has
abbrev pub nritems : List ℕ → ℕ
nritems bytes = (head_in bytes).count

-- What stands behind the head. The places of a leaf's data count from here.
abbrev pub behind_head : List ℕ → List ℕ
behind_head bytes = drop HEADER_SIZE bytes

-- what a parent would say of a node with this head
abbrev pub expected : SumKind → Head → Expect
expected sums head =
    record { address = head.address; fsid = head.fsid; owner = head.owner; level = head.level; generation = head.generation; sums = sums }

-- the head says what the parent says
abbrev pub HasHead : Expect → List ℕ → Type 0
HasHead want bytes = expected want.sums (head_in bytes) ≡ want

-- The same as a test.
abbrev pub has_head : Expect → List ℕ → Bool
has_head want bytes =
    let head = head_in bytes in
    (head.address == want.address)
    && (bytes_eq head.fsid want.fsid && ((head.owner == want.owner) && ((head.level == want.level) && (head.generation == want.generation))))
