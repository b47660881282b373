-- Chunks that were written into the bootstrap array read as these chunks.
use Rattle.btr_reader.proofs.Imports.{◌≡◌, ℕ, ◌+◌, ◌-◌, ◌^◌, ◌≤◌, ◌<◌, cond, ltb, Bool, false, List, [], ◌∷◌, ◌++◌, length, take, drop, Option, Some, None, refl, sym, ◌∙◌, ap, arith, append_assoc, length-append, flat_map, AllByRecursion, option_map, le-ltb, ne_eqb, take_at, drop_at, CHUNK_ITEM, FIRST_CHUNK_TREE_OBJECTID, field, Key, Super, ChunkAt, placed_chunk, entry_size, front_chunk, chunks_within, array_chunks, is_chunk_key, second_stripe, array_entry, FitsArray, boot_chunks}
use Rattle.std.proofs.Math.Seq.{drop-append-add}
use Rattle.btr_reader_walk.specs.btr_keys.Key.{key_layout, key_bytes, make_key, key_in_bytes}
use Rattle.btr_reader_walk.proofs.btr_keys.Records.{key_reads}
use Rattle.btr_space_items.specs.Chunk.{chunk_bytes}
use Rattle.btr_space_items.specs.Stripe.{stripe_at}
use Rattle.btr_space_items.specs.declared.chunk.Chunk.{Chunk}
use Rattle.btr_space_items.specs.declared.stripe.Stripe.{Stripe}
use Rattle.btr_space_items.proofs.Records.{chunks_read_back, chunk_reads, chunk_width, stripes_at}
use Rattle.btr_reader.proofs.Array.{with_first, more_chunks}

key_width : key_layout.width ≡ 17
unfolding key_layout
key_width = refl

fits_key : (n : ℕ) → n < 2 ^ 64 → key_layout.fits (make_key FIRST_CHUNK_TREE_OBJECTID CHUNK_ITEM n)
unfolding key_layout
fits_key n small = (((tt, omega arith), omega arith), omega (arith, small))

-- the body of one stripe has no second one, and reads as the chunk
pub chunk_made : (c : ChunkAt) → FitsArray c → placed_chunk c.logical (chunk_bytes c.chunk) ≡ Some c
chunk_made c fits =
    let bytes : List ℕ = chunk_bytes c.chunk in
    let long : length bytes ≡ 80 = chunk_reads.len c.chunk fits.fields ∙ chunk_width in
    let lone : second_stripe bytes ≡ c.mirror = ap (λ (b : Bool). cond b (Some (stripe_at bytes 80)) None) (ne_eqb (length bytes) 112 (λ e. omega (arith, e, long))) ∙ sym fits.alone in
    let make : Chunk → ChunkAt = λ x. record { logical = c.logical; chunk = x; mirror = second_stripe bytes } in
    ap (option_map make) (chunks_read_back c.chunk fits.fields fits.single)
    ∙ ap (λ (m : Option Stripe). let o : Option ChunkAt = Some (record { logical = c.logical; chunk = c.chunk; mirror = m }) in o) lone

module _ (c : ChunkAt) (fits : FitsArray c) (rest : List ℕ) where
  key_len : length (key_bytes (make_key FIRST_CHUNK_TREE_OBJECTID CHUNK_ITEM c.logical)) ≡ 17
  key_len = key_reads.len (make_key FIRST_CHUNK_TREE_OBJECTID CHUNK_ITEM c.logical) (fits_key c.logical fits.logical) ∙ key_width

  body_len : length (chunk_bytes c.chunk) ≡ 80
  body_len = chunk_reads.len c.chunk fits.fields ∙ chunk_width

  apart : array_entry c ++ rest ≡ key_bytes (make_key FIRST_CHUNK_TREE_OBJECTID CHUNK_ITEM c.logical) ++ (chunk_bytes c.chunk ++ rest)
  apart = append_assoc (key_bytes (make_key FIRST_CHUNK_TREE_OBJECTID CHUNK_ITEM c.logical)) (chunk_bytes c.chunk) rest

  -- what is behind the key
  behind_key : (n : ℕ) → drop (17 + n) (array_entry c ++ rest) ≡ drop n (chunk_bytes c.chunk ++ rest)
  behind_key n =
      ap (λ (m : ℕ). drop (m + n) (array_entry c ++ rest)) (sym key_len)
      ∙ (ap (drop (length (key_bytes (make_key FIRST_CHUNK_TREE_OBJECTID CHUNK_ITEM c.logical)) + n)) apart
      ∙ drop-append-add (key_bytes (make_key FIRST_CHUNK_TREE_OBJECTID CHUNK_ITEM c.logical)) (chunk_bytes c.chunk ++ rest) n)

  keyed : key_in_bytes (array_entry c ++ rest) 0 ≡ make_key FIRST_CHUNK_TREE_OBJECTID CHUNK_ITEM c.logical
  keyed =
      ap key_layout.read (apart ∙ sym (key_reads.apart (make_key FIRST_CHUNK_TREE_OBJECTID CHUNK_ITEM c.logical) (chunk_bytes c.chunk ++ rest)))
      ∙ key_reads.back (make_key FIRST_CHUNK_TREE_OBJECTID CHUNK_ITEM c.logical) (chunk_bytes c.chunk ++ rest) (fits_key c.logical fits.logical)

  pub entry : entry_size (array_entry c ++ rest) ≡ 97
  entry =
      let stripes : field 2 (array_entry c ++ rest) 61 ≡ 1 =
      ap (λ (z : List ℕ). field 2 z 0) (behind_key 44)
      ∙ (ap (λ (z : List ℕ). field 2 z 44) (sym (chunk_reads.apart c.chunk rest)) ∙ (stripes_at c.chunk rest fits.fields ∙ fits.single)) in
      omega (arith, stripes)

  long : length (array_entry c ++ rest) ≡ 97 + length rest
  long = omega (arith, length-append (array_entry c) rest, length-append (key_bytes (make_key FIRST_CHUNK_TREE_OBJECTID CHUNK_ITEM c.logical)) (chunk_bytes c.chunk), key_len, body_len)

  pub size : length (array_entry c ++ rest) ≡ 97 + length rest
  size = long

  body : take (entry_size (array_entry c ++ rest) - 17) (drop 17 (array_entry c ++ rest)) ≡ chunk_bytes c.chunk
  body =
      ap (λ (n : ℕ). take (n - 17) (drop 17 (array_entry c ++ rest))) entry
      ∙ (ap (take 80) (behind_key 0) ∙ take_at (chunk_bytes c.chunk) rest 80 body_len)

  pub front : front_chunk (array_entry c ++ rest) ≡ Some c
  front =
      let bytes : List ℕ = array_entry c ++ rest in
      let whole : ltb (length bytes) 97 ≡ false = le-ltb _ _ (omega (arith, long)) in
      ap (λ (b : Bool). cond b None (cond (is_chunk_key (key_in_bytes bytes 0)) (placed_chunk (key_in_bytes bytes 0).offset (take (entry_size bytes - 17) (drop 17 bytes))) None)) whole
      ∙ (ap (λ (b : Bool). cond b (placed_chunk (key_in_bytes bytes 0).offset (take (entry_size bytes - 17) (drop 17 bytes))) None) (ap is_chunk_key keyed)
      ∙ (ap (λ (k : Key). placed_chunk k.offset (take (entry_size bytes - 17) (drop 17 bytes))) keyed ∙ (ap (placed_chunk c.logical) body ∙ chunk_made c fits)))

  pub behind : drop (entry_size (array_entry c ++ rest)) (array_entry c ++ rest) ≡ rest
  behind =
      ap (λ (n : ℕ). drop n (array_entry c ++ rest)) entry
      ∙ drop_at (array_entry c) rest 97 (omega (arith, length-append (key_bytes (make_key FIRST_CHUNK_TREE_OBJECTID CHUNK_ITEM c.logical)) (chunk_bytes c.chunk), key_len, body_len))

within : (n : ℕ) (chunks : List ChunkAt) → AllByRecursion FitsArray chunks → length (flat_map array_entry chunks) ≤ n → chunks_within n (flat_map array_entry chunks) ≡ Some chunks
unfolding chunks_within
within n [] fit few = refl
within n (c ∷ cs) fit few =
    let rest = flat_map array_entry cs in
    let bytes : List ℕ = array_entry c ++ rest in
    let len : length bytes ≡ 97 + length rest = size c fit.0 rest in
    let more = more_chunks n bytes (omega (arith, len)) few in
    let later : chunks_within more.0 rest ≡ Some cs = within more.0 cs fit.1 (omega (arith, len, few, more.1)) in
    more.2
    ∙ (ap (with_first bytes more.0) (front c fit.0 rest)
    ∙ (ap (λ (z : List ℕ). option_map (λ (ds : List ChunkAt). c ∷ ds) (chunks_within more.0 z)) (behind c fit.0 rest)
    ∙ ap (option_map (λ (ds : List ChunkAt). c ∷ ds)) later))

pub arrays_read_back : (s : Super) (chunks : List ChunkAt) (behind : List ℕ) → AllByRecursion FitsArray chunks
    → s.sys_chunk_array ≡ flat_map array_entry chunks ++ behind → s.sys_chunk_array_size ≡ length (flat_map array_entry chunks)
    → boot_chunks s ≡ Some chunks
arrays_read_back s chunks rest fit is size =
    let bytes = flat_map array_entry chunks in
    let used : take s.sys_chunk_array_size s.sys_chunk_array ≡ bytes = ap (take s.sys_chunk_array_size) is ∙ take_at bytes rest s.sys_chunk_array_size (sym size) in
    ap array_chunks used ∙ within (length bytes) chunks fit (omega arith)
