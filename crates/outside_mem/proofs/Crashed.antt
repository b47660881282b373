-- The maps of a disk after a crash stand for the image that the choice gives.
use Rattle.outside_mem.proofs.Imports.{◌≡◌, ℕ, ◌<◌, false, is_some, Option, Some, None, List, [], length, refl, sym, ◌∙◌, ap, arith, fill_by_all, nat_cmp, BTreeMap, get, keys, IsStrictlySortedBy, Block, Image, Call, History, block_at, synced_from, is_waiting, waiting_blocks, choice_for, bytes_or, bytes_at, undone_at, has_key, made_or, image_of, IsConsistent}
use Rattle.outside_mem.proofs.Images.{length-image_of, block_at-image_of}
use Rattle.outside_mem.proofs.Keys.{keys_are}

module _ (n : ℕ) (present unsynced : BTreeMap ℕ Block) (started : ℕ → List ℕ) (calls : List Call) (holds : IsConsistent n (bytes_at present) started (undone_at unsynced present) (has_key unsynced) calls) where
  abbrev h : History
  h = record { start = image_of n started; calls = calls }

  -- the undo map's keys are the blocks that wait
  keys_wait : IsStrictlySortedBy nat_cmp (keys unsynced) → keys unsynced ≡ waiting_blocks h
  keys_wait ordered =
      keys_are (λ b. is_waiting calls b) (length (image_of n started)) (λ q waits. omega (arith, holds.in_range q waits, length-image_of n started)) unsynced.entries ordered holds.kept_are

  -- and what it keeps of a block is the value at the last sync
  synced_is : (q : ℕ) → q < n → block_at (synced_from (image_of n started) calls) q ≡ undone_at unsynced present q
  synced_is q below = ap (λ (image : Image). block_at image q) (sym holds.synced_are) ∙ block_at-image_of n (undone_at unsynced present) q below

  -- what is made of a block by what the choice has for it, and of one that does not wait what it was
  module _ {A : Type 0} (none : A) (make : ℕ → List ℕ → A → List ℕ)
      (rests : (q : ℕ) → q < n → is_waiting calls q ≡ false → (one : A) → make q (block_at (synced_from h.start h.calls) q) one ≡ block_at (synced_from h.start h.calls) q) (choice : List A) where
    abbrev made : ℕ → List ℕ
    made q = make q (block_at (synced_from h.start h.calls) q) (choice_for none (waiting_blocks h) choice q)

    value_is : keys unsynced ≡ waiting_blocks h → (q : ℕ) → q < n
        → made_or (bytes_at present q) (λ synced. make q synced (choice_for none (keys unsynced) choice q)) (get nat_cmp unsynced q) ≡ made q
    value_is same q below = at (get nat_cmp unsynced q) refl
      where
        at : (o : Option Block) → get nat_cmp unsynced q ≡ o
            → made_or (bytes_at present q) (λ synced. make q synced (choice_for none (keys unsynced) choice q)) o ≡ made q
        at None is =
            let resting : is_waiting calls q ≡ false = sym (holds.kept_are q) ∙ ap is_some is in
            sym (rests q below resting (choice_for none (waiting_blocks h) choice q)
            ∙ synced_is q below
            ∙ ap (λ (o : Option Block). bytes_or (bytes_at present q) o) is)
        at (Some synced) is =
            ap (λ (bytes : List ℕ). make q bytes (choice_for none (keys unsynced) choice q)) (sym (synced_is q below ∙ ap (λ (o : Option Block). bytes_or (bytes_at present q) o) is))
            ∙ ap (λ (blocks : List ℕ). make q (block_at (synced_from h.start h.calls) q) (choice_for none blocks choice q)) same

    pub crash_blocks : IsStrictlySortedBy nat_cmp (keys unsynced) → (f : ℕ → List ℕ)
        → ((q : ℕ) → f q ≡ made_or (bytes_at present q) (λ synced. make q synced (choice_for none (keys unsynced) choice q)) (get nat_cmp unsynced q))
        → image_of n f ≡ image_of (length h.start) made
    crash_blocks ordered f is = sym (fill_by_all f (image_of (length h.start) made) n [] (length-image_of (length h.start) made ∙ length-image_of n started)
        (λ q below.
        block_at-image_of (length h.start) made q (omega (arith, below, length-image_of n started))
        ∙ sym (is q ∙ value_is (keys_wait ordered) q below)))
