-- The maps of a disk after a crash, whose blocks are whole or torn.
use Rattle.outside_mem.proofs.Imports.{◌≡◌, ℕ, ◌<◌, List, ◌∷◌, length, replicate, ◌∙◌, arith, nat_cmp, is_at, BTreeMap, get, keys, lookup, IsStrictlySortedBy, Block, zeros, Call, History, block_at, synced_from, Done, written, by_number, choice_for, crash_image, number_for, numbers_for, torn_by, torn_image, calls_of, bytes_or, bytes_at, undone_at, has_key, made_or, chosen_or, torn_or, image_of, IsConsistent}
use Rattle.outside_mem.proofs.Choices.{by_number-one}
use Rattle.outside_mem.proofs.Crashed.{crash_blocks}
use Rattle.outside_mem.proofs.Images.{length-image_of, whole_from}
use Rattle.outside_mem.proofs.TornChoices.{crash_image_whole, torn_image_whole, torn_rests}
use Rattle.outside_mem.proofs.Waiting.{nothing_written}

module _ (n : ℕ) (present copy unsynced left : BTreeMap ℕ Block) (copied : copy.entries ≡ present.entries) (started : ℕ → List ℕ) (dones dones' : List Done) (same : dones' ≡ dones)
    (holds : IsConsistent n (bytes_at present) started (undone_at unsynced present) (has_key unsynced) (calls_of dones)) (ordered : IsStrictlySortedBy nat_cmp (keys unsynced)) where
  abbrev calls : List Call
  calls = calls_of dones

  abbrev h : History
  h = record { start = image_of n started; calls = calls }

  -- what is made of the copy is made of the blocks themselves
  moved : {A : Type 0} (none : A) (make : List Call → ℕ → List ℕ → A → List ℕ) (choice : List A)
      → ((q : ℕ) → bytes_at left q ≡ made_or (bytes_at copy q) (λ synced. make (calls_of dones') q synced (choice_for none (keys unsynced) choice q)) (get nat_cmp unsynced q))
      → (q : ℕ) → bytes_at left q ≡ made_or (bytes_at present q) (λ synced. make calls q synced (choice_for none (keys unsynced) choice q)) (get nat_cmp unsynced q)
  moved none make choice is q =
      is q ∙ (λ i. made_or (bytes_or zeros (lookup (is_at (nat_cmp q)) (copied i))) (λ synced. make (calls_of (same i)) q synced (choice_for none (keys unsynced) choice q)) (get nat_cmp unsynced q))

  -- ---- each block whole
  module _ (choice : List ℕ) (is : (q : ℕ) → bytes_at left q ≡ chosen_or (bytes_at copy q) (written (calls_of dones') q) (number_for (keys unsynced) choice q) (get nat_cmp unsynced q)) where
    pub left_whole : image_of n (bytes_at left) ≡ crash_image h choice
    left_whole =
        crash_blocks n present unsynced started calls holds 0 (λ q synced number. by_number (synced ∷ written calls q) number)
        (λ q below rests number. by_number-one (block_at (synced_from h.start calls) q) (written calls q) number (nothing_written calls q rests))
        choice ordered (bytes_at left) (moved 0 (λ calls q synced number. by_number (synced ∷ written calls q) number) choice is)

    pub long_whole : (q : ℕ) → q < n → length (bytes_at left q) ≡ 4096
    long_whole = whole_from n (bytes_at left) (crash_image h choice) left_whole (crash_image_whole h holds.whole choice)

  -- ---- blocks torn by sectors
  module _ (choice : List (List ℕ)) (is : (q : ℕ) → bytes_at left q ≡ torn_or (bytes_at copy q) (written (calls_of dones') q) (numbers_for (keys unsynced) choice q) (get nat_cmp unsynced q)) where
    pub left_torn : image_of n (bytes_at left) ≡ torn_image h choice
    left_torn =
        crash_blocks n present unsynced started calls holds (replicate 8 0) (λ q synced numbers. torn_by (synced ∷ written calls q) numbers)
        (λ q below rests numbers. torn_rests h holds.whole q (omega (arith, below, length-image_of n started)) numbers rests)
        choice ordered (bytes_at left) (moved (replicate 8 0) (λ calls q synced numbers. torn_by (synced ∷ written calls q) numbers) choice is)

    pub long_torn : (q : ℕ) → q < n → length (bytes_at left q) ≡ 4096
    long_torn = whole_from n (bytes_at left) (torn_image h choice) left_torn (torn_image_whole h holds.whole choice)
