-- Images made of maps, and the record of what was done to them.
use Rattle.outside_mem.proofs.Imports.{◌≡◌, ◌≢◌, ⊎_elim, ℕ, zero, suc, ◌+◌, ◌<◌, Bool, true, false, if◌then◌else◌, not, nat_eq, filter, is_some, Option, Some, None, List, [], ◌∷◌, ◌++◌, length, set, get_or, map, replicate, refl, sym, ◌∙◌, ap, subst, arith, get_or-set_same, get_or-set_other, cases_eq, both_ways, eqb_tells, length-set, set-set, set_comm, length-map-range_with_len, get_or-map-range_with_len, fill_by_all, range_with_len, zeros, Block, Image, Call, wrote, synced, History, block_at, reads_from, synced_from, after, length-reads_from, Done, Wrote, Synced, is_waiting, HasWholeBlocks, image_of, IsConsistent, call_of, newest_first, calls_of, is_not_write, drop_writes, with_block}
use Rattle.outside.specs.declared.disk.Access.{Access}
use Rattle.outside_mem.proofs.Waiting.{kept_more, in_range_more, kept_less, in_range_less}
use Rattle.outside_mem.proofs.Whole.{AreWhole, IsWholeImage, drop_whole, reads_whole, whole_put}

pub length-image_of : (n : ℕ) (f : ℕ → List ℕ) → length (image_of n f) ≡ n
length-image_of n f = length-map-range_with_len f 0 n

pub block_at-image_of : (n : ℕ) (f : ℕ → List ℕ) (k : ℕ) → k < n → block_at (image_of n f) k ≡ f k
block_at-image_of n f k below = get_or-map-range_with_len f 0 n k k [] below (omega arith)

pub image_same : (n : ℕ) (f g : ℕ → List ℕ) → ((q : ℕ) → f q ≡ g q) → image_of n f ≡ image_of n g
image_same n f g same = λ i. map (λ q. same q i) (range_with_len 0 n)

pub image_put : (n k : ℕ) (f g : ℕ → List ℕ) (bytes : List ℕ) → g k ≡ bytes → ((q : ℕ) → q ≢ k → g q ≡ f q) → image_of n g ≡ set (image_of n f) k bytes
image_put n k f g bytes here others =
    sym (fill_by_all g (set (image_of n f) k bytes) n [] (length-set (image_of n f) k bytes ∙ length-image_of n f) at)
  where
    at : (q : ℕ) → q < n → get_or (set (image_of n f) k bytes) q [] ≡ g q
    at q below = ⊎_elim
        (λ same. ap (λ (j : ℕ). get_or (set (image_of n f) k bytes) j []) same ∙ get_or-set_same (image_of n f) k bytes [] (omega (arith, same, below, length-image_of n f)) ∙ sym here ∙ ap g (sym same))
        (λ other. get_or-set_other (image_of n f) k q bytes [] other ∙ block_at-image_of n f q below ∙ sym (others q other))
        (cases_eq q k)

pub image_zeros : (n : ℕ) (f : ℕ → List ℕ) → ((q : ℕ) → f q ≡ zeros) → image_of n f ≡ replicate n zeros
image_zeros n f zero_at = from 0 n
  where
    from : (a m : ℕ) → map f (range_with_len a m) ≡ replicate m zeros
    from a zero = refl
    from a (suc m) = λ i. zero_at a i ∷ from (a + 1) m i

pub newest-push : (dones : List Done) (done : Done) (rest : List Call) → newest_first (dones ++ done ∷ []) rest ≡ call_of done ∷ newest_first dones rest
newest-push [] done rest = refl
newest-push (d ∷ dones) done rest = newest-push dones done (call_of d ∷ rest)

module _ (n : ℕ) (start start' : ℕ → List ℕ) (same : (q : ℕ) → start' q ≡ start q) (dones dones' : List Done) where
  -- the history goes on by a call
  pub history_more : (done : Done) → dones' ≡ dones ++ done ∷ [] → (h : History) → record { start = image_of n start; calls = calls_of dones } ≡ h
      → record { start = image_of n start'; calls = calls_of dones' } ≡ after (call_of done) h
  history_more done more h is =
      ap (λ (image : Image). record { start = image; calls = calls_of dones' }) (image_same n start' start same)
      ∙ ap (λ (ds : List Done). record { start = image_of n start; calls = calls_of ds }) more
      ∙ ap (λ (calls : List Call). record { start = image_of n start; calls = calls }) (newest-push dones done [])
      ∙ ap (λ (old : History). after (call_of done) old) is

  -- or stays
  pub history_stays : dones' ≡ dones → (h : History) → record { start = image_of n start; calls = calls_of dones } ≡ h
      → record { start = image_of n start'; calls = calls_of dones' } ≡ h
  history_stays stays h is =
      ap (λ (image : Image). record { start = image; calls = calls_of dones' }) (image_same n start' start same)
      ∙ ap (λ (ds : List Done). record { start = image_of n start; calls = calls_of ds }) stays
      ∙ is

  module _ (present present' unsynced unsynced' : ℕ → List ℕ) (kept kept' : ℕ → Bool) (holds : IsConsistent n present start unsynced kept (calls_of dones)) where
    -- the calls from the other start
    moved : (read : Image → List Call → Image) (calls : List Call) → calls_of dones' ≡ calls → read (image_of n start) calls ≡ read (image_of n start') (calls_of dones')
    moved read calls is = λ i. read (sym (image_same n start' start same) i) (sym is i)

    -- with its blocks whole
    whole_moved : (calls : List Call) → calls_of dones' ≡ calls → AreWhole calls → HasWholeBlocks (record { start = image_of n start'; calls = calls_of dones' })
    whole_moved calls is each = record {
      start = subst IsWholeImage (sym (image_same n start' start same)) holds.whole.start;
      written = subst AreWhole (sym is) each;
    }

    pub write_holds : (k : ℕ) (block : Block) → length block.bytes ≡ 4096 → dones' ≡ dones ++ Wrote k block ∷ [] → present' k ≡ block.bytes → ((q : ℕ) → q ≢ k → present' q ≡ present q)
        → ((q : ℕ) → unsynced' q ≡ unsynced q) → k < n → kept' k ≡ true → ((q : ℕ) → q ≢ k → kept' q ≡ kept q) → IsConsistent n present' start' unsynced' kept' (calls_of dones')
    write_holds k block long more here others stays fits kept_here kept_others =
        let calls_are : calls_of dones' ≡ wrote k block.bytes true ∷ calls_of dones = ap calls_of more ∙ newest-push dones (Wrote k block) [] in
        record {
          reads_are = image_put n k present present' block.bytes here others
              ∙ ap (λ (image : Image). set image k block.bytes) holds.reads_are
              ∙ moved reads_from (wrote k block.bytes true ∷ calls_of dones) calls_are;
          synced_are = image_same n unsynced' unsynced stays ∙ holds.synced_are ∙ moved synced_from (wrote k block.bytes true ∷ calls_of dones) calls_are;
          kept_are = λ q. kept_more (calls_of dones) k block.bytes true kept kept' holds.kept_are kept_here kept_others q ∙ ap (λ (calls : List Call). is_waiting calls q) (sym calls_are);
          in_range = λ q waits. in_range_more (calls_of dones) k block.bytes true n fits holds.in_range q (ap (λ (calls : List Call). is_waiting calls q) (sym calls_are) ∙ waits);
          whole = whole_moved (wrote k block.bytes true ∷ calls_of dones) calls_are (long, holds.whole.written);
        }

    pub sync_holds : dones' ≡ dones ++ Synced ∷ [] → ((q : ℕ) → present' q ≡ present q) → ((q : ℕ) → unsynced' q ≡ present q) → ((q : ℕ) → kept' q ≡ false) → IsConsistent n present' start' unsynced' kept' (calls_of dones')
    sync_holds more stays now_synced none_kept =
        let calls_are : calls_of dones' ≡ synced ∷ calls_of dones = ap calls_of more ∙ newest-push dones Synced [] in
        record {
          reads_are = image_same n present' present stays ∙ holds.reads_are ∙ moved reads_from (synced ∷ calls_of dones) calls_are;
          synced_are = image_same n unsynced' present now_synced ∙ holds.reads_are ∙ moved synced_from (synced ∷ calls_of dones) calls_are;
          kept_are = λ q. none_kept q ∙ ap (λ (calls : List Call). is_waiting calls q) (sym calls_are);
          in_range = λ q waits. absurd (both_ways false refl (ap (λ (calls : List Call). is_waiting calls q) (sym calls_are) ∙ waits));
          whole = whole_moved (synced ∷ calls_of dones) calls_are holds.whole.written;
        }

    pub nothing_holds : dones' ≡ dones → ((q : ℕ) → present' q ≡ present q) → ((q : ℕ) → unsynced' q ≡ unsynced q) → ((q : ℕ) → kept' q ≡ kept q) → IsConsistent n present' start' unsynced' kept' (calls_of dones')
    nothing_holds same_dones stays synced_stays kept_stays = record {
      reads_are = image_same n present' present stays ∙ holds.reads_are ∙ moved reads_from (calls_of dones) (ap calls_of same_dones);
      synced_are = image_same n unsynced' unsynced synced_stays ∙ holds.synced_are ∙ moved synced_from (calls_of dones) (ap calls_of same_dones);
      kept_are = λ q. kept_stays q ∙ holds.kept_are q ∙ ap (λ (ds : List Done). is_waiting (calls_of ds) q) (sym same_dones);
      in_range = λ q waits. holds.in_range q (ap (λ (ds : List Done). is_waiting (calls_of ds) q) (sym same_dones) ∙ waits);
      whole = whole_moved (calls_of dones) (ap calls_of same_dones) holds.whole.written;
    }

whole_image : (n : ℕ) (f : ℕ → List ℕ) → ((q : ℕ) → q < n → length (f q) ≡ 4096) → IsWholeImage (image_of n f)
whole_image n f long q below =
    let within : q < n = omega (arith, below, length-image_of n f) in
    ap (λ (bytes : List ℕ). length bytes) (block_at-image_of n f q within) ∙ long q within

pub whole_from : (n : ℕ) (f : ℕ → List ℕ) (image : Image) → image_of n f ≡ image → IsWholeImage image → (q : ℕ) → q < n → length (f q) ≡ 4096
whole_from n f image is whole q below =
    let within : q < length (image_of n f) = omega (arith, below, length-image_of n f) in
    ap (λ (bytes : List ℕ). length bytes) (sym (block_at-image_of n f q below)) ∙ subst IsWholeImage (sym is) whole q within

-- a disk to which nothing was done
pub blank_holds : (n : ℕ) (present started unsynced : ℕ → List ℕ) (kept : ℕ → Bool) (dones : List Done) → ((q : ℕ) → started q ≡ present q) → ((q : ℕ) → unsynced q ≡ present q)
    → ((q : ℕ) → kept q ≡ false) → dones ≡ [] → ((q : ℕ) → q < n → length (present q) ≡ 4096) → IsConsistent n present started unsynced kept (calls_of dones)
blank_holds n present started unsynced kept dones start_is synced_is none_kept none long = record {
  reads_are = image_same n present started (λ q. sym (start_is q)) ∙ ap (λ (ds : List Done). reads_from (image_of n started) (calls_of ds)) (sym none);
  synced_are = image_same n unsynced started (λ q. synced_is q ∙ sym (start_is q)) ∙ ap (λ (ds : List Done). synced_from (image_of n started) (calls_of ds)) (sym none);
  kept_are = λ q. none_kept q ∙ ap (λ (ds : List Done). is_waiting (calls_of ds) q) (sym none);
  in_range = λ q waits. absurd (both_ways false refl (ap (λ (ds : List Done). is_waiting (calls_of ds) q) (sym none) ∙ waits));
  whole = record {
    start = subst IsWholeImage (image_same n present started (λ q. sym (start_is q))) (whole_image n present long);
    written = subst (λ (ds : List Done). AreWhole (calls_of ds)) (sym none) tt;
  };
}

-- what reads give of such a disk has 4096 bytes a block
pub present_whole : (n : ℕ) (present started unsynced : ℕ → List ℕ) (kept : ℕ → Bool) (calls : List Call) → IsConsistent n present started unsynced kept calls
    → (q : ℕ) → q < n → length (present q) ≡ 4096
present_whole n present started unsynced kept calls holds q below =
    ap (λ (bytes : List ℕ). length bytes) (sym (block_at-image_of n present q below) ∙ ap (λ (image : Image). block_at image q) holds.reads_are)
    ∙ reads_whole (image_of n started) holds.whole.start calls holds.whole.written q (omega (arith, below, length-image_of n started))

-- what reads give where it is open
pub length_open : (n : ℕ) (start : ℕ → List ℕ) (calls : List Call) (o : Option Access) → is_some o ≡ true → n ≡ length (if is_some o then reads_from (image_of n start) calls else [])
length_open n start calls None is = absurd (cc)
length_open n start calls (Some access) is = sym (length-reads_from (image_of n start) calls ∙ length-image_of n start)

pub block_open : (n : ℕ) (present start : ℕ → List ℕ) (calls : List Call) → image_of n present ≡ reads_from (image_of n start) calls → (o : Option Access) (k : ℕ)
    → k < length (if is_some o then reads_from (image_of n start) calls else []) → present k ≡ block_at (if is_some o then reads_from (image_of n start) calls else []) k
block_open n present start calls holds None k below = absurd (omega arith)
block_open n present start calls holds (Some access) k below =
    sym (block_at-image_of n present k (omega (arith, below, length-reads_from (image_of n start) calls, length-image_of n start))) ∙ ap (λ (image : Image). block_at image k) holds

pub count_open : (n : ℕ) (start : ℕ → List ℕ) (calls : List Call) (o : Option Access) (k : ℕ) → k < length (if is_some o then reads_from (image_of n start) calls else []) → k < n
count_open n start calls None k below = absurd (omega arith)
count_open n start calls (Some access) k below = omega (arith, below, length-reads_from (image_of n start) calls, length-image_of n start)

pub block_there : (n : ℕ) (present start : ℕ → List ℕ) (calls : List Call) → image_of n present ≡ reads_from (image_of n start) calls → (k : ℕ)
    → k < length (image_of n start) → present k ≡ block_at (reads_from (image_of n start) calls) k
block_there n present start calls holds k below =
    sym (block_at-image_of n present k (omega (arith, below, length-image_of n start))) ∙ ap (λ (image : Image). block_at image k) holds

pub length_readable : (n : ℕ) (start : ℕ → List ℕ) (calls : List Call) (o : Option Access) → length (if is_some o then reads_from (image_of n start) calls else []) ≡ (if is_some o then n else 0)
length_readable n start calls None = refl
length_readable n start calls (Some access) = length-reads_from (image_of n start) calls ∙ length-image_of n start

-- without the writes to a block, which has had the bytes from the start, the rest reads as before
pub reads-drop_writes : (start : Image) (n : ℕ) (bytes : List ℕ) (calls : List Call) → reads_from (set start n bytes) (drop_writes n calls) ≡ set (reads_from start calls) n bytes
reads-drop_writes start n bytes [] = refl
reads-drop_writes start n bytes (wrote b other true ∷ calls) = ⊎_elim
    (λ same. read true same.0
    ∙ reads-drop_writes start n bytes calls
    ∙ sym (ap (λ (k : ℕ). set (set (reads_from start calls) k other) n bytes) same.1 ∙ set-set (reads_from start calls) n other bytes))
    (λ apart. read false apart.0
    ∙ ap (λ (image : Image). set image b other) (reads-drop_writes start n bytes calls)
    ∙ sym (set_comm (reads_from start calls) b n other bytes apart.1))
    (eqb_tells b n)
  where
    read : (t : Bool) → nat_eq b n ≡ t → reads_from (set start n bytes) (drop_writes n (wrote b other true ∷ calls)) ≡ reads_from (set start n bytes) (if t then drop_writes n calls else (wrote b other true ∷ drop_writes n calls))
    read t is = ap (λ (u : Bool). reads_from (set start n bytes) (if u then drop_writes n calls else (wrote b other true ∷ drop_writes n calls))) is
reads-drop_writes start n bytes (wrote b other false ∷ calls) = skip (nat_eq b n) ∙ reads-drop_writes start n bytes calls
  where
    skip : (t : Bool) → reads_from (set start n bytes) (if t then drop_writes n calls else (wrote b other false ∷ drop_writes n calls)) ≡ reads_from (set start n bytes) (drop_writes n calls)
    skip true = refl
    skip false = refl
reads-drop_writes start n bytes (synced ∷ calls) = reads-drop_writes start n bytes calls

synced-drop_writes : (start : Image) (n : ℕ) (bytes : List ℕ) (calls : List Call) → synced_from (set start n bytes) (drop_writes n calls) ≡ set (synced_from start calls) n bytes
synced-drop_writes start n bytes [] = refl
synced-drop_writes start n bytes (wrote b other landed ∷ calls) = skip (nat_eq b n) ∙ synced-drop_writes start n bytes calls
  where
    skip : (t : Bool) → synced_from (set start n bytes) (if t then drop_writes n calls else (wrote b other landed ∷ drop_writes n calls)) ≡ synced_from (set start n bytes) (drop_writes n calls)
    skip true = refl
    skip false = refl
synced-drop_writes start n bytes (synced ∷ calls) = reads-drop_writes start n bytes calls

newest-filter : (n : ℕ) (dones : List Done) (rest : List Call) → newest_first (filter (is_not_write n) dones) (drop_writes n rest) ≡ drop_writes n (newest_first dones rest)
newest-filter n [] rest = refl
newest-filter n (Wrote b block ∷ dones) rest = skip (nat_eq b n) ∙ newest-filter n dones (wrote b block.bytes true ∷ rest)
  where
    skip : (t : Bool) → newest_first (if not t then (Wrote b block ∷ filter (is_not_write n) dones) else filter (is_not_write n) dones) (drop_writes n rest)
        ≡ newest_first (filter (is_not_write n) dones) (if t then drop_writes n rest else (wrote b block.bytes true ∷ drop_writes n rest))
    skip true = refl
    skip false = refl
newest-filter n (Synced ∷ dones) rest = newest-filter n dones (synced ∷ rest)

pub calls_of-filter : (n : ℕ) (dones : List Done) → calls_of (filter (is_not_write n) dones) ≡ drop_writes n (calls_of dones)
calls_of-filter n dones = newest-filter n dones []

module _ (count n : ℕ) (start start' : ℕ → List ℕ) (bytes : List ℕ) (here : start' n ≡ bytes) (others : (q : ℕ) → q ≢ n → start' q ≡ start q) (dones dones' : List Done) (dropped : dones' ≡ filter (is_not_write n) dones) where
  pub history_reset : (h : History) → record { start = image_of count start; calls = calls_of dones } ≡ h → record { start = image_of count start'; calls = calls_of dones' } ≡ with_block h n bytes
  history_reset h is =
      ap (λ (image : Image). record { start = image; calls = calls_of dones' }) (image_put count n start start' bytes here others)
      ∙ ap (λ (calls : List Call). record { start = set (image_of count start) n bytes; calls = calls }) (ap calls_of dropped ∙ calls_of-filter n dones)
      ∙ ap (λ (old : History). with_block old n bytes) is

  pub reset_holds : (present present' unsynced unsynced' : ℕ → List ℕ) (kept kept' : ℕ → Bool) → IsConsistent count present start unsynced kept (calls_of dones)
      → length bytes ≡ 4096 → present' n ≡ bytes → ((q : ℕ) → q ≢ n → present' q ≡ present q) → unsynced' n ≡ bytes → ((q : ℕ) → q ≢ n → unsynced' q ≡ unsynced q)
      → kept' n ≡ false → ((q : ℕ) → q ≢ n → kept' q ≡ kept q) → IsConsistent count present' start' unsynced' kept' (calls_of dones')
  reset_holds present present' unsynced unsynced' kept kept' holds long here' others' synced_here synced_others kept_here kept_others =
      let start_is : image_of count start' ≡ set (image_of count start) n bytes = image_put count n start start' bytes here others in
      let calls_are : calls_of dones' ≡ drop_writes n (calls_of dones) = ap calls_of dropped ∙ calls_of-filter n dones in
      record {
        reads_are = image_put count n present present' bytes here' others'
            ∙ ap (λ (image : Image). set image n bytes) holds.reads_are
            ∙ sym (reads-drop_writes (image_of count start) n bytes (calls_of dones))
            ∙ (λ i. reads_from (sym start_is i) (sym calls_are i));
        synced_are = image_put count n unsynced unsynced' bytes synced_here synced_others
            ∙ ap (λ (image : Image). set image n bytes) holds.synced_are
            ∙ sym (synced-drop_writes (image_of count start) n bytes (calls_of dones))
            ∙ (λ i. synced_from (sym start_is i) (sym calls_are i));
        kept_are = λ q. kept_less n (calls_of dones) kept kept' holds.kept_are kept_here kept_others q ∙ ap (λ (calls : List Call). is_waiting calls q) (sym calls_are);
        in_range = λ q waits. in_range_less n (calls_of dones) count holds.in_range q (ap (λ (calls : List Call). is_waiting calls q) (sym calls_are) ∙ waits);
        whole = record {
          start = subst IsWholeImage (sym start_is) (λ q below.
              let within : q < length (image_of count start) = omega (arith, below, length-set (image_of count start) n bytes) in
              whole_put (image_of count start) n bytes q within (holds.whole.start q within) long);
          written = subst AreWhole (sym calls_are) (drop_whole n (calls_of dones) holds.whole.written);
        };
      }
