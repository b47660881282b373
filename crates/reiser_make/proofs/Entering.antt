-- Entries of a directory, one behind the other.
use Rattle.reiser_make.proofs.Imports.{◌≡◌, ◌≤◌, ℕ, ◌+◌, ◌-◌, ◌*◌, List, [], ◌∷◌, ◌++◌, length, replicate, refl, sym, ap, subst, ◌∙◌, arith, append_assoc, length-append, map, div_ceil, range_with_len, map-range_with_len_more, length-map-range_with_len, directory_name, file_name, append-nil, All-head, All-tail, All-append, All-cons, All-nil, sum_by-append, sum_by-cons, EntryValue, entry, padded, entry_head, entry_heads, entry_names, entries_length, entries_bytes, entries_so_far, AreShortNames, with_dots, ObjectId}
use borrow.Rule.Slice.PartMut.{put_mid}
use Rattle.reiser_make.proofs.Placing.{zeros, length-zeros, put_first, put_last}

-- a name of one to eight bytes takes eight
pub padded_is : (name : List ℕ) → 1 ≤ length name → length name ≤ 8 → padded name ≡ name ++ zeros (8 - length name)
padded_is name some short =
    let room : 8 * div_ceil (length name) 8 - length name ≡ 8 - length name = omega arith in
    ap (λ n. name ++ zeros n) room

pub padded_short : (name : List ℕ) → 1 ≤ length name → length name ≤ 8 → length (padded name) ≡ 8
padded_short name some short =
    ap length (padded_is name some short) ∙ length-append name (zeros (8 - length name)) ∙ omega (arith, length-zeros (8 - length name))

entry_heads-append : (end : ℕ) (entries : List EntryValue) (e : EntryValue)
    → entry_heads end (entries ++ e ∷ []) ≡ entry_heads end entries ++ entry_head e.offset e.dir e.object (end - length (entry_names entries) - length (padded e.name))
entry_heads-append end [] e =
    append-nil _ ∙ ap (λ n. entry_head e.offset e.dir e.object (n - length (padded e.name))) (let same : end ≡ end - 0 = omega arith in same)
entry_heads-append end (first ∷ entries) e =
    let begin : ℕ = end - length (padded first.name) in
    let head : List ℕ = entry_head first.offset first.dir first.object begin in
    let below : begin - length (entry_names entries) - length (padded e.name) ≡ end - length (entry_names entries ++ padded first.name) - length (padded e.name) =
    omega (arith, length-append (entry_names entries) (padded first.name)) in
    ap (λ z. head ++ z) (entry_heads-append begin entries e ∙ ap (λ n. entry_heads begin entries ++ entry_head e.offset e.dir e.object n) below)
    ∙ sym (append_assoc head (entry_heads begin entries) _)

entry_names-append : (entries : List EntryValue) (e : EntryValue) → entry_names (entries ++ e ∷ []) ≡ padded e.name ++ entry_names entries
entry_names-append [] e = sym (append-nil (padded e.name))
entry_names-append (first ∷ entries) e = ap (λ z. z ++ padded first.name) (entry_names-append entries e) ∙ append_assoc (padded e.name) (entry_names entries) (padded first.name)

length-entry_heads : (end : ℕ) (entries : List EntryValue) → length (entry_heads end entries) ≡ 16 * length entries
length-entry_heads end [] = refl
length-entry_heads end (e ∷ entries) =
    let begin : ℕ = end - length (padded e.name) in
    let head : List ℕ = entry_head e.offset e.dir e.object begin in
    let sixteen : length head ≡ 16 = refl in
    omega (arith, length-append head (entry_heads begin entries), sixteen, length-entry_heads begin entries)

entries_parts : (entries : List EntryValue) → entries_length entries ≡ 16 * length entries + length (entry_names entries)
entries_parts [] = refl
entries_parts (e ∷ entries) =
    omega (arith, sum_by-cons (λ (e : EntryValue). 16 + length (padded e.name)) e entries, entries_parts entries, length-append (entry_names entries) (padded e.name))

short_names : (entries : List EntryValue) → AreShortNames entries → length (entry_names entries) ≡ 8 * length entries
short_names [] short = refl
short_names (e ∷ entries) short =
    omega (arith, length-append (entry_names entries) (padded e.name), All-head (λ (e : EntryValue). length (padded e.name) ≡ 8) e entries short, short_names entries (All-tail (λ (e : EntryValue). length (padded e.name) ≡ 8) e entries short))

-- a short entry more
pub short_more : (entries : List EntryValue) (e : EntryValue) → AreShortNames entries → length (padded e.name) ≡ 8 → AreShortNames (entries ++ e ∷ [])
short_more entries e short is =
    let P : EntryValue → Type 0 = λ e. length (padded e.name) ≡ 8 in
    All-append P entries (e ∷ []) short (All-cons P e [] is (All-nil P))

pub so_far_first : (n : ℕ) → replicate n 0 ≡ entries_so_far n []
unfolding entries_so_far
so_far_first n = ap (λ k. replicate k 0) (let same : n ≡ n - 0 = omega arith in same) ∙ sym (append-nil (replicate (n - 0) 0))

-- an entry behind others: first its name, in the last zeros, and then its head, in the first
pub so_far_more : (n e begin name_len head_len : ℕ) (s name head : List ℕ) (offset : ℕ) (id : ObjectId) (entries : List EntryValue)
    → 1 ≤ length name → length name ≤ 8 → 24 * e + 24 ≤ n → length entries ≡ e → AreShortNames entries → begin ≡ n - 8 * (e + 1) → name_len ≡ length name → head_len ≡ 16
    → s ≡ entries_so_far n entries → head ≡ entry_head offset id.dir id.object begin
    → put_mid (16 * e) head_len (put_mid begin name_len s name) head ≡ entries_so_far n (entries ++ entry offset id name ∷ [])
unfolding entries_so_far
so_far_more n e begin name_len head_len s name head offset id entries some small fits counted short is-begin is-name is-head is spelled =
    let all : List EntryValue = entries ++ entry offset id name ∷ [] in
    let heads : List ℕ = entry_heads n entries in
    let names : List ℕ = entry_names entries in
    let eight : length names ≡ 8 * e = short_names entries short ∙ ap (λ k. 8 * k) counted in
    let long : length heads ≡ 16 * e = length-entry_heads n entries ∙ ap (λ k. 16 * k) counted in
    let low : ℕ = n - 8 * e in
    let room : n - entries_length entries ≡ low - 16 * e = omega (arith, entries_parts entries, eight, counted) in
    let before : s ≡ heads ++ (zeros (low - 16 * e) ++ names) = is ∙ ap (λ k. heads ++ (zeros k ++ names)) room in
    let gap : ℕ = low - 16 * e - 8 in
    let full : List ℕ = name ++ zeros (8 - length name) in
    let named : put_mid begin name_len s name ≡ heads ++ (zeros gap ++ (full ++ names)) =
    put_last (16 * e) low begin 8 name_len s heads names name long (omega arith) (omega (arith, is-begin)) small is-name before in
    let head_is : head ≡ entry_head offset id.dir id.object (n - length names - length (padded name)) =
    spelled ∙ ap (entry_head offset id.dir id.object) (omega (arith, is-begin, eight, padded_short name some small)) in
    let left : gap - 16 ≡ n - entries_length all =
    omega (arith, entries_parts entries, eight, counted, sum_by-append (λ (e : EntryValue). 16 + length (padded e.name)) entries (entry offset id name ∷ []), padded_short name some small) in
    put_first (16 * e) 16 head_len gap (put_mid begin name_len s name) heads (full ++ names) head long (omega arith) is-head named
    ∙ ap (λ z. heads ++ (z ++ (zeros (gap - 16) ++ (full ++ names)))) head_is
    ∙ sym (append_assoc heads (entry_head offset id.dir id.object (n - length names - length (padded name))) (zeros (gap - 16) ++ (full ++ names)))
    ∙ ap (λ z. z ++ (zeros (gap - 16) ++ (full ++ names))) (sym (entry_heads-append n entries (entry offset id name)))
    ∙ ap (λ k. entry_heads n all ++ (zeros k ++ (full ++ names))) left
    ∙ ap (λ z. entry_heads n all ++ (zeros (n - entries_length all) ++ (z ++ names))) (sym (padded_is name some small))
    ∙ ap (λ z. entry_heads n all ++ (zeros (n - entries_length all) ++ z)) (sym (entry_names-append entries (entry offset id name)))

-- a body that is full
pub so_far_whole : (n : ℕ) (entries : List EntryValue) → AreShortNames entries → n ≡ 24 * length entries → entries_so_far n entries ≡ entries_bytes entries
unfolding entries_so_far entries_bytes
so_far_whole n entries short is =
    let size : n ≡ entries_length entries = omega (arith, entries_parts entries, short_names entries short) in
    let none : n - entries_length entries ≡ 0 = omega (arith, size) in
    ap (λ k. entry_heads n entries ++ (zeros k ++ entry_names entries)) none
    ∙ ap (λ k. entry_heads k entries ++ entry_names entries) size

pub directory_short : (k : ℕ) → length (padded (directory_name k)) ≡ 8
unfolding directory_name
directory_short k = padded_short (directory_name k) (omega arith) (omega arith)

pub file_short : (i : ℕ) → length (padded (file_name i)) ≡ 8
unfolding file_name
file_short i = padded_short (file_name i) (omega arith) (omega arith)

-- a directory's entries: those of itself and of the one above, and n of a row
abbrev pub listed : ObjectId → ObjectId → (ℕ → EntryValue) → ℕ → ℕ → List EntryValue
listed self above row a n = with_dots self above (map row (range_with_len a n))

pub listed_more : (self above : ObjectId) (row : ℕ → EntryValue) (a n k : ℕ) → a + n ≡ k → listed self above row a (n + 1) ≡ listed self above row a n ++ row k ∷ []
listed_more self above row a n k is = ap (with_dots self above) (map-range_with_len_more row a n k is)

pub length-listed : (self above : ObjectId) (row : ℕ → EntryValue) (a n : ℕ) → length (listed self above row a n) ≡ 2 + n
length-listed self above row a n = omega (arith, length-map-range_with_len row a n)

-- one entry more of a row
pub put_listed : (self above : ObjectId) (row : ℕ → EntryValue) (a n k room now : ℕ) (old new : List ℕ) → a + n ≡ k → length (padded (row k).name) ≡ 8 → now ≡ room
    → AreShortNames (listed self above row a n) → old ≡ entries_so_far room (listed self above row a n)
    → ((entries : List EntryValue) → length entries ≡ 2 + n → AreShortNames entries → old ≡ entries_so_far now entries → new ≡ entries_so_far now (entries ++ row k ∷ []))
    → AreShortNames (listed self above row a (n + 1)) × (new ≡ entries_so_far room (listed self above row a (n + 1)))
put_listed self above row a n k room now old new is eight same short before put =
    let entries : List EntryValue = listed self above row a n in
    let more : listed self above row a (n + 1) ≡ entries ++ row k ∷ [] = listed_more self above row a n k is in (
      subst AreShortNames (sym more) (short_more entries (row k) short eight),
      put entries (length-listed self above row a n) short (before ∙ ap (λ m. entries_so_far m entries) (sym same))
          ∙ ap (λ m. entries_so_far m (entries ++ row k ∷ [])) same
          ∙ sym (ap (entries_so_far room) more),
    )
