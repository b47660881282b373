-- The extents of a file, one after the other.
use Rattle.btr_reader_contents.proofs.Imports.{◌≡◌, ℕ, ◌+◌, ◌^◌, ◌≤◌, ◌<◌, eqb, nat_lt, nat_le, Bool, true, false, ◌&&◌, if◌then◌else◌, List, [], ◌∷◌, ◌++◌, Option, Some, None, refl, sym, ◌∙◌, ap, arith, append_assoc, nat_tests, append-nil, filter-append, BtrRefusal, BadBtrfs, Unsupported, ExtentForm, ContentValue, FileExtentValue, file_extent_of, MapRange, TreeItem, refused_unless, is_extent_of, extents_of, covers, covered_by, is_aligned, has_form, place_refusals, end_after, covered_after, extent_refusals, refusals_at, extents_refusals, extents_end, extents_covered}
use Rattle.btr_reader_walk.specs.refusals.declared.rule.Feature.TheVariants.{Compression, Encryption}

-- parts of a list that is empty
pub none_left : {A : Type 0} (xs ys : List A) → xs ++ ys ≡ [] → xs ≡ []
none_left [] ys h = refl
none_left (x ∷ xs) ys h = absurd (cc h)

pub none_right : {A : Type 0} (xs ys : List A) → xs ++ ys ≡ [] → ys ≡ []
none_right [] ys h = h
none_right (x ∷ xs) ys h = absurd (cc h)

pub holds_unless : (t : Bool) (r : BtrRefusal) → refused_unless t r ≡ [] → t ≡ true
holds_unless true r h = refl
holds_unless false r h = absurd (cc h)

pub first : (a b : Bool) → (a && b) ≡ true → a ≡ true
first true b h = refl
first false b h = h

pub second : (a b : Bool) → (a && b) ≡ true → b ≡ true
second true b h = h
second false b h = absurd (cc h)

pub extents_refusals-append : (ranges : List MapRange) (e c : ℕ) (xs ys : List TreeItem)
    → extents_refusals ranges e c (xs ++ ys) ≡ extents_refusals ranges e c xs ++ extents_refusals ranges (extents_end e xs) (extents_covered c xs) ys
extents_refusals-append ranges e c [] ys = refl
extents_refusals-append ranges e c (i ∷ xs) ys =
    let own : List BtrRefusal = refusals_at ranges e c i (file_extent_of i.body) in
    let end : ℕ = end_after e i.key.offset (file_extent_of i.body) in
    let covered : ℕ = covered_after c (file_extent_of i.body) in
    ap (λ (z : List BtrRefusal). own ++ z) (extents_refusals-append ranges end covered xs ys)
    ∙ sym (append_assoc own (extents_refusals ranges end covered xs) (extents_refusals ranges (extents_end end xs) (extents_covered covered xs) ys))

pub extents_end-append : (e : ℕ) (xs ys : List TreeItem) → extents_end e (xs ++ ys) ≡ extents_end (extents_end e xs) ys
extents_end-append e [] ys = refl
extents_end-append e (i ∷ xs) ys = extents_end-append (end_after e i.key.offset (file_extent_of i.body)) xs ys

pub extents_covered-append : (c : ℕ) (xs ys : List TreeItem) → extents_covered c (xs ++ ys) ≡ extents_covered (extents_covered c xs) ys
extents_covered-append c [] ys = refl
extents_covered-append c (i ∷ xs) ys = extents_covered-append (covered_after c (file_extent_of i.body)) xs ys

-- the form of an extent with which nothing is wrong
pub form_of_sound : (ranges : List MapRange) (e c offset leaf : ℕ) (x : FileExtentValue) → extent_refusals ranges e c offset leaf x ≡ [] → has_form e c offset x.content ≡ true
form_of_sound ranges e c offset leaf x none =
    let form : Bool = has_form e c offset x.content in
    let compressed : List BtrRefusal = refused_unless (eqb x.compression 0) (Unsupported Compression x.compression) in
    let encrypted : List BtrRefusal = refused_unless (eqb x.encryption 0) (Unsupported Encryption x.encryption) in
    let formed : List BtrRefusal = refused_unless form (BadBtrfs leaf ExtentForm) in
    let placed : List BtrRefusal = place_refusals ranges x.content in
    holds_unless form (BadBtrfs leaf ExtentForm) (none_left formed placed (none_right encrypted (formed ++ placed) (none_right compressed (encrypted ++ (formed ++ placed)) none)))

pub behind_end : (e c offset : ℕ) (content : ContentValue) → has_form e c offset content ≡ true → e ≤ offset
behind_end e c offset content h =
    let le : nat_le e offset ≡ true = first (nat_le e offset) (is_aligned offset content && nat_lt (c + covered_by content) (2 ^ 59)) h in
    grind (arith, nat_tests, le)

pub aligned_of : (e c offset : ℕ) (content : ContentValue) → has_form e c offset content ≡ true → is_aligned offset content ≡ true
aligned_of e c offset content h =
    first (is_aligned offset content) (nat_lt (c + covered_by content) (2 ^ 59)) (second (nat_le e offset) (is_aligned offset content && nat_lt (c + covered_by content) (2 ^ 59)) h)

-- extents with which nothing is wrong end at or behind where they begin
end_grows_at : (ranges : List MapRange) (e c : ℕ) (i : TreeItem) (o : Option FileExtentValue) (end : ℕ) → refusals_at ranges e c i o ≡ []
    → end_after e i.key.offset o ≤ end → e ≤ end
end_grows_at ranges e c i None end none le = absurd (cc none)
end_grows_at ranges e c i (Some x) end none le =
    let behind : e ≤ i.key.offset = behind_end e c i.key.offset x.content (form_of_sound ranges e c i.key.offset i.leaf x none) in
    omega (arith, behind, le)

pub end_grows : (ranges : List MapRange) (e c : ℕ) (xs : List TreeItem) → extents_refusals ranges e c xs ≡ [] → e ≤ extents_end e xs
end_grows ranges e c [] none = omega arith
end_grows ranges e c (i ∷ xs) none =
    let own : List BtrRefusal = refusals_at ranges e c i (file_extent_of i.body) in
    let end : ℕ = end_after e i.key.offset (file_extent_of i.body) in
    let covered : ℕ = covered_after c (file_extent_of i.body) in
    end_grows_at ranges e c i (file_extent_of i.body) (extents_end end xs) (none_left own (extents_refusals ranges end covered xs) none)
    (end_grows ranges end covered xs (none_right own (extents_refusals ranges end covered xs) none))

-- an extent that does not cover a byte
abbrev pub covers_at : ℕ → ℕ → Option FileExtentValue → Bool
covers_at offset k None = false
covers_at offset k (Some x) = covers offset x.content k

pub past_end : (offset k : ℕ) (o : Option FileExtentValue) (e : ℕ) → end_after e offset o ≤ k → covers_at offset k o ≡ false
past_end offset k None e le = refl
past_end offset k (Some x) e le = grind (arith, nat_tests, le)

pub before_start : (offset k : ℕ) (o : Option FileExtentValue) → k < offset → covers_at offset k o ≡ false
before_start offset k None lt = refl
before_start offset k (Some x) lt = grind (arith, nat_tests, lt)

-- the extents of a file after one more item
pub extents_of-other : (given : List TreeItem) (i : TreeItem) (ino : ℕ) → is_extent_of ino i ≡ false → extents_of (given ++ i ∷ []) ino ≡ extents_of given ino
extents_of-other given i ino other =
    filter-append (is_extent_of ino) given (i ∷ [])
    ∙ (ap (λ t. extents_of given ino ++ (if t then i ∷ [] else [])) other ∙ append-nil (extents_of given ino))

pub extents_of-one : (given : List TreeItem) (i : TreeItem) (ino : ℕ) → is_extent_of ino i ≡ true → extents_of (given ++ i ∷ []) ino ≡ extents_of given ino ++ i ∷ []
extents_of-one given i ino own = filter-append (is_extent_of ino) given (i ∷ []) ∙ ap (λ t. extents_of given ino ++ (if t then i ∷ [] else [])) own
