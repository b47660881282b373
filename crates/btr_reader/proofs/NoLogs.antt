-- Refusals that name no log tree.
use Rattle.btr_reader.proofs.Imports.{◌≡◌, refl, ◌==◌, ℕ, zero, suc, ◌+◌, ◌/◌, Bool, true, false, cond, List, [], ◌∷◌, ◌++◌, Contains, Option, Some, None, All, All-nil, All-cons, All-append, All-contains, BtrRefusal, BadBtrfs, LogPending, Unsupported, ExtentForm, Compression, Encryption, ContentValue, Inline, Regular, Prealloc, FileExtentValue, NamesNoLog, MapRange, place, refused_unless, at_unmapped, unmapped_in, place_refusals, has_form, is_hole, extent_refusals}

abbrev NoneNamesLog : List BtrRefusal → Type 0
NoneNamesLog rs = All NamesNoLog rs

none : NoneNamesLog []
none = All-nil NamesNoLog

one : (r : BtrRefusal) → NamesNoLog r → NoneNamesLog (r ∷ [])
one r h = All-cons NamesNoLog r [] h none

both : (xs ys : List BtrRefusal) → NoneNamesLog xs → NoneNamesLog ys → NoneNamesLog (xs ++ ys)
both xs ys first second = All-append NamesNoLog xs ys first second

by_test : (t : Bool) (r : BtrRefusal) → NamesNoLog r → NoneNamesLog (refused_unless t r)
by_test true r h = none
by_test false r h = one r h

by_place : (at : Option ℕ) (address : ℕ) → NoneNamesLog (at_unmapped at address)
by_place None address = one _ tt
by_place (Some p) address = none

unmapped : (ranges : List MapRange) (n address : ℕ) → NoneNamesLog (unmapped_in ranges n address)
unmapped ranges zero address = none
unmapped ranges (suc n) address = both (at_unmapped (place ranges address) address) (unmapped_in ranges n (address + 4096)) (by_place (place ranges address) address) (unmapped ranges n (address + 4096))

by_hole : (hole : Bool) (rs : List BtrRefusal) → NoneNamesLog rs → NoneNamesLog (cond hole [] rs)
by_hole true rs h = none
by_hole false rs h = h

by_content : (ranges : List MapRange) (content : ContentValue) → NoneNamesLog (place_refusals ranges content)
by_content ranges (Inline bytes) = none
by_content ranges (Regular r) = by_hole (is_hole r) _ (unmapped ranges (r.num_bytes / 4096) (r.disk_bytenr + r.offset))
by_content ranges (Prealloc r) = none

-- what is wrong with an extent names none
pub of_extent : (ranges : List MapRange) (end covered offset leaf : ℕ) (e : FileExtentValue) (r : BtrRefusal) → Contains (extent_refusals ranges end covered offset leaf e) r → NamesNoLog r
of_extent ranges end covered offset leaf e r among =
    let placed = by_content ranges e.content in
    let formed = both (refused_unless (has_form end covered offset e.content) (BadBtrfs leaf ExtentForm)) (place_refusals ranges e.content) (by_test (has_form end covered offset e.content) (BadBtrfs leaf ExtentForm) tt) placed in
    let unencrypted = both (refused_unless (e.encryption == 0) (Unsupported Encryption e.encryption)) _ (by_test (e.encryption == 0) (Unsupported Encryption e.encryption) tt) formed in
    let all = both (refused_unless (e.compression == 0) (Unsupported Compression e.compression)) _ (by_test (e.compression == 0) (Unsupported Compression e.compression) tt) unencrypted in
    All-contains NamesNoLog (extent_refusals ranges end covered offset leaf e) r all among

-- the same as what a refusal is not
pub names_none : (r : BtrRefusal) → NamesNoLog r → (address : ℕ) → ¬ (Some r ≡ Some (LogPending address))
names_none (BadBtrfs at rule) h address is = cc is
names_none (Unsupported feature value) h address is = cc is
names_none (LogPending at) h address is = h
