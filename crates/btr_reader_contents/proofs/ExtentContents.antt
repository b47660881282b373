-- What one more extent makes of the bytes of a file.
use Rattle.btr_reader_contents.proofs.Imports.{◌≡◌, ℕ, ◌+◌, ◌-◌, ◌<◌, ◌≤◌, min, Bool, true, false, cond, ltb, if◌then◌else◌, List, [], ◌∷◌, ◌++◌, length, get_or, take, Option, Some, None, refl, sym, ap, ◌∙◌, arith, inl, inr, cases_lt, nat_tests, append-nil, length-take, get_or-take, Image, BtrRefusal, ContentValue, FileExtentValue, file_extent_of, MapRange, TreeItem, below_size, past_size, Overlays, extent_length, content_byte, covers, byte_from, file_byte, end_after, covered_after, refusals_at, extents_refusals, extents_end, content, Appends}
use Rattle.btr_reader_contents.proofs.ExtentLists.{none_right, end_grows, covers_at, past_end, before_start}

same_below : (x y n size : ℕ) → x ≡ y → cond (ltb n size) x 0 ≡ cond (ltb n size) y 0
same_below x y n size is = ap (λ (b : ℕ). cond (ltb n size) b 0) is

either : (t : Bool) (x : ℕ) → cond t x x ≡ x
either true x = refl
either false x = refl

-- nothing was given
pub empty_content : (image : Image) (ranges : List MapRange) (size n : ℕ) → content image ranges [] size n ≡ 0
empty_content image ranges size n = either (ltb n size) 0

-- an extent that does not cover a byte
passes : (image : Image) (ranges : List MapRange) (i : TreeItem) (o : Option FileExtentValue) (n other : ℕ) → covers_at i.key.offset n o ≡ false → byte_from image ranges i o n other ≡ other
passes image ranges i None n other out = refl
passes image ranges i (Some x) n other out = ap (λ t. if t then content_byte image ranges x.content (n - i.key.offset) else other) out

-- bytes past the end of some extents are not theirs
passes_all : (image : Image) (ranges : List MapRange) (e c n : ℕ) (xs ys : List TreeItem) → extents_refusals ranges e c xs ≡ [] → extents_end e xs ≤ n
    → file_byte image ranges (xs ++ ys) n ≡ file_byte image ranges ys n
passes_all image ranges e c n [] ys none past = refl
passes_all image ranges e c n (i ∷ xs) ys none past =
    let own : List BtrRefusal = refusals_at ranges e c i (file_extent_of i.body) in
    let end : ℕ = end_after e i.key.offset (file_extent_of i.body) in
    let covered : ℕ = covered_after c (file_extent_of i.body) in
    let sound : extents_refusals ranges end covered xs ≡ [] = none_right own (extents_refusals ranges end covered xs) none in
    let grows : end ≤ extents_end end xs = end_grows ranges end covered xs sound in
    let past_this : end ≤ n = omega (arith, grows, past) in
    passes image ranges i (file_extent_of i.body) n (file_byte image ranges (xs ++ ys) n) (past_end i.key.offset n (file_extent_of i.body) e past_this)
    ∙ passes_all image ranges end covered n xs ys sound past

-- one more extent that does not cover a byte
adds_none : (image : Image) (ranges : List MapRange) (n : ℕ) (xs : List TreeItem) (i : TreeItem) → covers_at i.key.offset n (file_extent_of i.body) ≡ false
    → file_byte image ranges (xs ++ i ∷ []) n ≡ file_byte image ranges xs n
adds_none image ranges n [] i out = passes image ranges i (file_extent_of i.body) n 0 out
adds_none image ranges n (x ∷ xs) i out = ap (byte_from image ranges x (file_extent_of x.body) n) (adds_none image ranges n xs i out)

-- and one that covers it, alone
alone : (image : Image) (ranges : List MapRange) (i : TreeItem) (x : FileExtentValue) (n : ℕ) → file_extent_of i.body ≡ Some x → covers i.key.offset x.content n ≡ true
    → file_byte image ranges (i ∷ []) n ≡ content_byte image ranges x.content (n - i.key.offset)
alone image ranges i x n read in_it =
    ap (λ (o : Option FileExtentValue). byte_from image ranges i o n 0) read ∙ ap (λ t. if t then content_byte image ranges x.content (n - i.key.offset) else 0) in_it

inside_it : (offset n : ℕ) (c : ContentValue) → offset ≤ n → n < offset + extent_length c → covers offset c n ≡ true
inside_it offset n c low high = grind (arith, nat_tests, low, high)

out_of_it : (offset n : ℕ) (o : Option FileExtentValue) (x : FileExtentValue) → o ≡ Some x → offset + extent_length x.content ≤ n → covers_at offset n o ≡ false
out_of_it offset n o x read h = past_end offset n o 0 (omega (arith, h, ap (end_after 0 offset) read))

-- what an extent adds behind others with which nothing is wrong
pub extent_appends : (image : Image) (ranges : List MapRange) (given : List TreeItem) (i : TreeItem) (x : FileExtentValue) (size : ℕ) → extents_refusals ranges 0 0 given ≡ []
    → file_extent_of i.body ≡ Some x → extents_end 0 given ≤ i.key.offset
    → Appends i.key.offset (min (extent_length x.content) (size - i.key.offset)) (content_byte image ranges x.content) (content image ranges given size) (content image ranges (given ++ i ∷ []) size)
extent_appends image ranges given i x size sound read behind =
    let at : ℕ = i.key.offset in
    let all : List TreeItem = given ++ i ∷ [] in
    let alone_past : (n : ℕ) → at ≤ n → file_byte image ranges (given ++ i ∷ []) n ≡ file_byte image ranges (i ∷ []) n =
    λ n h. passes_all image ranges 0 0 n given (i ∷ []) sound (omega (arith, behind, h)) in
    record {
      below = λ n h. same_below _ _ n size (adds_none image ranges n given i (before_start i.key.offset n (file_extent_of i.body) h));
      inside = λ n low high.
          let below : n < size = omega (arith, low, high) in
          let within : n < i.key.offset + extent_length x.content = omega (arith, low, high) in
          below_size (file_byte image ranges (given ++ i ∷ [])) n size below ∙ alone_past n low ∙ alone image ranges i x n read (inside_it i.key.offset n x.content low within);
      before = λ n h.
          let nil : file_byte image ranges given n ≡ 0 =
          ap (λ (z : List TreeItem). file_byte image ranges z n) (sym (append-nil given)) ∙ passes_all image ranges 0 0 n given [] sound (omega (arith, behind, h)) in
          same_below _ _ n size nil ∙ either (ltb n size) 0;
      after = λ n h.
          elim (cases_lt n size) as (λ _. content image ranges (given ++ i ∷ []) size n ≡ 0) [
            | inl below ↦
                let past : i.key.offset + extent_length x.content ≤ n = omega (arith, h, below) in
                let nil : file_byte image ranges (given ++ i ∷ []) n ≡ 0 =
                alone_past n (omega (arith, past)) ∙ passes image ranges i (file_extent_of i.body) n 0 (out_of_it i.key.offset n (file_extent_of i.body) x read past) in
                same_below _ _ n size nil ∙ either (ltb n size) 0
            | inr past ↦ past_size (file_byte image ranges (given ++ i ∷ [])) n size past
          ];
    }

-- the first bytes of a list as a part
pub first_part : (at room : ℕ) (bytes : List ℕ) (f g : ℕ → ℕ) → Appends at (min (length bytes) room) (λ j. get_or bytes j 0) f g → Overlays at (take room bytes) f g
first_part at room bytes f g over =
    let long : length (take room bytes) ≡ min (length bytes) room = length-take room bytes ∙ omega arith in
    record {
      inside = λ n low high. over.inside n low (omega (arith, high, long)) ∙ sym (get_or-take room bytes (n - at) 0 (omega (arith, low, high, long)));
      below = over.below;
      above = λ n h. over.after n (omega (arith, h, long)) ∙ sym (over.before n (omega (arith, h)));
    }
