-- The object that has an inode number.
use Rattle.convert_steps.proofs.Imports.{◌≡◌, ◌<◌, ◌≤◌, ℕ, ◌+◌, ◌-◌, List, length, Option, Some, sym, ap, subst, ◌∙◌, ⊎_elim, arith, Contains, slice_get, cases_lt, slice_get-get_or, slice_get_within, keys, Image, ino_of_key, ObjectKey, root, AreNumbered, by_inode, IsOpened, IsAccepted, Volume}
use Rattle.extent_pieces.proofs.Named.{numbered}
use Rattle.reiser_volume.proofs.Numbered.{inode_of_root, inode_before, inode_behind, place_before, place_behind}

-- a named key has an inode, and by that its place
pub record IsNumbered (keys : List ObjectKey) (key : ObjectKey) : Type 0 where
  pub low : 256 ≤ ino_of_key keys key
  pub few : ino_of_key keys key - 256 < length keys
  pub there : slice_get (by_inode keys) (ino_of_key keys key - 256) ≡ Some key

module _ (keys : List ObjectKey) (at : ℕ) (are : AreNumbered at keys) (i : ℕ) (key : ObjectKey) (there : slice_get keys i ≡ Some key) where
  within : i < length keys
  within = slice_get_within keys i key there

  root_within : at < length keys
  root_within = slice_get_within keys at root are.has_root

  by : (n : ℕ) → ino_of_key keys key ≡ 256 + n → n < length keys → slice_get (by_inode keys) n ≡ Some key → IsNumbered keys key
  by n is few found =
      let same : n ≡ ino_of_key keys key - 256 = omega (arith, is) in
      record { low = omega (arith, is); few = omega (arith, is, few); there = subst (λ (m : ℕ). slice_get (by_inode keys) m ≡ Some key) same found }

  at_root : i ≡ at → IsNumbered keys key
  at_root same =
      let is = inode_of_root keys at are i key there same in
      by 0 (omega (arith, is)) (omega (arith, within)) (sym are.has_root ∙ (ap (slice_get keys) (sym same) ∙ there))

  at_before : i < at → IsNumbered keys key
  at_before less =
      let is = inode_before keys at are i key there less in
      let back : 1 + i - 1 ≡ i = omega arith in
      by (1 + i) (omega (arith, is)) (omega (arith, less, root_within))
      (sym (place_before keys at are (1 + i) (omega arith) (omega (arith, less))) ∙ (ap (slice_get keys) back ∙ there))

  at_behind : at < i → IsNumbered keys key
  at_behind more =
      let is = inode_behind keys at are i key there more in
      by i (omega (arith, is)) within (sym (place_behind keys at are i more) ∙ there)

  pub is_numbered : IsNumbered keys key
  is_numbered = ⊎_elim at_before (λ least. ⊎_elim at_behind (λ most. at_root (omega (arith, least, most))) (cases_lt at i)) (cases_lt i at)

pub named_number : (volume : Volume) (image : Image) (key : ObjectKey) → IsAccepted image → IsOpened volume image → Contains (keys volume.named) key → IsNumbered (keys volume.named) key
named_number volume image key accepted opened among =
    let all : List ObjectKey = keys volume.named in
    let at = numbered image all (record { accepted = accepted; are_keys = opened.are_keys; ascend = opened.ascends }) in
    is_numbered all at.0 at.1 among.0 key (slice_get-get_or all among.0 key among.1 ∙ ap (λ (k : ObjectKey). let o : Option ObjectKey = Some k in o) among.2)
