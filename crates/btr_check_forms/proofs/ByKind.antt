-- Items on their forms, kind by kind.
use Rattle.btr_check_forms.proofs.Imports.{◌≡◌, ◌≢◌, ◌||◌, List, [], ◌∷◌, ap, ◌∙◌, eq-eqb, ne_eqb, ℕ, ◌==◌, Bool, true, false, refl, sym, subst, arith, IsTrue, is_some, eqb-true, true≢false, Decides, AllByRecursion, list_any, IsOnForm, file_kinds, AreAttributes, IsDirIndex, IsDirItem, IsExtref}
use Rattle.btr_check_rules.specs.btr_reader.btr_keys.FileExtent.{file_extent_of}
use Rattle.btr_check_rules.specs.btr_reader.btr_keys.Inode.{inode_of}
use Rattle.btr_check_rules.specs.btr_reader.btr_keys.InodeRef.{inode_refs_of}
use Rattle.btr_check_rules.specs.btr_reader.btr_node.Leaf.{Item}
use Rattle.btr_check_rules.specs.btr_reader.btr_reader_walk.btr_keys.btrfs_format.declared.key.TheConstants.{DIR_INDEX, DIR_ITEM, EXTENT_DATA, INODE_EXTREF, INODE_ITEM, INODE_REF, ORPHAN_ITEM, XATTR_ITEM}

is_known : (kind k : ℕ) → kind ≡ k → list_any (λ n. n == k) file_kinds ≡ true → list_any (λ n. n == kind) file_kinds ≡ true
is_known kind k is known = subst (λ (m : ℕ). list_any (λ n. n == m) file_kinds ≡ true) (sym is) known

module _ (i : Item) (r : Bool) where
  pub inode_form : i.0.kind ≡ INODE_ITEM → Decides r ((i.0.offset ≡ 0) × IsTrue (is_some (inode_of i.1))) → Decides r (IsOnForm i)
  inode_form is decides = (
    (λ so. record {
      kind = is_known i.0.kind INODE_ITEM is refl;
      inode = λ same. decides.0 so;
      refs = λ other. absurd (omega arith);
      extrefs = λ other. absurd (omega arith);
      attributes = λ other. absurd (omega arith);
      hashed = λ other. absurd (omega arith);
      indexed = λ other. absurd (omega arith);
      extent = λ other. absurd (omega arith);
    }),
    (λ form. decides.1 (form.inode is)),
  )

  pub ref_form : i.0.kind ≡ INODE_REF → Decides r (IsTrue (is_some (inode_refs_of i.1))) → Decides r (IsOnForm i)
  ref_form is decides = (
    (λ so. record {
      kind = is_known i.0.kind INODE_REF is refl;
      refs = λ same. decides.0 so;
      inode = λ other. absurd (omega arith);
      extrefs = λ other. absurd (omega arith);
      attributes = λ other. absurd (omega arith);
      hashed = λ other. absurd (omega arith);
      indexed = λ other. absurd (omega arith);
      extent = λ other. absurd (omega arith);
    }),
    (λ form. decides.1 (form.refs is)),
  )

  pub extref_form : i.0.kind ≡ INODE_EXTREF → Decides r (IsExtref i.0.offset i.1) → Decides r (IsOnForm i)
  extref_form is decides = (
    (λ so. record {
      kind = is_known i.0.kind INODE_EXTREF is refl;
      extrefs = λ same. decides.0 so;
      inode = λ other. absurd (omega arith);
      refs = λ other. absurd (omega arith);
      attributes = λ other. absurd (omega arith);
      hashed = λ other. absurd (omega arith);
      indexed = λ other. absurd (omega arith);
      extent = λ other. absurd (omega arith);
    }),
    (λ form. decides.1 (form.extrefs is)),
  )

  pub attribute_form : i.0.kind ≡ XATTR_ITEM → Decides r (AreAttributes i.0.offset i.1) → Decides r (IsOnForm i)
  attribute_form is decides = (
    (λ so. record {
      kind = is_known i.0.kind XATTR_ITEM is refl;
      attributes = λ same. decides.0 so;
      inode = λ other. absurd (omega arith);
      refs = λ other. absurd (omega arith);
      extrefs = λ other. absurd (omega arith);
      hashed = λ other. absurd (omega arith);
      indexed = λ other. absurd (omega arith);
      extent = λ other. absurd (omega arith);
    }),
    (λ form. decides.1 (form.attributes is)),
  )

  pub dir_item_form : i.0.kind ≡ DIR_ITEM → Decides r (IsDirItem i.0.offset i.1) → Decides r (IsOnForm i)
  dir_item_form is decides = (
    (λ so. record {
      kind = is_known i.0.kind DIR_ITEM is refl;
      hashed = λ same. decides.0 so;
      inode = λ other. absurd (omega arith);
      refs = λ other. absurd (omega arith);
      extrefs = λ other. absurd (omega arith);
      attributes = λ other. absurd (omega arith);
      indexed = λ other. absurd (omega arith);
      extent = λ other. absurd (omega arith);
    }),
    (λ form. decides.1 (form.hashed is)),
  )

  pub dir_index_form : i.0.kind ≡ DIR_INDEX → Decides r (IsDirIndex i.1) → Decides r (IsOnForm i)
  dir_index_form is decides = (
    (λ so. record {
      kind = is_known i.0.kind DIR_INDEX is refl;
      indexed = λ same. decides.0 so;
      inode = λ other. absurd (omega arith);
      refs = λ other. absurd (omega arith);
      extrefs = λ other. absurd (omega arith);
      attributes = λ other. absurd (omega arith);
      hashed = λ other. absurd (omega arith);
      extent = λ other. absurd (omega arith);
    }),
    (λ form. decides.1 (form.indexed is)),
  )

  pub extent_form : i.0.kind ≡ EXTENT_DATA → Decides r (IsTrue (is_some (file_extent_of i.1))) → Decides r (IsOnForm i)
  extent_form is decides = (
    (λ so. record {
      kind = is_known i.0.kind EXTENT_DATA is refl;
      extent = λ same. decides.0 so;
      inode = λ other. absurd (omega arith);
      refs = λ other. absurd (omega arith);
      extrefs = λ other. absurd (omega arith);
      attributes = λ other. absurd (omega arith);
      hashed = λ other. absurd (omega arith);
      indexed = λ other. absurd (omega arith);
    }),
    (λ form. decides.1 (form.extent is)),
  )

-- an item of no other kind is on its form exactly where it is an orphan item
pub other_form : (i : Item) → i.0.kind ≢ INODE_ITEM → i.0.kind ≢ INODE_REF → i.0.kind ≢ INODE_EXTREF → i.0.kind ≢ XATTR_ITEM → i.0.kind ≢ DIR_ITEM → i.0.kind ≢ DIR_INDEX → i.0.kind ≢ EXTENT_DATA
    → Decides (i.0.kind == ORPHAN_ITEM) (IsOnForm i)
other_form i no_inode no_ref no_extref no_attribute no_item no_index no_extent = (
  (λ so. record {
    kind = is_known i.0.kind ORPHAN_ITEM (eqb-true _ _ so) refl;
    inode = λ is. absurd (no_inode is);
    refs = λ is. absurd (no_ref is);
    extrefs = λ is. absurd (no_extref is);
    attributes = λ is. absurd (no_attribute is);
    hashed = λ is. absurd (no_item is);
    indexed = λ is. absurd (no_index is);
    extent = λ is. absurd (no_extent is);
  }),
  (λ form. by (i.0.kind == ORPHAN_ITEM) refl form),
)
  where
    none_of : (ks : List ℕ) → AllByRecursion (λ k. k ≢ i.0.kind) ks → list_any (λ k. k == i.0.kind) ks ≡ false
    none_of [] none = refl
    none_of (k ∷ ks) none = ap (λ (b : Bool). b || list_any (λ n. n == i.0.kind) ks) (ne_eqb k i.0.kind none.0) ∙ none_of ks none.1

    by : (b : Bool) → (i.0.kind == ORPHAN_ITEM) ≡ b → IsOnForm i → b ≡ true
    by true is form = refl
    by false is form = absurd (true≢false (sym form.kind ∙ none_of file_kinds (
      (λ e. no_inode (sym e)),
      (
        (λ e. no_ref (sym e)),
        (
          (λ e. no_extref (sym e)),
          (
            (λ e. no_attribute (sym e)),
            (
              (λ e. absurd (true≢false (sym (eq-eqb i.0.kind ORPHAN_ITEM (sym e)) ∙ is))),
              ((λ e. no_item (sym e)), ((λ e. no_index (sym e)), ((λ e. no_extent (sym e)), tt))),
            ),
          ),
        ),
      ),
    )))
