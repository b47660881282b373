-- An accepted ReiserFS volume has rows: one is made for each path of its links.
use Rattle.rows_laws.proofs.Imports.{◌≡◌, ℕ, ◌+◌, ◌<◌, true, List, [], map, length, get_or, Contains, Option, Some, unwrap_or, if◌then◌else◌, refl, sym, ap, subst, ◌∙◌, arith, is_le, get_or-map, length-map, is_directory, AscendsByPath, NameList, WholeRow, is_same_path, name_count, path_cmp, Kind, File, NodeId, NodeLink, PathTo, AreNamedOnce, ArePaths, first_path, from_map, in_map, AcceptedVolumesHaveRows}
use Rattle.fs_paths.proofs.Counts.{count_map, count_same}
use Rattle.fs_paths.proofs.FirstPlaces.{first_in, first_leads, is_least, names_counted}
use Rattle.reiser_volume.specs.outside.History.{Image}
use Rattle.reiser_volume.specs.reiser_walk.Items.{ReiserItem}
use Rattle.reiser_volume.specs.reiser_volume_objects.declared.key.ObjectKey.{ObjectKey}
use Rattle.reiser_volume.specs.reiser_volume_objects.declared.naming.Naming.{Naming}
use Rattle.reiser_volume.specs.reiser_volume_objects.declared.stat.ObjectStat.{ObjectStat}
use Rattle.reiser_volume.specs.reiser_volume_objects.Items.{stat_of_object}
use Rattle.reiser_volume.specs.reiser_volume_objects.Keys.{root}
use Rattle.reiser_volume.specs.reiser_volume_objects.Kinds.{kind_of_mode}
use Rattle.reiser_volume.specs.reiser_volume_objects.Names.{IsNamed}
use Rattle.reiser_volume.specs.reiser_volume_objects.Nodes.{node_of}
use Rattle.reiser_volume.specs.reiser_volume_objects.Rules.{IsObject}
use Rattle.reiser_volume.specs.Made.{bytes_at, kind_by, no_stat, row_by, stat_at}
use Rattle.reiser_volume.specs.Rows.{IsLeastPath, IsRow, LeadsToObject}
use Rattle.reiser_volume.specs.Volume.{AreRowsOf, IsAccepted, superblock, volume_items}
use Rattle.reiser_volume.specs.Ways.{link_of}
use Rattle.reiser_volume.proofs.Leading.{down, leads_named, named_once, up}
use Rattle.rows_laws.proofs.Listing.{paths_there}

-- the object that a node was made of
abbrev key_of : NodeId → ObjectKey
key_of node = record { dir = node.space; object = node.number }

module _ (image : Image) (list : List PathTo) where
  abbrev row_with : ObjectKey → ObjectStat → Kind → PathTo → WholeRow
  row_with key stat kind p = row_by (superblock image).flags stat kind p.path (first_path list p) p.names (bytes_at image (volume_items image) key stat kind)

  -- the row of a path
  row_at : PathTo → WholeRow
  row_at p = let stat = stat_at (volume_items image) (key_of p.target) in row_with (key_of p.target) stat (kind_by stat) p

  path_is : (p : PathTo) → (row_at p).path ≡ p.path
  unfolding row_at
  path_is p = refl

  least_is : (p : PathTo) → (row_at p).least ≡ first_path list p
  unfolding row_at
  least_is p = refl

  -- with the stat data and the kind of its object
  row_is : (p : PathTo) (stat : ObjectStat) (kind : Kind) → stat_of_object (volume_items image) (key_of p.target) ≡ Some stat → kind_of_mode stat.fields.mode ≡ Some kind → row_at p ≡ row_with (key_of p.target) stat kind p
  unfolding row_at
  row_is p stat kind there known =
      ap (λ (o : Option ObjectStat). row_with (key_of p.target) (unwrap_or o no_stat) (kind_by (unwrap_or o no_stat)) p) there
      ∙ ap (λ (k : Option Kind). row_with (key_of p.target) stat (unwrap_or k File) p) known

module _ (image : Image) (accepted : IsAccepted image) where
  abbrev items : List ReiserItem
  items = volume_items image

  abbrev links : List Naming
  links = accepted.names.links

  abbrev tree_links : List NodeLink
  tree_links = map link_of links

  once : AreNamedOnce tree_links (node_of root)
  once = named_once items accepted.names.visible links accepted.names.are_links accepted.objects accepted.names.keys accepted.names.keeps

  module _ (list : List PathTo) (are : ArePaths tree_links (node_of root) list) where
    abbrev rows : List WholeRow
    rows = map (row_at image list) list

    leads_on : (p : PathTo) → Contains list p → LeadsToObject links root p.path (key_of p.target)
    leads_on p among = let u = up links root p.target p.path (are.leads p among) in subst (LeadsToObject links root p.path) (ap key_of (sym u.1)) u.2

    is_named : (p : PathTo) → Contains list p → IsNamed items (key_of p.target)
    is_named p among = leads_named items accepted.names.visible links accepted.names.are_links root (key_of p.target) p.path (0, refl) (leads_on p among)

    least_path : (p : PathTo) → Contains list p → IsLeastPath links (key_of p.target) (first_path list p)
    least_path p among =
        let q : PathTo = get_or list p.least p in
        let to : q.target ≡ p.target = first_leads tree_links (node_of root) list are p among in
        record {
          leads = subst (LeadsToObject links root q.path) (ap key_of to) (leads_on q (first_in tree_links (node_of root) list are p among));
          least = λ other leads.
              let w = are.whole other p.target (down links root (key_of p.target) other leads) in
              subst (λ (b : NameList). is_le (path_cmp (first_path list p) b) ≡ true) w.2 (is_least tree_links (node_of root) list are p w.0 among w.1 w.3);
        }

    names_are : (p : PathTo) → Contains list p → p.names ≡ name_count rows (first_path list p)
    names_are p among =
        names_counted tree_links (node_of root) list are p among
        ∙ (count_same (λ (q : PathTo). is_same_path (first_path list q) (first_path list p)) (λ (q : PathTo). is_same_path (row_at image list q).least (first_path list p)) list (λ q. ap (λ (l : NameList). is_same_path l (first_path list p)) (sym (least_is image list q)))
        ∙ sym (count_map (λ (row : WholeRow). is_same_path row.least (first_path list p)) (row_at image list) list))

    is_row : (p : PathTo) → Contains list p → IsRow image (superblock image).flags items links rows (key_of p.target) (row_at image list p)
    is_row p among =
        let o : IsObject items (key_of p.target) = accepted.objects.each (key_of p.target) (is_named p among) in
        subst (IsRow image (superblock image).flags items links rows (key_of p.target)) (sym (row_is image list p o.stat o.kind o.has_stat o.known)) (record {
          leads = leads_on p among;
          stat = o.stat;
          has_stat = o.has_stat;
          fields = record { kind = o.known; mode = refl; uid = refl; gid = refl; atime = refl; mtime = refl; ctime = refl; sync = refl; immutable = refl; append = refl; nodump = refl; noatime = refl; major = refl; minor = refl };
          least = least_path p among;
          names = ap (λ (n : ℕ). if is_directory o.kind then 0 else n) (names_are p among);
          bytes = refl;
        })

    ascending : AscendsByPath rows
    ascending k d within =
        let long = length-map list (row_at image list) in
        let any : PathTo = record { path = []; target = node_of root; least = 0; names = 0 } in
        let next : k + 1 < length list = omega (arith, within, long) in
        let this = get_or-map (row_at image list) list k any d (omega (arith, next)) in
        let after = get_or-map (row_at image list) list (k + 1) any d next in
        ap (λ (w : WholeRow). path_cmp w.path (get_or rows (k + 1) d).path) this
        ∙ (ap (λ (w : WholeRow). path_cmp (row_at image list (get_or list k any)).path w.path) after
        ∙ (ap (λ (a : NameList). path_cmp a (row_at image list (get_or list (k + 1) any)).path) (path_is image list (get_or list k any))
        ∙ (ap (λ (b : NameList). path_cmp (get_or list k any).path b) (path_is image list (get_or list (k + 1) any)) ∙ are.ascends k any next)))

    rows_are : AreRowsOf image rows
    rows_are = record {
      visible = accepted.names.visible;
      links = links;
      are_links = accepted.names.are_links;
      ascends = ascending;
      each = λ row among.
          let m = from_map (row_at image list) list row among in
          (key_of m.0.target, subst (IsRow image (superblock image).flags items links rows (key_of m.0.target)) m.2 (is_row m.0 m.1));
      whole = λ path key leads.
          let w = are.whole path (node_of key) (down links root key path leads) in
          (row_at image list w.0, in_map (row_at image list) list w.0 w.1, path_is image list w.0 ∙ w.2);
    }

pub accepted_volumes_have_rows : AcceptedVolumesHaveRows
accepted_volumes_have_rows image accepted =
    let l = paths_there (map link_of accepted.names.links) (node_of root) (once image accepted) in
    (map (row_at image l.0) l.0, rows_are image accepted l.0 l.1)
