-- The tests of the totals tell what is asked of them.
use Rattle.btr_check_fields.proofs.Imports.{ap₂, ◌≡◌, ℕ, ◌+◌, ◌&&◌, Bool, true, false, List, [], ◌∷◌, ◌++◌, length, Option, Some, None, refl, sym, ap, subst, ◌∙◌, append_assoc, arith, Decides, sum_by, option_map_or, false≢true, Decides-and, Decides-at, Decides-eqb, Decides-like, not_from_Decides, append-nil, Key, Item, BlockGroup, Super, ChunkAt, DEV_ITEM, DEV_ITEMS_OBJECTID, AreTotals, IsDeviceItem, IsOnlyDevice, group_used, stripe_bytes, AreReadOf, group_at, GroupAt}
use Rattle.btr_check_rules.specs.btr_reader.btr_space_items.Device.{device_of}
use Rattle.btr_check_rules.specs.btr_reader.btr_space_items.declared.device.Device.{Device}
use Rattle.btr_check_rules.specs.btr_reader.btr_super.Super.{node_fsid}
use Rattle.btr_check_fields.specs.Devices.{FindsDevices, first_device, is_device_body, is_device_item, is_device_key, same_device}
use Rattle.btr_check_fields.specs.Totals.{tells_volume}
use Rattle.btr_check_fields.specs.declared.devices.DevicesFound.{DevicesFound}
use Rattle.std.proofs.lemmas.List.Sums.{sum_by-cons}
use Rattle.btr_check_fields.specs.declared.devices.DevicesFound.TheVariants as found
use Rattle.btr_check_fields.proofs.Deciding.{decides_uuid}
use Rattle.btr_check_fields.proofs.GroupRules.{is_read}
use Rattle.btr_check_fields.proofs.Listing.{first_or, not_none, rest_of, some_same}

-- ---- the bytes in use

abbrev used_of : GroupAt → ℕ
used_of g = g.group.used

-- block groups have in use what their items tell
pub used_read : (items : List Item) (groups : List GroupAt) → AreReadOf group_at items groups → sum_by group_used items ≡ sum_by used_of groups
used_read [] [] are = refl
used_read [] (g ∷ groups) are = absurd (omega (arith, ap length are))
used_read (i ∷ items) [] are = absurd (omega (arith, ap length are))
used_read (i ∷ items) (g ∷ groups) are =
    let read = is_read i g (ap (first_or None) are) in
    let own : group_used i ≡ g.group.used = ap (λ (b : Option BlockGroup). option_map_or (λ (x : BlockGroup). x.used) b 0) read.body in
    let rest = used_read items groups (ap rest_of are) in
    sum_by-cons group_used i items ∙ (ap₂ (λ (a b : ℕ). a + b) own rest ∙ sym (sum_by-cons used_of g groups))

-- ---- the device

abbrev DeviceParts : Device → Device → Type 0
DeviceParts a b =
    (a.devid ≡ b.devid)
    × ((a.total_bytes ≡ b.total_bytes)
    × ((a.bytes_used ≡ b.bytes_used)
    × ((a.io_align ≡ b.io_align)
    × ((a.io_width ≡ b.io_width)
    × ((a.sector_size ≡ b.sector_size)
    × ((a.kind ≡ b.kind)
    × ((a.generation ≡ b.generation)
    × ((a.start_offset ≡ b.start_offset)
    × ((a.dev_group ≡ b.dev_group)
    × ((a.seek_speed ≡ b.seek_speed) × ((a.bandwidth ≡ b.bandwidth) × ((a.uuid ≡ b.uuid) × (a.fsid ≡ b.fsid)))))))))))))

one_device : (a b : Device) → DeviceParts a b → a ≡ b
one_device a b (p1, (p2, (p3, (p4, (p5, (p6, (p7, (p8, (p9, (p10, (p11, (p12, (p13, p14))))))))))))) = let same : record { devid = a.devid; total_bytes = a.total_bytes; bytes_used = a.bytes_used; io_align = a.io_align; io_width = a.io_width; sector_size = a.sector_size; kind = a.kind; generation = a.generation; start_offset = a.start_offset; dev_group = a.dev_group; seek_speed = a.seek_speed; bandwidth = a.bandwidth; uuid = a.uuid; fsid = a.fsid } ≡ record { devid = b.devid; total_bytes = b.total_bytes; bytes_used = b.bytes_used; io_align = b.io_align; io_width = b.io_width; sector_size = b.sector_size; kind = b.kind; generation = b.generation; start_offset = b.start_offset; dev_group = b.dev_group; seek_speed = b.seek_speed; bandwidth = b.bandwidth; uuid = b.uuid; fsid = b.fsid } = cc in same

device_parts : (a b : Device) → a ≡ b → DeviceParts a b
device_parts a b same = (
  ap (λ (d : Device). d.devid) same,
  (
    ap (λ (d : Device). d.total_bytes) same,
    (
      ap (λ (d : Device). d.bytes_used) same,
      (
        ap (λ (d : Device). d.io_align) same,
        (
          ap (λ (d : Device). d.io_width) same,
          (
            ap (λ (d : Device). d.sector_size) same,
            (
              ap (λ (d : Device). d.kind) same,
              (
                ap (λ (d : Device). d.generation) same,
                (
                  ap (λ (d : Device). d.start_offset) same,
                  (
                    ap (λ (d : Device). d.dev_group) same,
                    (ap (λ (d : Device). d.seek_speed) same, (ap (λ (d : Device). d.bandwidth) same, (ap (λ (d : Device). d.uuid) same, ap (λ (d : Device). d.fsid) same))),
                  ),
                ),
              ),
            ),
          ),
        ),
      ),
    ),
  ),
)

decides_device : (a b : Device) → Decides (same_device a b) (a ≡ b)
decides_device a b =
    Decides-like (same_device a b) (one_device a b) (device_parts a b)
    (Decides-and _ _ (Decides-eqb a.devid b.devid)
    (Decides-and _ _ (Decides-eqb a.total_bytes b.total_bytes)
    (Decides-and _ _ (Decides-eqb a.bytes_used b.bytes_used)
    (Decides-and _ _ (Decides-eqb a.io_align b.io_align)
    (Decides-and _ _ (Decides-eqb a.io_width b.io_width)
    (Decides-and _ _ (Decides-eqb a.sector_size b.sector_size)
    (Decides-and _ _ (Decides-eqb a.kind b.kind)
    (Decides-and _ _ (Decides-eqb a.generation b.generation)
    (Decides-and _ _ (Decides-eqb a.start_offset b.start_offset)
    (Decides-and _ _ (Decides-eqb a.dev_group b.dev_group)
    (Decides-and _ _ (Decides-eqb a.seek_speed b.seek_speed)
    (Decides-and _ _ (Decides-eqb a.bandwidth b.bandwidth) (Decides-and _ _ (decides_uuid a.uuid b.uuid) (decides_uuid a.fsid b.fsid))))))))))))))

decides_body : (s : Super) (o : Option Device) → Decides (is_device_body s o) (o ≡ Some s.dev_item)
decides_body s None = ((λ not_so. absurd (false≢true not_so)), (λ none. absurd (not_none s.dev_item none)))
decides_body s (Some d) = Decides-like {P = d ≡ s.dev_item} {Q = Some d ≡ Some s.dev_item} (same_device d s.dev_item) (λ same. ap Some same) (λ same. some_same d s.dev_item same) (decides_device d s.dev_item)

abbrev device_key : Super → Key
device_key s = record { objectid = DEV_ITEMS_OBJECTID; kind = DEV_ITEM; offset = s.dev_item.devid }

same_key : (s : Super) (k : Key) → k.objectid ≡ DEV_ITEMS_OBJECTID → k.kind ≡ DEV_ITEM → k.offset ≡ s.dev_item.devid → k ≡ device_key s
same_key s k a b c = let same : record { objectid = k.objectid; kind = k.kind; offset = k.offset } ≡ device_key s = cc in same

decides_key : (s : Super) (k : Key) → Decides (is_device_key s k) (k ≡ device_key s)
decides_key s k =
    Decides-like {P = (k.objectid ≡ DEV_ITEMS_OBJECTID) × ((k.kind ≡ DEV_ITEM) × (k.offset ≡ s.dev_item.devid))} {Q = k ≡ device_key s} (is_device_key s k) (λ p. same_key s k p.0 p.1.0 p.1.1) (λ same. (ap (λ (x : Key). x.objectid) same, (ap (λ (x : Key). x.kind) same, ap (λ (x : Key). x.offset) same)))
    (Decides-and _ _ (Decides-eqb k.objectid DEV_ITEMS_OBJECTID) (Decides-and _ _ (Decides-eqb k.kind DEV_ITEM) (Decides-eqb k.offset s.dev_item.devid)))

pub decides_item : (s : Super) (k : Key) (body : List ℕ) → Decides (is_device_item s k body) (IsDeviceItem s (k, body))
decides_item s k body =
    Decides-like {P = (k ≡ device_key s) × (device_of body ≡ Some s.dev_item)} {Q = IsDeviceItem s (k, body)} (is_device_item s k body) (λ p. record { key = p.0; body = p.1 }) (λ is. (is.key, is.body)) (Decides-and _ _ (decides_key s k) (decides_body s (device_of body)))

-- ---- device items one after the other

long_not_one : (s : Super) (i j : Item) (items : List Item) → ¬ IsOnlyDevice s (i ∷ (j ∷ items))
long_not_one s i j items (k, are, is) = omega (arith, ap length are)

other_not_one : (s : Super) (i : Item) (more : List Item) → ¬ IsDeviceItem s i → ¬ IsOnlyDevice s (i ∷ more)
other_not_one s i more not_so (k, are, is) = not_so (subst (IsDeviceItem s) (sym (ap (first_or i) are)) is)

pub first_found : (s : Super) (i : Item) (items : List Item) → items ≡ [] → IsDeviceItem s i → FindsDevices s (items ++ i ∷ []) found.One
first_found s i items none is = subst (λ (l : List Item). IsOnlyDevice s (l ++ i ∷ [])) (sym none) (i, refl, is)

pub first_wrong : (s : Super) (i : Item) (items : List Item) → items ≡ [] → ¬ IsDeviceItem s i → FindsDevices s (items ++ i ∷ []) found.Wrong
first_wrong s i items none not_so = λ more one. other_not_one s i more not_so (subst (λ (l : List Item). IsOnlyDevice s ((l ++ i ∷ []) ++ more)) none one)

pub second_wrong : (s : Super) (i : Item) (items : List Item) → FindsDevices s items found.One → FindsDevices s (items ++ i ∷ []) found.Wrong
second_wrong s i items (j, are, is) = λ more one. long_not_one s j i more (subst (λ (l : List Item). IsOnlyDevice s ((l ++ i ∷ []) ++ more)) are one)

pub still_wrong : (s : Super) (i : Item) (items : List Item) → FindsDevices s items found.Wrong → FindsDevices s (items ++ i ∷ []) found.Wrong
still_wrong s i items wrong = λ more one. wrong (i ∷ more) (subst (IsOnlyDevice s) (append_assoc items (i ∷ []) more) one)

pub none_alone : (s : Super) (items : List Item) → FindsDevices s items found.None → ¬ IsOnlyDevice s items
none_alone s items none (i, are, is) = omega (arith, ap length (sym none ∙ are))

pub wrong_alone : (s : Super) (items : List Item) → FindsDevices s items found.Wrong → ¬ IsOnlyDevice s items
wrong_alone s items wrong one = wrong [] (subst (IsOnlyDevice s) (sym (append-nil items)) one)

-- ---- one device item more

first_met : (s : Super) (items : List Item) (k : Key) (body : List ℕ) (right : Bool) → items ≡ [] → Decides right (IsDeviceItem s (k, body)) → FindsDevices s (items ++ (k, body) ∷ []) (first_device right)
first_met s items k body true none is = first_found s (k, body) items none (is.0 refl)
first_met s items k body false none is = first_wrong s (k, body) items none (not_from_Decides false is refl)

pub none_met : (s : Super) (items : List Item) (k : Key) (body : List ℕ) (was : DevicesFound) (right : Bool) (now : DevicesFound) → was ≡ found.None → right ≡ is_device_item s k body → now ≡ first_device right
    → FindsDevices s items was → FindsDevices s (items ++ (k, body) ∷ []) now
none_met s items k body was right now none is then_ finds =
    subst (FindsDevices s (items ++ (k, body) ∷ [])) (sym then_) (first_met s items k body right (subst (FindsDevices s items) none finds) (Decides-at _ _ is (decides_item s k body)))

pub one_met : (s : Super) (items : List Item) (k : Key) (body : List ℕ) (was : DevicesFound) → was ≡ found.One → FindsDevices s items was → FindsDevices s (items ++ (k, body) ∷ []) found.Wrong
one_met s items k body was one finds = second_wrong s (k, body) items (subst (FindsDevices s items) one finds)

pub wrong_met : (s : Super) (items : List Item) (k : Key) (body : List ℕ) (was : DevicesFound) → was ≡ found.Wrong → FindsDevices s items was → FindsDevices s (items ++ (k, body) ∷ []) found.Wrong
wrong_met s items k body was wrong finds = still_wrong s (k, body) items (subst (FindsDevices s items) wrong finds)

-- a test of what was met
pub alone_none : (s : Super) (items : List Item) (was : DevicesFound) → was ≡ found.None → FindsDevices s items was → Decides false (IsOnlyDevice s items)
alone_none s items was none finds = ((λ not_so. absurd (false≢true not_so)), (λ one. absurd (none_alone s items (subst (FindsDevices s items) none finds) one)))

pub alone_one : (s : Super) (items : List Item) (was : DevicesFound) → was ≡ found.One → FindsDevices s items was → Decides true (IsOnlyDevice s items)
alone_one s items was one finds = ((λ is_so. subst (FindsDevices s items) one finds), (λ is. refl))

pub alone_wrong : (s : Super) (items : List Item) (was : DevicesFound) → was ≡ found.Wrong → FindsDevices s items was → Decides false (IsOnlyDevice s items)
alone_wrong s items was wrong finds = ((λ not_so. absurd (false≢true not_so)), (λ one. absurd (wrong_alone s items (subst (FindsDevices s items) wrong finds) one)))

-- ---- together

decides_volume : (s : Super) → Decides (tells_volume s) ((s.dev_item.fsid ≡ node_fsid s) × (s.dev_item.total_bytes ≡ s.total_bytes))
decides_volume s = Decides-and _ _ (decides_uuid s.dev_item.fsid (node_fsid s)) (Decides-eqb s.dev_item.total_bytes s.total_bytes)

abbrev TotalParts : Super → List ChunkAt → List Item → List GroupAt → Type 0
TotalParts s chunks others groups =
    IsOnlyDevice s others × ((s.bytes_used ≡ sum_by used_of groups) × (((s.dev_item.fsid ≡ node_fsid s) × (s.dev_item.total_bytes ≡ s.total_bytes)) × (s.dev_item.bytes_used ≡ stripe_bytes chunks)))

pub decides_totals : (s : Super) (chunks : List ChunkAt) (items others : List Item) (groups : List GroupAt) (one used volume stripes : Bool) → AreReadOf group_at items groups
    → Decides one (IsOnlyDevice s others) → Decides used (s.bytes_used ≡ sum_by used_of groups) → volume ≡ tells_volume s → Decides stripes (s.dev_item.bytes_used ≡ stripe_bytes chunks)
    → Decides (one && (used && (volume && stripes))) (AreTotals s chunks items others)
decides_totals s chunks items others groups one used volume stripes read own in_use told taken =
    Decides-like {P = TotalParts s chunks others groups} {Q = AreTotals s chunks items others} _
    (λ p. record { used = p.1.0 ∙ sym sums; device = record { fsid = p.1.1.0.0; total = p.1.1.0.1; used = p.1.1.1 }; one = p.0 })
    (λ are. (are.one, (are.used ∙ sums, ((are.device.fsid, are.device.total), are.device.used))))
    (Decides-and one _ own (Decides-and used _ in_use (Decides-and volume stripes (subst (λ (b : Bool). Decides b ((s.dev_item.fsid ≡ node_fsid s) × (s.dev_item.total_bytes ≡ s.total_bytes))) (sym told) (decides_volume s)) taken)))
  where
    sums : sum_by group_used items ≡ sum_by used_of groups
    sums = used_read items groups read
