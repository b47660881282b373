use Rattle.btr_reader_names.proofs.Imports.{◌≡◌, ◌<◌, ◌≤◌, ◌∙◌, false, List, length, get_or, sym, ap, subst, arith, get_or_default, err_from_is_err_and, BtrRefusal, OffForm, contains, same_node, BlamesForm, is_open}
use Rattle.btr_reader_names.proofs.Members.{each_more, each_among, indexed}
use Rattle.btr_reader_names.proofs.inode_rules.check_forms.Goals as goal

pub returns-in_err-check_form-clause-blamed : goal.returns-in_err-check_form-clause-blamed
returns-in_err-check_form-clause-blamed c =
    let all : List OffForm = c.args.names.now.off_form.items in
    let given : List OffForm = c.deref-off-items.result.now in
    let none : OffForm = record { leaf = 0; dir = 0 } in
    let form : OffForm = get_or given c.loop-off.off-index none in
    let within : c.loop-off.off-index < length all = omega (arith, c.loop-off-test.true, ap length c.deref-off-items.ensures.value) in
    let at : form ≡ get_or all c.loop-off.off-index form =
    ap (λ (l : List OffForm). get_or l c.loop-off.off-index none) c.deref-off-items.ensures.value ∙ get_or_default all c.loop-off.off-index none form within in
    let err = err_from_is_err_and c.from_residual.result c.from_residual.ensures.1 in
    rw err.1 (form, indexed all c.loop-off.off-index form within at, subst (λ (r : BtrRefusal). BlamesForm (is_open c.args.names.now (contains same_node c.args.named.now)) form r) (sym err.2) c.in_err-check_form.ensures.blamed)

pub loop-off-preserved : goal.loop-off-preserved
loop-off-preserved c =
    let all : List OffForm = c.args.names.now.off_form.items in
    let given : List OffForm = c.deref-off-items.result.now in
    let none : OffForm = record { leaf = 0; dir = 0 } in
    let form : OffForm = get_or given c.loop-off.off-index none in
    let within : c.loop-off.off-index < length all = omega (arith, c.loop-off-test.true, ap length c.deref-off-items.ensures.value) in
    let at : form ≡ get_or all c.loop-off.off-index form =
    ap (λ (l : List OffForm). get_or l c.loop-off.off-index none) c.deref-off-items.ensures.value ∙ get_or_default all c.loop-off.off-index none form within in
    each_more (λ (x : OffForm). is_open c.args.names.now (contains same_node c.args.named.now) x.dir ≡ false) all c.loop-off.off-index form c.loop-off.invariant within at c.in_ok-check_form.ensures.good

pub returns-clause-good : goal.returns-clause-good
returns-clause-good c = λ x among.
    let all : List OffForm = c.args.names.now.off_form.items in
    let past : length all ≤ c.loop-off.off-index = omega (arith, c.loop-off-test.false, ap length c.deref-off-items.ensures.value) in
    each_among (λ (o : OffForm). is_open c.args.names.now (contains same_node c.args.named.now) o.dir ≡ false) all c.loop-off.off-index past c.loop-off.invariant x among
