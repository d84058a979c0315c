use Rattle.std.proofs.Common.{refl, sym, ap, subst, ◌∙◌, length}
use Rattle.std.specs.Prelude.{not}
use Rattle.std.proofs.lemmas.Result.{on_ok_weaker}
use Rattle.lp_term.specs.Tables.{Keeps}
use Rattle.lp_term.specs.TableLaws.{Keeps-trans}
use Rattle.lp_kernel.specs.Checks.{PassBelow}
use Rattle.bridge_spec.specs.Texts.{module_of}
use Rattle.bridge_translate.specs.TranslationLaws.{length-bounds}
use Rattle.bridge_verify.proofs.Checked.{gathered-Reads}
use Rattle.bridge_verify.proofs.Stays.{stays-translated, both_ok}
use Rattle.bridge_verify.proofs.checking.check_back.Goals as goal

pub read_back-requires-clause-bounds : goal.read_back-requires-clause-bounds
read_back-requires-clause-bounds c = length-bounds c.requires.0 c.requires.1 c.requires.2 c.args.translation.now c.requires.3

pub read_back-requires-clause-reads : goal.read_back-requires-clause-reads
read_back-requires-clause-reads c =
    (module_of c.requires.0 c.requires.2, gathered-Reads c.requires.0 c.requires.1 c.requires.2 c.args.translation.now c.requires.3 c.requires.4 _ refl)

pub check_read-checked-requires-clause-run : goal.check_read-checked-requires-clause-run
check_read-checked-requires-clause-run c =
    let r = c.requires in
    let reads = gathered-Reads r.0 r.1 r.2 c.args.translation.now r.3 r.4 _ refl in (
      r.0,
      r.2,
      r.4,
      c.in_ok-back.ensures.read (module_of r.0 r.2) reads,
      c.deref.ensures.value ∙ ap (λ bounds. bounds.items) c.read_back.ensures.bounds ∙ r.3.bounds,
    )

pub returns-clause-translated : goal.returns-clause-translated
returns-clause-translated c =
    on_ok_weaker c.check_read-checked.result
    (λ grows share articles run h. stays-translated share articles run c.args.translation.now _
    (subst (Keeps c.args.translation.now.module.table) (sym c.swap.ensures.x_after) (Keeps-trans c.in_ok-back.ensures.keeps grows.keeps))
    c.read_back.ensures.decls c.read_back.ensures.bounds c.read_back.ensures.counts h)
    c.check_read-checked.ensures.grows

pub returns-clause-accepted : goal.returns-clause-accepted
returns-clause-accepted c =
    let r = c.requires in
    let reads = gathered-Reads r.0 r.1 r.2 c.args.translation.now r.3 r.4 _ refl in
    let read = c.in_ok-back.ensures.read (module_of r.0 r.2) reads in
    both_ok c.check_read-checked.result c.check_read-checked.ensures.accepted c.check_read-checked.ensures.grows
    (λ pass grows.
    let still = stays-translated r.0 r.1 r.2 c.args.translation.now _
    (subst (Keeps c.args.translation.now.module.table) (sym c.swap.ensures.x_after) (Keeps-trans c.in_ok-back.ensures.keeps grows.keeps)) c.read_back.ensures.decls
    c.read_back.ensures.bounds c.read_back.ensures.counts r.3 in
    subst (λ m. PassBelow (not c.args.fast) m (length m)) (read ∙ sym still.declared) pass)
