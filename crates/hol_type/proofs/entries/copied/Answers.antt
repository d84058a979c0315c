use Rattle.std.proofs.Common.{◌≡◌, ◌∙◌, true, subst}
use Rattle.std.proofs.lemmas.Bool.{and_from}
use lib.Pointwise.{pointwise}
use Rattle.hol_spec.specs.NameEquality.{name_eq}
use Rattle.hol_laws.specs.NameEqualityLaws.{name_eq-Decides}
use Rattle.hol_type.specs.declared.node.Node.TheVariants as node
use Rattle.hol_type.specs.contracts.table.TypeIdPartialEq.TheImpl as id_eq
use Rattle.hol_type.proofs.EntryLaws.{ids_eq-refl}
use Rattle.hol_type.proofs.Numbering.{alike_from}
use Rattle.hol_type.proofs.entries.copied.Goals as goal

pub returns-in_ok-clone-in-Var : goal.returns-in_ok-clone-in-Var
returns-in_ok-clone-in-Var c =
    let copy = c.in_ok-clone-in-Var.field-0 in
    let name = c.in-Var.name in
    rw c.in-Var.is (alike_from (node.Var copy) (node.Var name) ((name_eq-Decides copy name).1 c.in_ok-clone-in-Var.ensures.cases))

pub returns-in-Ok : goal.returns-in-Ok
returns-in-Ok c =
    let copy = c.in_ok-name-in-Op.name in
    let name = c.in-Op.name in
    let args = c.in-Ok.args.items in
    rw c.in-Op.is (alike_from (node.Op copy c.in-Ok.args) (node.Op name c.in-Op.args)
    (and_from (name_eq copy name) (pointwise id_eq.eq-value.it args c.in-Op.args.items) ((name_eq-Decides copy name).1 c.in_ok-name-in-Op.ensures.cases)
    (subst (λ l. pointwise id_eq.eq-value.it args l ≡ true) (c.in-Ok.ensures.items ∙ c.deref.ensures.value) (ids_eq-refl args))))
