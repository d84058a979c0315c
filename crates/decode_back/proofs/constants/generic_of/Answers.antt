use Rattle.std.proofs.Common.{◌≡◌, ℕ, Some, ap, sym, subst, ◌∙◌, arith}
use Rattle.hol_spec.specs.Limits.{greatest_depth}
use Rattle.hol_spec.specs.Types.{type_variables}
use Rattle.hol_type.specs.Tables as type
use Rattle.hol_term.specs.TableLaws.{Keeps-refl}
use Rattle.lp_spec.specs.Trees.{Tree}
use Rattle.lp_term.specs.Tables.{tree_at}
use Rattle.holide_sig.specs.Modules.{declarations_of}
use Rattle.translate_spec.specs.TypeEnc.{place}
use Rattle.decode_spec.specs.Decode.{peel_types, term_part, type_of_tree, generic_of as generic_told}
use Rattle.decode_back.specs.Walks.{IsTypeFound, IsGenericFound}
use Rattle.decode_back.proofs.GenericLemmas.{same-told, too_many, too_large, out_of_order, generic-found}
use Rattle.decode_back.proofs.constants.generic_of.Goals as goal

pub returns-then-count-gt-GREATEST_NUMBER-clause-found : goal.returns-then-count-gt-GREATEST_NUMBER-clause-found
returns-then-count-gt-GREATEST_NUMBER-clause-found c =
    too_many (declarations_of c.args.source.now) (tree_at c.args.source.now.table c.args.id.0) c.args.limit c.peel_types-count.result.0
    (ap (λ (r : ℕ × Tree). r.0) c.peel_types-count.ensures.peeled)
    c.if-count-gt-GREATEST_NUMBER.true c.requires.limit

pub returns-then-size-limit-clause-found : goal.returns-then-size-limit-clause-found
returns-then-size-limit-clause-found c =
    too_large (declarations_of c.args.source.now) (tree_at c.args.source.now.table c.args.id.0) c.args.limit (tree_at c.args.source.now.table c.in-Some.tree.0)
    (ap (λ (r : ℕ × Tree). term_part r.1) c.peel_types-count.ensures.peeled ∙ sym c.in-Some.ensures.argument)
    (omega (arith, c.if-size-limit.true, c.size.ensures))

pub returns-then-not-in_order-clause-found : goal.returns-then-not-in_order-clause-found
returns-then-not-in_order-clause-found c =
    let A = tree_at c.args.source.now.table c.args.id.0 in
    let T = tree_at c.args.source.now.table c.in-Some.tree.0 in
    let many : (peel_types A).0 ≡ c.peel_types-count.result.0 = ap (λ (r : ℕ × Tree). r.0) c.peel_types-count.ensures.peeled in
    out_of_order (declarations_of c.args.source.now) A c.args.limit T
    (ap (λ (r : ℕ × Tree). term_part r.1) c.peel_types-count.ensures.peeled ∙ sym c.in-Some.ensures.argument)
    c.decode_type.new.table c.in-Some-2.ty
    (subst (λ k. IsTypeFound greatest_depth (type_of_tree (declarations_of c.args.source.now) (place k 0 0 0) T) c.decode_type.new.table (Some c.in-Some-2.ty))
    (sym many)
    (subst (IsTypeFound greatest_depth (type_of_tree (declarations_of c.args.source.now) (place c.peel_types-count.result.0 0 0 0) T) c.decode_type.new.table)
    c.in-Some-2.is c.in_ok-ty.ensures.decoded))
    c.in_ok-in_order.in_order
    (same-told c.in_ok-in_order.in_order c.deref.result.now (type_variables (type.tree_at c.decode_type.new.table.types c.in-Some-2.ty.0))
    c.peel_types-count.result.0 (peel_types A).0
    (c.deref.ensures.value ∙ c.in_ok-names.ensures ∙ ap (λ ts. type_variables (type.tree_at ts c.in-Some-2.ty.0)) c.types.ensures.types) (sym many)
    c.in_ok-in_order.ensures)
    c.if-not-in_order.true

pub returns-clause-found : goal.returns-clause-found
returns-clause-found c =
    let A = tree_at c.args.source.now.table c.args.id.0 in
    let T = tree_at c.args.source.now.table c.in-Some.tree.0 in
    let many : (peel_types A).0 ≡ c.peel_types-count.result.0 = ap (λ (r : ℕ × Tree). r.0) c.peel_types-count.ensures.peeled in
    let found : IsTypeFound greatest_depth (type_of_tree (declarations_of c.args.source.now) (place (peel_types A).0 0 0 0) T) c.decode_type.new.table
    (Some c.in-Some-2.ty) =
    subst (λ k. IsTypeFound greatest_depth (type_of_tree (declarations_of c.args.source.now) (place k 0 0 0) T) c.decode_type.new.table (Some c.in-Some-2.ty))
    (sym many)
    (subst (IsTypeFound greatest_depth (type_of_tree (declarations_of c.args.source.now) (place c.peel_types-count.result.0 0 0 0) T) c.decode_type.new.table)
    c.in-Some-2.is c.in_ok-ty.ensures.decoded) in
    subst (λ k. IsGenericFound c.args.limit (generic_told (declarations_of c.args.source.now) (Some A)) c.decode_type.new.table (Some (k, c.in-Some-2.ty))) many
    (generic-found (declarations_of c.args.source.now) A c.args.limit T
    (ap (λ (r : ℕ × Tree). term_part r.1) c.peel_types-count.ensures.peeled ∙ sym c.in-Some.ensures.argument)
    c.decode_type.new.table c.in-Some-2.ty found c.in_ok-in_order.in_order
    (same-told c.in_ok-in_order.in_order c.deref.result.now (type_variables (type.tree_at c.decode_type.new.table.types c.in-Some-2.ty.0))
    c.peel_types-count.result.0 (peel_types A).0
    (c.deref.ensures.value ∙ c.in_ok-names.ensures ∙ ap (λ ts. type_variables (type.tree_at ts c.in-Some-2.ty.0)) c.types.ensures.types) (sym many)
    c.in_ok-in_order.ensures)
    c.if-not-in_order.false c.decode_type.new.table found.2)

pub returns-then-count-gt-GREATEST_NUMBER-clause-keeps : goal.returns-then-count-gt-GREATEST_NUMBER-clause-keeps
returns-then-count-gt-GREATEST_NUMBER-clause-keeps c = Keeps-refl c.args.table.now

pub returns-in_default-clause-keeps : goal.returns-in_default-clause-keeps
returns-in_default-clause-keeps c = Keeps-refl c.args.table.now

pub returns-then-size-limit-clause-keeps : goal.returns-then-size-limit-clause-keeps
returns-then-size-limit-clause-keeps c = Keeps-refl c.args.table.now

pub returns-in_err-ty-clause-keeps : goal.returns-in_err-ty-clause-keeps
returns-in_err-ty-clause-keeps c = c.decode_type.ensures.keeps

pub returns-in_default-2-clause-keeps : goal.returns-in_default-2-clause-keeps
returns-in_default-2-clause-keeps c = c.decode_type.ensures.keeps

pub returns-in_err-names-clause-keeps : goal.returns-in_err-names-clause-keeps
returns-in_err-names-clause-keeps c = c.decode_type.ensures.keeps

pub returns-in_err-in_order-clause-keeps : goal.returns-in_err-in_order-clause-keeps
returns-in_err-in_order-clause-keeps c = c.decode_type.ensures.keeps

pub returns-then-not-in_order-clause-keeps : goal.returns-then-not-in_order-clause-keeps
returns-then-not-in_order-clause-keeps c = c.decode_type.ensures.keeps

pub returns-clause-keeps : goal.returns-clause-keeps
returns-clause-keeps c = c.decode_type.ensures.keeps
