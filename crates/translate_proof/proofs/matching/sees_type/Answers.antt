use Rattle.std.proofs.Common.{◌∙◌, sym, ap, arith}
use Rattle.std.specs.Prelude.{◌&&◌}
use Rattle.hol_spec.specs.Substitution.{substitute}
use Rattle.hol_spec.specs.Types.{type_eq}
use Rattle.hol_type.specs.Tables as type
use Rattle.hol_type.specs.TableLaws.{AreBelow-known, Holds-tree_at}
use Rattle.translate_proof.specs.Matching.{are_types_made}
use Rattle.translate_proof.proofs.MatchLaws.{same-type, put-known, image-found, image-absent}
use Rattle.translate_proof.proofs.matching.sees_type.Goals as goal

pub leave_types-requires-clause-general : goal.leave_types-requires-clause-general
leave_types-requires-clause-general c = AreBelow-known c.args.table.now c.args.general.0 c.in-Op.args.now (omega (arith, c.requires.known.0))
    c.in-Op.ensures.lower

pub leave_types-requires-clause-types : goal.leave_types-requires-clause-types
leave_types-requires-clause-types c = AreBelow-known c.args.table.now c.args.ty.0 c.in-Op-view.parts.now (omega (arith, c.requires.known.1))
    c.in-Op-view.ensures.lower

pub returns-in-Some-clause-made : goal.returns-in-Some-clause-made
returns-in-Some-clause-made c =
    let types = c.args.table.now in
    let found = sym c.put_type.ensures ∙ c.in-Some.is in
    let known = put-known types c.in-Var.name.now c.args.pairs.now c.in-Some.id c.requires.pairs found in
    let image = ap (substitute (type.pairs_at types c.args.pairs.now)) (Holds-tree_at types c.args.general.0 _ c.in-Var.ensures.is)
    ∙ image-found types c.in-Var.name.now c.args.pairs.now c.in-Some.id found in
    ap (λ b. b && are_types_made types (type.pairs_at types c.args.pairs.now) c.args.left.now)
    (ap (λ a. type_eq a (type.tree_at types c.args.ty.0)) image
    ∙ sym (c.eq.ensures ∙ same-type types c.view.ensures.distinct c.in-Some.id c.args.ty known c.requires.known.1))

pub returns-in-None-clause-made : goal.returns-in-None-clause-made
returns-in-None-clause-made c =
    let types = c.args.table.now in
    let absent = sym c.put_type.ensures ∙ c.in-None.is in
    let is = Holds-tree_at types c.args.general.0 _ c.in-Var.ensures.is in
    let image = ap (substitute (type.pairs_at types c.args.pairs.now)) is ∙ image-absent types c.in-Var.name.now c.args.pairs.now absent ∙ sym is in
    ap (λ b. b && are_types_made types (type.pairs_at types c.args.pairs.now) c.args.left.now)
    (ap (λ a. type_eq a (type.tree_at types c.args.ty.0)) image
    ∙ sym (c.eq-in-None.ensures ∙ same-type types c.view.ensures.distinct c.args.general c.args.ty c.requires.known.0 c.requires.known.1))
