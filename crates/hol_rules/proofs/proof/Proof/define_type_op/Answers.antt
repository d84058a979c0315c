use Rattle.std.proofs.Common.{sym, subst}
use Rattle.article_spec.specs.Conditions.{in_limits}
use Rattle.article_spec.specs.Results.{Fails}
use Rattle.common.specs.declared.faults.Fault.TheVariants.{Memory}
use Rattle.hol_defs.specs.Symbols.{named}
use Rattle.hol_term.specs.Tables.{Trees, term_at, type_at}
use Rattle.hol_rules.specs.Kept.{Kept, Grows}
use Rattle.hol_rules.specs.Laws.{AreLaws, AreSmall}
use Rattle.article_spec.specs.RuleSteps.{type_measures}
use Rattle.hol_rules.proofs.Concluded.{Grows-refl}
use Rattle.hol_rules.proofs.TypeConcluded.{laws-grown, limit-fails, refused-type, type-ended, type-is, type-many, Grows-made}
use Rattle.hol_rules.proofs.TypeKept.{parts-grown, type-without}
use Rattle.hol_rules.proofs.proof.Proof.define_type_op.Goals as goal

pub returns-in_err-judge_measures : goal.returns-in_err-judge_measures
returns-in_err-judge_measures c =
    let k = c.args.self.now in
    let names = named c.args.op.now c.args.abs.now c.args.rep.now c.args.names.now in
    let parts = c.in_ok-parts.parts in
    let fault = c.in_err-judge_measures.field-0.0 in
    let fails = subst (λ (u : Trees). Fails fault (in_limits (type_measures c.args.version names (type_at u parts.whole.0) (term_at u parts.predicate.0))))
    c.terms.ensures c.in_err-judge_measures.ensures.refused in
    refused-type (Grows-refl k) _ c.from_residual-in_err-judge_measures.result fault c.from_residual-in_err-judge_measures.ensures.1
    (limit-fails c.args.version k names c.args.one parts c.in_ok-parts.ensures.parts fault fails)

pub laws-requires-clause-closed : goal.laws-requires-clause-closed
laws-requires-clause-closed c = type-without c.args.self.now c.is_proof.ensures (named c.args.op.now c.args.abs.now c.args.rep.now c.args.names.now) c.args.one
    c.requires c.in_ok-parts.parts c.in_ok-parts.ensures.parts

pub returns-in_err-laws : goal.returns-in_err-laws
returns-in_err-laws c = refused-type c.laws.ensures.grows _ c.from_residual-in_err-laws.result Memory c.from_residual-in_err-laws.ensures.1 tt

pub keep_type-requires-clause-parts : goal.keep_type-requires-clause-parts
keep_type-requires-clause-parts c =
    let names = named c.args.op.now c.args.abs.now c.args.rep.now c.args.names.now in
    parts-grown (subst (Grows c.args.self.now) (sym c.judge_laws.ensures.unchanged) c.laws.ensures.grows) names c.args.one c.in_ok-parts.parts
    c.in_ok-parts.ensures.parts

pub keep_type-requires-clause-laws : goal.keep_type-requires-clause-laws
keep_type-requires-clause-laws c =
    let k = c.args.self.now in
    let names = named c.args.op.now c.args.abs.now c.args.rep.now c.args.names.now in
    let parts = c.in_ok-parts.parts in
    let laws = subst (λ (u : Kept). AreLaws c.args.version u.trees names (type_at k.trees parts.whole.0) (term_at k.trees parts.predicate.0) c.in_ok-laws.laws)
    (sym c.judge_laws.ensures.unchanged) c.in_ok-laws.ensures.made in
    laws-grown (subst (Grows k) (sym c.judge_laws.ensures.unchanged) c.laws.ensures.grows) names c.args.one parts c.in_ok-parts.ensures.parts c.args.version
    c.in_ok-laws.laws laws

pub returns-in_err-ids : goal.returns-in_err-ids
returns-in_err-ids c =
    let grows = subst (Grows c.args.self.now) (sym c.judge_laws.ensures.unchanged) c.laws.ensures.grows in
    refused-type (Grows-made grows c.in_err-ids.ensures.keeps c.in_err-ids.ensures.unchanged) _ c.from_residual-in_err-ids.result Memory
    c.from_residual-in_err-ids.ensures.1 tt

pub returns : goal.returns
returns c =
    let k = c.args.self.now in
    let names = named c.args.op.now c.args.abs.now c.args.rep.now c.args.names.now in
    let parts = c.in_ok-parts.parts in
    let h = c.in_ok-parts.ensures.parts in
    let small = subst (λ (u : Trees). AreSmall (type_measures c.args.version names (type_at u parts.whole.0) (term_at u parts.predicate.0))) c.terms.ensures
    c.in_ok-judge_measures.ensures.within in
    let grows = subst (Grows k) (sym c.judge_laws.ensures.unchanged) c.laws.ensures.grows in
    let laws = subst (λ (u : Kept). AreLaws c.args.version u.trees names (type_at k.trees parts.whole.0) (term_at k.trees parts.predicate.0) c.in_ok-laws.laws)
    (sym c.judge_laws.ensures.unchanged) c.in_ok-laws.ensures.made in
    let is = type-is c.args.version k names c.args.one parts h small c.laws.new.self c.laws.ensures.grows c.in_ok-laws.laws c.in_ok-laws.ensures.made
    c.in_ok-judge_laws.ensures.few in
    type-ended c.args.version k names c.args.one parts h small c.judge_laws.new.self grows c.in_ok-laws.laws laws c.keep_type.new.self c.in_ok-ids.ids
    c.in_ok-ids.ensures.numbers c.in_ok-ids.ensures.kept c.in_ok-ids.ensures.keeps is

pub returns-in_err-parts : goal.returns-in_err-parts
returns-in_err-parts c = refused-type (Grows-refl c.args.self.now) _ c.from_residual.result c.in_err-parts.field-0.0 c.from_residual.ensures.1
    (c.in_err-parts.ensures.refused c.args.version)

pub returns-in_err-judge_laws : goal.returns-in_err-judge_laws
returns-in_err-judge_laws c =
    let k = c.args.self.now in
    let names = named c.args.op.now c.args.abs.now c.args.rep.now c.args.names.now in
    let parts = c.in_ok-parts.parts in
    let h = c.in_ok-parts.ensures.parts in
    let small = subst (λ (u : Trees). AreSmall (type_measures c.args.version names (type_at u parts.whole.0) (term_at u parts.predicate.0))) c.terms.ensures
    c.in_ok-judge_measures.ensures.within in
    let grows = subst (Grows k) (sym c.judge_laws.ensures.unchanged) c.laws.ensures.grows in
    let fault = c.in_err-judge_laws.field-0.0 in
    refused-type grows _ c.from_residual-in_err-judge_laws.result fault c.from_residual-in_err-judge_laws.ensures.1
    (type-many c.args.version k names c.args.one parts h small c.laws.new.self c.laws.ensures.grows c.in_ok-laws.laws c.in_ok-laws.ensures.made fault
    c.in_err-judge_laws.ensures.refused)
