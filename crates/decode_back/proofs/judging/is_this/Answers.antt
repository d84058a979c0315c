use Rattle.std.proofs.Common.{◌≡◌, sym, subst, ◌∙◌}
use Rattle.std.proofs.lemmas.Bool.Decides.{Decides-eqb}
use Rattle.std.specs.Bool.{Decides}
use Rattle.hol_spec.specs.Terms as term
use Rattle.hol_laws.specs.NameEqualityLaws.{name_eq-Decides}
use Rattle.hol_type.specs.Tables as type
use Rattle.hol_term.specs.Tables.{type_at}
use Rattle.hol_term.specs.TableLaws.{Some-term_in}
use Rattle.decode_back.proofs.JudgeLemmas.{variable-told}
use Rattle.decode_back.proofs.judging.is_this.Goals as goal

pub returns-then-eq : goal.returns-then-eq
returns-then-eq c =
    variable-told c.eq-then-eq.result c.args.table.now c.args.variable.now.name c.in-Free.name.now c.args.variable.now.ty c.in-Free.ty c.args.id
    (subst type.IsDistinct c.types.ensures.types c.view-distinct.ensures.distinct)
    c.requires.variable c.in-Free.ensures.lower ((name_eq-Decides c.args.variable.now.name c.in-Free.name.now).0 (sym c.eq.ensures ∙ c.if-eq.true))
    (Some-term_in c.args.table.now.terms c.args.id.0 (term.Term.free c.in-Free.name.now (type_at c.args.table.now c.in-Free.ty.0)) c.in-Free.ensures.is)
    (subst (λ b. Decides b (c.args.variable.now.ty.0 ≡ c.in-Free.ty.0)) (sym c.eq-then-eq.ensures) (Decides-eqb c.args.variable.now.ty.0 c.in-Free.ty.0))
