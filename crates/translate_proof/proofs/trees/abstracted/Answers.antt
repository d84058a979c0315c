use Rattle.std.proofs.Common.{◌∙◌, sym, ap, subst, Some}
use Rattle.std.proofs.lemmas.Result.{IfOk-weaker}
use Rattle.lp_spec.specs.Modules.{abstractions}
use Rattle.lp_term.specs.Tables.{tree_at, trees_at, AreKnown}
use Rattle.lp_term.specs.TableLaws.{Holds-within, Keeps-refl}
use Rattle.translate_proof.proofs.trees.abstracted.Goals as goal

pub over-requires-clause-domains : goal.over-requires-clause-domains
over-requires-clause-domains c = subst (AreKnown c.args.table.now) (sym c.deref.ensures.value) c.in_ok-domains.ensures.known

pub returns-in_err-domains-clause-keeps : goal.returns-in_err-domains-clause-keeps
returns-in_err-domains-clause-keeps c = Keeps-refl c.args.table.now

pub returns-clause-made : goal.returns-clause-made
returns-clause-made c =
    IfOk-weaker c.over.result _ _
    (λ r h domains inside is count. h ∙ ap (λ l. Some (abstractions l (tree_at c.args.table.now c.args.body.0)))
    (ap (trees_at c.args.table.now) c.deref.ensures.value ∙ c.in_ok-domains.ensures.are domains inside is count))
    c.over.ensures.made

pub returns-clause-known : goal.returns-clause-known
returns-clause-known c = IfOk-weaker c.over.result _ _ (λ r h. Holds-within _ r.0 _ h) c.over.ensures.made

pub returns-clause-keeps : goal.returns-clause-keeps
returns-clause-keeps c = c.over.ensures.keeps
