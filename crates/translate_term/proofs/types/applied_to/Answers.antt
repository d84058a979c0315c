use Rattle.std.proofs.Common.{◌∙◌, ap, sym, subst, Some}
use Rattle.std.specs.Prelude.{IsSome}
use Rattle.std.proofs.lemmas.Option.{same_Some}
use Rattle.std.proofs.lemmas.Result.{IfOk-weaker}
use Rattle.lp_spec.specs.Modules.{applied}
use Rattle.lp_spec.specs.Trees.{Sym}
use Rattle.lp_term.specs.Tables.{trees_at}
use Rattle.translate_term.specs.GrowLaws.{Grows-table}
use Rattle.translate_term.proofs.types.applied_to.Goals as goal

pub unwrap-symbol-requires : goal.unwrap-symbol-requires
unwrap-symbol-requires c = subst IsSome (sym c.in_ok-found.ensures) c.requires.found

pub returns-clause-made : goal.returns-clause-made
returns-clause-made c =
    IfOk-weaker c.call.result _ _
    (λ r h s e. h ∙ ap (λ k. Some (applied (Sym k) (trees_at c.args.target.now.table c.args.trees.now)))
    (same_Some _ _ (sym c.unwrap-symbol.ensures ∙ c.in_ok-found.ensures ∙ e)))
    c.call.ensures.made

pub returns-clause-grows : goal.returns-clause-grows
returns-clause-grows c = Grows-table c.args.target.now _ c.call.ensures.keeps
