use Rattle.std.proofs.Common.{◌∙◌, sym, subst}
use Rattle.std.specs.Prelude.{IsSome}
use Rattle.std.proofs.lemmas.Option.{same_Some}
use Rattle.lp_spec.specs.Trees.{Sym}
use Rattle.translate_term.specs.Closed.{IsPut}
use Rattle.translate_term.proofs.EndsLaws.{OnOk-map}
use Rattle.translate_term.proofs.closed.put_operator.Goals as goal

pub unwrap-symbol-requires : goal.unwrap-symbol-requires
unwrap-symbol-requires c = subst IsSome (sym c.in_ok-operator.ensures) c.requires

pub returns-clause-made : goal.returns-clause-made
returns-clause-made c =
    OnOk-map c.put_node.result
    (λ p s e. subst (λ k. IsPut c.args.made.now c.put_node.new.made c.put_node.new.target.table (Sym k))
    (same_Some _ _ (sym c.unwrap-symbol.ensures ∙ c.in_ok-operator.ensures ∙ e)) p)
    c.put_node.ensures.made
