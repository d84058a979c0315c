use Rattle.std.proofs.Common.{◌∙◌, ap, Some}
use Rattle.std.proofs.lemmas.Result.{IfOk-weaker}
use Rattle.lp_term.specs.TableLaws.{Holds-tree_at, Holds-within}
use Rattle.translate_spec.specs.Scopes.{filler}
use Rattle.translate_term.specs.GrowLaws.{Grows-table, Grows-trans, IsTypeMemo-Keeps}
use Rattle.translate_term.proofs.EndsLaws.{OnOk-always}
use Rattle.translate_term.proofs.terms.some_term.Goals as goal

pub filling-requires : goal.filling-requires
filling-requires c = Holds-within _ c.in_ok-filled.filled.0 _ (c.in_ok-filled.ensures.made c.requires.0 c.requires.1)

pub returns-clause-made : goal.returns-clause-made
returns-clause-made c =
    let made = c.in_ok-filled.ensures.made in
    IfOk-weaker c.filling.result _ _
    (λ r h given s. h ∙ ap (λ a. Some (filler a)) (Holds-tree_at _ c.in_ok-filled.filled.0 _ (made given s)))
    c.filling.ensures.made

pub returns-clause-noted : goal.returns-clause-noted
returns-clause-noted c = OnOk-always c.filling.result (λ given s. IsTypeMemo-Keeps c.filling.ensures.keeps given _ _ (c.in_ok-filled.ensures.noted given s))

pub returns-clause-grows : goal.returns-clause-grows
returns-clause-grows c = Grows-trans c.in_ok-filled.ensures.grows (Grows-table c.type_in.new.target _ c.filling.ensures.keeps)
