use Rattle.std.proofs.Common.{ap, ◌∙◌, Some}
use Rattle.std.proofs.lemmas.Result.{IfOk-weaker}
use Rattle.lp_term.specs.TableLaws.{Holds-tree_at, Holds-within}
use Rattle.translate_term.specs.GrowLaws.{Grows-trans}
use Rattle.translate_term.proofs.ClosedProduct.{variables_start, product_is}
use Rattle.translate_term.proofs.closed.closed_type.Goals as goal

pub over_variables-requires : goal.over_variables-requires
over_variables-requires c =
    let q = c.requires.told in
    rw c.deref.ensures.value (
      _,
      _,
      variables_start q.0 q.1 c.args.target.now c.args.closed.now q.2 c.requires.held _ c.in_ok-under_terms.under_terms c.in_ok-under_terms.ensures.grows
          (Holds-within _ c.in_ok-under_terms.under_terms.0 _ (c.in_ok-under_terms.ensures.made q.0 q.1 q.2)),
    )

pub over_types-requires : goal.over_types-requires
over_types-requires c =
    let q = c.requires.told in
    let all = rw c.deref.ensures.value at c.in_ok-under_types.ensures.made in
    let start =
    variables_start q.0 q.1 c.args.target.now c.args.closed.now q.2 c.requires.held _ c.in_ok-under_terms.under_terms c.in_ok-under_terms.ensures.grows
    (Holds-within _ c.in_ok-under_terms.under_terms.0 _ (c.in_ok-under_terms.ensures.made q.0 q.1 q.2)) in
    Holds-within _ c.in_ok-under_types.under_types.0 _ (all _ _ start)

pub returns-clause-made : goal.returns-clause-made
returns-clause-made c =
    let all = rw c.deref.ensures.value at c.in_ok-under_types.ensures.made in
    IfOk-weaker c.over_types.result _ _
    (λ r h symbols s told.
    let is = c.in_ok-under_terms.ensures.made symbols s told in
    let start = variables_start symbols s c.args.target.now c.args.closed.now told c.requires.held _ c.in_ok-under_terms.under_terms
    c.in_ok-under_terms.ensures.grows (Holds-within _ c.in_ok-under_terms.under_terms.0 _ is) in
    h
    ∙ ap Some (product_is symbols s c.args.target.now c.args.closed.now told c.requires.held _ _ (Holds-tree_at _ c.in_ok-under_terms.under_terms.0 _ is)
    (Holds-tree_at _ c.in_ok-under_types.under_types.0 _ (all _ _ start))))
    c.over_types.ensures.made

pub returns-clause-grows : goal.returns-clause-grows
returns-clause-grows c = Grows-trans c.in_ok-under_terms.ensures.grows (Grows-trans c.in_ok-under_types.ensures.grows c.over_types.ensures.grows)

pub returns-in_err-under_types-clause-grows : goal.returns-in_err-under_types-clause-grows
returns-in_err-under_types-clause-grows c = Grows-trans c.in_ok-under_terms.ensures.grows c.over_variables.ensures.grows
