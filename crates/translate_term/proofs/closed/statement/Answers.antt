use Rattle.std.proofs.Common.{arith, refl, ap, ◌∙◌, ◌+◌, ◌≡◌, length, Some}
use Rattle.std.proofs.lemmas.Result.{IfOk-weaker}
use Rattle.lp_term.specs.TableLaws.{Holds-tree_at, Holds-within}
use Rattle.translate_term.specs.GrowLaws.{Grows-table, Grows-trans}
use Rattle.translate_term.proofs.ClosedProduct.{conclusion_start, hypotheses_start, statement_is}
use Rattle.translate_term.proofs.closed.statement.Goals as goal

pub tree_of_term-requires : goal.tree_of_term-requires
tree_of_term-requires c =
    let q = c.requires.told in (
      _,
      _,
      conclusion_start q.0 q.1 c.args.target.now c.args.closed.now q.2 c.requires.held _ _ refl
          (omega (arith, c.len.ensures, c.len-2.ensures, c.args.closed.now.free_vars.ok, c.args.closed.now.hyps.ok)),
    )

pub call-requires : goal.call-requires
call-requires c =
    let q = c.requires.told in (
      Holds-within _ c.in_ok-conclusion.conclusion.0 _
          (c.in_ok-conclusion.ensures.made _ _
          (conclusion_start q.0 q.1 c.args.target.now c.args.closed.now q.2 c.requires.held _ _ refl
          (omega (arith, c.len.ensures, c.len-2.ensures, c.args.closed.now.free_vars.ok, c.args.closed.now.hyps.ok)))),
      tt {0},
    )

pub over_hypotheses-requires-clause-are : goal.over_hypotheses-requires-clause-are
over_hypotheses-requires-clause-are c =
    let q = c.requires.told in
    let grows = Grows-trans c.in_ok-conclusion.ensures.grows (Grows-table c.tree_of_term.new.target _ c.in_ok-proof.ensures.keeps) in
    rw c.deref.ensures.value (
      _,
      _,
      hypotheses_start q.0 q.1 c.args.target.now c.args.closed.now q.2 c.requires.held _ (c.args.closed.now.type_vars + c.len.result) c.in_ok-proof.proof grows
          (omega (arith, c.len.ensures, c.args.closed.now.free_vars.ok)) (Holds-within _ c.in_ok-proof.proof.0 _ c.in_ok-proof.ensures.made),
    )

pub returns-clause-made : goal.returns-clause-made
returns-clause-made c =
    let grows = Grows-trans c.in_ok-conclusion.ensures.grows (Grows-table c.tree_of_term.new.target _ c.in_ok-proof.ensures.keeps) in
    let made = rw c.deref.ensures.value at c.over_hypotheses.ensures.made in
    IfOk-weaker c.over_hypotheses.result _ _
    (λ r h symbols s told.
    let under : c.args.closed.now.type_vars + c.len.result ≡ c.args.closed.now.type_vars + length c.args.closed.now.free_vars.items =
    omega (arith, c.len.ensures, c.args.closed.now.free_vars.ok) in
    let over : c.args.closed.now.type_vars + c.len.result + c.len-2.result
    ≡ c.args.closed.now.type_vars + length c.args.closed.now.free_vars.items + length c.args.closed.now.hyps.items =
    omega (arith, c.len.ensures, c.len-2.ensures, c.args.closed.now.free_vars.ok, c.args.closed.now.hyps.ok) in
    let is = h _ _ (hypotheses_start symbols s c.args.target.now c.args.closed.now told c.requires.held _ (c.args.closed.now.type_vars + c.len.result)
    c.in_ok-proof.proof grows under (Holds-within _ c.in_ok-proof.proof.0 _ c.in_ok-proof.ensures.made)) in
    is
    ∙ ap Some
    (statement_is symbols s c.args.target.now c.args.closed.now told c.requires.held (c.args.closed.now.type_vars + c.len.result)
    (c.args.closed.now.type_vars + c.len.result + c.len-2.result) _ _ _ under over
    (Holds-tree_at _ c.in_ok-conclusion.conclusion.0 _
    (c.in_ok-conclusion.ensures.made _ _ (conclusion_start symbols s c.args.target.now c.args.closed.now told c.requires.held _ _ refl over)))
    (Holds-tree_at _ c.in_ok-proof.proof.0 _ c.in_ok-proof.ensures.made) refl))
    made

pub returns-clause-grows : goal.returns-clause-grows
returns-clause-grows c = Grows-trans c.in_ok-conclusion.ensures.grows
    (Grows-trans (Grows-table c.tree_of_term.new.target _ c.in_ok-proof.ensures.keeps) c.over_hypotheses.ensures.grows)

pub returns-in_err-proof-clause-grows : goal.returns-in_err-proof-clause-grows
returns-in_err-proof-clause-grows c = Grows-trans c.in_ok-conclusion.ensures.grows (Grows-table c.tree_of_term.new.target _ c.call.ensures.keeps)
