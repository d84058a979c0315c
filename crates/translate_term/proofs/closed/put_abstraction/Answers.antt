use Rattle.std.proofs.Common.{arith, sym, ◌∙◌, Some}
use Rattle.std.proofs.Math.Path.{ap₂}
use Rattle.lp_spec.specs.Trees.{Lam}
use Rattle.lp_term.specs.TableLaws.{Holds-tree_at, Holds-within, tree_at-Stays}
use Rattle.translate_term.proofs.EndsLaws.{OnOk-map}
use Rattle.translate_term.specs.GrowLaws.{Grows-table, Grows-trans}
use Rattle.translate_term.proofs.closed.put_abstraction.Goals as goal

pub call-requires : goal.call-requires
call-requires c = (c.requires.0, tt {0})

pub put_node-requires : goal.put_node-requires
put_node-requires c = (Holds-within _ c.in_ok-domain.domain.0 _ c.in_ok-domain.ensures.made, omega (arith, c.in_ok-domain.ensures.keeps.longer, c.requires.1))

pub returns-clause-made : goal.returns-clause-made
returns-clause-made c =
    OnOk-map c.put_node.result
    (λ p.
    record {
      id = p.id;
      is = p.is;
      holds = p.holds ∙ ap₂ (λ a b. Some (Lam a b)) (Holds-tree_at _ c.in_ok-domain.domain.0 _ c.in_ok-domain.ensures.made)
          (sym (tree_at-Stays c.in_ok-domain.ensures.keeps.stays c.args.body.0 c.requires.1));
    })
    c.put_node.ensures.made

pub returns-clause-grows : goal.returns-clause-grows
returns-clause-grows c = Grows-trans (Grows-table c.args.target.now _ c.in_ok-domain.ensures.keeps) c.put_node.ensures.grows

pub returns-in_err-domain-clause-grows : goal.returns-in_err-domain-clause-grows
returns-in_err-domain-clause-grows c = Grows-table c.args.target.now _ c.call.ensures.keeps
