use Rattle.std.proofs.Common.{refl}
use Rattle.lp_term.specs.TableLaws.{Keeps-trans}
use Rattle.lp_conv.proofs.Spines.{IfOk-map, functions-is}
use Rattle.lp_conv.proofs.heads.functions.Goals as goal

pub returns-clause-grows : goal.returns-clause-grows
returns-clause-grows c = record {
  keeps = Keeps-trans c.node.ensures.keeps
      (Keeps-trans c.node-2.ensures.keeps (Keeps-trans c.node-3.ensures.keeps (Keeps-trans c.lift.ensures.keeps c.node-4.ensures.keeps)));
  decls = refl;
}

pub returns-clause-is : goal.returns-clause-is
returns-clause-is c =
    IfOk-map c.node-4.result
    (λ r h. functions-is _ _ _ _ _ _ c.args.a c.args.b c.in_ok-term.term c.in_ok-domain.domain c.in_ok-body.body c.in_ok-lifted.lifted r
    c.node.ensures.keeps.stays c.node-2.ensures.keeps.stays c.node-3.ensures.keeps.stays
    c.lift.ensures.keeps.stays c.requires.a c.requires.b c.in_ok-term.ensures.made c.in_ok-domain.ensures.made c.in_ok-body.ensures.made
    c.in_ok-lifted.ensures.made h)
    c.node-4.ensures.made
