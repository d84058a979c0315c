use Rattle.std.proofs.Common.{arith, refl, subst, sym}
use Rattle.lp_kernel.specs.Keys.{IsKey}
use Rattle.lp_kernel.proofs.Asked.{known-state, known-outside}
use Rattle.lp_kernel.proofs.Told.{told-body}
use Rattle.lp_kernel.proofs.tells.tell_body.Goals as goal

pub returns-in_ok-product-in_default : goal.returns-in_ok-product-in_default
returns-in_ok-product-in_default c = record {
  grows = record { keeps = c.node.ensures.keeps; decls = refl };
  known = known-state c.node.ensures.keeps _
      (record { context = known-outside _ _ _ c.pop.ensures c.requires.known.context; frames = c.requires.known.frames });
  next = c.in_ok-product-in_default.ensures.known;
  turned = λ rechecks left. told-body rechecks _ _ _ c.args.state.now.context _ _ c.args.a c.args.found c.in_ok-product-in_default.product c.view.result _
      c.node.ensures.keeps.stays c.requires.frame c.requires.found c.view.ensures.is c.in_default.not-SortKind c.in_ok-product-in_default.ensures.made
      c.pop.ensures (omega arith);
  fewer = λ left. omega arith;
  keyed = λ h. subst (IsKey c.args.contexts.now c.outer-state.result) (sym c.pop.ensures) (c.outer-state.ensures c.args.state.now.context h);
}
