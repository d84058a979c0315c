use Rattle.std.proofs.Common.{◌∙◌}
use Rattle.lp_conv.proofs.Spines.{IfOk-map, spine-beta, spine-symbol, IsHeadStep-StepsTo}
use Rattle.lp_conv.proofs.heads.head_step.Goals as goal

pub returns-in-Lam-clause-chain : goal.returns-in-Lam-clause-chain
returns-in-Lam-clause-chain c =
    IfOk-map c.beta.result
    (λ made h. IsHeadStep-StepsTo c.args.base.now c.beta.new.base c.args.id made
    (h ∙ spine-beta _ c.loop-f.base c.args.id c.loop-f.head _ _ c.loop-f.args c.loop-f.invariant (rw c.in-Lam.is at c.view.ensures.is))) c.beta.ensures.is

pub returns-in-Sym-clause-chain : goal.returns-in-Sym-clause-chain
returns-in-Sym-clause-chain c =
    IfOk-map c.symbol_step.result
    (λ made h. IsHeadStep-StepsTo c.args.base.now c.symbol_step.new.base c.args.id made
    (h ∙ spine-symbol _ c.loop-f.base c.args.id c.loop-f.head c.in-Sym.s c.loop-f.args c.loop-f.invariant (rw c.in-Sym.is at c.view.ensures.is)))
    c.symbol_step.ensures.is
