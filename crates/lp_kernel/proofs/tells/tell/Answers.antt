use Rattle.std.proofs.Common.{subst, sym}
use Rattle.lp_kernel.specs.Keys.{AreMore, IsKeyed}
use Rattle.lp_kernel.proofs.Asked.{IfOk-map}
use Rattle.lp_kernel.proofs.KeyLaws.{keyed-same, more-refl}
use Rattle.lp_kernel.proofs.Reached.{AreProducts-Grows}
use Rattle.lp_kernel.proofs.tells.tell.Goals as goal

pub returns-in-Function-clause-turned : goal.returns-in-Function-clause-turned
returns-in-Function-clause-turned c = rw c.in-Function.is c.tell_function.ensures.turned

pub returns-in-Argument-clause-turned : goal.returns-in-Argument-clause-turned
returns-in-Argument-clause-turned c = rw c.in-Argument.is c.tell_argument.ensures.turned

pub returns-in-Expected-clause-turned : goal.returns-in-Expected-clause-turned
returns-in-Expected-clause-turned c = rw c.in-Expected.is (IfOk-map c.tell_expected.result (λ n h. h c.args.turns.now.rechecks) c.tell_expected.ensures.turned)

pub returns-in-Reached-clause-turned : goal.returns-in-Reached-clause-turned
returns-in-Reached-clause-turned c = rw c.in-Reached.is
    (IfOk-map c.tell_reached.result (λ n h. h c.args.turns.now.rechecks c.args.budget.now.left) c.tell_reached.ensures.turned)

pub returns-in-Reached-clause-fewer : goal.returns-in-Reached-clause-fewer
returns-in-Reached-clause-fewer c = IfOk-map c.tell_reached.result (λ n h. h c.args.budget.now.left) c.tell_reached.ensures.fewer

pub returns-in-Domain-clause-turned : goal.returns-in-Domain-clause-turned
returns-in-Domain-clause-turned c = rw c.in-Domain.is
    (IfOk-map c.tell_domain.result (λ n h. h c.args.turns.now.rechecks c.args.budget.now.left) c.tell_domain.ensures.turned)

pub returns-in-Domain-clause-fewer : goal.returns-in-Domain-clause-fewer
returns-in-Domain-clause-fewer c = IfOk-map c.tell_domain.result (λ n h. h c.args.budget.now.left) c.tell_domain.ensures.fewer

pub returns-in-Body-clause-turned : goal.returns-in-Body-clause-turned
returns-in-Body-clause-turned c = rw c.in-Body.is
    (IfOk-map c.tell_body.result (λ n h. h c.args.turns.now.rechecks c.args.budget.now.left) c.tell_body.ensures.turned)

pub returns-in-Body-clause-fewer : goal.returns-in-Body-clause-fewer
returns-in-Body-clause-fewer c = IfOk-map c.tell_body.result (λ n h. h c.args.budget.now.left) c.tell_body.ensures.fewer

pub returns-in-ProductDomain-clause-turned : goal.returns-in-ProductDomain-clause-turned
returns-in-ProductDomain-clause-turned c = rw c.in-ProductDomain.is
    (IfOk-map c.tell_product_domain.result (λ n h. h c.args.turns.now.rechecks c.args.budget.now.left) c.tell_product_domain.ensures.turned)

pub returns-in-ProductDomain-clause-fewer : goal.returns-in-ProductDomain-clause-fewer
returns-in-ProductDomain-clause-fewer c = IfOk-map c.tell_product_domain.result (λ n h. h c.args.budget.now.left) c.tell_product_domain.ensures.fewer

pub returns-in-ProductBody-clause-turned : goal.returns-in-ProductBody-clause-turned
returns-in-ProductBody-clause-turned c = rw c.in-ProductBody.is
    (IfOk-map c.tell_product_body.result (λ n h. h c.args.turns.now.rechecks c.args.budget.now.left) c.tell_product_body.ensures.turned)

pub returns-in-ProductBody-clause-fewer : goal.returns-in-ProductBody-clause-fewer
returns-in-ProductBody-clause-fewer c = IfOk-map c.tell_product_body.result (λ n h. h c.args.budget.now.left) c.tell_product_body.ensures.fewer

pub returns-in-Reached-clause-products : goal.returns-in-Reached-clause-products
returns-in-Reached-clause-products c = IfOk-map c.tell_reached.result
    (λ n h. AreProducts-Grows c.args.base.now c.tell_reached.new.base c.args.turns.now.products c.requires.held c.tell_reached.ensures.grows
    c.requires.products) c.tell_reached.ensures.fewer

pub returns-in-Argument-clause-products : goal.returns-in-Argument-clause-products
returns-in-Argument-clause-products c = IfOk-map c.tell_argument.result
    (λ n h. AreProducts-Grows c.args.base.now c.tell_argument.new.base c.args.turns.now.products c.requires.held c.tell_argument.ensures.grows
    c.requires.products) c.tell_argument.ensures.fewer

pub returns-in-Expected-clause-products : goal.returns-in-Expected-clause-products
returns-in-Expected-clause-products c = IfOk-map c.tell_expected.result
    (λ n h. AreProducts-Grows c.args.base.now c.tell_expected.new.base c.args.turns.now.products c.requires.held c.tell_expected.ensures.grows
    c.requires.products) c.tell_expected.ensures.fewer

pub returns-in-Domain-clause-products : goal.returns-in-Domain-clause-products
returns-in-Domain-clause-products c = IfOk-map c.tell_domain.result
    (λ n h. AreProducts-Grows c.args.base.now c.tell_domain.new.base c.args.turns.now.products c.requires.held c.tell_domain.ensures.grows c.requires.products)
    c.tell_domain.ensures.fewer

pub returns-in-Body-clause-products : goal.returns-in-Body-clause-products
returns-in-Body-clause-products c = IfOk-map c.tell_body.result
    (λ n h. AreProducts-Grows c.args.base.now c.tell_body.new.base c.args.turns.now.products c.requires.held c.tell_body.ensures.grows c.requires.products)
    c.tell_body.ensures.fewer

pub returns-in-ProductDomain-clause-products : goal.returns-in-ProductDomain-clause-products
returns-in-ProductDomain-clause-products c = IfOk-map c.tell_product_domain.result
    (λ n h. AreProducts-Grows c.args.base.now c.tell_product_domain.new.base c.args.turns.now.products c.requires.held c.tell_product_domain.ensures.grows
    c.requires.products) c.tell_product_domain.ensures.fewer

pub returns-in-ProductBody-clause-products : goal.returns-in-ProductBody-clause-products
returns-in-ProductBody-clause-products c = IfOk-map c.tell_product_body.result
    (λ n h. AreProducts-Grows c.args.base.now c.tell_product_body.new.base c.args.turns.now.products c.requires.held c.tell_product_body.ensures.grows
    c.requires.products) c.tell_product_body.ensures.fewer

pub returns-in-Function-clause-keyed : goal.returns-in-Function-clause-keyed
returns-in-Function-clause-keyed c =
    IfOk-map c.tell_function.result
    (λ n h k. subst (λ scopes. IsKeyed scopes c.tell_function.new.state) (sym c.tell_function.ensures.contexts)
    (keyed-same c.args.turns.now.contexts c.args.state.now c.tell_function.new.state c.tell_function.ensures.same k)) c.tell_function.ensures.fewer

pub returns-in-Reached-clause-keyed : goal.returns-in-Reached-clause-keyed
returns-in-Reached-clause-keyed c = IfOk-map c.tell_reached.result
    (λ n h. keyed-same c.args.turns.now.contexts c.args.state.now c.tell_reached.new.state c.tell_reached.ensures.same) c.tell_reached.ensures.fewer

pub returns-in-Argument-clause-keyed : goal.returns-in-Argument-clause-keyed
returns-in-Argument-clause-keyed c = IfOk-map c.tell_argument.result
    (λ n h. keyed-same c.args.turns.now.contexts c.args.state.now c.tell_argument.new.state c.tell_argument.ensures.same) c.tell_argument.ensures.fewer

pub returns-in-Expected-clause-keyed : goal.returns-in-Expected-clause-keyed
returns-in-Expected-clause-keyed c = IfOk-map c.tell_expected.result
    (λ n h. keyed-same c.args.turns.now.contexts c.args.state.now c.tell_expected.new.state c.tell_expected.ensures.same) c.tell_expected.ensures.fewer

pub returns-in-Function-clause-more : goal.returns-in-Function-clause-more
returns-in-Function-clause-more c = subst (AreMore c.args.turns.now.contexts) (sym c.tell_function.ensures.contexts) (more-refl c.args.turns.now.contexts)

pub returns-in-Reached-clause-more : goal.returns-in-Reached-clause-more
returns-in-Reached-clause-more c = more-refl c.args.turns.now.contexts

pub returns-in-Argument-clause-more : goal.returns-in-Argument-clause-more
returns-in-Argument-clause-more c = more-refl c.args.turns.now.contexts

pub returns-in-Expected-clause-more : goal.returns-in-Expected-clause-more
returns-in-Expected-clause-more c = more-refl c.args.turns.now.contexts

pub returns-in-Body-clause-more : goal.returns-in-Body-clause-more
returns-in-Body-clause-more c = more-refl c.args.turns.now.contexts

pub returns-in-ProductBody-clause-more : goal.returns-in-ProductBody-clause-more
returns-in-ProductBody-clause-more c = more-refl c.args.turns.now.contexts
