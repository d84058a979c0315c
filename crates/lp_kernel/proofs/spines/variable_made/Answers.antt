use Rattle.std.proofs.Common.{◌≡◌, arith, sym, ap, ◌∙◌}
use Rattle.lp_spec.specs.Trees.{lift}
use Rattle.lp_binding_laws.specs.Composition.{lift_zero}
use Rattle.lp_term.specs.Tables.{tree_at}
use Rattle.lp_term.specs.TableLaws.{Holds-tree_at}
use Rattle.lp_kernel.specs.Pending.{spine_args}
use Rattle.lp_kernel.proofs.Filled.{put_all_at-argument, put_all_at-variable}
use Rattle.lp_kernel.proofs.spines.variable_made.Goals as goal

pub returns-in_ok-lifted-in-Argument-clause-is : goal.returns-in_ok-lifted-in-Argument-clause-is
returns-in_ok-lifted-in-Argument-clause-is c =
    Holds-tree_at c.lift.new.self c.in_ok-lifted-in-Argument.lifted.0 _ c.in_ok-lifted-in-Argument.ensures.made
    ∙ sym (put_all_at-argument c.args.depth (spine_args c.args.k (tree_at c.args.base.now.table c.args.f.0)) c.args.n c.in-Some.outer
    (omega (arith, c.in-Some.ensures)) (omega (arith, c.in-Some.ensures)) (tree_at c.args.base.now.table c.in-Argument.x.0) c.in-Argument.ensures.1)

pub returns-in_ok-variable-in-Variable-clause-is : goal.returns-in_ok-variable-in-Variable-clause-is
returns-in_ok-variable-in-Variable-clause-is c =
    Holds-tree_at c.node.new.self c.in_ok-variable-in-Variable.variable.0 _ c.in_ok-variable-in-Variable.ensures.made
    ∙ sym (put_all_at-variable c.args.depth (spine_args c.args.k (tree_at c.args.base.now.table c.args.f.0)) c.args.n c.in-Some.outer
    (omega (arith, c.in-Some.ensures)) (omega (arith, c.in-Some.ensures)) c.in-Variable.m c.in-Some-checked_add.number c.in-Variable.ensures
    (omega (arith, c.in-Some-checked_add.ensures)))

pub returns-then-depth-eq0-clause-is : goal.returns-then-depth-eq0-clause-is
returns-then-depth-eq0-clause-is c =
    let x = tree_at c.args.base.now.table c.in-Argument.x.0 in
    let none : c.args.depth ≡ 0 = omega (arith, c.if-depth-eq0.true) in
    sym (put_all_at-argument c.args.depth (spine_args c.args.k (tree_at c.args.base.now.table c.args.f.0)) c.args.n c.in-Some.outer
    (omega (arith, c.in-Some.ensures)) (omega (arith, c.in-Some.ensures)) x c.in-Argument.ensures.1 ∙ ap (λ d. lift d x) none ∙ lift_zero x)
