use Rattle.std.proofs.Common.{◌∙◌, ◌++◌, sym, arith, length-append}
use Rattle.lp_spec.specs.Modules.{signature}
use Rattle.lp_term.specs.TableLaws.{Holds-tree_at, Keeps-trans}
use Rattle.holide_sig.specs.Modules.{declarations_of}
use Rattle.holide_sig.specs.ModuleLaws.{IsHeld-Keeps, symbol_number-None}
use Rattle.bench.proofs.Defined.{may_define, no_some}
use Rattle.bench.proofs.writing.push_nest.Goals as goal

pub push-requires-clause-held : goal.push-requires-clause-held
push-requires-clause-held c = IsHeld-Keeps c.args.into.now c.nest.new.table (Keeps-trans c.node.ensures.keeps c.nest.ensures.keeps) c.requires.held

pub push-requires-clause-follows : goal.push-requires-clause-follows
push-requires-clause-follows c =
    let ds = declarations_of (record { table = c.nest.new.table; decls = c.args.into.now.decls }) in
    let ty = Holds-tree_at c.nest.new.table c.in_ok-ty.ty.0 _ (c.nest.ensures.keeps.stays.each c.in_ok-ty.ty.0 _ c.in_ok-ty.ensures.made) in
    may_define (signature ++ ds) c.nest.new.table c.new-name.result c.deref.result.now c.in_ok-ty.ty c.in_ok-body.body
    (omega (arith, length-append signature ds)) (symbol_number-None ds c.deref.result.now (sym c.find.ensures ∙ no_some c.find.result c.if-is_some.ensures))
    (c.new-name.ensures ∙ sym c.deref.ensures.value) ty c.in_ok-body.ensures.over
