use Rattle.lp_spec.specs.Modules.{signature}
use Rattle.holide_sig.proofs.Pushed.{new_among, push_held, push_module}
use Rattle.holide_sig.proofs.module.Module.push.Goals as goal

pub push-requires : goal.push-requires
push-requires c = new_among signature c.args.self.now.table c.args.decl.name c.args.self.now.decls c.requires.follows.new_name

pub returns-clause-held : goal.returns-clause-held
returns-clause-held c = push_held _ _ _ c.push.result c.requires.held c.requires.known c.push.ensures.ok c.push.ensures.unchanged

pub returns-clause-is_module : goal.returns-clause-is_module
returns-clause-is_module c = push_module _ _ _ c.push.result c.requires.follows c.push.ensures.ok c.push.ensures.unchanged
