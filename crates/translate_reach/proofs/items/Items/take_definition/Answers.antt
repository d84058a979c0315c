use Rattle.std.proofs.Common.{refl}
use Rattle.std.proofs.lemmas.Result.{on_ok_weaker}
use Rattle.hol_defs.specs.Symbols.{named}
use Rattle.hol_term.specs.Tables.{term_at, type_at}
use Rattle.translate_reach.proofs.Taken.{definition-Listed}
use Rattle.translate_reach.proofs.items.Items.take_definition.Goals as goal

pub returns : goal.returns
returns c = on_ok_weaker c.add_constant-2.result
    (λ adds p front rest proof order known whole h.
    let x = c.args.x in
    let names = named x.op.now x.abs.now x.rep.now x.names.now in
    definition-Listed p order front rest c.args.self.now h names (type_at p.trees x.whole.0) (term_at p.trees x.predicate.0) c.args.premise whole proof x.whole
    x.abs_type x.rep_type
    known.ty known.constants.abstraction known.constants.representation refl known.constants.from known.constants.to _ _ _ c.in_ok-add_operator.ensures
    c.in_ok-add_constant.ensures adds)
    c.add_constant-2.ensures
