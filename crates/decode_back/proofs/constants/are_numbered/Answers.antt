use Rattle.decode_back.proofs.NameLemmas.{numbered-told, other-count}
use Rattle.decode_back.proofs.constants.are_numbered.Goals as goal

pub returns-then-names-count : goal.returns-then-names-count
returns-then-names-count c = other-count c.args.names.now c.args.count c.if-names-count.true

pub returns : goal.returns
returns c = numbered-told c.args.names.now c.args.count c.in_ok-told.told c.if-names-count.false c.in_ok-told.ensures
