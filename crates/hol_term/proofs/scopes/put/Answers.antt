use Rattle.std.proofs.Common.{sym}
use Rattle.hol_term.proofs.ScopeLaws.{put-at, put-adds, put-placed}
use Rattle.hol_term.proofs.scopes.put.Goals as goal

pub returns-in-Some-clause-at : goal.returns-in-Some-clause-at
returns-in-Some-clause-at c = c.requires.told c.in-Some.place c.args.scope (sym c.in-Some.ensures)

pub returns-in-None-clause-at : goal.returns-in-None-clause-at
returns-in-None-clause-at c = put-at c.args.inner.now.items c.put_last.new.inner.items c.args.scope c.put_last.result c.put_last.ensures.place
    c.put_last.ensures.inner

pub returns-in-None-clause-adds : goal.returns-in-None-clause-adds
returns-in-None-clause-adds c = put-adds c.args.inner.now.items c.put_last.new.inner.items c.args.places.now c.put_last.new.places c.args.scope
    c.put_last.result c.put_last.ensures.inner c.put_last.ensures.unchanged

pub returns-in-None-clause-placed : goal.returns-in-None-clause-placed
returns-in-None-clause-placed c = put-placed c.args.inner.now.items c.put_last.new.inner.items c.args.places.now c.put_last.new.places c.args.scope
    c.put_last.result c.requires (sym c.in-None.ensures) c.put_last.ensures.inner c.put_last.ensures.places c.put_last.ensures.unchanged
