use Rattle.std.proofs.Common.{length}
use Rattle.std.proofs.lemmas.Option.{slice_get_within}
use Rattle.hol_term.specs.Nodes.{PartsBelow, IsMeasured, terms_of}
use Rattle.hol_term.proofs.Inserted.{Inserted, tree_over, inserted, inserted_keeps, stored_tree, unchanged, greater_part-known}
use Rattle.hol_term.proofs.TermTable.insert.Goals as goal
use Rattle.hol_term.proofs.TermTable.insert.Goals.{in-Ok, in-Err}

pub insert_full-requires : goal.insert_full-requires
insert_full-requires c = let h = rw (← c.self.view_is) at c.requires.parts in greater_part-known c.self.inside.types c.self.inside.entries c.args.entry.node h

-- what the node's tree takes, of the entries
parts_below : (c : goal.Joined-insert_full) → PartsBelow (length (terms_of c.self.inside.types c.self.inside.entries)) (length c.self.inside.types)
    c.args.entry.node
parts_below c = let h = rw (← c.self.view_is) at c.requires.parts in h

measured : (c : goal.Joined-insert_full) → IsMeasured c.self.inside.types c.args.entry (tree_over c.self.inside.types c.self.inside.entries c.args.entry)
measured c = let h = rw (← c.self.view_is) at c.requires.measured in h

-- the new entries, whatever was answered
after : (c : goal.Joined-insert_full) → Inserted c.self.inside.types c.self.inside.entries c.insert_full.new.self c.args.entry
after c = elim c.match-insert_full.branch [
  | in-Ok w ↦ inserted _ _ _ _ _ _ c.self.invariant (parts_below c) (measured c) w.in-Ok.ensures.inserted
  | in-Err w ↦ unchanged _ _ _ _ c.self.invariant w.in-Err.ensures.unchanged
]

pub invariant_of-self : goal.invariant_of-self
invariant_of-self c = (after c).table

pub returns-clause-made : goal.returns-clause-made
returns-clause-made c = elim c.match-insert_full.branch [
  | in-Ok w ↦ rw (w.result-is, ← c.self.view_is) (stored_tree _ _ _ _ w.in-Ok.index _ (after c) (parts_below c) w.in-Ok.ensures.inserted)
  | in-Err w ↦ rw w.result-is tt
]

pub returns-clause-keeps : goal.returns-clause-keeps
returns-clause-keeps c = rw (← c.self.view_is) (inserted_keeps _ _ _ _ (after c))

pub returns-clause-distinct : goal.returns-clause-distinct
returns-clause-distinct c = (after c).table.distinct

pub returns-clause-known : goal.returns-clause-known
returns-clause-known c = elim c.match-insert_full.branch [
  | in-Ok w ↦ rw w.result-is (slice_get_within _ _ _ (stored_tree _ _ _ _ w.in-Ok.index _ (after c) (parts_below c) w.in-Ok.ensures.inserted))
  | in-Err w ↦ rw w.result-is tt
]
