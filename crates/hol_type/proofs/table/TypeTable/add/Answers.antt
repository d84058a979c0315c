use Rattle.std.proofs.Common.{length}
use Rattle.hol_type.specs.TableLaws.{Holds-within}
use Rattle.hol_type.specs.Entries.{trees_of, tree_of_node, PartsBelow}
use Rattle.hol_type.specs.Measured.{IsMeasured}
use Rattle.hol_type.proofs.Inserted.{Inserted, inserted, inserted_keeps, stored_tree, unchanged}
use Rattle.hol_type.proofs.table.TypeTable.add.Goals as goal
use Rattle.hol_type.proofs.table.TypeTable.add.Goals.{in-Ok, in-Err}

-- what the node's type takes, of the entries
parts_below : (c : goal.Joined-insert_full) → PartsBelow (length (trees_of c.self.inside.entries)) c.args.node
parts_below c = rw c.self.view_is c.requires.parts

measured : (c : goal.Joined-insert_full) → IsMeasured c.args.measures (tree_of_node (trees_of c.self.inside.entries) c.args.node)
measured c = rw c.self.view_is c.requires.measured

-- the new entries, whatever was answered
after : (c : goal.Joined-insert_full) → Inserted c.self.inside.entries c.insert_full.new.self (record { node = c.args.node; measures = c.args.measures })
after c = elim c.match-insert_full.branch [
  | in-Ok w ↦ inserted _ _ _ _ _ c.self.invariant (parts_below c) (measured c) w.in-Ok.ensures.inserted
  | in-Err w ↦ unchanged _ _ _ c.self.invariant w.in-Err.ensures.unchanged
]

pub invariant_of-self : goal.invariant_of-self
invariant_of-self c = (after c).table

pub returns-clause-made : goal.returns-clause-made
returns-clause-made c = elim c.match-insert_full.branch [
  | in-Ok w ↦ rw (w.result-is, ← c.self.view_is) (stored_tree _ _ _ w.in-Ok.index _ (after c) (parts_below c) w.in-Ok.ensures.inserted)
  | in-Err w ↦ rw w.result-is tt
]

pub returns-clause-adds : goal.returns-clause-adds
returns-clause-adds c = rw (← c.self.view_is) (after c).adds

pub returns-clause-keeps : goal.returns-clause-keeps
returns-clause-keeps c = rw (← c.self.view_is) (inserted_keeps _ _ _ (after c))

pub returns-clause-distinct : goal.returns-clause-distinct
returns-clause-distinct c = (after c).table.distinct

pub returns-clause-known : goal.returns-clause-known
returns-clause-known c = elim c.match-insert_full.branch [
  | in-Ok w ↦ rw w.result-is (Holds-within _ _ _ (stored_tree _ _ _ w.in-Ok.index _ (after c) (parts_below c) w.in-Ok.ensures.inserted))
  | in-Err w ↦ rw w.result-is tt
]
