use Rattle.std.proofs.Common.{◌≡◌, ◌∙◌, ◌∷◌, [], ap, subst, sym, inl, inr, true, false, length, arith}
use Rattle.std.proofs.Math.Seq.{take-append_seam}
use Rattle.lp_term.specs.Tables.{Keeps}
use Rattle.lp_term.specs.TableLaws.{Holds-within, Keeps-refl, Adds-Keeps}
use Rattle.lp_term.specs.Columns.{trees_of, IsInserted}
use Rattle.lp_term.proofs.ColumnLaws.{length-trees_of, trees_from-append}
use Rattle.lp_term.proofs.Inserted.{Holds-found, IsTable-more, Holds-last}
use Rattle.lp_term.proofs.Indexing.{greater_part-below}
use Rattle.lp_term.proofs.LpTable.node.Goals as goal

-- its parts are shapes of the table
pub insert-requires : goal.insert-requires
insert-requires c = λ p g.
    let below = rw (← c.self.view_is, ← c.in_ok-shape.ensures) at c.requires in
    let less = greater_part-below (length (trees_of c.self.inside.shapes)) c.in_ok-shape.shape p below g in
    omega (arith, less, length-trees_of c.self.inside.shapes)

-- the shape was there
found : (c : goal.Then-not-is_new) → IsInserted c.self.inside.shapes c.insert.new.self c.in_ok-shape.shape c.in_ok-index.index false
found c = rw c.if-not-is_new.true at c.in_ok-index.ensures.inserted

pub returns-then-not-is_new-clause-made : goal.returns-then-not-is_new-clause-made
returns-then-not-is_new-clause-made c = rw ((found c).0, ← c.self.view_is, ← c.in_ok-shape.ensures) (Holds-found _ _ _ _ c.self.invariant (found c).1)

pub returns-then-not-is_new-clause-known : goal.returns-then-not-is_new-clause-known
returns-then-not-is_new-clause-known c = rw (found c).0 (Holds-within _ _ _ (Holds-found _ _ _ _ c.self.invariant (found c).1))

-- the shape was new, and its measures found no memory: the set is cut back
back : (c : goal.After-truncate) → c.truncate.new.self ≡ c.self.inside.shapes
back c =
    let new = rw c.if-not-is_new.false at c.in_ok-index.ensures.inserted in
    rw (c.truncate.ensures, new.0, new.1) (take-append_seam c.self.inside.shapes (c.in_ok-shape.shape ∷ []))

pub invariant_of-self-in-Err : goal.invariant_of-self-in-Err
invariant_of-self-in-Err c = rw (back c, c.in-Err.ensures.unchanged) c.self.invariant

pub returns-in-Err-clause-unchanged : goal.returns-in-Err-clause-unchanged
returns-in-Err-clause-unchanged c = ap trees_of (back c) ∙ c.self.view_is

pub returns-in-Err-clause-adds : goal.returns-in-Err-clause-adds
returns-in-Err-clause-adds c = inl (returns-in-Err-clause-unchanged c)

pub returns-in-Err-clause-keeps : goal.returns-in-Err-clause-keeps
returns-in-Err-clause-keeps c = subst (Keeps c.args.self.now) (sym (returns-in-Err-clause-unchanged c)) (Keeps-refl c.args.self.now)

pub returns-in-Err-clause-distinct : goal.returns-in-Err-clause-distinct
returns-in-Err-clause-distinct c = (invariant_of-self-in-Err c).distinct

-- the shape was new, and has its measures
new : (c : goal.In_default) → IsInserted c.self.inside.shapes c.insert.new.self c.in_ok-shape.shape c.in_ok-index.index true
new c = rw c.if-not-is_new.false at c.in_ok-index.ensures.inserted

pub invariant_of-self-in_default : goal.invariant_of-self-in_default
invariant_of-self-in_default c =
    let t = c.self.invariant in
    rw (new c).0 (IsTable-more _ _ _ t (rw (c.in_ok-shape.ensures, c.self.view_is) c.requires) (new c).2 _ (c.in_default.ensures.pushed _ t.measured))

pub returns-clause-made : goal.returns-clause-made
returns-clause-made c = rw ((new c).0, (new c).1, ← c.self.view_is, ← c.in_ok-shape.ensures) (Holds-last c.self.inside.shapes c.in_ok-shape.shape)

pub returns-clause-known : goal.returns-clause-known
returns-clause-known c = Holds-within _ _ _ (returns-clause-made c)

pub returns-clause-adds : goal.returns-clause-adds
returns-clause-adds c = inr (rw ((new c).0, ← c.self.view_is, ← c.in_ok-shape.ensures) (trees_from-append [] c.self.inside.shapes c.in_ok-shape.shape))

pub returns-clause-distinct : goal.returns-clause-distinct
returns-clause-distinct c = (invariant_of-self-in_default c).distinct

pub returns-clause-keeps : goal.returns-clause-keeps
returns-clause-keeps c = Adds-Keeps _ _ _ (returns-clause-adds c) (returns-clause-distinct c)
