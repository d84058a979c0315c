-- What the head of a term says of it.
use Rattle.std.specs.Prelude.{ℕ, ◌<◌, length}
use Rattle.hol_spec.specs.Terms.{Term, free, bound, constant, app, lam}
use Rattle.hol_term.specs.declared.TermView.{TermView}
use Rattle.hol_term.specs.declared.TermView.TheVariants as view
use Rattle.hol_term.specs.Tables.{Trees, term_at, type_at}

-- the tree of a head whose parts have these numbers
abbrev pub tree_of_view : Trees → TermView → Term
tree_of_view trees (view.Free name ty) = free name.now (type_at trees ty.0)
tree_of_view trees (view.Bound n) = bound n
tree_of_view trees (view.Const name ty) = constant name.now (type_at trees ty.0)
tree_of_view trees (view.App f x) = app (term_at trees f.0) (term_at trees x.0)
tree_of_view trees (view.Lam ty b) = lam (type_at trees ty.0) (term_at trees b.0)

-- the parts have numbers below n, and the types are the table's
abbrev pub ViewBelow : Trees → ℕ → TermView → Type 0
ViewBelow trees n (view.Free name ty) = ty.0 < length trees.types
ViewBelow trees n (view.Bound k) = Unit {0}
ViewBelow trees n (view.Const name ty) = ty.0 < length trees.types
ViewBelow trees n (view.App f x) = (f.0 < n) × (x.0 < n)
ViewBelow trees n (view.Lam ty b) = (ty.0 < length trees.types) × (b.0 < n)
