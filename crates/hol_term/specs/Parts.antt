-- What a tree is made of.
use Rattle.std.specs.Prelude.{◌≡◌, ℕ, ◌<◌, ◌-◌, ◌^◌, length}
use Rattle.hol_spec.specs.Terms.{Term, free, bound, constant, app, lam}
use Rattle.hol_term.specs.declared.Parts.{Parts as TheParts}
use Rattle.hol_term.specs.declared.Parts.TheVariants as part
use Rattle.hol_term.specs.Tables.{Trees, term_at, type_at}

-- a free variable or a constant
abbrev pub IsLeaf : Term → Type 0
IsLeaf (free n t) = Unit {0}
IsLeaf (constant n t) = Unit {0}
IsLeaf _ = ⊥

-- the tree has these parts
abbrev pub HasParts : Trees → Term → TheParts → Type 0
HasParts trees t part.Leaf = IsLeaf t
HasParts trees t (part.Bound n) = t ≡ bound n
HasParts trees t (part.App f x) = t ≡ app (term_at trees f.0) (term_at trees x.0)
HasParts trees t (part.Lam ty b) = t ≡ lam (type_at trees ty.0) (term_at trees b.0)

-- they have numbers below n, and the type is the table's
abbrev pub AreLower : Trees → ℕ → TheParts → Type 0
AreLower trees n part.Leaf = Unit {0}
AreLower trees n (part.Bound k) = k < 2 ^ 128 - 1
AreLower trees n (part.App f x) = (f.0 < n) × (x.0 < n)
AreLower trees n (part.Lam ty b) = (ty.0 < length trees.types) × (b.0 < n)
