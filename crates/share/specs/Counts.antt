-- Counts of places, up to two, by the numbers of trees.
use Rattle.std.specs.Prelude.{◌≡◌, ℕ, ◌+◌, ◌<◌, min, true, List, length, map, get_or, Option, None, Some, slice_get}
use Rattle.std.specs.List.{flat_map}
use Rattle.lp_spec.specs.Trees.{Tree}
use Rattle.lp_term.specs.declared.LpId.{LpId}
use Rattle.lp_term.specs.Tables.{Holds, IsDistinct}
use Rattle.holide_sig.specs.declared.decls.Decl.{Decl}
use Rattle.holide_sig.specs.Modules.{declaration_in}
use Rattle.share_spec.specs.Folded.{is_in, parts_in, places}
use Rattle.share_laws.specs.PlacesByNodes.{direct, roots_in}

-- the body's number, where there is one, is below n
abbrev pub IsBodyBelow : ℕ → Option LpId → Type 0
IsBodyBelow n None = Unit {0}
IsBodyBelow n (Some id) = id.0 < n

-- the numbers of a declaration are below n
pub record IsBelow (n : ℕ) (d : Decl) : Type 0 where
  pub ty : d.ty.0 < n
  pub body : IsBodyBelow n d.body

-- the numbers of each of the declarations are below n
abbrev pub AreBelow : ℕ → List Decl → Type 0
AreBelow n ds = (i : ℕ) (d : Decl) → slice_get ds i ≡ Some d → IsBelow n d

-- each tree that has a number has the count that the function says
abbrev pub Agrees : List Tree → List ℕ → (Tree → ℕ) → Type 0
Agrees trees counts count = (i : ℕ) (t : Tree) → Holds trees i t → i < length counts → get_or counts i 0 ≡ count t

-- each count is of one more for the type and for the body of a declaration, up to two
abbrev pub IsMore : List Tree → Decl → List ℕ → List ℕ → Type 0
IsMore trees d old new = (i : ℕ) (t : Tree) (k : ℕ) → Holds trees i t → i < length old → get_or old i 0 ≡ min 2 k → get_or new i 0 ≡ min 2
    (k + places t (roots_in (declaration_in trees d)))

-- each tree that has a number has the count of its places in these declarations, up to two
abbrev pub AreCounted : List Tree → List Decl → List ℕ → Type 0
AreCounted trees ds counts = Agrees trees counts (λ t. min 2 (places t (flat_map parts_in (map (declaration_in trees) ds))))

-- the direct parts of the number's tree have lower numbers
abbrev pub IsLower : List Tree → ℕ → Type 0
IsLower trees i = (t p : Tree) → Holds trees i t → is_in p (direct t) ≡ true → (j : ℕ) × (j < i) × Holds trees j p

-- the same for all numbers below the top
abbrev pub AreLower : List Tree → ℕ → Type 0
AreLower trees top = (i : ℕ) → i < top → IsLower trees i

-- counts that agreed with a function agree with what comes of it, where no tree has two numbers
abbrev pub Hands : List Tree → List ℕ → List ℕ → ((Tree → ℕ) → Tree → ℕ) → Type 0
Hands trees old new f = IsDistinct trees → (c : Tree → ℕ) → Agrees trees old c → Agrees trees new (f c)
