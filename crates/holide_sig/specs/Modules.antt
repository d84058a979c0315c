-- A module as a table of trees and declarations by number: what it stands for, and what its table holds.
use Rattle.std.specs.Prelude.{ℕ, ◌<◌, List, [], ◌∷◌, ◌++◌, length, map, Option, None, Some, option_map, position}
use Rattle.std.specs.Str.{bytes_eq}
use Rattle.common.specs.Binding.{Pairwise}
use Rattle.lp_spec.specs.Trees.{Tree}
use Rattle.lp_spec.specs.Modules.{Declaration, signature}
use Rattle.lp_term.specs.declared.LpId.{LpId}
use Rattle.lp_term.specs.Tables.{tree_at, Holds, IsDistinct}
use Rattle.holide_sig.specs.declared.decls.Decl.{Decl}
use Rattle.holide_sig.specs.declared.module.Module.{Module}

-- the declaration that stands for one by number, over these trees
abbrev pub declaration_in : List Tree → Decl → Declaration
declaration_in trees d = record { name = d.name; form = d.form; ty = tree_at trees d.ty.0; body = option_map (λ id. tree_at trees id.0) d.body }

-- the declarations of a module
abbrev pub declarations_of : Module → List Declaration
declarations_of m = map (declaration_in m.table) m.decls

-- the first symbol of a name: the signature's are numbered from 0, the declarations after them
abbrev pub symbol_number : List Declaration → List ℕ → Option ℕ
symbol_number declarations name = position (λ d. bytes_eq d.name name) (signature ++ declarations)

-- the numbers at which the types of the signature's symbols stand in the table of every module, in the signature's order
abbrev pub signature_ids : List ℕ
signature_ids = 0 ∷ 1 ∷ 1 ∷ 15 ∷ 16 ∷ 21 ∷ 25 ∷ 27 ∷ 34 ∷ 59 ∷ 83 ∷ 95 ∷ 103 ∷ 110 ∷ 122 ∷ 129 ∷ 155 ∷ 169 ∷ []

-- the body's number, where there is one, is of the table
abbrev pub IsBodyKnown : List Tree → Option LpId → Type 0
IsBodyKnown trees None = Unit {0}
IsBodyKnown trees (Some id) = id.0 < length trees

-- the numbers of a declaration are of the table
pub record IsKnown (trees : List Tree) (d : Decl) : Type 0 where
  pub ty : d.ty.0 < length trees
  pub body : IsBodyKnown trees d.body

-- the numbers of each of the declarations are of the table
abbrev pub AreDeclsKnown : List Tree → List Decl → Type 0
AreDeclsKnown trees [] = Unit {0}
AreDeclsKnown trees (d ∷ ds) = IsKnown trees d × AreDeclsKnown trees ds

-- the table of a module holds its declarations' trees and, where they should stand, the types of the signature; and no tree has two numbers in it
pub record IsHeld (m : Module) : Type 0 where
  pub types : Pairwise (Holds m.table) signature_ids (map (λ d. d.ty) signature)
  pub decls : AreDeclsKnown m.table m.decls
  pub distinct : IsDistinct m.table
