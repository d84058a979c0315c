-- Trees whose symbols have other numbers: the signature's stay, and the i-th declaration after it is at another place.
use Rattle.std.specs.Prelude.{ℕ, ◌+◌, ◌-◌, nat_lt, if◌then◌else◌, length, option_map}
use Rattle.lp_spec.specs.Trees.{Tree, SortType, SortKind, Var, Sym, App, Lam, Pi}
use Rattle.lp_spec.specs.Modules.{Declaration, signature}

-- the number of a symbol where the i-th declaration is at the place of i
abbrev pub moved_symbol : (ℕ → ℕ) → ℕ → ℕ
moved_symbol place s = if nat_lt s (length signature) then s else length signature + place (s - length signature)

abbrev pub moved : (ℕ → ℕ) → Tree → Tree
moved place SortType = SortType
moved place SortKind = SortKind
moved place (Var n) = Var n
moved place (Sym s) = Sym (moved_symbol place s)
moved place (App f x) = App (moved place f) (moved place x)
moved place (Lam a b) = Lam (moved place a) (moved place b)
moved place (Pi a b) = Pi (moved place a) (moved place b)

abbrev pub moved_declaration : (ℕ → ℕ) → Declaration → Declaration
moved_declaration place d = record { name = d.name; form = d.form; ty = moved place d.ty; body = option_map (moved place) d.body }
