-- The tree for which the name of a declaration is short, by its number.
use Rattle.std.specs.Prelude.{nat_eq, Bool, false, if◌then◌else◌, Option, None, Some}
use Rattle.lp_spec.specs.declared.form.Form.{Form}
use Rattle.lp_spec.specs.declared.form.Form.TheVariants.{Symbol, Def, Thm}
use Rattle.lp_spec.specs.ShortNames.{is_short_name}
use Rattle.lp_term.specs.declared.LpId.{LpId}
use Rattle.holide_sig.specs.declared.decls.Decl.{Decl}

-- a number is that one
abbrev pub is_id : Option LpId → LpId → Bool
is_id None id = false
is_id (Some body) id = nat_eq body.0 id.0

-- the number of the body of a definition
abbrev pub body_number : Form → Option LpId → Option LpId
body_number Symbol body = None
body_number Def body = body
body_number Thm body = None

-- the number of the tree for which the name of a declaration is short
abbrev pub short_id : Decl → Option LpId
short_id d = if is_short_name d.name then body_number d.form d.body else None
