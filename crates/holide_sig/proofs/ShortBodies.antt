-- The number of the tree for which a name is short stands for that tree, and is of the table.
use Rattle.std.proofs.Common.{◌≡◌, ◌<◌, refl, Bool, true, false, List, length, Option, Some, None}
use Rattle.std.specs.Prelude.{if◌then◌else◌, IfSome, option_map}
use Rattle.lp_spec.specs.declared.form.Form.{Form}
use Rattle.lp_spec.specs.declared.form.Form.TheVariants.{Symbol, Def, Thm}
use Rattle.lp_spec.specs.Trees.{Tree}
use Rattle.lp_spec.specs.Conversion.{definition_of}
use Rattle.lp_spec.specs.ShortNames.{is_short_name, short_body}
use Rattle.lp_term.specs.declared.LpId.{LpId}
use Rattle.lp_term.specs.Tables.{tree_at}
use Rattle.holide_sig.specs.declared.decls.Decl.{Decl}
use Rattle.holide_sig.specs.Modules.{declaration_in, IsBodyKnown, IsKnown}
use Rattle.holide_sig.specs.ShortIds.{body_number, short_id}

body_number-tree : (ts : List Tree) (f : Form) (body : Option LpId) → option_map (λ (id : LpId). tree_at ts id.0) (body_number f body)
    ≡ definition_of f (option_map (λ (id : LpId). tree_at ts id.0) body)
body_number-tree ts Symbol body = refl
body_number-tree ts Def body = refl
body_number-tree ts Thm body = refl

pub short_id-tree : (ts : List Tree) (d : Decl) → option_map (λ (id : LpId). tree_at ts id.0) (short_id d) ≡ short_body (declaration_in ts d)
short_id-tree ts d = go (is_short_name d.name)
  where
    go : (b : Bool) → option_map (λ (id : LpId). tree_at ts id.0) (if b then body_number d.form d.body else None)
        ≡ (if b then definition_of d.form (option_map (λ (id : LpId). tree_at ts id.0) d.body) else None)
    go true = body_number-tree ts d.form d.body
    go false = refl

known_body : (ts : List Tree) (f : Form) (body : Option LpId) → IsBodyKnown ts body → IsBodyKnown ts (body_number f body)
known_body ts Symbol body h = tt
known_body ts Def body h = h
known_body ts Thm body h = tt

some_known : (ts : List Tree) (body : Option LpId) → IsBodyKnown ts body → IfSome body (λ (id : LpId). id.0 < length ts)
some_known ts None h = tt
some_known ts (Some id) h = h

pub short_id-known : (ts : List Tree) (d : Decl) → IsKnown ts d → IfSome (short_id d) (λ (id : LpId). id.0 < length ts)
short_id-known ts d h = some_known ts (short_id d) (go (is_short_name d.name))
  where
    go : (b : Bool) → IsBodyKnown ts (if b then body_number d.form d.body else None)
    go true = known_body ts d.form d.body h.body
    go false = tt
