-- A reading before its first token, whatever the table.
use Rattle.std.specs.Prelude.{◌≡◌, [], length, replicate, None}
use Rattle.lp_spec.specs.Modules.{signature}
use Rattle.lp_spec.specs.declared.form.Form.TheVariants.{Symbol}
use Rattle.dk_read.specs.declared.parser.Parser.{Parser}
use Rattle.dk_read.specs.declared.terms.Head.TheVariants as head
use Rattle.dk_read.specs.declared.terms.State.TheVariants as state
use Rattle.dk_read.specs.Names.{IsNameless, HasSymbols}

-- nothing is declared or open, no node is kept, and the names are those of the signature and the empty one
pub record IsFirst (p : Parser) : Type 0 where
  pub decls : p.module.decls ≡ []
  pub nameless : IsNameless p.names p.nameless
  pub symbols : HasSymbols p.names (length signature)
  pub frames : p.frames.items ≡ []
  pub variables : p.atoms.variables.items ≡ []
  pub kept : p.atoms.symbols.items ≡ replicate (length signature) None
  pub binders : p.binders ≡ 0
  pub head : p.head ≡ head.TypeOf Symbol p.nameless
  pub state : p.state ≡ state.Between
