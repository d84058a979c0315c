use Rattle.std.proofs.Common.{◌≡◌, ◌∙◌, sym, ap, subst}
use Rattle.std.specs.Prelude.{IfOk}
use Rattle.dk_read.specs.Names.{name_at}
use Rattle.dk_read.proofs.Named.{name_at-names_of}
use Rattle.dk_read.proofs.names.Names.copied.Goals as goal

pub returns : goal.returns
returns c =
    subst (λ x. IfOk c.copied.result (λ bytes. bytes.items ≡ x))
    (sym (name_at-names_of c.self.inside.table c.self.inside.meanings.items c.args.number c.self.invariant.each)
    ∙ ap (λ l. name_at l c.args.number) c.self.view_is) c.copied.ensures
