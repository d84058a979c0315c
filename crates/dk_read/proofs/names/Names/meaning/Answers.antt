use Rattle.std.proofs.Common.{◌∙◌, Some, sym, ap, arith}
use Rattle.std.proofs.lemmas.Option.{slice_get-get_or}
use Rattle.dk_read.specs.Names.{name_at, looked}
use Rattle.dk_read.proofs.Named.{looked-at, within_meanings}
use Rattle.dk_read.proofs.names.Names.meaning.Goals as goal

pub index-requires : goal.index-requires
index-requires c = omega (
  arith,
  c.self.inside.meanings.ok,
  within_meanings c.self.inside.table c.self.inside.meanings.items c.args.self.now c.args.number c.self.view_is c.requires c.self.invariant.each,
)

pub returns : goal.returns
returns c =
    let xs = c.self.inside.table in
    let ms = c.self.inside.meanings.items in
    let within = within_meanings xs ms c.args.self.now c.args.number c.self.view_is c.requires c.self.invariant.each in
    sym (looked-at xs ms c.args.number c.index.result.now c.self.invariant.each c.self.invariant.distinct
    (slice_get-get_or ms c.args.number c.index.result.now within ∙ ap Some (sym c.index.ensures)))
    ∙ ap (λ l. looked l (name_at l c.args.number)) c.self.view_is
