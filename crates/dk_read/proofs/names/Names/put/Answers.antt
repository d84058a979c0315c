use Rattle.std.proofs.Common.{◌<◌, ◌∙◌, Some, length, sym, ap, subst, arith}
use Rattle.std.specs.Prelude.{slice_set}
use Rattle.std.proofs.lemmas.List.{length-set}
use Rattle.std.proofs.lemmas.Option.{slice_get-get_or}
use Rattle.dk_read.specs.Names.{names_of, name_at, looked, AreDistinct, Keeps, Puts}
use Rattle.dk_read.proofs.Named.{names_of-set, within_meanings, Keeps-put, Puts-put, AreDistinct-put, looked-at}
use Rattle.dk_read.proofs.names.Names.put.Goals as goal

pub index_mut-requires : goal.index_mut-requires
index_mut-requires c = omega (
  arith,
  c.self.inside.meanings.ok,
  within_meanings c.self.inside.table c.self.inside.meanings.items c.args.self.now c.args.number c.self.view_is c.requires
      c.self.invariant.each,
)

pub invariant_of-self : goal.invariant_of-self
invariant_of-self c =
    let xs = c.self.inside.table in
    let ms = c.self.inside.meanings.items in
    let w = c.replace.new.dest in
    record {
      each = length-set ms c.args.number w ∙ c.self.invariant.each;
      distinct = subst AreDistinct (sym (names_of-set xs ms c.args.number w)) (AreDistinct-put (names_of xs ms) c.args.number w c.self.invariant.distinct);
    }

pub returns-clause-old : goal.returns-clause-old
returns-clause-old c =
    let xs = c.self.inside.table in
    let ms = c.self.inside.meanings.items in
    let within = within_meanings xs ms c.args.self.now c.args.number c.self.view_is c.requires c.self.invariant.each in
    c.replace.ensures.value
    ∙ sym (looked-at xs ms c.args.number c.index_mut.result.now c.self.invariant.each c.self.invariant.distinct
    (slice_get-get_or ms c.args.number c.index_mut.result.now within ∙ ap Some (sym c.index_mut.ensures.value)))
    ∙ ap (λ l. looked l (name_at l c.args.number)) c.self.view_is

pub returns-clause-keeps : goal.returns-clause-keeps
returns-clause-keeps c =
    let xs = c.self.inside.table in
    let ms = c.self.inside.meanings.items in
    let w = c.replace.new.dest in
    subst (λ l. Keeps l (names_of xs (slice_set ms c.args.number w))) c.self.view_is
    (subst (Keeps (names_of xs ms)) (sym (names_of-set xs ms c.args.number w)) (Keeps-put (names_of xs ms) c.args.number w))

pub returns-clause-puts : goal.returns-clause-puts
returns-clause-puts c =
    let xs = c.self.inside.table in
    let ms = c.self.inside.meanings.items in
    let w = c.replace.new.dest in
    let within : c.args.number < length (names_of xs ms) = subst (λ l. c.args.number < length l) (sym c.self.view_is) c.requires in
    subst (λ l. Puts l (name_at l c.args.number) c.args.new (names_of xs (slice_set ms c.args.number w))) c.self.view_is
    (subst (λ v. Puts (names_of xs ms) (name_at (names_of xs ms) c.args.number) v (names_of xs (slice_set ms c.args.number w))) c.replace.ensures.after
    (subst (Puts (names_of xs ms) (name_at (names_of xs ms) c.args.number) w) (sym (names_of-set xs ms c.args.number w))
    (Puts-put (names_of xs ms) c.args.number w c.self.invariant.distinct within)))
