use Rattle.std.proofs.Common.{ap, sym, ◌∙◌, map}
use Rattle.hol_defs.specs.Indexes.{taken_of}
use Rattle.std.specs.Prelude.{is_some}
use Rattle.std.specs.Map.{lookup}
use Rattle.hol_spec.specs.NameEquality.{name_eq}
use Rattle.hol_defs.specs.Kinds.{first_kind}
use Rattle.hol_defs.proofs.IndexLaws.{operator_kind-found}
use Rattle.hol_defs.proofs.Symbols.op_kind.Goals as goal

pub returns : goal.returns
returns c = rw (← c.self.view_is) (record {
  kind = λ trees.
      let p = c.is_some.ensures ∙ ap is_some c.arity_of.ensures in
      let d = c.is_some-2.ensures ∙ ap is_some (c.find.ensures ∙ ap (lookup (name_eq c.args.name.now)) c.self.invariant.arities_are) in
      let i = c.has.ensures ∙ c.self.invariant.names_are c.args.name.now in
      c.kind_by.ensures ∙ (λ j. first_kind (p j) (d j) (i j)) ∙ sym (operator_kind-found trees c.args.name.now (map taken_of c.self.inside.taken.items));
})
