use Rattle.std.proofs.Common.{ap, sym, ◌∙◌, map}
use Rattle.hol_defs.specs.Indexes.{taken_of}
use Rattle.std.specs.Prelude.{is_some}
use Rattle.std.specs.Map.{lookup}
use Rattle.hol_spec.specs.Lists.{is_in}
use Rattle.hol_spec.specs.NameEquality.{name_eq}
use Rattle.hol_defs.specs.Kinds.{first_kind}
use Rattle.hol_defs.specs.Generics.{generic_of}
use Rattle.hol_defs.proofs.IndexLaws.{constant_kind-found, some-mapped}
use Rattle.hol_defs.proofs.Symbols.const_kind.Goals as goal

pub returns : goal.returns
returns c = rw (← c.self.view_is) (record {
  kind = λ trees h.
      let p = c.is_some.ensures ∙ sym (some-mapped generic_of c.named.result) ∙ ap is_some c.named.ensures in
      let d = c.is_some-2.ensures ∙ ap is_some (c.find.ensures ∙ ap (lookup (name_eq c.args.name.now)) c.self.invariant.generics_are) in
      let i = c.has.ensures ∙ ap (is_in name_eq c.args.name.now) c.self.invariant.inputs_are in
      c.kind_by.ensures ∙ (λ j. first_kind (p j) (d j) (i j)) ∙ sym (constant_kind-found trees c.args.name.now (map taken_of c.self.inside.taken.items) h);
})
