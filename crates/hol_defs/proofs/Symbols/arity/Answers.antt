use Rattle.std.proofs.Common.{ap, sym, ◌∙◌, map}
use Rattle.hol_defs.specs.Indexes.{taken_of}
use Rattle.std.proofs.Math.Path.{ap₂}
use Rattle.std.specs.Map.{lookup}
use Rattle.std.specs.Option.{option_or}
use Rattle.hol_spec.specs.NameEquality.{name_eq}
use Rattle.hol_defs.proofs.IndexLaws.{arities-found}
use Rattle.hol_defs.proofs.Symbols.arity.Goals as goal

pub returns : goal.returns
returns c = λ trees. rw (← c.self.view_is) (
    c.or.ensures ∙ ap₂ option_or c.arity_of.ensures
    (c.find.ensures ∙ ap (lookup (name_eq c.args.name.now)) c.self.invariant.arities_are
    ∙ sym (arities-found trees c.args.name.now (map taken_of c.self.inside.taken.items))))
