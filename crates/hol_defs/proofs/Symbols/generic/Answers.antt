use Rattle.std.proofs.Common.{ap, sym, ◌∙◌, subst, ◌<◌, length, map}
use Rattle.hol_defs.specs.Indexes.{taken_of}
use Rattle.std.specs.Prelude.{IfSome}
use Rattle.std.proofs.Math.Path.{ap₂}
use Rattle.std.specs.Map.{lookup}
use Rattle.std.specs.Option.{option_or, option_map}
use Rattle.hol_spec.specs.NameEquality.{name_eq}
use Rattle.hol_defs.specs.Generics.{number_at}
use Rattle.hol_defs.proofs.IndexLaws.{generics-found, generics-known}
use Rattle.hol_defs.proofs.Symbols.generic.Goals as goal

pub returns-clause-tells : goal.returns-clause-tells
returns-clause-tells c = rw (← c.self.view_is) (λ trees h.
    c.told.ensures.tells trees.types ∙ ap₂ option_or c.named.ensures (
    ap (option_map (number_at trees.types)) (c.find.ensures ∙ ap (lookup (name_eq c.args.name.now)) c.self.invariant.generics_are)
    ∙ sym (generics-found trees c.args.name.now (map taken_of c.self.inside.taken.items) h)))

pub returns-clause-known : goal.returns-clause-known
returns-clause-known c = rw (← c.self.view_is) (λ trees h.
    c.told.ensures.known trees.types
    (subst (λ o. IfSome o (λ a. a.0 < length trees.types)) (sym (c.find.ensures ∙ ap (lookup (name_eq c.args.name.now)) c.self.invariant.generics_are))
    (generics-known trees c.args.name.now (map taken_of c.self.inside.taken.items) h)))
