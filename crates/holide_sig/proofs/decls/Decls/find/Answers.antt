use Rattle.std.proofs.Common.{◌≡◌, ◌∙◌, ap, subst, map, position, IfSome}
use Rattle.std.specs.Str.{bytes_eq}
use Rattle.name_table.specs.Places.{number_of}
use Rattle.holide_sig.specs.declared.decls.Decl.{Decl}
use Rattle.holide_sig.proofs.NamedDecls.{number_of-names}
use Rattle.holide_sig.proofs.decls.Decls.find.Goals as goal

pub returns-in-Some-clause-place : goal.returns-in-Some-clause-place
returns-in-Some-clause-place c =
    let decls = c.self.inside.decls.items in
    let names : c.in-Some.names ≡ map (λ (d : Decl). d.name) decls =
    subst (λ o. IfSome o (λ names. names ≡ map (λ (d : Decl). d.name) decls)) c.in-Some.is c.self.invariant.0 in
    c.find.ensures ∙ ap (λ names. number_of names c.args.name.now) names ∙ number_of-names decls c.args.name.now
    ∙ ap (position (λ d. bytes_eq d.name c.args.name.now)) c.self.view_is
