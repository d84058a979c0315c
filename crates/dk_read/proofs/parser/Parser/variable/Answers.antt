use Rattle.std.proofs.Common.{◌≡◌, ◌∙◌, List, sym, ap, slice_get, Some}
use Rattle.std.proofs.lemmas.Option.{slice_get-get_or}
use Rattle.lp_spec.specs.Trees.{Var}
use Rattle.lp_term.specs.declared.LpId.{LpId}
use Rattle.lp_term.specs.Tables.{Holds}
use Rattle.lp_term.specs.TableLaws.{Holds-within}
use Rattle.dk_read.proofs.parser.Parser.variable.Goals as goal

found : (c : goal.After-result-1) → slice_get c.args.self.now.atoms.variables.items c.args.number ≡ Some c.in-Some.id.now
found c =
    let id = c.in-Some.id.now in
    let item = c.in-Some.ensures.lookup.3 in
    ap (λ (l : List LpId). slice_get l c.args.number) (sym c.deref.ensures.value) ∙ slice_get-get_or c.deref.result.now c.args.number id item.0
    ∙ ap Some (sym (item.1 id))

holds : (c : goal.After-result-1) → Holds c.args.self.now.module.table c.in-Some.id.now.0 (Var c.args.number)
holds c = c.requires.sound.atoms.0 c.args.number c.in-Some.id.now (found c)

pub returns-in-Some-clause-known : goal.returns-in-Some-clause-known
returns-in-Some-clause-known c = Holds-within c.args.self.now.module.table c.in-Some.id.now.0 (Var c.args.number) (holds c)

pub returns-in-Some-clause-made : goal.returns-in-Some-clause-made
returns-in-Some-clause-made c = holds c

pub returns-in-Some-clause-kept : goal.returns-in-Some-clause-kept
returns-in-Some-clause-kept c = λ few. found c
