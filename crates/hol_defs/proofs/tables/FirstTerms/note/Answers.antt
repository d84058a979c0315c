use Rattle.std.proofs.Common.{ap, sym, ◌∙◌, ◌++◌, ◌∷◌, []}
use Rattle.std.specs.Prelude.{is_some}
use Rattle.std.specs.Map.{lookup}
use Rattle.hol_defs.specs.Lists.{same_variable}
use Rattle.hol_defs.proofs.FirstTermLaws.{noted, none-found}
use Rattle.hol_defs.proofs.Inserting.{insert_entry-absent}
use Rattle.hol_defs.proofs.tables.FirstTerms.note.Goals as goal

pub returns-then-is_some : goal.returns-then-is_some
returns-then-is_some c = noted c.args.variable c.args.term c.args.self.now (ap is_some (sym c.find.ensures) ∙ sym c.is_some.ensures ∙ c.if-is_some.true)

pub returns : goal.returns
returns c = λ v. ap (lookup (same_variable v)) (
    c.in_ok-insert.ensures.entries
    ∙ insert_entry-absent same_variable c.args.variable c.args.term c.self.inside.terms
    (ap (lookup (same_variable c.args.variable)) c.self.view_is
    ∙ none-found (lookup (same_variable c.args.variable) c.args.self.now) (ap is_some (sym c.find.ensures) ∙ sym c.is_some.ensures ∙ c.if-is_some.false))
    ∙ ap (λ l. l ++ (c.args.variable, c.args.term) ∷ []) c.self.view_is)
