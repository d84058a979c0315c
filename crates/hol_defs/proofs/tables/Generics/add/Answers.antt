use Rattle.std.proofs.Common.{ap, ◌∙◌, ◌++◌, ◌∷◌, []}
use Rattle.std.specs.Map.{lookup}
use Rattle.tree_map.specs.Entries.{insert_entry}
use Rattle.hol_spec.specs.NameEquality.{name_eq}
use Rattle.hol_defs.proofs.Inserting.{insert_entry-absent}
use Rattle.hol_defs.proofs.tables.Generics.add.Goals as goal

pub returns-clause-added : goal.returns-clause-added
returns-clause-added c =
    c.in_ok-insert.ensures.entries ∙ ap (λ n. insert_entry name_eq c.self.inside.types n c.args.ty) c.in_ok-own.ensures.cases
    ∙ insert_entry-absent name_eq c.args.name.now c.args.ty c.self.inside.types (ap (lookup (name_eq c.args.name.now)) c.self.view_is ∙ c.requires)
    ∙ ap (λ l. l ++ (c.args.name.now, c.args.ty) ∷ []) c.self.view_is
