use Rattle.std.proofs.Common.{[], ◌∷◌, ap, sym, ◌∙◌}
use Rattle.hol_spec.specs.Lists.{union}
use Rattle.hol_spec.specs.NameEquality.{name_eq}
use Rattle.hol_laws.specs.ListLaws.{union-append}
use Rattle.hol_defs.proofs.tables.NameSet.unite.Goals as goal

pub loop-name-preserved : goal.loop-name-preserved
loop-name-preserved c =
    c.in_ok-add.ensures.added
    ∙ ap (λ l. union name_eq l (c.in-Some.name ∷ [])) c.loop-name.invariant
    ∙ sym (union-append name_eq c.loop-name.yielded (c.in-Some.name ∷ []) c.args.self.now)
