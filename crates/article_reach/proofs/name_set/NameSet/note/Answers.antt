use Rattle.std.proofs.Common.{◌||◌, ap, sym, ◌∙◌}
use Rattle.hol_spec.specs.Lists.{is_in}
use Rattle.hol_spec.specs.NameEquality.{name_eq}
use Rattle.article_reach.proofs.NamesNoted.{noted-known, noted-more}
use Rattle.article_reach.proofs.name_set.NameSet.note.Goals as goal

pub returns-then-has : goal.returns-then-has
returns-then-has c n = noted-known c.args.self.now c.args.name.now n (sym c.has.ensures ∙ c.if-has.true)

pub returns : goal.returns
returns c n =
    noted-more c.self.inside.names c.insert.new.self c.in_ok-clone.field-0 n (c.in_ok-insert.ensures.updates.0 n)
    ∙ (λ i. is_in name_eq n (c.self.view_is i) || name_eq n (c.in_ok-clone.ensures.cases i))
