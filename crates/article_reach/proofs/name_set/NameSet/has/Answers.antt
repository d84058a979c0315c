use Rattle.std.proofs.Common.{ap, ◌∙◌}
use Rattle.hol_spec.specs.Lists.{is_in}
use Rattle.hol_spec.specs.NameEquality.{name_eq}
use Rattle.article_reach.proofs.NamesNoted.{contains-is_in}
use Rattle.article_reach.proofs.name_set.NameSet.has.Goals as goal

pub returns : goal.returns
returns c = c.contains.ensures ∙ contains-is_in c.self.inside.names c.args.name.now ∙ ap (is_in name_eq c.args.name.now) c.self.view_is
