use Rattle.std.proofs.Common.{◌≡◌}
use Rattle.hol_spec.specs.Terms.{free}
use Rattle.hol_term.specs.Tables.{term_at, type_at}
use Rattle.hol_term.specs.TableLaws.{Some-term_in}
use Rattle.hol_term.proofs.FoundLaws.{variables_of-last, HaveTypes-last}
use Rattle.hol_term.proofs.TermTable.push_free.Goals as goal

pub returns-in_ok-push-in-Free-clause-variables : goal.returns-in_ok-push-in-Free-clause-variables
returns-in_ok-push-in-Free-clause-variables c =
    let is : term_at c.args.self.now c.args.id.0 ≡ free c.in-Free.name (type_at c.args.self.now c.in-Free.ty.0) =
    Some-term_in c.args.self.now.terms c.args.id.0 _ (rw c.in-Free.is at c.entry.ensures.is) in
    rw (c.in_ok-push-in-Free.ensures.items, c.in_ok-name-in-Free.ensures.cases, is) (variables_of-last c.args.self.now c.args.found.now.items _)

pub returns-in_ok-push-in-Free-clause-known : goal.returns-in_ok-push-in-Free-clause-known
returns-in_ok-push-in-Free-clause-known c =
    rw c.in_ok-push-in-Free.ensures.items (HaveTypes-last c.args.self.now c.args.found.now.items _ (rw c.in-Free.is at c.entry.ensures.lower))
