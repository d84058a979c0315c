use Rattle.std.proofs.Common.{arith, ap, sym, subst, ◌∷◌, ◌≡◌, ◌∙◌}
use Rattle.hol_term.specs.Tables.{terms_at, AreKnown}
use Rattle.hol_term.specs.TableLaws.{AreKnown-Keeps}
use Rattle.decode_back.specs.TermTasks.{IsTermWalk}
use Rattle.decode_back.proofs.TermTurns.{apply-short, apply-paid}
use Rattle.decode_back.proofs.compounds.apply.Goals as goal

pub returns-then-not-spend-clause-turned : goal.returns-then-not-spend-clause-turned
returns-then-not-spend-clause-turned c d trees at types wanted tasks w =
    let short = c.spend.ensures.short c.if-not-spend.true in
    apply-short d trees at types wanted c.args.table.now tasks w.0 c.args.budget.now w.2 (omega (arith, short))

pub returns-clause-turned : goal.returns-clause-turned
returns-clause-turned c d trees at types wanted tasks w =
    let is : c.args.made.now ≡ c.take-argument.result ∷ c.take-function.result ∷ c.take-function.new.made =
    c.take-argument.ensures ∙ ap (λ l. c.take-argument.result ∷ l) c.take-function.ensures in
    let known : AreKnown c.args.table.now (c.take-argument.result ∷ c.take-function.result ∷ c.take-function.new.made) =
    subst (AreKnown c.args.table.now) is c.requires.known in
    subst (IsTermWalk d trees at types wanted c.raw_application.new.self c.spend.new.budget tasks) (sym c.in_ok-push.ensures.pushed)
    (apply-paid d trees at types wanted c.args.table.now c.raw_application.new.self c.raw_application.ensures.keeps tasks w.0 c.args.budget.now
    c.spend.new.budget w.2 (c.spend.ensures.paid c.if-not-spend.false)
    c.take-argument.result c.take-function.result c.in_ok-raw_application.field-0 c.take-function.new.made (ap (terms_at c.args.table.now) (sym is) ∙ w.1)
    known.1.1 c.in_ok-raw_application.ensures.made)

pub returns-clause-known : goal.returns-clause-known
returns-clause-known c e =
    let is : c.args.made.now ≡ c.take-argument.result ∷ c.take-function.result ∷ c.take-function.new.made =
    c.take-argument.ensures ∙ ap (λ l. c.take-argument.result ∷ l) c.take-function.ensures in
    let known : AreKnown c.args.table.now (c.take-argument.result ∷ c.take-function.result ∷ c.take-function.new.made) =
    subst (AreKnown c.args.table.now) is c.requires.known in
    subst (AreKnown c.raw_application.new.self) (sym c.in_ok-push.ensures.pushed)
    (c.in_ok-raw_application.ensures.known, AreKnown-Keeps c.raw_application.ensures.keeps c.take-function.new.made known.1.1)
