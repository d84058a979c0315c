use Rattle.std.proofs.Common.{ap, arith, sym, subst, ◌≡◌, ◌<◌, ◌+◌, ◌*◌, ◌∙◌, []}
use Rattle.lp_spec.specs.Trees.{Sym, Lam, size}
use Rattle.lp_spec.specs.Modules.{applied}
use Rattle.lp_term.specs.Tables.{tree_at, trees_at}
use Rattle.hol_term.specs.TableLaws.{Keeps-refl}
use Rattle.holide_sig.specs.Modules.{declarations_of}
use Rattle.decode_spec.specs.Decode.{term_from}
use Rattle.decode_back.specs.Walks.{at_place}
use Rattle.decode_back.specs.TermWalks.{NoTermWithin}
use Rattle.decode_back.specs.TermTasks.{under, term_work}
use Rattle.decode_back.proofs.TypeWalk.{IfOk-weaker, at-Holds}
use Rattle.decode_back.proofs.HeadLemmas.{head-at, variable-head, inside-is}
use Rattle.decode_back.proofs.TermLemmas.{node-no_head}
use Rattle.decode_back.proofs.TermTurns.{turn-found, turn-lam, shaped-found, shaped-lam, less-found, less-lam, head-taken, nothing-taken}
use Rattle.decode_back.proofs.terms.visit_head.Goals as goal

pub returns-in_ok-found-in-Sym-clause-turned : goal.returns-in_ok-found-in-Sym-clause-turned
returns-in_ok-found-in-Sym-clause-turned c =
    IfOk-weaker _ _ c.go_on.result c.go_on.ensures (λ goes_on kept tree spine types wanted vs w.
    turn-found (declarations_of c.args.source.base.now) c.args.source.base.now.table (under c.args.source.place) types wanted c.args.table.now
    c.constant.new.table c.constant.ensures.keeps tree c.args.source.place.binders c.args.level c.requires.positive c.args.walk.now.tasks
    c.args.walk.now.made c.requires.made c.args.walk.now.budget w
    c.constant.new.budget (tree_at c.args.source.base.now.table c.args.head.0) c.args.args.now c.constant.new.args spine c.in_ok-found-in-Sym.found goes_on
    c.go_on.new.tasks c.go_on.new.made
    (head-at (declarations_of c.args.source.base.now) (at_place c.args.source.place) types c.args.level c.args.walk.now.budget c.constant.new.budget
    (trees_at c.args.source.base.now.table c.args.args.now) c.constant.new.table c.in_ok-found-in-Sym.found
    (tree_at c.args.source.base.now.table c.args.head.0) (trees_at c.args.source.base.now.table c.constant.new.args) (Sym c.in-Sym.symbol)
    (at-Holds c.args.source.base.now.table c.args.head.0 _ c.in-Sym.ensures.is) (c.in_ok-found-in-Sym.ensures.decoded types))
    kept)

pub returns-in_ok-found-in-Sym-clause-shaped : goal.returns-in_ok-found-in-Sym-clause-shaped
returns-in_ok-found-in-Sym-clause-shaped c =
    IfOk-weaker _ _ c.go_on.result c.go_on.ensures (λ goes_on kept.
    shaped-found c.args.source.base.now.table c.args.table.now c.constant.new.table c.constant.ensures.keeps c.args.source.place.binders c.args.level
    c.requires.positive c.requires.level c.constant.new.args c.in_ok-found-in-Sym.ensures.args c.args.walk.now.tasks c.go_on.new.tasks c.args.walk.now.made
    c.go_on.new.made
    c.requires.made c.requires.tasks c.in_ok-found-in-Sym.found goes_on c.in_ok-found-in-Sym.ensures.known kept)

pub returns-in_ok-found-in-Sym-clause-less : goal.returns-in_ok-found-in-Sym-clause-less
returns-in_ok-found-in-Sym-clause-less c =
    IfOk-weaker _ _ c.go_on.result c.go_on.ensures (λ goes_on kept.
    less-found c.args.source.base.now.table c.args.source.place.binders c.args.level (tree_at c.args.source.base.now.table c.args.head.0) c.args.args.now
    c.constant.new.args c.args.walk.now.tasks c.go_on.new.tasks c.args.walk.now.made c.go_on.new.made c.in_ok-found-in-Sym.found goes_on
    (head-taken (declarations_of c.args.source.base.now) (at_place c.args.source.place) [] c.args.level c.args.walk.now.budget c.constant.new.budget
    (Sym c.in-Sym.symbol) (trees_at c.args.source.base.now.table c.args.args.now) (trees_at c.args.source.base.now.table c.constant.new.args)
    c.constant.new.table c.in_ok-found-in-Sym.found (c.in_ok-found-in-Sym.ensures.decoded []))
    kept)

pub returns-in_ok-found-in-Var-clause-turned : goal.returns-in_ok-found-in-Var-clause-turned
returns-in_ok-found-in-Var-clause-turned c =
    IfOk-weaker _ _ c.go_on-in-Var.result c.go_on-in-Var.ensures (λ goes_on kept tree spine types wanted vs w.
    turn-found (declarations_of c.args.source.base.now) c.args.source.base.now.table (under c.args.source.place) types wanted c.args.table.now
    c.variable.new.table c.variable.ensures.keeps tree c.args.source.place.binders c.args.level c.requires.positive c.args.walk.now.tasks
    c.args.walk.now.made c.requires.made c.args.walk.now.budget w
    c.variable.new.budget (tree_at c.args.source.base.now.table c.args.head.0) c.args.args.now c.args.args.now spine c.in_ok-found-in-Var.found goes_on
    c.go_on-in-Var.new.tasks c.go_on-in-Var.new.made
    (variable-head (declarations_of c.args.source.base.now) (at_place c.args.source.place) types c.args.level c.args.walk.now.budget c.variable.new.budget
    (trees_at c.args.source.base.now.table c.args.args.now) c.variable.new.table c.in_ok-found-in-Var.found
    (tree_at c.args.source.base.now.table c.args.head.0) c.in-Var.number
    (at-Holds c.args.source.base.now.table c.args.head.0 _ c.in-Var.ensures.is) (c.in_ok-found-in-Var.ensures.decoded c.args.level types vs))
    kept)

pub returns-in_ok-found-in-Var-clause-shaped : goal.returns-in_ok-found-in-Var-clause-shaped
returns-in_ok-found-in-Var-clause-shaped c =
    IfOk-weaker _ _ c.go_on-in-Var.result c.go_on-in-Var.ensures (λ goes_on kept.
    shaped-found c.args.source.base.now.table c.args.table.now c.variable.new.table c.variable.ensures.keeps c.args.source.place.binders c.args.level
    c.requires.positive c.requires.level c.args.args.now c.requires.args c.args.walk.now.tasks c.go_on-in-Var.new.tasks c.args.walk.now.made
    c.go_on-in-Var.new.made
    c.requires.made c.requires.tasks c.in_ok-found-in-Var.found goes_on c.in_ok-found-in-Var.ensures.known kept)

pub returns-in_ok-found-in-Var-clause-less : goal.returns-in_ok-found-in-Var-clause-less
returns-in_ok-found-in-Var-clause-less c =
    IfOk-weaker _ _ c.go_on-in-Var.result c.go_on-in-Var.ensures (λ goes_on kept.
    less-found c.args.source.base.now.table c.args.source.place.binders c.args.level (tree_at c.args.source.base.now.table c.args.head.0) c.args.args.now
    c.args.args.now c.args.walk.now.tasks c.go_on-in-Var.new.tasks c.args.walk.now.made c.go_on-in-Var.new.made c.in_ok-found-in-Var.found goes_on
    (nothing-taken (trees_at c.args.source.base.now.table c.args.args.now) c.in_ok-found-in-Var.found) kept)

pub returns-in_ok-found-in-Lam-clause-turned : goal.returns-in_ok-found-in-Lam-clause-turned
returns-in_ok-found-in-Lam-clause-turned c =
    let is : tree_at c.args.source.base.now.table c.args.head.0
    ≡ Lam (tree_at c.args.source.base.now.table c.in-Lam.domain.0) (tree_at c.args.source.base.now.table c.in-Lam.body.0) =
    at-Holds c.args.source.base.now.table c.args.head.0 _ c.in-Lam.ensures.is in
    IfOk-weaker _ _ c.go_under.result c.go_under.ensures (λ goes_on kept tree spine types wanted vs w.
    turn-lam (declarations_of c.args.source.base.now) c.args.source.base.now.table (under c.args.source.place) types wanted c.args.table.now
    c.binder.new.table c.binder.ensures.keeps tree c.args.source.place.binders c.args.level c.requires.positive c.args.walk.now.tasks c.args.walk.now.made
    c.requires.made c.args.walk.now.budget w
    (tree_at c.args.source.base.now.table c.in-Lam.domain.0) c.in-Lam.body c.args.args.now
    (ap (λ A. applied A (trees_at c.args.source.base.now.table c.args.args.now)) (sym is) ∙ spine)
    (inside-is c.args.source.place.type_variables c.args.source.place.free_variables c.args.source.place.hypotheses c.args.source.place.binders)
    c.requires.budget (omega (arith, c.requires.level)) c.in_ok-found-in-Lam.found goes_on c.go_under.new.tasks
    c.in_ok-found-in-Lam.ensures.decoded kept)

pub returns-in_ok-found-in-Lam-clause-shaped : goal.returns-in_ok-found-in-Lam-clause-shaped
returns-in_ok-found-in-Lam-clause-shaped c =
    IfOk-weaker _ _ c.go_under.result c.go_under.ensures (λ goes_on kept.
    shaped-lam c.args.source.base.now.table c.args.table.now c.binder.new.table c.binder.ensures.keeps c.args.source.place.binders c.args.level
    c.requires.positive c.requires.level c.in-Lam.body (omega (arith, c.in-Lam.ensures.lower.1, c.requires.known)) c.args.args.now c.requires.args
    c.args.walk.now.tasks c.go_under.new.tasks c.args.walk.now.made
    c.requires.made c.requires.tasks c.in_ok-found-in-Lam.found goes_on c.in_ok-found-in-Lam.ensures.known kept)

pub returns-in_ok-found-in-Lam-clause-less : goal.returns-in_ok-found-in-Lam-clause-less
returns-in_ok-found-in-Lam-clause-less c =
    let is : tree_at c.args.source.base.now.table c.args.head.0
    ≡ Lam (tree_at c.args.source.base.now.table c.in-Lam.domain.0) (tree_at c.args.source.base.now.table c.in-Lam.body.0) =
    at-Holds c.args.source.base.now.table c.args.head.0 _ c.in-Lam.ensures.is in
    IfOk-weaker _ _ c.go_under.result c.go_under.ensures (λ goes_on kept e.
    subst (λ A. term_work c.args.source.base.now.table c.go_under.new.tasks < 2 * size (applied A (trees_at c.args.source.base.now.table c.args.args.now)) +
    term_work c.args.source.base.now.table c.args.walk.now.tasks) (sym is)
    (less-lam c.args.source.base.now.table c.args.source.place.binders c.args.level (tree_at c.args.source.base.now.table c.in-Lam.domain.0) c.in-Lam.body
    c.args.args.now c.args.walk.now.tasks c.go_under.new.tasks c.in_ok-found-in-Lam.found goes_on kept e))

pub returns-in-SortType : goal.returns-in-SortType
returns-in-SortType c = record {
  turned = λ tree spine types wanted vs w.
      w.2.0 (subst (λ A. NoTermWithin types c.args.walk.now.budget c.args.level
      (term_from (declarations_of c.args.source.base.now) A (at_place c.args.source.place))) spine
      (node-no_head (declarations_of c.args.source.base.now) (at_place c.args.source.place) types c.args.level c.args.walk.now.budget c.args.walk.now.budget
      c.args.source.base.now.table (trees_at c.args.source.base.now.table c.args.args.now) (trees_at c.args.source.base.now.table c.args.args.now)
      c.args.table.now (tree_at c.args.source.base.now.table c.args.head.0) c.view.result
      (at-Holds c.args.source.base.now.table c.args.head.0 _ c.view.ensures.is) c.requires.head c.in-SortType.is));
  shaped = λ e. absurd (cc);
  less = λ e. absurd (cc);
  budget = omega arith;
  keeps = Keeps-refl c.args.table.now;
}

pub constant-requires-clause-source : goal.constant-requires-clause-source
constant-requires-clause-source c = c.requires.source.readable

pub binder-requires-clause-source : goal.binder-requires-clause-source
binder-requires-clause-source c = c.requires.source.readable
