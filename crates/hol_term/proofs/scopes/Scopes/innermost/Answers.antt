use Rattle.std.proofs.Common.{◌≡◌, ap, ◌∙◌, ◌-◌, refl, length, arith}
use Rattle.std.specs.Vec.{vec_len}
use Rattle.std.proofs.lemmas.Grind.{common_steps}
use Rattle.std.proofs.lemmas.Option.{slice_get_read}
use Rattle.hol_term.specs.Scopes.{list_in, lists_of}
use Rattle.hol_term.proofs.ScopeLaws.{list_in-none, innermost_within, innermost_list, innermost_outer}
use Rattle.hol_term.proofs.scopes.Scopes.innermost.Goals as goal

pub returns-then-scope-eq0-clause-none : goal.returns-then-scope-eq0-clause-none
returns-then-scope-eq0-clause-none c = rw (← c.self.view_is)
    (ap (list_in (lists_of c.self.inside.inner.items)) c.if-scope-eq0.true ∙ list_in-none c.self.inside.inner.items)

pub index-requires : goal.index-requires
index-requires c =
    let h = rw (← c.self.view_is) at c.requires in
    let within = innermost_within c.self.inside.inner.items c.args.scope.0 c.self.invariant.0 h c.if-scope-eq0.false in
    let count : vec_len c.self.inside.inner ≡ length c.self.inside.inner.items = grind (arith, common_steps) in
    omega (arith, within, count)

pub returns-clause-some : goal.returns-clause-some
returns-clause-some c =
    let ss = c.self.inside.inner.items in
    let h = rw (← c.self.view_is) at c.requires in
    let within = innermost_within ss c.args.scope.0 c.self.invariant.0 h c.if-scope-eq0.false in
    let at = slice_get_read ss (length ss) (c.args.scope.0 - 1) c.index.result.now refl within c.index.ensures in
    rw (← c.self.view_is) (innermost_list ss c.args.scope.0 c.self.invariant.0 h c.if-scope-eq0.false c.index.result.now at)

pub returns-clause-outer : goal.returns-clause-outer
returns-clause-outer c =
    let ss = c.self.inside.inner.items in
    let h = rw (← c.self.view_is) at c.requires in
    let within = innermost_within ss c.args.scope.0 c.self.invariant.0 h c.if-scope-eq0.false in
    let at = slice_get_read ss (length ss) (c.args.scope.0 - 1) c.index.result.now refl within c.index.ensures in
    innermost_outer ss c.args.scope.0 c.self.invariant.0 h c.if-scope-eq0.false c.index.result.now at
