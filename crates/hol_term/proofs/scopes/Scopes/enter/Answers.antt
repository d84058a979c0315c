use Rattle.std.proofs.Common.{◌<◌, length, arith}
use Rattle.std.proofs.lemmas.Option.{slice_get_within}
use Rattle.hol_term.specs.declared.scopes.Scope.{Scope}
use Rattle.hol_term.specs.Scopes.{lists_of}
use Rattle.hol_term.proofs.ScopeLaws.{Entered, entered, entered_at}
use Rattle.hol_term.proofs.scopes.Scopes.enter.Goals as goal

pub invariant_of-self : goal.invariant_of-self
invariant_of-self c =
    let h = rw (← c.self.view_is) at c.requires in (
      (entered c.self.inside.inner.items c.put.new.inner.items (record { outer = c.args.outer; ty = c.args.ty }) c.self.invariant.0 h c.put.ensures.adds).inner,
      c.put.ensures.placed,
    )

pub invariant_of-self-2 : goal.invariant_of-self-2
invariant_of-self-2 c =
    let h = rw (← c.self.view_is) at c.requires in (
      (entered c.self.inside.inner.items c.put.new.inner.items (record { outer = c.args.outer; ty = c.args.ty }) c.self.invariant.0 h c.put.ensures.adds).inner,
      c.put.ensures.placed,
    )

pub overflow_add-result : goal.overflow_add-result
overflow_add-result c =
    let w = slice_get_within c.put.new.inner.items c.in_ok-place.place (record { outer = c.args.outer; ty = c.args.ty }) c.in_ok-place.ensures.at in
    omega (arith, w, c.len-count.ensures)

-- the scope that is put
abbrev scope : goal.After-len-count → Scope
scope c = record { outer = c.args.outer; ty = c.args.ty }

lower : (c : goal.After-len-count) → c.args.outer.0 < length (lists_of c.self.inside.inner.items)
lower c = let h = rw (← c.self.view_is) at c.requires in h

now : (c : goal.After-len-count) → Entered c.self.inside.inner.items c.put.new.inner.items (scope c)
now c = entered c.self.inside.inner.items c.put.new.inner.items (scope c) c.self.invariant.0 (lower c) c.put.ensures.adds

pub returns-clause-entered : goal.returns-clause-entered
returns-clause-entered c =
    rw (← c.self.view_is) (entered_at c.self.inside.inner.items c.put.new.inner.items (scope c) c.in_ok-place.place (now c) (lower c) c.in_ok-place.ensures.at)

pub returns-clause-keeps : goal.returns-clause-keeps
returns-clause-keeps c = rw (← c.self.view_is) (now c).keeps

pub returns-clause-adds : goal.returns-clause-adds
returns-clause-adds c = rw (← c.self.view_is) (now c).adds
