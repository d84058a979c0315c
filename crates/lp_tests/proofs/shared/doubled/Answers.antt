use Rattle.std.proofs.Common.{◌≡◌, ap, sym, ◌∙◌, subst}
use Rattle.lp_spec.specs.Trees.{App, Sym}
use Rattle.lp_term.specs.Tables.{tree_at, Holds}
use Rattle.lp_term.specs.TableLaws.{Holds-tree_at, Keeps-trans, tree_at-Stays}
use Rattle.lp_tests.proofs.Declared.{open-doubled}
use Rattle.lp_tests.proofs.shared.doubled.Goals as goal
use Rattle.std.proofs.Math.Path.{ap₂}

pub loop-preserved : goal.loop-preserved
loop-preserved c =
    let i = c.loop.invariant in
    let old = c.loop.table in
    let one = c.node-in-loop.new.self in
    let two = c.node-in-loop-2.new.self in
    let k = c.node-in-loop.ensures.keeps in
    let l = c.node-in-loop-2.ensures.keeps in
    let t = tree_at old c.loop.id.0 in
    let half : tree_at one c.in_ok-half.half.0 ≡ App (Sym 3) t =
    Holds-tree_at one c.in_ok-half.half.0 _ c.in_ok-half.ensures.made ∙ ap (λ a. App a t) (Holds-tree_at old c.in_ok-arr.arr.0 (Sym 3) i.arr) in
    let made : Holds two c.in_ok-id.id.0 (App (App (Sym 3) t) t) =
    subst (Holds two c.in_ok-id.id.0) (ap₂ App half (sym (tree_at-Stays k.stays c.loop.id.0 i.known))) c.in_ok-id.ensures.made in
    record {
      keeps = Keeps-trans i.keeps (Keeps-trans k l);
      arr = l.stays.each c.in_ok-arr.arr.0 (Sym 3) (k.stays.each c.in_ok-arr.arr.0 (Sym 3) i.arr);
      known = c.in_ok-id.ensures.known;
      «open» = λ binders count le h. open-doubled binders count old two c.loop.id c.in_ok-id.id le made (i.«open» binders count le h);
    }
