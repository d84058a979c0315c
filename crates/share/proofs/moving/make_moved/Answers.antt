use Rattle.std.proofs.Common.{ap, subst, sym, arith, ◌∙◌, length, length-append, [], ◌∷◌}
use Rattle.lp_term.specs.TableLaws.{Holds-tree_at, Keeps-trans}
use Rattle.share_spec.specs.MovedTrees.{moved}
use Rattle.share.specs.Moving.{place_by, IsMovedNode}
use Rattle.share.proofs.MovingLaws.{moved_tree, one_made}
use Rattle.share.proofs.moving.make_moved.Goals as goal

pub node-requires : goal.node-requires
node-requires c =
    let place = place_by c.args.places.now c.args.more in
    (moved_tree place c.args.source.now c.loop-i.target c.loop-i.made.items c.view.result c.in_ok-node.node c.loop-i.invariant.made
    (subst (λ xs. IsMovedNode place xs c.view.result c.in_ok-node.node) c.deref.ensures.value c.in_ok-node.ensures)).1

pub loop-i-preserved : goal.loop-i-preserved
loop-i-preserved c =
    let place = place_by c.args.places.now c.args.more in
    let i = c.loop-i.invariant in
    let h = (moved_tree place c.args.source.now c.loop-i.target c.loop-i.made.items c.view.result c.in_ok-node.node i.made
    (subst (λ xs. IsMovedNode place xs c.view.result c.in_ok-node.node) c.deref.ensures.value c.in_ok-node.ensures)).0 in
    record {
      keeps = Keeps-trans i.keeps c.in_ok-id.ensures.keeps;
      count = (let e = ap length c.in_ok-push.ensures.items in let n = i.count in omega (arith, e, n, length-append c.loop-i.made.items (c.in_ok-id.id ∷ [])));
      made = one_made place c.args.source.now c.loop-i.target c.node.new.self c.loop-i.made.items c.push.new.self.items c.loop-i.i c.in_ok-id.id _
          c.in_ok-id.ensures.keeps i.count c.in_ok-push.ensures.items c.in_ok-id.ensures.made
          (h ∙ ap (moved place) (sym (Holds-tree_at c.args.source.now c.loop-i.i _ c.view.ensures.is))) i.made;
    }
