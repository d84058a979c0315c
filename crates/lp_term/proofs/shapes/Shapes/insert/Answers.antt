use Rattle.std.proofs.Common.{◌≡◌, ◌<◌, ◌^◌, ◌∙◌, ◌++◌, ◌∷◌, [], ℕ, Some, length, sym, ap, subst, arith}
use Rattle.std.specs.Prelude.{◌-◌, slice_set}
use Rattle.lp_term.specs.Indexed.{greater_part, kept_in, no_children, with_child, IsIndexed}
use Rattle.lp_term.proofs.Indexing.{IsIndexed-with, IsIndexed-apart, IsIndexed-more}
use Rattle.lp_term.proofs.shapes.Shapes.insert.Goals as goal

pub invariant_of-self-in-With : goal.invariant_of-self-in-With
invariant_of-self-in-With c =
    let shapes = c.self.inside.shapes.items in
    let children = c.self.inside.children.items in
    let kept = kept_in c.self.inside.others in
    let f = rw (c.deref.ensures.value, c.deref-2.ensures.value) at c.in-With.ensures in
    let e = c.in_ok-number-in-With.ensures in
    let below : (p : ℕ) → greater_part c.args.shape ≡ Some p → p < length shapes = λ p g. subst (λ l. p < length l) (sym c.self.view_is) (c.requires p g) in
    let few : length shapes < 2 ^ 32 - 1 = omega (arith, e.number.0, e.number.1) in
    subst (λ l. IsIndexed l c.put_with.new.children.items kept) (sym e.shapes)
    (subst (λ l. IsIndexed (shapes ++ c.args.shape ∷ []) l kept)
    (sym (e.children f.2.0 f.2.1 ∙ ap (λ n. slice_set (children ++ no_children ∷ []) c.in-With.part (with_child f.2.0 n)) e.number.0))
    (IsIndexed-with shapes children kept c.args.shape c.self.invariant below few c.in-With.part f.2.0 f.1 f.2.1 f.2.2))

pub invariant_of-self-in_err-number-in-Apart : goal.invariant_of-self-in_err-number-in-Apart
invariant_of-self-in_err-number-in-Apart c =
    let f = rw (c.deref.ensures.value, c.deref-2.ensures.value) at c.in-Apart.ensures in
    let e = c.in_err-number-in-Apart.ensures in
    rw (e.unchanged.0, e.unchanged.1)
    (IsIndexed-more c.self.inside.shapes.items c.self.inside.children.items (kept_in c.self.inside.others) (kept_in c.put_apart.new.others) c.args.shape
    c.self.invariant f.0 e.others)

pub invariant_of-self-in-Apart : goal.invariant_of-self-in-Apart
invariant_of-self-in-Apart c =
    let shapes = c.self.inside.shapes.items in
    let children = c.self.inside.children.items in
    let f = rw (c.deref.ensures.value, c.deref-2.ensures.value) at c.in-Apart.ensures in
    let e = c.in_ok-number-in-Apart.ensures in
    let below : (p : ℕ) → greater_part c.args.shape ≡ Some p → p < length shapes = λ p g. subst (λ l. p < length l) (sym c.self.view_is) (c.requires p g) in
    let few : length shapes < 2 ^ 32 - 1 = omega (arith, e.number.0, e.number.1) in
    rw (e.shapes, e.children)
    (IsIndexed-apart shapes children (kept_in c.self.inside.others) c.args.shape c.self.invariant below few (kept_in c.put_apart.new.others) f.0 f.1
    (e.kept ∙ ap Some e.number.0) e.others)
