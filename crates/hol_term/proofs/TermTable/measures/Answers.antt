use Rattle.std.proofs.Common.{arith, sym, ◌∙◌, subst}
use Rattle.hol_term.specs.Masks.{HasBit, HasBits}
use Rattle.hol_term.specs.Tables.{term_at}
use Rattle.hol_term.proofs.MaskLaws.{HasBit-own, HasBits-left, HasBits-right}
use Rattle.hol_term.proofs.TermTable.measures.Goals as goal

pub returns-in-Free : goal.returns-in-Free
returns-in-Free c = rw c.in-Free.is (record {
  size = omega (arith, c.leaf_measures.ensures.size);
  depth = omega (arith, c.leaf_measures.ensures.depth);
  loose = c.leaf_measures.ensures.loose;
  mask = subst (λ m. HasBit m c.in-Free.name) (sym (c.leaf_measures.ensures.mask ∙ c.bit_mask.ensures)) (HasBit-own c.in-Free.name);
})

pub returns-in-App : goal.returns-in-App
returns-in-App c =
    let f = c.measures_of in
    let x = c.measures_of-in-App in
    rw c.in-App.is (record {
      size = omega (arith, c.joined.ensures.size, f.ensures.size, x.ensures.size);
      depth = omega (arith, c.joined.ensures.depth, f.ensures.depth, x.ensures.depth);
      loose = omega (arith, c.joined.ensures.loose, f.ensures.loose, x.ensures.loose);
      mask = (
        HasBits-left c.joined.result.mask f.result.mask x.result.mask (term_at c.args.self.now c.in-App.f.0) c.joined.ensures.mask f.ensures.mask,
        HasBits-right c.joined.result.mask f.result.mask x.result.mask (term_at c.args.self.now c.in-App.x.0) c.joined.ensures.mask x.ensures.mask,
      );
    })

pub returns-in-Lam : goal.returns-in-Lam
returns-in-Lam c =
    let body = c.measures_of-in-Lam in
    let inner = c.under_binder-body in
    let t = term_at c.args.self.now c.in-Lam.body.0 in
    rw c.in-Lam.is (record {
      size = omega (arith, c.joined-in-Lam.ensures.size, c.type_measures.ensures.size, inner.ensures.size, body.ensures.size);
      depth = omega (arith, c.joined-in-Lam.ensures.depth, c.type_measures.ensures.depth, inner.ensures.depth, body.ensures.depth);
      loose = omega (arith, c.joined-in-Lam.ensures.loose, c.type_measures.ensures.loose, inner.ensures.loose, body.ensures.loose);
      mask = HasBits-right c.joined-in-Lam.result.mask c.type_measures.result.mask inner.result.mask t c.joined-in-Lam.ensures.mask
          (subst (λ m. HasBits m t) (sym inner.ensures.mask) body.ensures.mask);
    })
