-- Types that were lifted and are kept, after another one, and where a table has grown.
use Rattle.std.proofs.Common.{◌≡◌, sym, ap, ◌∙◌, subst, List, [], length, arith, ⊎_elim}
use Rattle.std.proofs.lemmas.Option.{slice_get_within}
use Rattle.lp_spec.specs.Trees.{Tree, lift}
use Rattle.lp_term.specs.Tables.{tree_at, Keeps}
use Rattle.lp_term.specs.TableLaws.{tree_at-Stays}
use Rattle.lp_kernel.specs.declared.latest.Finding.{Finding}
use Rattle.lp_kernel.specs.Lifted.{IsLift, AreLifts}
use Rattle.lp_kernel.proofs.LatestLaws.{IsOnly}

-- nothing is kept
pub AreLifts-nil : (ts : List Tree) (ls : List Finding) → ls ≡ [] → AreLifts ts ls
AreLifts-nil ts ls e = record { each = λ p k h. absurd (omega (arith, slice_get_within ls p k h, ap length e)) }

-- one more is kept
pub AreLifts-only : (ts : List Tree) (old new : List Finding) (f : Finding) → IsOnly old new f → IsLift ts f.id f.by f.found → AreLifts ts old → AreLifts ts new
AreLifts-only ts old new f only is a = record
    { each = λ p g h. ⊎_elim (λ was. a.each p g was) (λ e. subst (λ (m : Finding). IsLift ts m.id m.by m.found) (sym e) is) (only p g h) }

-- all that is kept stays where a table has grown
pub AreLifts-Keeps : {ts us : List Tree} → Keeps ts us → (ls : List Finding) → AreLifts ts ls → AreLifts us ls
AreLifts-Keeps {ts = ts} {us = us} k ls a = record {
  each = λ p l h.
      let is = a.each p l h in
      record {
        known = omega (arith, is.known, k.longer);
        lifted_known = omega (arith, is.lifted_known, k.longer);
        is = sym (tree_at-Stays k.stays l.found.0 is.lifted_known) ∙ is.is ∙ ap (lift l.by) (tree_at-Stays k.stays l.id.0 is.known);
      };
}
