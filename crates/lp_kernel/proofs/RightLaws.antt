-- The types that are kept of open trees, once more is kept, and where the module or its contexts have grown.
use Rattle.std.proofs.Common.{◌≡◌, sym, ap, ◌∙◌, subst, ℕ, arith, List, [], length, ⊎_elim, Bool, Some}
use Rattle.std.specs.Prelude.{slice_get}
use Rattle.std.proofs.Math.Path.{ap₂}
use Rattle.std.proofs.lemmas.Option.{slice_get_within}
use Rattle.lp_spec.specs.Trees.{Tree}
use Rattle.lp_spec.specs.Modules.{Declaration}
use Rattle.lp_term.specs.Tables.{tree_at, trees_at}
use Rattle.lp_term.specs.TableLaws.{tree_at-Stays}
use Rattle.holide_sig.specs.declared.module.Module.{Module}
use Rattle.holide_sig.specs.Modules.{declarations_of, IsHeld}
use Rattle.lp_spec.specs.Check.{Found}
use Rattle.lp_conv.specs.Answers.{Answered}
use Rattle.lp_conv.specs.Growth.{Grows}
use Rattle.lp_conv.specs.GrowthLaws.{declarations_of-Grows, trees_at-Stays, AreKnown-Keeps}
use Rattle.lp_kernel.specs.declared.contexts.Scope.{Scope}
use Rattle.lp_kernel.specs.declared.latest.Finding.{Finding}
use Rattle.lp_kernel.specs.declared.memo.Memos.{Memos}
use Rattle.lp_kernel.specs.declared.memo.Turns.{Turns}
use Rattle.lp_kernel.specs.Inference.{typing}
use Rattle.lp_kernel.specs.Keys.{AreMore}
use Rattle.lp_kernel.specs.Noted.{AreProducts}
use Rattle.lp_kernel.specs.Right.{IsTypeIn, AreTypesIn, AreRight}
use Rattle.lp_kernel.proofs.KeyLaws.{key-more}
use Rattle.lp_kernel.proofs.LatestLaws.{IsOnly}

-- nothing is kept
pub open-nil : (rechecks : Bool) (ds : List Declaration) (ts : List Tree) (scopes : List Scope) (kept : List Finding) → kept ≡ []
    → AreTypesIn rechecks ds ts scopes kept
open-nil rechecks ds ts scopes kept e = record { each = λ p f h. absurd (omega (arith, slice_get_within kept p f h, ap length e)) }

-- one more is kept
pub open-only : (rechecks : Bool) (ds : List Declaration) (ts : List Tree) (scopes : List Scope) (old new : List Finding) (f : Finding) → IsOnly old new f
    → IsTypeIn rechecks ds ts scopes f.by f.id f.found → AreTypesIn rechecks ds ts scopes old
    → AreTypesIn rechecks ds ts scopes new
open-only rechecks ds ts scopes old new f only is a =
    record {
      each = λ p g h. ⊎_elim (λ was. a.each p g was) (λ e. subst (λ (x : Finding). IsTypeIn rechecks ds ts scopes x.by x.id x.found) (sym e) is)
          (only p g h);
    }

-- more contexts have numbers
pub open-more : (rechecks : Bool) (ds : List Declaration) (ts : List Tree) (old new : List Scope) (kept : List Finding) → AreMore old new
    → AreTypesIn rechecks ds ts old kept → AreTypesIn rechecks ds ts new kept
open-more rechecks ds ts old new kept more a = record {
  each = λ p f h.
      let r = a.each p f h in
      record {
        context = r.context;
        keyed = key-more old new more f.by r.context r.keyed;
        known_context = r.known_context;
        known = r.known;
        found_known =
            r.found_known;
        answered = r.answered;
      };
}

-- the module has grown
pub open-stays : (rechecks : Bool) (m k : Module) (scopes : List Scope) (kept : List Finding) → IsHeld m → Grows m k
    → AreTypesIn rechecks (declarations_of m) m.table scopes kept → AreTypesIn rechecks (declarations_of k) k.table scopes kept
open-stays rechecks m k scopes kept held g a = record {
  each = λ p f h.
      let r = a.each p f h in
      let e = tree_at-Stays g.keeps.stays f.id.0 r.known in
      let u = tree_at-Stays g.keeps.stays f.found.0 r.found_known in
      let c = trees_at-Stays g.keeps.stays r.context r.known_context in
      record {
        context = r.context;
        keyed = r.keyed;
        known_context = AreKnown-Keeps g.keeps r.context r.known_context;
        known = omega (arith, r.known, g.keeps.longer);
        found_known = omega (arith, r.found_known, g.keeps.longer);
        answered = subst (λ ds. Answered ds rechecks (typing (trees_at k.table r.context) (tree_at k.table f.id.0)) (Found (tree_at k.table f.found.0)) 1)
            (sym (declarations_of-Grows m k g held))
            (subst (λ G. Answered (declarations_of m) rechecks (typing G (tree_at k.table f.id.0)) (Found (tree_at k.table f.found.0)) 1) (sym c)
            (subst (λ t. Answered (declarations_of m) rechecks (typing (trees_at m.table r.context) t) (Found (tree_at k.table f.found.0)) 1) e
            (subst (λ t. Answered (declarations_of m) rechecks (typing (trees_at m.table r.context) (tree_at m.table f.id.0)) (Found t) 1) u r.answered)));
      };
}

-- all that is remembered stays right where more contexts have numbers, and more products are noted
pub right-more : (rechecks : Bool) (ds : List Declaration) (ts : List Tree) (memo : Memos) (turns : Turns) → AreMore memo.turns.contexts turns.contexts
    → turns.rechecks ≡ memo.turns.rechecks → AreProducts ds ts turns.products → AreRight rechecks ds ts memo
    → AreRight rechecks ds ts (record { types = memo.types; lifts = memo.lifts; open_types = memo.open_types; turns = turns })
right-more rechecks ds ts memo turns more by products h =
    record {
      rechecked = by ∙ h.rechecked;
      types = h.types;
      products = products;
      lifts = h.lifts;
      open_types =
          open-more rechecks ds ts memo.turns.contexts turns.contexts memo.open_types more h.open_types;
    }
