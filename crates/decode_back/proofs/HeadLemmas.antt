-- What is found of the head of a spine, and of the whole.
use Rattle.std.proofs.Common.{◌≡◌, ℕ, suc, ◌+◌, List, Option, refl, sym, ap, subst, arith}
use Rattle.hol_spec.specs.ClosedForm.{ClosedType, ClosedTerm}
use Rattle.hol_term.specs.declared.TermId.{TermId}
use Rattle.hol_term.specs.Tables.{Trees}
use Rattle.lp_spec.specs.Trees.{Tree, Var}
use Rattle.lp_spec.specs.Modules.{Declaration}
use Rattle.translate_spec.specs.TypeEnc.{Place, place, inside}
use Rattle.decode_spec.specs.Decode.{term_from}
use Rattle.decode_laws.specs.TermWalkLaws.{NoTerm, none-shallow_term}
use Rattle.decode_back.specs.Walks.{parameter_name}
use Rattle.decode_back.specs.TermWalks.{IsHeadFound, IsTermFound}
use Rattle.decode_back.proofs.TermLemmas.{head-found}

-- no term has depth 0
pub level-none : (types : List ClosedType) (size level : ℕ) (o : Option ClosedTerm) → level ≡ 0 → NoTerm parameter_name types size level o
level-none types size level o e = subst (λ l. NoTerm parameter_name types size l o) (sym e) (none-shallow_term parameter_name types size o)

pub inside-is : (n m h b : ℕ) → place n m h (b + 1) ≡ inside (place n m h b)
inside-is n m h b = let z : b + 1 ≡ suc b = omega arith in ap (place n m h) z

module _ (d : List Declaration) (at : Place) (types : List ClosedType) (level there left : ℕ) (xs : List Tree) (trees : Trees) (found : Option TermId)
    (H : Tree) where
  -- the head by another spelling
  pub head-at : (ys : List Tree) (T : Tree) → H ≡ T → IsHeadFound level types there left d at T xs ys trees found
      → IsHeadFound level types there left d at H xs ys trees found
  head-at ys T e h = subst (λ A. IsHeadFound level types there left d at A xs ys trees found) (sym e) h

  pub variable-head : (v : ℕ) → H ≡ Var v → IsTermFound level types there left (term_from d (Var v) at) trees found
      → IsHeadFound level types there left d at H xs xs trees found
  variable-head v e h = head-at xs (Var v) e (head-found d at types level there left (Var v) xs trees (λ acc. refl) xs refl found h)
