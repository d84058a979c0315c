-- The measures of a sequent, term by term.
use Rattle.std.proofs.Common.{◌≡◌, ℕ, ◌+◌, ◌-◌, ◌≤◌, ◌^◌, sym, ap, ◌∙◌, arith, List, [], ◌∷◌, ◌++◌}
use Rattle.std.specs.Prelude.{min, max}
use Rattle.std.specs.List.{sum_by}
use Rattle.std.proofs.lemmas.List.Sums.{sum_by-cons, sum_by_push}
use Rattle.hol_spec.specs.Terms.{Term}
use Rattle.hol_spec.specs.Limits.{term_size, term_depth, greatest_by}
use Rattle.hol_term.specs.declared.TermId.{TermId}
use Rattle.hol_term.specs.Tables.{Trees, term_at, terms_at, AreKnown}

-- what is last counts first
greatest_by-last : (ts : List Term) (t : Term) → greatest_by term_depth (ts ++ t ∷ []) ≡ max (term_depth t) (greatest_by term_depth ts)
greatest_by-last [] t = omega arith
greatest_by-last (u ∷ ts) t = omega (arith, greatest_by-last ts t)

-- the size of the conclusion and of the hypotheses before the rest
pub record IsSizing (trees : Trees) (ids rest : List TermId) (concl : TermId) (size : ℕ) : Type 0 where
  pub known : AreKnown trees rest
  pub fits : size ≤ 2 ^ 64 - 1
  pub sizes : min (size + sum_by term_size (terms_at trees rest)) (2 ^ 64 - 1)
      ≡ min (sum_by term_size (terms_at trees ids ++ term_at trees concl.0 ∷ [])) (2 ^ 64 - 1)

pub record IsDeepening (trees : Trees) (ids rest : List TermId) (concl : TermId) (depth : ℕ) : Type 0 where
  pub known : AreKnown trees rest
  pub fits : depth ≤ 2 ^ 64 - 1
  pub depths : min (max depth (greatest_by term_depth (terms_at trees rest))) (2 ^ 64 - 1)
      ≡ min (greatest_by term_depth (terms_at trees ids ++ term_at trees concl.0 ∷ [])) (2 ^ 64 - 1)

commuted : (a b : ℕ) → a + b ≡ b + a
commuted a b = grind arith

size_first : (a b k t : ℕ) → k ≡ min a (2 ^ 64 - 1) → t ≡ a + b → min (k + b) (2 ^ 64 - 1) ≡ min t (2 ^ 64 - 1)
size_first a b k t e f = omega (arith, e, f)

size_step : (n a b k : ℕ) → k ≡ min (n + min a (2 ^ 64 - 1)) (2 ^ 64 - 1) → min (k + b) (2 ^ 64 - 1) ≡ min (n + (a + b)) (2 ^ 64 - 1)
size_step n a b k e = omega (arith, e)

depth_first : (a b k t : ℕ) → k ≡ min a (2 ^ 64 - 1) → t ≡ max a b → min (max k b) (2 ^ 64 - 1) ≡ min t (2 ^ 64 - 1)
depth_first a b k t e f = omega (arith, e, f)

depth_step : (n a b k : ℕ) → k ≡ max n (min a (2 ^ 64 - 1)) → min (max k b) (2 ^ 64 - 1) ≡ min (max n (max a b)) (2 ^ 64 - 1)
depth_step n a b k e = omega (arith, e)

module _ (trees : Trees) (ids : List TermId) (concl : TermId) where
  pub sizing_begins : (size : ℕ) → AreKnown trees ids → size ≡ min (term_size (term_at trees concl.0)) (2 ^ 64 - 1) → IsSizing trees ids ids concl size
  sizing_begins size k e = record {
    known = k;
    fits = omega (arith, e);
    sizes = size_first (term_size (term_at trees concl.0)) (sum_by term_size (terms_at trees ids)) size _ e
        (sum_by_push term_size (terms_at trees ids) (term_at trees concl.0)
        ∙ commuted (sum_by term_size (terms_at trees ids)) (term_size (term_at trees concl.0)));
  }

  pub sizing_goes_on : (rest : List TermId) (id : TermId) (size part s : ℕ) → part ≡ min (term_size (term_at trees id.0)) (2 ^ 64 - 1) → s
      ≡ min (size + part) (2 ^ 64 - 1) → IsSizing trees ids (id ∷ rest) concl size → IsSizing trees ids rest concl s
  sizing_goes_on rest id size part s m e w = record {
    known = w.known.1;
    fits = omega (arith, e);
    sizes =
        size_step size (term_size (term_at trees id.0)) (sum_by term_size (terms_at trees rest)) s (e ∙ ap (λ n. min (size + n) (2 ^ 64 - 1)) m)
        ∙ ap (λ n. min (size + n) (2 ^ 64 - 1)) (sym (sum_by-cons term_size (term_at trees id.0) (terms_at trees rest))) ∙ w.sizes;
  }

  pub sizing_ends : (size : ℕ) → IsSizing trees ids [] concl size → size
      ≡ min (sum_by term_size (terms_at trees ids ++ term_at trees concl.0 ∷ [])) (2 ^ 64 - 1)
  sizing_ends size w = omega (arith, w.fits, w.sizes)

  pub deepening_begins : (depth : ℕ) → AreKnown trees ids → depth ≡ min (term_depth (term_at trees concl.0)) (2 ^ 64 - 1)
      → IsDeepening trees ids ids concl depth
  deepening_begins depth k e = record {
    known = k;
    fits = omega (arith, e);
    depths = depth_first (term_depth (term_at trees concl.0)) (greatest_by term_depth (terms_at trees ids)) depth _ e
        (greatest_by-last (terms_at trees ids) (term_at trees concl.0));
  }

  pub deepening_goes_on : (rest : List TermId) (id : TermId) (depth part d : ℕ) → part ≡ min (term_depth (term_at trees id.0)) (2 ^ 64 - 1) → d ≡ max depth part
      → IsDeepening trees ids (id ∷ rest) concl depth → IsDeepening trees ids rest concl d
  deepening_goes_on rest id depth part d m e w = record {
    known = w.known.1;
    fits = omega (arith, e, m, w.fits);
    depths = depth_step depth (term_depth (term_at trees id.0)) (greatest_by term_depth (terms_at trees rest)) d (e ∙ ap (max depth) m) ∙ w.depths;
  }

  pub deepening_ends : (depth : ℕ) → IsDeepening trees ids [] concl depth → depth
      ≡ min (greatest_by term_depth (terms_at trees ids ++ term_at trees concl.0 ∷ [])) (2 ^ 64 - 1)
  deepening_ends depth w = omega (arith, w.fits, w.depths)
