-- The image of the run that proves and exports p = p: two theorems after the lemmas, of which the second is its export; of a run
-- that weakens; and of one that assumes.
use Rattle.std.proofs.Common.{◌≡◌, [], ◌∷◌, ◌++◌, codes, refl}
use Rattle.hol_spec.specs.Primitives.{bool, function}
use Rattle.hol_spec.specs.Types.{HolType}
use Rattle.hol_spec.specs.Mangling.{mangled}
use Rattle.hol_spec.specs.Symbols.{Symbol}
use Rattle.hol_spec.specs.Terms.{Term, free, bound, constant, app, lam, equation}
use Rattle.hol_spec.specs.Sequents.{Sequent}
use Rattle.hol_spec.specs.Rules.{nothing, term, sequent}
use Rattle.hol_spec.specs.Proofs.{Made, step, Accepted}
use Rattle.hol_spec.specs.declared.StepKind.TheVariants.{Refl, Axiom, ProveHyp, Restate}
use Rattle.lp_spec.specs.Trees.{Tree, Var, Sym, App, Lam, Pi}
use Rattle.lp_spec.specs.Modules.{symbol, types, bools, term_of, arr_of, eq_of, proof_of, refl_of}
use Rattle.lp_spec.specs.Lemmas.{lemmas, theorem}
use Rattle.translate_spec.specs.Image.{image}
use Rattle.lp_spec.specs.Numerals.{numeral}

abbrev p : Term
p = free (codes "p" ∷ []) bool

abbrev pub p_is_p : Sequent
p_is_p = record { hypotheses = []; conclusion = equation bool p p }

abbrev pub run : Accepted
run = record {
  made = step (record { kind = Refl; premises = []; parameters = term p; sequent = p_is_p })
      ∷ step (record { kind = Restate; premises = 0 ∷ []; parameters = sequent p_is_p; sequent = p_is_p }) ∷ [];
  assumptions = [];
  exports = 1 ∷ [];
}

smallest : image run ≡ lemmas
    ++ theorem (codes "T0") (term_of bools ∷ []) (proof_of (eq_of bools (Var 0) (Var 0))) (refl_of bools (Var 0))
    ∷ theorem (codes "E0") (term_of bools ∷ []) (proof_of (eq_of bools (Var 0) (Var 0))) (App (Sym 20) (Var 0)) ∷ []
unfolding numeral
smallest = refl

-- the run that exports q |- p = p: the theorem takes a proof of q
abbrev q : Term
q = free (codes "q" ∷ []) bool

abbrev q_gives_p_is_p : Sequent
q_gives_p_is_p = record { hypotheses = q ∷ []; conclusion = equation bool p p }

abbrev weakened : Accepted
weakened = record {
  made = step (record { kind = Refl; premises = []; parameters = term q; sequent = record { hypotheses = []; conclusion = equation bool q q } })
      ∷ step (record { kind = Refl; premises = []; parameters = term p; sequent = p_is_p })
      ∷ step (record { kind = Restate; premises = 1 ∷ []; parameters = sequent q_gives_p_is_p; sequent = q_gives_p_is_p }) ∷ [];
  assumptions = [];
  exports = 2 ∷ [];
}

with_hypothesis : image weakened ≡ lemmas
    ++ theorem (codes "T1") (term_of bools ∷ []) (proof_of (eq_of bools (Var 0) (Var 0))) (refl_of bools (Var 0))
    ∷ theorem (codes "E0") (term_of bools ∷ term_of bools ∷ proof_of (Var 1) ∷ []) (proof_of (eq_of bools (Var 1) (Var 1))) (App (Sym 20) (Var 1)) ∷ []
unfolding numeral
with_hypothesis = refl

-- the run that assumes |- u (\x. x), with an input u, and exports it: the input is declared before what it assumes, and a proof without a
-- body is named by its place among the assumptions
abbrev u_type : HolType
u_type = function (function bool bool) bool

abbrev u_of : Sequent
u_of = record { hypotheses = []; conclusion = app (constant (codes "u" ∷ []) u_type) (lam bool (bound 0)) }

abbrev assuming : Accepted
assuming = record {
  made = Made.symbol (Symbol.input_constant (codes "u" ∷ []))
      ∷ step (record { kind = Axiom; premises = []; parameters = sequent u_of; sequent = u_of })
      ∷ step (record { kind = Restate; premises = 0 ∷ []; parameters = sequent u_of; sequent = u_of }) ∷ [];
  assumptions = 0 ∷ [];
  exports = 1 ∷ [];
}

abbrev assumed_tree : Tree
assumed_tree = proof_of (App (App (Sym 20) (arr_of (arr_of bools bools) bools)) (Lam (term_of bools) (Var 0)))

with_assumption : image assuming ≡ lemmas
    ++ symbol (codes "i_" ++ mangled (codes "u" ∷ [])) (Pi types (term_of (Var 0)))
    ∷ symbol (codes "A0") assumed_tree
    ∷ theorem (codes "E0") [] assumed_tree (Sym 21) ∷ []
unfolding numeral
with_assumption = refl

-- the run that assumes |- q, and proves by it a hypothesis that |- p = p doesn't have: the assumption isn't needed, so the module lacks it
abbrev q_alone : Sequent
q_alone = record { hypotheses = []; conclusion = q }

abbrev needless : Accepted
needless = record {
  made = step (record { kind = Axiom; premises = []; parameters = sequent q_alone; sequent = q_alone })
      ∷ step (record { kind = Refl; premises = []; parameters = term p; sequent = p_is_p })
      ∷ step (record { kind = ProveHyp; premises = 0 ∷ 1 ∷ []; parameters = nothing; sequent = p_is_p })
      ∷ step (record { kind = Restate; premises = 2 ∷ []; parameters = sequent p_is_p; sequent = p_is_p }) ∷ [];
  assumptions = 0 ∷ [];
  exports = 3 ∷ [];
}

without_assumption : image needless ≡ lemmas
    ++ theorem (codes "T1") (term_of bools ∷ []) (proof_of (eq_of bools (Var 0) (Var 0))) (refl_of bools (Var 0))
    ∷ theorem (codes "T2") (term_of bools ∷ []) (proof_of (eq_of bools (Var 0) (Var 0))) (App (Sym 20) (Var 0))
    ∷ theorem (codes "E0") (term_of bools ∷ []) (proof_of (eq_of bools (Var 0) (Var 0))) (App (Sym 21) (Var 0)) ∷ []
unfolding numeral
without_assumption = refl
