-- The words of the rules, on small articles: what the machine makes is computed.
use Rattle.std.specs.Prelude.{List, [], ◌∷◌, ◌++◌, ◌≡◌, Err, codes}
use Rattle.std.proofs.Common.{refl}
use Rattle.hol_spec.specs.Primitives.{bool, function}
use Rattle.hol_spec.specs.Terms.{Term, equation}
use Rattle.hol_spec.specs.Rules.{derived}
use Rattle.common.specs.declared.faults.Kind.TheVariants.{NotEquation}
use Rattle.article_spec.specs.declared.commands.Item.{Item}
use Rattle.article_spec.specs.declared.commands.Word.TheVariants as word
use Rattle.article_spec.proofs.SmallArticles.{w, obeyed, listed, bool_type, to, constant, equals, V, sequents, named, boolean}

abbrev p : Term
p = boolean (codes "p")

abbrev q : Term
q = boolean (codes "q")

-- a sequent that is assumed
abbrev assumed : List (List Item) → List Item → List Item
assumed hypotheses conclusion = listed hypotheses ++ conclusion ++ w word.Axiom ∷ []

abbrev p_is_q : List Item
p_is_q = equals bool_type (V (codes "p")) (V (codes "q"))

-- assume: {p} |- p
an_assumption : sequents (obeyed (V (codes "p") ++ w word.Assume ∷ [])) ≡ derived (p ∷ []) p ∷ []
an_assumption = refl

-- sym: of |- p = q, |- q = p
turned : sequents (obeyed (assumed [] p_is_q ++ w word.Sym ∷ [])) ≡ derived [] (equation bool p q) ∷ derived [] (equation bool q p) ∷ []
turned = refl

-- .. and of what is no equation, nothing
nothing_turned : obeyed (assumed [] (V (codes "p")) ++ w word.Sym ∷ []) ≡ Err (12, NotEquation)
nothing_turned = refl

-- eqMp: of |- p = q and {p} |- p, {p} |- q
equal_proved : sequents (obeyed (assumed [] p_is_q ++ V (codes "p") ++ w word.Assume ∷ w word.EqMp ∷ []))
    ≡ derived [] (equation bool p q) ∷ derived (p ∷ []) p ∷ derived (p ∷ []) q ∷ []
equal_proved = refl

-- appThm: of |- c = c and |- p = p, |- c p = c p
abbrev c_lines : List Item
c_lines = constant (codes "c") (to bool_type bool_type)

abbrev c : Term
c = Term.constant (named (codes "c")) (function bool bool)

applied_to_equals : sequents (obeyed (c_lines ++ w word.Refl ∷ V (codes "p") ++ w word.Refl ∷ w word.AppThm ∷ []))
    ≡ derived [] (equation (function bool bool) c c) ∷ derived [] (equation bool p p) ∷ derived [] (equation bool (Term.app c p) (Term.app c p)) ∷ []
applied_to_equals = refl

-- proveHyp: of |- p and {p, q} |- p, {q} |- p
hypothesis_proved : sequents (obeyed (assumed [] (V (codes "p")) ++ assumed (V (codes "p") ∷ V (codes "q") ∷ []) (V (codes "p")) ++ w word.ProveHyp ∷ []))
    ≡ derived [] p ∷ derived (p ∷ q ∷ []) p ∷ derived (q ∷ []) p ∷ []
hypothesis_proved = refl
