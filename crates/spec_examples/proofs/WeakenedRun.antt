-- A run with an assumption and an export: {q} |- p is assumed, and {q, r} |- p exported.
use Rattle.std.proofs.Common.{◌≡◌, [], ◌∷◌, refl, arith, List}
use Rattle.std.specs.Prelude.{Some, ◌+◌, true, codes, map, length, slice_get}
use Rattle.std.specs.Fmt.{digits}
use Rattle.std.specs.List.{IsDistinct}
use Rattle.hol_spec.specs.Terms.{Term, term_eq}
use Rattle.hol_spec.specs.Sequents.{Sequent}
use Rattle.hol_spec.specs.Rules.{Parameters}
use Rattle.hol_spec.specs.Proofs.{Made, Accepted}
use Rattle.hol_spec.specs.ClosedForm.{closed_form}
use Rattle.hol_spec.specs.declared.StepKind.TheVariants.{Axiom, Restate}
use Rattle.lp_spec.specs.declared.form.Form.TheVariants.{Thm}
use Rattle.lp_spec.specs.Trees.{Tree, Var, Sym, App, Lam, Pi}
use Rattle.lp_spec.specs.Modules.{Declaration, signature, symbol, bools, term_of, proof_of, bool_symbol}
use Rattle.translate_spec.specs.Image.{image}
use Rattle.translate_spec.specs.OperatorMeaning.{truth_values}
use Rattle.translate_spec.specs.ConstantMeaning.{closed_bool}
use Rattle.translate_spec.specs.TypeEnc.{Place, place, StandsForType}
use Rattle.translate_spec.specs.Enc.{Enc}
use Rattle.lp_spec.specs.Numerals.{numeral}
use Rattle.translate_spec.specs.Stands.{uses, IsGiven, IsReached, IsUnproved}
use Rattle.article_spec.proofs.SmallArticles.{boolean}
use Rattle.spec_examples.proofs.SmallRuns.{own_lines}

abbrev pub p : Term
p = boolean (codes "p")

abbrev pub q : Term
q = boolean (codes "q")

abbrev pub r : Term
r = boolean (codes "r")

abbrev pub assumed : Sequent
assumed = record { hypotheses = q ∷ []; conclusion = p }

abbrev pub exported : Sequent
exported = record { hypotheses = q ∷ r ∷ []; conclusion = p }

abbrev pub run : Accepted
run = record {
  made =
      Made.step (record { kind = Axiom; premises = []; parameters = Parameters.sequent assumed; sequent = assumed })
      ∷ Made.step (record { kind = Restate; premises = 0 ∷ []; parameters = Parameters.sequent exported; sequent = exported }) ∷ [];
  assumptions = 0 ∷ [];
  exports = 1 ∷ [];
}

-- the types of its two declarations, and that of the export's body
abbrev assumed_type : Tree
assumed_type = Pi (term_of bools) (Pi (term_of bools) (Pi (proof_of (Var 1)) (proof_of (Var 1))))

abbrev exported_type : Tree
exported_type = Pi (term_of bools) (Pi (term_of bools) (Pi (term_of bools) (Pi (proof_of (Var 2)) (Pi (proof_of (Var 2)) (proof_of (Var 2))))))

abbrev exported_body : Tree
exported_body =
    Lam (term_of bools) (Lam (term_of bools) (Lam (term_of bools) (Lam (proof_of (Var 2)) (Lam (proof_of (Var 2))
    (App (App (App (Sym 20) (Var 4)) (Var 2)) (Var 1))))))

abbrev assumption : Declaration
assumption = symbol (codes "A0") assumed_type

abbrev export : Declaration
export = record { name = codes "E0"; form = Thm; ty = exported_type; body = Some exported_body }

abbrev m : List Declaration
m = image run

-- after the two lemmas
its_declarations : map (λ d. d.name) m ≡ codes "sym" ∷ codes "trans" ∷ codes "A0" ∷ codes "E0" ∷ []
unfolding numeral
its_declarations = refl

the_assumption : slice_get m 2 ≡ Some assumption
unfolding numeral
the_assumption = refl

the_export : slice_get m 3 ≡ Some export
unfolding numeral
the_export = refl

its_lines : own_lines run
    ≡ codes "A0 : v0 : term bool -> v1 : term bool -> v2 : proof v0 -> proof v1"
    ∷ codes
    "E0 : v0 : term bool -> v1 : term bool -> v2 : term bool -> v3 : proof v0 -> v4 : proof v1 -> proof v2 := v0 : term bool => v1 : term bool => v2 : term bool => v3 : proof v0 => v4 : proof v1 => A0 v0 v2 v3" ∷ []
unfolding digits numeral
its_lines = refl

-- what the types stand for
bool_stands : (at : Place) → StandsForType m closed_bool at bools
bool_stands at = (bool_symbol, [], truth_values refl, tt, refl)

pub no_repeats : IsDistinct term_eq (q ∷ [])
unfolding IsDistinct
no_repeats = (tt, tt)

assumed_encoded : Enc m (closed_form assumed) assumed_type
assumed_encoded = record {
  closed = record {
    sequent = assumed;
    is_sequent = record { no_repeats = no_repeats; hypotheses = (refl, tt); conclusion = refl };
    within = record { size = omega arith; depth = omega arith; parameters = omega arith };
    closed = refl;
  };
  variables = bools ∷ bools ∷ [];
  hypotheses = Var 1 ∷ [];
  conclusion = Var 1;
  product = refl;
  variables_stand = (bool_stands (place 0 0 0 0), (bool_stands (place 0 1 0 0), tt));
  hypotheses_stand = ((omega arith, refl), tt);
  conclusion_stands = (omega arith, refl);
}

-- it may stand without a body: it is the assumption of the run, and the export reaches it
its_body : uses export (length signature + 2) ≡ true
its_body = refl

unproved : IsUnproved m run 2 assumption
unfolding numeral
unproved = record {
  given = IsGiven.assumption 0 0 assumed_type refl assumed_encoded;
  reached = IsReached.used 3 export (IsReached.export export the_export refl) the_export its_body;
}
