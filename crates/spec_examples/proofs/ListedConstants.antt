-- A list of constants: of {v = I, w = I} |- v = I, for the identity I, c is defined for v and d for w, and |- c = I follows.
use Rattle.std.proofs.Common.{◌≡◌, [], ◌∷◌, ◌++◌, refl, arith, codes}
use Rattle.std.specs.Fmt.{digits}
use Rattle.std.specs.List.{IsDistinct}
use Rattle.hol_spec.specs.Names.{Name}
use Rattle.hol_spec.specs.Terms.{Term, free, constant, equation, term_eq}
use Rattle.hol_spec.specs.Sequents.{Sequent, IsSequent}
use Rattle.hol_spec.specs.Definitions.{Definition}
use Rattle.hol_spec.specs.Symbols.{Symbol}
use Rattle.hol_spec.specs.Taking.{Takes}
use Rattle.hol_spec.specs.Rules.{IsDefining, Rule, Parameters, derived}
use Rattle.hol_spec.specs.Proofs.{Made, IsProof, Each, Accepted}
use Rattle.hol_spec.specs.declared.StepKind.TheVariants.{DefineConstList}
use Rattle.lp_spec.specs.Trees.{Tree, Var, Sym, Lam, Pi}
use Rattle.lp_spec.specs.Modules.{symbol, applied, bools, term_of, arr_of, eq_of, proof_of, refl_of}
use Rattle.lp_spec.specs.Lemmas.{lemmas}
use Rattle.translate_spec.specs.Image.{image}
use Rattle.lp_spec.specs.Numerals.{numeral}
use Rattle.spec_examples.proofs.SmallRuns.{name, truths, I, TB, infers, assumes, exports, theorem, definition, own_lines, next, assumed, exported, alone}

abbrev v : Term
v = free (name (codes "v")) truths

abbrev w : Term
w = free (name (codes "w")) truths

abbrev c : Name
c = name (codes "c")

abbrev d : Name
d = name (codes "d")

abbrev described : Sequent
described = derived (equation truths v I ∷ equation truths w I ∷ []) (equation truths v I)

abbrev c_is_I : Sequent
c_is_I = derived [] (equation truths (constant c truths) I)

abbrev pairs : Parameters
pairs = Parameters.constants ((c, (name (codes "v"), truths)) ∷ (d, (name (codes "w"), truths)) ∷ [])

abbrev defines : Name → Made
defines n = Made.symbol (Symbol.defined (Definition.constant n I))

abbrev run : Accepted
run = record {
  made = assumes described ∷ defines c ∷ defines d ∷ infers DefineConstList (0 ∷ []) pairs c_is_I ∷ exports 1 c_is_I ∷ [];
  assumptions = 0 ∷ [];
  exports = 2 ∷ [];
}

abbrev truth_functions : Tree
truth_functions = arr_of bools bools

abbrev identity : Tree
identity = Lam TB (Var 0)

-- x is the identity
abbrev is_identity : Tree → Tree
is_identity x = proof_of (eq_of truth_functions x identity)

abbrev R : Tree
R = refl_of truth_functions identity

its_module : image run ≡ lemmas
    ++ symbol (codes "A0")
    (Pi (term_of truth_functions) (Pi (term_of truth_functions) (Pi (is_identity (Var 1)) (Pi (is_identity (Var 1)) (is_identity (Var 3))))))
    ∷ definition (codes "c_c") (term_of truth_functions) identity
    ∷ definition (codes "c_d") (term_of truth_functions) identity
    ∷ theorem (codes "T1") (is_identity (Sym 21)) (applied (Sym 20) (Sym 21 ∷ Sym 22 ∷ R ∷ R ∷ []))
    ∷ theorem (codes "E0") (is_identity (Sym 21)) (Sym 23) ∷ []
unfolding numeral
its_module = refl

its_lines : own_lines run
    ≡ codes
    "A0 : v0 : term (arr bool bool) -> v1 : term (arr bool bool) -> v2 : proof (eq (arr bool bool) v0 (v2 : term bool => v2)) -> v3 : proof (eq (arr bool bool) v1 (v3 : term bool => v3)) -> proof (eq (arr bool bool) v0 (v4 : term bool => v4))"
    ∷ codes "c_c : term (arr bool bool) := v0 : term bool => v0"
    ∷ codes "c_d : term (arr bool bool) := v0 : term bool => v0"
    ∷ codes
    "T1 : proof (eq (arr bool bool) c_c (v0 : term bool => v0)) := A0 c_c c_d (refl (arr bool bool) (v0 : term bool => v0)) (refl (arr bool bool) (v0 : term bool => v0))"
    ∷ codes "E0 : proof (eq (arr bool bool) c_c (v0 : term bool => v0)) := T1" ∷ []
unfolding digits numeral
its_lines = refl

two_hypotheses : IsDistinct term_eq (equation truths v I ∷ equation truths w I ∷ [])
unfolding IsDistinct
two_hypotheses = ((refl, tt), (tt, tt))

described_a_sequent : IsSequent described
described_a_sequent = record { no_repeats = two_hypotheses; hypotheses = (refl, (refl, tt)); conclusion = refl }

I_defines : IsDefining truths I
I_defines = record { typed = refl; closed = refl; variables = refl }

is_a_proof : IsProof run.made
is_a_proof =
    let one = next (assumes described) Each.empty (assumed _ described described_a_sequent) in
    let two = next (defines c) one (tt {0}, Takes.constant refl I_defines) in
    let three = next (defines d) two (tt {0}, Takes.constant refl I_defines) in
    let four = next (infers DefineConstList (0 ∷ []) pairs c_is_I) three
    (record {
      premises = described ∷ [];
      earlier = (refl, tt);
      follows = record {
        rule = Rule.define_const_list (I_defines, (I_defines, tt)) refl refl;
        defined =
            ((0, (omega arith, refl)), ((1, (omega arith, refl)), tt));
      };
      law = tt {0};
    }) in
    next (exports 1 c_is_I) four (exported _ 1 c_is_I refl (alone _ refl) refl)
