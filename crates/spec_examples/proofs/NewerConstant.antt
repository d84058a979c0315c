-- The newer constant unfolds: c is defined as the identity of the truth values and d as c, so |- d = c is proved by reflexivity at c.
use Rattle.std.proofs.Common.{◌≡◌, [], ◌∷◌, ◌++◌, refl, arith, codes}
use Rattle.std.specs.Fmt.{digits}
use Rattle.hol_spec.specs.Names.{Name}
use Rattle.hol_spec.specs.Terms.{Term, constant, equation}
use Rattle.hol_spec.specs.Sequents.{Sequent}
use Rattle.hol_spec.specs.Definitions.{Definition}
use Rattle.hol_spec.specs.Symbols.{Symbol}
use Rattle.hol_spec.specs.Taking.{Takes}
use Rattle.hol_spec.specs.Rules.{IsDefining, Rule, Parameters, derived}
use Rattle.hol_spec.specs.Proofs.{Made, IsProof, Each, Accepted}
use Rattle.hol_spec.specs.declared.StepKind.TheVariants.{DefineConst}
use Rattle.lp_spec.specs.Trees.{Tree, Var, Sym, Lam}
use Rattle.lp_spec.specs.Modules.{bools, term_of, arr_of, eq_of, proof_of, refl_of}
use Rattle.lp_spec.specs.Lemmas.{lemmas}
use Rattle.translate_spec.specs.Image.{image}
use Rattle.lp_spec.specs.Numerals.{numeral}
use Rattle.spec_examples.proofs.SmallRuns.{name, truths, I, TB, infers, exports, theorem, definition, own_lines, next, exported, alone}

abbrev c : Name
c = name (codes "c")

abbrev d : Name
d = name (codes "d")

abbrev of_c : Term
of_c = constant c truths

abbrev c_is_I : Sequent
c_is_I = derived [] (equation truths of_c I)

abbrev d_is_c : Sequent
d_is_c = derived [] (equation truths (constant d truths) of_c)

-- what a definition makes: its symbol, and what it says
abbrev defines : Name → Term → Made
defines n t = Made.symbol (Symbol.defined (Definition.constant n t))

abbrev says : Name → Term → Sequent → Made
says n t s = infers DefineConst [] (Parameters.constant n t) s

abbrev run : Accepted
run = record {
  made = defines c I ∷ says c I c_is_I ∷ defines d of_c ∷ says d of_c d_is_c ∷ exports 1 d_is_c ∷ [];
  assumptions = [];
  exports = 2 ∷ [];
}

abbrev truth_functions : Tree
truth_functions = arr_of bools bools

-- of c only its definition is needed
its_module : image run ≡ lemmas
    ++ definition (codes "c_c") (term_of truth_functions) (Lam TB (Var 0))
    ∷ definition (codes "c_d") (term_of truth_functions) (Sym 20)
    ∷ theorem (codes "T1") (proof_of (eq_of truth_functions (Sym 21) (Sym 20))) (refl_of truth_functions (Sym 20))
    ∷ theorem (codes "E0") (proof_of (eq_of truth_functions (Sym 21) (Sym 20))) (Sym 22) ∷ []
unfolding numeral
its_module = refl

its_lines : own_lines run
    ≡ codes "c_c : term (arr bool bool) := v0 : term bool => v0"
    ∷ codes "c_d : term (arr bool bool) := c_c"
    ∷ codes "T1 : proof (eq (arr bool bool) c_d c_c) := refl (arr bool bool) c_c"
    ∷ codes "E0 : proof (eq (arr bool bool) c_d c_c) := T1" ∷ []
unfolding digits numeral
its_lines = refl

I_defines : IsDefining truths I
I_defines = record { typed = refl; closed = refl; variables = refl }

c_defines : IsDefining truths of_c
c_defines = record { typed = refl; closed = refl; variables = refl }

is_a_proof : IsProof run.made
is_a_proof =
    let one = next (defines c I) Each.empty (tt {0}, Takes.constant refl I_defines) in
    let two = next (says c I c_is_I) one
    (record {
      premises = [];
      earlier = tt;
      follows = record { rule = Rule.define_const I_defines refl; defined = ((0, (omega arith, refl)), tt) };
      law =
          tt {0};
    }) in
    let three = next (defines d of_c) two (tt {0}, Takes.constant refl c_defines) in
    let four = next (says d of_c d_is_c) three
    (record {
      premises = [];
      earlier = tt;
      follows = record { rule = Rule.define_const c_defines refl; defined = ((1, (omega arith, refl)), tt) };
      law =
          tt {0};
    }) in
    next (exports 1 d_is_c) four (exported _ 1 d_is_c refl (alone _ refl) refl)
