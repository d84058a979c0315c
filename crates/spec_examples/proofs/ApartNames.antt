-- The names of symbols tell the components of a name: c of the components `a.b` and `c` is i_a_2eb__c, and d of `a`, `b` and `c` is i_a__b__c.
use Rattle.std.proofs.Common.{◌≡◌, [], ◌∷◌, ◌++◌, refl, codes}
use Rattle.std.specs.Fmt.{digits}
use Rattle.hol_spec.specs.Names.{Name}
use Rattle.hol_spec.specs.Primitives.{bool}
use Rattle.hol_spec.specs.Terms.{constant, equation}
use Rattle.hol_spec.specs.Sequents.{Sequent}
use Rattle.hol_spec.specs.Taking.{Takes}
use Rattle.hol_spec.specs.Rules.{derived}
use Rattle.hol_spec.specs.Proofs.{IsProof, Each, Accepted}
use Rattle.lp_spec.specs.Trees.{Tree, Var, Sym, App, Pi}
use Rattle.lp_spec.specs.Modules.{symbol, types, bools, term_of, eq_of, proof_of}
use Rattle.lp_spec.specs.Lemmas.{lemmas}
use Rattle.translate_spec.specs.Image.{image}
use Rattle.lp_spec.specs.Numerals.{numeral}
use Rattle.spec_examples.proofs.SmallRuns.{takes, assumes, exports, theorem, own_lines, next, assumed, exported, alone}

abbrev c : Name
c = codes "a.b" ∷ codes "c" ∷ []

abbrev d : Name
d = codes "a" ∷ codes "b" ∷ codes "c" ∷ []

abbrev c_is_d : Sequent
c_is_d = derived [] (equation bool (constant c bool) (constant d bool))

abbrev run : Accepted
run = record {
  made = takes c ∷ takes d ∷ assumes c_is_d ∷ exports 0 c_is_d ∷ [];
  assumptions = 0 ∷ [];
  exports = 1 ∷ [];
}

abbrev equal : Tree
equal = proof_of (eq_of bools (App (Sym 20) bools) (App (Sym 21) bools))

its_module : image run ≡ lemmas
    ++ symbol (codes "i_a_2eb__c") (Pi types (term_of (Var 0)))
    ∷ symbol (codes "i_a__b__c") (Pi types (term_of (Var 0)))
    ∷ symbol (codes "A0") equal
    ∷ theorem (codes "E0") equal (Sym 22) ∷ []
unfolding numeral
its_module = refl

its_lines : own_lines run
    ≡ codes "i_a_2eb__c : v0 : type -> term v0"
    ∷ codes "i_a__b__c : v0 : type -> term v0"
    ∷ codes "A0 : proof (eq bool (i_a_2eb__c bool) (i_a__b__c bool))"
    ∷ codes "E0 : proof (eq bool (i_a_2eb__c bool) (i_a__b__c bool)) := A0" ∷ []
unfolding digits numeral
its_lines = refl

is_a_proof : IsProof run.made
is_a_proof =
    let one = next (takes c) Each.empty (tt {0}, Takes.input_constant refl) in
    let two = next (takes d) one (tt {0}, Takes.input_constant refl) in
    let three = next (assumes c_is_d) two (assumed _ c_is_d (alone _ refl)) in
    next (exports 0 c_is_d) three (exported _ 0 c_is_d refl (alone _ refl) refl)
