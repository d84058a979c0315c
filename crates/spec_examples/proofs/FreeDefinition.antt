-- The same type definition in an article of version 5: its laws are about a variable of the new type, and about one of the old type.
use Rattle.std.proofs.Common.{◌≡◌, ℕ, [], ◌∷◌, ◌++◌, length, refl, arith, codes}
use Rattle.std.specs.Prelude.{is_none}
use Rattle.std.specs.List.{filter}
use Rattle.std.specs.Fmt.{digits}
use Rattle.hol_spec.specs.declared.Version.TheVariants.{Five}
use Rattle.hol_spec.specs.Sequents.{Sequent}
use Rattle.hol_spec.specs.TypeDefinitions.{first_law_free, second_law_free}
use Rattle.hol_spec.specs.Taking.{Takes}
use Rattle.hol_spec.specs.Rules.{Rule, Parameters}
use Rattle.hol_spec.specs.Proofs.{Made, IsProof, Each, IsOfDefinition, Accepted}
use Rattle.hol_spec.specs.declared.StepKind.TheVariants.{FirstLaw, SecondLaw}
use Rattle.translate_spec.specs.Image.{image}
use Rattle.lp_spec.specs.Numerals.{numeral}
use Rattle.spec_examples.proofs.SmallRuns.{infers, assumes, exports, own_lines, next, assumed, exported, alone}
use Rattle.spec_examples.proofs.TypeDefinition.{names, functions, holds, one_holds, defines, is_a_definition}

abbrev first : Sequent
first = first_law_free names functions

abbrev second : Sequent
second = second_law_free names functions holds

abbrev run : Accepted
run = record {
  made = assumes one_holds ∷ defines ∷ infers FirstLaw (0 ∷ []) (Parameters.type_operator names Five) first ∷ infers SecondLaw (0 ∷ [])
      (Parameters.type_operator names Five) second ∷ exports 1 first ∷ exports 2 second ∷ [];
  assumptions = 0 ∷ [];
  exports = 3 ∷ 4 ∷ [];
}

its_count : (length (image run) ≡ 10) × (length (filter (λ d. is_none d.body) (image run)) ≡ 1)
unfolding numeral
its_count = (refl, refl)

its_lines : own_lines run
    ≡ codes "A0 : v0 : type -> v1 : type -> v2 : term (arr v0 v1) -> proof ((v3 : term (arr v0 v1) => eq (arr v0 v1) v3 v3) v2)"
    ∷ codes
    "o_two : v0 : type -> v1 : type -> type := v0 : type => v1 : type => sub (arr v1 v0) (v2 : term (arr v1 v0) => eq (arr v1 v0) v2 v2) (select (arr v1 v0) (v2 : term (arr v1 v0) => eq (arr v1 v0) v2 v2)) (A0 v1 v0 (select (arr v1 v0) (v2 : term (arr v1 v0) => eq (arr v1 v0) v2 v2)))"
    ∷ codes
    "c_mk : v0 : type -> v1 : type -> term (arr (arr v0 v1) (o_two v1 v0)) := v0 : type => v1 : type => sub_abs (arr v0 v1) (v2 : term (arr v0 v1) => eq (arr v0 v1) v2 v2) (select (arr v0 v1) (v2 : term (arr v0 v1) => eq (arr v0 v1) v2 v2)) (A0 v0 v1 (select (arr v0 v1) (v2 : term (arr v0 v1) => eq (arr v0 v1) v2 v2)))"
    ∷ codes
    "c_dest : v0 : type -> v1 : type -> term (arr (o_two v0 v1) (arr v1 v0)) := v0 : type => v1 : type => sub_rep (arr v1 v0) (v2 : term (arr v1 v0) => eq (arr v1 v0) v2 v2) (select (arr v1 v0) (v2 : term (arr v1 v0) => eq (arr v1 v0) v2 v2)) (A0 v1 v0 (select (arr v1 v0) (v2 : term (arr v1 v0) => eq (arr v1 v0) v2 v2)))"
    ∷ codes
    "L1 : v0 : type -> v1 : type -> v2 : term (o_two v0 v1) -> proof (eq (o_two v0 v1) (c_mk v1 v0 (c_dest v0 v1 v2)) v2) := v0 : type => v1 : type => v2 : term (o_two v0 v1) => sub_abs_rep (arr v1 v0) (v3 : term (arr v1 v0) => eq (arr v1 v0) v3 v3) (select (arr v1 v0) (v3 : term (arr v1 v0) => eq (arr v1 v0) v3 v3)) (A0 v1 v0 (select (arr v1 v0) (v3 : term (arr v1 v0) => eq (arr v1 v0) v3 v3))) v2"
    ∷ codes
    "L2 : v0 : type -> v1 : type -> v2 : term (arr v0 v1) -> proof (eq bool ((v3 : term (arr v0 v1) => eq (arr v0 v1) v3 v3) v2) (eq (arr v0 v1) (c_dest v1 v0 (c_mk v0 v1 v2)) v2)) := v0 : type => v1 : type => v2 : term (arr v0 v1) => sym bool (eq (arr v0 v1) (c_dest v1 v0 (c_mk v0 v1 v2)) v2) ((v3 : term (arr v0 v1) => eq (arr v0 v1) v3 v3) v2) (sub_rep_abs (arr v0 v1) (v3 : term (arr v0 v1) => eq (arr v0 v1) v3 v3) (select (arr v0 v1) (v3 : term (arr v0 v1) => eq (arr v0 v1) v3 v3)) (A0 v0 v1 (select (arr v0 v1) (v3 : term (arr v0 v1) => eq (arr v0 v1) v3 v3))) v2)"
    ∷ codes
    "E0 : v0 : type -> v1 : type -> v2 : term (o_two v0 v1) -> proof (eq (o_two v0 v1) (c_mk v1 v0 (c_dest v0 v1 v2)) v2) := v0 : type => v1 : type => v2 : term (o_two v0 v1) => L1 v0 v1 v2"
    ∷ codes
    "E1 : v0 : type -> v1 : type -> v2 : term (arr v0 v1) -> proof (eq bool ((v3 : term (arr v0 v1) => eq (arr v0 v1) v3 v3) v2) (eq (arr v0 v1) (c_dest v1 v0 (c_mk v0 v1 v2)) v2)) := v0 : type => v1 : type => v2 : term (arr v0 v1) => L2 v0 v1 v2" ∷ []
unfolding digits numeral
its_lines = refl

is_a_proof : IsProof run.made
is_a_proof =
    let one = next (assumes one_holds) Each.empty (assumed _ one_holds (alone _ refl)) in
    let two = next defines one
    (record {
      one = one_holds;
      at = refl;
      defines = is_a_definition;
      taken =
          Takes.type_operator (record { operator = refl; abstraction = refl; representation = refl; apart = refl }) refl refl refl;
    }) in
    let of_it : IsOfDefinition (assumes one_holds ∷ defines ∷ []) names (0 ∷ []) =
    record { c = functions; f = holds; number = 0; among = (1, (omega arith, refl)); is = refl } in
    let three = next (infers FirstLaw (0 ∷ []) (Parameters.type_operator names Five) first) two
    (record {
      premises = one_holds ∷ [];
      earlier = (refl, tt);
      follows =
          record { rule = Rule.first_law_free is_a_definition refl; defined = ((0, (omega arith, refl)), tt) };
      law = of_it;
    }) in
    let four = next (infers SecondLaw (0 ∷ []) (Parameters.type_operator names Five) second) three
    (record {
      premises = one_holds ∷ [];
      earlier = (refl, tt);
      follows =
          record { rule = Rule.second_law_free is_a_definition refl; defined = ((0, (omega arith, refl)), tt) };
      law =
          record { c = functions; f = holds; number = 0; among = (1, (omega arith, refl)); is = refl };
    }) in
    let five = next (exports 1 first) four (exported _ 1 first refl (alone _ refl) refl) in
    next (exports 2 second) five (exported _ 2 second refl (alone _ refl) refl)
