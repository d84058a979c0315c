-- A type definition: of |- (\r. r = r) g, for r and g of a -> b, the type two over b and a, its constants mk and dest, and its first law
-- with its proof.
use Rattle.hol_spec.specs.declared.Version.TheVariants.{Six}
use Rattle.std.proofs.Common.{◌≡◌, ℕ, [], ◌∷◌, ◌++◌, length, refl, arith, codes}
use Rattle.std.specs.Prelude.{is_none}
use Rattle.std.specs.List.{filter}
use Rattle.std.specs.Fmt.{digits}
use Rattle.hol_spec.specs.Types.{HolType, variable}
use Rattle.hol_spec.specs.Primitives.{function}
use Rattle.hol_spec.specs.Terms.{Term, free, bound, app, lam, equation}
use Rattle.hol_spec.specs.Sequents.{Sequent}
use Rattle.hol_spec.specs.Definitions.{TypeNames}
use Rattle.hol_spec.specs.TypeDefinitions.{IsTypeDefinition, first_law, second_law}
use Rattle.hol_spec.specs.Taking.{Takes}
use Rattle.hol_spec.specs.Rules.{Rule, Parameters, derived}
use Rattle.hol_spec.specs.Proofs.{Made, IsProof, Each, IsOfDefinition, Accepted}
use Rattle.hol_spec.specs.declared.StepKind.TheVariants.{FirstLaw, SecondLaw}
use Rattle.lp_spec.specs.Trees.{Tree, Var, Sym, App, Lam, Pi, lift}
use Rattle.lp_spec.specs.Modules.{symbol, applied, types, term_of, arr_of, eq_of, proof_of, select_symbol, fun_ext_symbol, sub_symbol, sub_abs_symbol, sub_rep_symbol, sub_abs_rep_symbol}
use Rattle.lp_spec.specs.Lemmas.{lemmas}
use Rattle.translate_spec.specs.Image.{image}
use Rattle.lp_spec.specs.Numerals.{numeral}
use Rattle.spec_examples.proofs.SmallRuns.{name, infers, assumes, exports, theorem, definition, own_lines, next, assumed, exported, alone}

abbrev pub names : TypeNames
names = record {
  operator = name (codes "two");
  abstraction = name (codes "mk");
  representation = name (codes "dest");
  variables =
      name (codes "b") ∷ name (codes "a") ∷ [];
}

abbrev pub functions : HolType
functions = function (variable (name (codes "a"))) (variable (name (codes "b")))

-- \r. r = r
abbrev pub holds : Term
holds = lam functions (equation functions (bound 0) (bound 0))

abbrev pub one_holds : Sequent
one_holds = derived [] (app holds (free (name (codes "g")) functions))

abbrev first : Sequent
first = first_law names functions

abbrev second : Sequent
second = second_law names functions holds

abbrev pub defines : Made
defines = Made.type_definition names functions holds 0

abbrev run : Accepted
run = record {
  made = assumes one_holds ∷ defines ∷ infers FirstLaw (0 ∷ []) (Parameters.type_operator names Six) first ∷ infers SecondLaw (0 ∷ [])
      (Parameters.type_operator names Six) second ∷ exports 1 first ∷ [];
  assumptions = 0 ∷ [];
  exports = 3 ∷ [];
}

-- `o_two` of two types, `c_mk` at the types a and b, and `c_dest` at b and a
abbrev two_of : Tree → Tree → Tree
two_of b a = applied (Sym 21) (b ∷ a ∷ [])

abbrev mk_at : Tree → Tree → Tree
mk_at a b = applied (Sym 22) (a ∷ b ∷ [])

abbrev dest_at : Tree → Tree → Tree
dest_at b a = applied (Sym 23) (b ∷ a ∷ [])

-- under the binders of b and a: `mk (dest x) = x`, of functions of x
abbrev first_type : Tree
first_type =
    Pi types (Pi types (proof_of (eq_of (arr_of (two_of (Var 1) (Var 0)) (two_of (Var 1) (Var 0)))
    (Lam (term_of (two_of (Var 1) (Var 0))) (App (mk_at (Var 1) (Var 2)) (App (dest_at (Var 2) (Var 1)) (Var 0))))
    (Lam (term_of (two_of (Var 1) (Var 0))) (Var 0)))))

-- the predicate and the term in which it holds, of functions from a to b: F and S
abbrev predicate_at : Tree → Tree → Tree
predicate_at a b = Lam (term_of (arr_of a b)) (eq_of (arr_of (lift 1 a) (lift 1 b)) (Var 0) (Var 0))

abbrev some_at : Tree → Tree → Tree
some_at a b = applied (Sym select_symbol) (arr_of a b ∷ predicate_at a b ∷ [])

-- C, F, S and `A0 a b S`
abbrev part_at : ℕ → Tree → Tree → Tree
part_at s a b = applied (Sym s) (arr_of a b ∷ predicate_at a b ∷ some_at a b ∷ applied (Sym 20) (a ∷ b ∷ some_at a b ∷ []) ∷ [])

-- fun_ext at the new type, by sub_abs_rep
abbrev first_body : Tree
first_body =
    Lam types (Lam types (applied (Sym fun_ext_symbol)
    (two_of (Var 1) (Var 0) ∷ two_of (Var 1) (Var 0) ∷ Lam (term_of (two_of (Var 1) (Var 0)))
    (App (mk_at (Var 1) (Var 2)) (App (dest_at (Var 2) (Var 1)) (Var 0)))
    ∷ Lam (term_of (two_of (Var 1) (Var 0))) (Var 0) ∷ Lam (term_of (two_of (Var 1) (Var 0))) (App (part_at sub_abs_rep_symbol (Var 1) (Var 2)) (Var 0)) ∷ [])))

-- the assumption is the premise of the definition
its_module : image run ≡ lemmas
    ++ symbol (codes "A0") (Pi types (Pi types (Pi (term_of (arr_of (Var 1) (Var 0))) (proof_of (App (predicate_at (Var 2) (Var 1)) (Var 0))))))
    ∷ definition (codes "o_two") (Pi types (Pi types types)) (Lam types (Lam types (part_at sub_symbol (Var 0) (Var 1))))
    ∷ definition (codes "c_mk") (Pi types (Pi types (term_of (arr_of (arr_of (Var 1) (Var 0)) (two_of (Var 0) (Var 1))))))
    (Lam types (Lam types (part_at sub_abs_symbol (Var 1) (Var 0))))
    ∷ definition (codes "c_dest") (Pi types (Pi types (term_of (arr_of (two_of (Var 1) (Var 0)) (arr_of (Var 0) (Var 1))))))
    (Lam types (Lam types (part_at sub_rep_symbol (Var 0) (Var 1))))
    ∷ theorem (codes "L1") first_type first_body
    ∷ theorem (codes "E0") first_type (Lam types (Lam types (applied (Sym 24) (Var 1 ∷ Var 0 ∷ [])))) ∷ []
unfolding numeral
its_module = refl

-- accepted 8, unproved 1
its_count : (length (image run) ≡ 8) × (length (filter (λ d. is_none d.body) (image run)) ≡ 1)
unfolding numeral
its_count = (refl, refl)

its_lines : own_lines run
    ≡ codes "A0 : v0 : type -> v1 : type -> v2 : term (arr v0 v1) -> proof ((v3 : term (arr v0 v1) => eq (arr v0 v1) v3 v3) v2)"
    ∷ codes
    "o_two : v0 : type -> v1 : type -> type := v0 : type => v1 : type => sub (arr v1 v0) (v2 : term (arr v1 v0) => eq (arr v1 v0) v2 v2) (select (arr v1 v0) (v2 : term (arr v1 v0) => eq (arr v1 v0) v2 v2)) (A0 v1 v0 (select (arr v1 v0) (v2 : term (arr v1 v0) => eq (arr v1 v0) v2 v2)))"
    ∷ codes
    "c_mk : v0 : type -> v1 : type -> term (arr (arr v0 v1) (o_two v1 v0)) := v0 : type => v1 : type => sub_abs (arr v0 v1) (v2 : term (arr v0 v1) => eq (arr v0 v1) v2 v2) (select (arr v0 v1) (v2 : term (arr v0 v1) => eq (arr v0 v1) v2 v2)) (A0 v0 v1 (select (arr v0 v1) (v2 : term (arr v0 v1) => eq (arr v0 v1) v2 v2)))"
    ∷ codes
    "c_dest : v0 : type -> v1 : type -> term (arr (o_two v0 v1) (arr v1 v0)) := v0 : type => v1 : type => sub_rep (arr v1 v0) (v2 : term (arr v1 v0) => eq (arr v1 v0) v2 v2) (select (arr v1 v0) (v2 : term (arr v1 v0) => eq (arr v1 v0) v2 v2)) (A0 v1 v0 (select (arr v1 v0) (v2 : term (arr v1 v0) => eq (arr v1 v0) v2 v2)))"
    ∷ codes
    "L1 : v0 : type -> v1 : type -> proof (eq (arr (o_two v0 v1) (o_two v0 v1)) (v2 : term (o_two v0 v1) => c_mk v1 v0 (c_dest v0 v1 v2)) (v2 : term (o_two v0 v1) => v2)) := v0 : type => v1 : type => fun_ext (o_two v0 v1) (o_two v0 v1) (v2 : term (o_two v0 v1) => c_mk v1 v0 (c_dest v0 v1 v2)) (v2 : term (o_two v0 v1) => v2) (v2 : term (o_two v0 v1) => sub_abs_rep (arr v1 v0) (v3 : term (arr v1 v0) => eq (arr v1 v0) v3 v3) (select (arr v1 v0) (v3 : term (arr v1 v0) => eq (arr v1 v0) v3 v3)) (A0 v1 v0 (select (arr v1 v0) (v3 : term (arr v1 v0) => eq (arr v1 v0) v3 v3))) v2)"
    ∷ codes
    "E0 : v0 : type -> v1 : type -> proof (eq (arr (o_two v0 v1) (o_two v0 v1)) (v2 : term (o_two v0 v1) => c_mk v1 v0 (c_dest v0 v1 v2)) (v2 : term (o_two v0 v1) => v2)) := v0 : type => v1 : type => L1 v0 v1" ∷ []
unfolding digits numeral
its_lines = refl

pub is_a_definition : IsTypeDefinition names functions holds one_holds
is_a_definition = record { witness = free (name (codes "g")) functions; no_hypotheses = refl; holds = refl; typed = refl; closed = refl; variables = refl }

is_a_proof : IsProof run.made
is_a_proof =
    let one = next (assumes one_holds) Each.empty (assumed _ one_holds (alone _ refl)) in
    let two = next defines one
    (record {
      one = one_holds;
      at = refl;
      defines = is_a_definition;
      taken =
          Takes.type_operator (record { operator = refl; abstraction = refl; representation = refl; apart = refl }) refl refl refl;
    }) in
    let of_it : IsOfDefinition (assumes one_holds ∷ defines ∷ []) names (0 ∷ []) =
    record { c = functions; f = holds; number = 0; among = (1, (omega arith, refl)); is = refl } in
    let three = next (infers FirstLaw (0 ∷ []) (Parameters.type_operator names Six) first) two
    (record {
      premises = one_holds ∷ [];
      earlier = (refl, tt);
      follows =
          record { rule = Rule.first_law is_a_definition refl; defined = ((0, (omega arith, refl)), tt) };
      law = of_it;
    }) in
    let four = next (infers SecondLaw (0 ∷ []) (Parameters.type_operator names Six) second) three
    (record {
      premises = one_holds ∷ [];
      earlier = (refl, tt);
      follows =
          record { rule = Rule.second_law is_a_definition refl; defined = ((0, (omega arith, refl)), tt) };
      law =
          record { c = functions; f = holds; number = 0; among = (1, (omega arith, refl)); is = refl };
    }) in
    next (exports 1 first) four (exported _ 1 first refl (alone _ refl) refl)
