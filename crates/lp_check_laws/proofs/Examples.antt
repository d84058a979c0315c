-- Worked examples: the answers and prices of single declarations, by derivation.
use Rattle.std.proofs.Common.{refl, [], ◌∷◌, Some, codes}
use Rattle.lp_spec.specs.declared.form.Form.TheVariants.{Def}
use Rattle.lp_spec.specs.Modules.{Declaration, symbol, types, bools, term_of, proof_of}
use Rattle.lp_spec.specs.Check.{Found, No, said, refused, asked, Check}

-- x : type.
a_type : Check (symbol (codes "x") types ∷ []) 0 (Found types) 1
a_type = record { declaration = symbol (codes "x") types; at = refl; ends = asked said said }

-- x : term bool.
a_term : Check (symbol (codes "x") (term_of bools) ∷ []) 0 (Found (term_of bools)) 4
a_term = record { declaration = symbol (codes "x") (term_of bools); at = refl; ends = asked (asked said (asked said (asked said said))) said }

-- def y : type := bool.
abbrev y : Declaration
y = record { name = codes "y"; form = Def; ty = types; body = Some bools }

a_definition : Check (y ∷ []) 0 (Found types) 3
a_definition = record { declaration = y; at = refl; ends = asked said (asked said (asked said said)) }

-- x : proof bool: `bool` has the type `type` where `term bool` is expected, which meets it after a recheck of five steps and one turn
an_ill_typed : Check (symbol (codes "x") (proof_of bools) ∷ []) 0 No 9
an_ill_typed = record {
  declaration = symbol (codes "x") (proof_of bools);
  at = refl;
  ends =
      refused (asked said (asked said (refused (asked (asked said (asked said (asked said said))) (refused said)))));
}
