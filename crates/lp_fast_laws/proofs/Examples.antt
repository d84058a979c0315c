-- Worked examples: the answers and prices of single declarations without rechecks, by derivation.
use Rattle.std.proofs.Common.{refl, [], ◌∷◌, Some, codes}
use Rattle.lp_spec.specs.declared.form.Form.TheVariants.{Def}
use Rattle.lp_spec.specs.Modules.{Declaration, symbol, types, bools, term_of, proof_of}
use Rattle.lp_spec.specs.Check.{Found, No, said, refused, asked}
use Rattle.lp_spec.specs.FastCheck.{FastCheck}

-- x : type.
a_type : FastCheck (symbol (codes "x") types ∷ []) 0 (Found types) 1
a_type = record { declaration = symbol (codes "x") types; at = refl; ends = asked said said }

-- x : term bool.
a_term : FastCheck (symbol (codes "x") (term_of bools) ∷ []) 0 (Found (term_of bools)) 4
a_term = record { declaration = symbol (codes "x") (term_of bools); at = refl; ends = asked (asked said (asked said (asked said said))) said }

-- def y : type := bool.
abbrev y : Declaration
y = record { name = codes "y"; form = Def; ty = types; body = Some bools }

a_definition : FastCheck (y ∷ []) 0 (Found types) 3
a_definition = record { declaration = y; at = refl; ends = asked said (asked said (asked said said)) }

-- x : proof bool: `bool` has the type `type` where `term bool` is expected, which costs no recheck of `term bool` here, and so 5 and not 9
an_ill_typed : FastCheck (symbol (codes "x") (proof_of bools) ∷ []) 0 No 5
an_ill_typed = record { declaration = symbol (codes "x") (proof_of bools); at = refl; ends = refused (asked said (asked said (refused (refused said)))) }
