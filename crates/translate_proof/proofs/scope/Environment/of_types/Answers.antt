use Rattle.std.proofs.Common.{◌≡◌, ◌+◌, length, subst, arith}
use Rattle.lp_term.specs.TableLaws.{Keeps-refl}
use Rattle.translate_term.specs.GrowLaws.{Grows-table}
use Rattle.translate_proof.specs.Binding.{PlacesTypes}
use Rattle.translate_proof.proofs.StandLaws.{stands-placed}
use Rattle.translate_proof.proofs.scope.Environment.of_types.Goals as goal

pub returns-in_err-place_types-clause-grows : goal.returns-in_err-place_types-clause-grows
returns-in_err-place_types-clause-grows c = Grows-table _ _ c.place_types.ensures.keeps

pub returns-clause-made : goal.returns-clause-made
returns-clause-made c = λ given trees is.
    let names = c.args.names.now in
    let count : c.args.inside + length names ≡ c.args.inside + 0 + 0 + length names = omega arith in
    let types = subst (λ n. PlacesTypes c.args.target.now.table c.place_types.new.table c.new-made.result.scope.types names n c.place_types.new.types) count
    c.in_ok-place_types.ensures.types in
    stands-placed given trees c.args.target.now _ _ _ c.new-made.result _ names _ _ c.args.inside is c.new-made.ensures.nothing types
    (λ trees other scope one have h. h) (Keeps-refl _) (λ trees other scope one have h. h) (Keeps-refl _) (Grows-table _ _ c.place_types.ensures.keeps)

pub returns-clause-grows : goal.returns-clause-grows
returns-clause-grows c = Grows-table _ _ c.place_types.ensures.keeps
