use Rattle.std.proofs.Common.{ℕ, ◌∷◌, [], Some, None, sym, ap, subst, ◌∙◌}
use Rattle.std.specs.Option.{option_map}
use Rattle.hol_spec.specs.ClosedForm.{ClosedType}
use Rattle.lp_spec.specs.Modules.{symbol_type}
use Rattle.lp_term.specs.Tables.{tree_at}
use Rattle.holide_sig.specs.Modules.{declarations_of}
use Rattle.decode_spec.specs.Decode.{constant_with, generic_of}
use Rattle.decode_back.specs.Walks.{IsGenericFound}
use Rattle.decode_back.proofs.ConstantLemmas.{named-none}
use Rattle.decode_back.proofs.constants.primitive.Goals as goal

pub returns-in_default-clause-keeps : goal.returns-in_default-clause-keeps
returns-in_default-clause-keeps c = c.generic_of.ensures.keeps

pub returns-clause-keeps : goal.returns-clause-keeps
returns-clause-keeps c = c.generic_of.ensures.keeps

pub returns-in_default-clause-found : goal.returns-in_default-clause-found
returns-in_default-clause-found c =
    let found : IsGenericFound c.args.limit (generic_of (declarations_of c.args.source.now) (symbol_type (declarations_of c.args.source.now) c.args.symbol))
    c.generic_of.new.table None =
    subst (λ o. IsGenericFound c.args.limit (generic_of (declarations_of c.args.source.now) o) c.generic_of.new.table None) (sym c.symbol_type.ensures.is)
    (subst (IsGenericFound c.args.limit (generic_of (declarations_of c.args.source.now) (Some (tree_at c.args.source.now.table c.symbol_type.result.0)))
    c.generic_of.new.table) c.in_default.is c.in_ok-variables.ensures.found) in
    named-none (c.args.text.now ∷ []) c.args.limit _ c.generic_of.new.table found

pub returns-clause-found : goal.returns-clause-found
returns-clause-found c =
    let found : IsGenericFound c.args.limit (generic_of (declarations_of c.args.source.now) (symbol_type (declarations_of c.args.source.now) c.args.symbol))
    c.generic_of.new.table (Some (c.in-Some.variables, c.in-Some.generic)) =
    subst (λ o. IsGenericFound c.args.limit (generic_of (declarations_of c.args.source.now) o) c.generic_of.new.table
    (Some (c.in-Some.variables, c.in-Some.generic))) (sym c.symbol_type.ensures.is)
    (subst (IsGenericFound c.args.limit (generic_of (declarations_of c.args.source.now) (Some (tree_at c.args.source.now.table c.symbol_type.result.0)))
    c.generic_of.new.table) c.in-Some.is c.in_ok-variables.ensures.found) in (
      found.0,
      ap (option_map (λ (g : ℕ × ClosedType). constant_with (c.args.text.now ∷ []) g.0 g.1)) found.1
          ∙ ap (λ n. Some (constant_with n c.in-Some.variables found.0)) (sym c.in-Ok.ensures.name),
      found.2,
    )
