use Rattle.std.proofs.Common.{◌≡◌, ℕ, Option, Some, None, sym, ap, subst, ◌∙◌}
use Rattle.std.specs.Option.{option_map}
use Rattle.hol_spec.specs.ClosedForm.{ClosedType}
use Rattle.hol_term.specs.TableLaws.{Keeps-refl}
use Rattle.lp_spec.specs.Modules.{symbol_type}
use Rattle.lp_term.specs.Tables.{tree_at}
use Rattle.holide_sig.specs.Modules.{declarations_of}
use Rattle.decode_spec.specs.Decode.{Constant, constant_with, generic_of}
use Rattle.decode_back.specs.Walks.{IsConstantFound, IsGenericFound}
use Rattle.decode_back.proofs.ConstantLemmas.{named-none, defined-constant}
use Rattle.decode_back.proofs.constants.defined.Goals as goal

pub returns-in_err-name-clause-keeps : goal.returns-in_err-name-clause-keeps
returns-in_err-name-clause-keeps c = Keeps-refl c.args.table.now

pub returns-in_default-clause-keeps : goal.returns-in_default-clause-keeps
returns-in_default-clause-keeps c = Keeps-refl c.args.table.now

pub returns-in_default-2-clause-keeps : goal.returns-in_default-2-clause-keeps
returns-in_default-2-clause-keeps c = c.generic_of.ensures.keeps

pub returns-clause-keeps : goal.returns-clause-keeps
returns-clause-keeps c = c.generic_of.ensures.keeps

pub returns-in_default-clause-found : goal.returns-in_default-clause-found
returns-in_default-clause-found c k e a b =
    let none : ◌≡◌ {A = Option Constant} None (Some k) =
    sym (defined-constant (declarations_of c.args.source.now) c.args.symbol None (sym c.in_default.is ∙ c.in_ok-name.ensures)) ∙ e in absurd (cc)

pub returns-in_default-2-clause-found : goal.returns-in_default-2-clause-found
returns-in_default-2-clause-found c =
    let found : IsGenericFound c.args.limit (generic_of (declarations_of c.args.source.now) (symbol_type (declarations_of c.args.source.now) c.args.symbol))
    c.generic_of.new.table None =
    subst (λ o. IsGenericFound c.args.limit (generic_of (declarations_of c.args.source.now) o) c.generic_of.new.table None) (sym c.symbol_type.ensures.is)
    (subst (IsGenericFound c.args.limit (generic_of (declarations_of c.args.source.now) (Some (tree_at c.args.source.now.table c.symbol_type.result.0)))
    c.generic_of.new.table) c.in_default-2.is c.in_ok-variables.ensures.found) in
    subst (λ o. IsConstantFound c.args.limit o c.generic_of.new.table None)
    (sym (defined-constant (declarations_of c.args.source.now) c.args.symbol (Some c.in-Some.name) (sym c.in-Some.is ∙ c.in_ok-name.ensures)))
    (named-none c.in-Some.name c.args.limit _ c.generic_of.new.table found)

pub returns-clause-found : goal.returns-clause-found
returns-clause-found c =
    let found : IsGenericFound c.args.limit (generic_of (declarations_of c.args.source.now) (symbol_type (declarations_of c.args.source.now) c.args.symbol))
    c.generic_of.new.table (Some (c.in-Some-2.variables, c.in-Some-2.generic)) =
    subst (λ o. IsGenericFound c.args.limit (generic_of (declarations_of c.args.source.now) o) c.generic_of.new.table
    (Some (c.in-Some-2.variables, c.in-Some-2.generic))) (sym c.symbol_type.ensures.is)
    (subst (IsGenericFound c.args.limit (generic_of (declarations_of c.args.source.now) (Some (tree_at c.args.source.now.table c.symbol_type.result.0)))
    c.generic_of.new.table) c.in-Some-2.is c.in_ok-variables.ensures.found) in (
      found.0,
      (defined-constant (declarations_of c.args.source.now) c.args.symbol (Some c.in-Some.name) (sym c.in-Some.is ∙ c.in_ok-name.ensures))
          ∙ ap (option_map (λ (g : ℕ × ClosedType). constant_with c.in-Some.name g.0 g.1)) found.1,
      found.2,
    )
