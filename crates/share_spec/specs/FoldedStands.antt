-- What a folded module says for its run: what the module says, with its abbreviations as further definitions.
use Rattle.std.specs.Prelude.{ℕ, ◌≡◌, ◌⊎◌, List, [], ◌++◌, slice_get, take, Some, None, codes}
use Rattle.std.specs.List.{filter}
use Rattle.hol_spec.specs.Proofs.{Accepted}
use Rattle.lp_spec.specs.declared.form.Form.TheVariants.{Thm, Def}
use Rattle.lp_spec.specs.Trees.{Tree}
use Rattle.lp_spec.specs.Modules.{Declaration, types, term_of}
use Rattle.lp_spec.specs.ModuleOrder.{IsModule}
use Rattle.lp_spec.specs.Numerals.{numeral}
use Rattle.lp_spec.specs.Typing.{WellTyped}
use Rattle.lp_spec.specs.Shaped.{IsSimple, IsTerm}
use Rattle.translate_spec.specs.Stands.{IsUnproved, IsDefined, IsTheoremName, AreExports, is_export_name}

-- a tree is a simple type, and the other is `type`; or it is a term of a simple type, and the other is `term` of that
pub data IsAbbreviated (m : List Declaration) (t : Tree) : Tree → Type 0 where
  of_type : IsSimple m [] t → IsAbbreviated m t types
  of_term : {a : Tree} → IsTerm m [] t a → IsAbbreviated m t (term_of a)

-- a declaration after these is an abbreviation: `X` and a number, with a closed simple type or a term of one for its body
pub record IsAbbreviation (m : List Declaration) (d : Declaration) : Type 0 where
  pub number : ℕ
  pub body : Tree
  pub ty : Tree
  pub abbreviates : IsAbbreviated m body ty
  pub is : d ≡ record { name = codes "X" ++ numeral number; form = Def; ty = ty; body = Some body }

pub record FoldedStands (m : List Declaration) (run : Accepted) : Type 0 where
  pub is_module : IsModule m
  pub typed : WellTyped m
  pub unproved : (i : ℕ) (d : Declaration) → slice_get m i ≡ Some d → d.body ≡ None → IsUnproved m run i d
  pub definitions : (i : ℕ) (d : Declaration) → slice_get m i ≡ Some d → d.form ≡ Def → IsDefined m run d ⊎ IsAbbreviation (take i m) d
  pub theorems : (i : ℕ) (d : Declaration) → slice_get m i ≡ Some d → d.form ≡ Thm → IsTheoremName d.name
  pub exports : AreExports m run 0 run.exports (filter (λ d. is_export_name d.name) m)
